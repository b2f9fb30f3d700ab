-- A missing hour of the month stands in the run from `start_of` up to `end_of`: each hour of it is missing, no hour beside it is, and no other
-- run holds that hour. So the gap that is filled is the maximal one.
-- Assumes nothing.
use Rattle.std.specs.Prelude.{Option}
use Prim.Native.Nat.{ℕ, zero, suc, ◌+◌, ◌-◌, ◌≤◌, ◌<◌}
use mathlib.Core.Path.{◌≡◌, refl, ap, sym, ◌∙◌}
use mathlib.Core.Bool.{Bool, true, false, cond, true≢false}
use mathlib.Core.Logic.{⊎_elim}
use native.Mathlib.Nat.{eq-or-lt_of_le, lt_of_not-le, le_of_suc-le-suc, le_antisymm}
use native.Mathlib.Omega.{arith}
use Rattle.laws.specs.Counting.{first_from}
use Rattle.laws.proofs.Counting.{search_between}
use Rattle.meter_series.specs.Series.{is_recorded}
use Rattle.meter_gaps.specs.Filling.{start_of, end_of}
use Rattle.meter_gaps.proofs.Stepping.{start_le}

-- the hours from a up to b of a month of n are missing, hour h is one of them, and no hour of the month beside them is missing
pub record Run (s : ℕ → Option ℕ) (n h a b : ℕ) : Type 0 where
  pub from : a ≤ h
  pub below : h < b
  pub within : b ≤ n
  pub missing : (j : ℕ) → a ≤ j → j < b → is_recorded (s j) ≡ false
  pub before : (j : ℕ) → j + 1 ≡ a → is_recorded (s j) ≡ true
  pub after : b < n → is_recorded (s b) ≡ true

by_test : (t : Bool) (P : Bool → Type 0) → P true → P false → P t
by_test true P p q = p
by_test false P p q = q

up_to : (s : ℕ → Option ℕ) (h j : ℕ) → is_recorded (s h) ≡ false → (j < h → is_recorded (s j) ≡ false) → j < suc h → is_recorded (s j) ≡ false
up_to s h j e r b = ⊎_elim (λ q. ap (λ (k : ℕ). is_recorded (s k)) q ∙ e) r (eq-or-lt_of_le {n = j} {m = h} (omega arith))

start_missing : (s : ℕ → Option ℕ) (h j : ℕ) → start_of s h ≤ j → j < h → is_recorded (s j) ≡ false
unfolding start_of
start_missing s zero j a b = absurd (omega arith)
start_missing s (suc h) j a b =
    by_test (is_recorded (s h)) (λ t. is_recorded (s h) ≡ t → cond t (suc h) (start_of s h) ≤ j → is_recorded (s j) ≡ false)
    (λ e l. absurd (omega arith)) (λ e l. up_to s h j e (λ q. start_missing s h j l q) b) refl a

start_before : (s : ℕ → Option ℕ) (h j : ℕ) → j + 1 ≡ start_of s h → is_recorded (s j) ≡ true
unfolding start_of
start_before s zero j e = absurd (omega arith)
start_before s (suc h) j e =
    by_test (is_recorded (s h)) (λ t. is_recorded (s h) ≡ t → j + 1 ≡ cond t (suc h) (start_of s h) → is_recorded (s j) ≡ true)
    (λ p q. let z : j ≡ h = omega arith in ap (λ (k : ℕ). is_recorded (s k)) z ∙ p) (λ p q. start_before s h j q) refl e

module _ (p : ℕ → Bool) where
  from_on : (h j : ℕ) → p h ≡ false → h ≤ j → (h + 1 ≤ j → p j ≡ false) → p j ≡ false
  from_on h j e a r = ⊎_elim (λ q. ap p (sym q) ∙ e) (λ q. r (omega arith)) (eq-or-lt_of_le a)

  first_missing : (k h j : ℕ) → h ≤ j → j < first_from h k p → p j ≡ false
  unfolding first_from
  first_missing zero h j a b = absurd (omega arith)
  first_missing (suc k) h j a b =
      by_test (p h) (λ t. p h ≡ t → j < cond t h (first_from (h + 1) k p) → p j ≡ false)
      (λ e l. absurd (omega arith)) (λ e l. from_on h j e a (λ q. first_missing k (h + 1) j q l)) refl b

  first_after : (k h : ℕ) → first_from h k p < h + k → p (first_from h k p) ≡ true
  unfolding first_from
  first_after zero h b = absurd (omega arith)
  first_after (suc k) h b =
      by_test (p h) (λ t. p h ≡ t → cond t h (first_from (h + 1) k p) < h + suc k → p (cond t h (first_from (h + 1) k p)) ≡ true)
      (λ e l. e) (λ e l. first_after k (h + 1) (omega arith)) refl b

never : (b : Bool) → b ≡ true → b ≡ false → ⊥
never b t f = true≢false (sym t ∙ f)

module _ (s : ℕ → Option ℕ) (n h : ℕ) (inside : h < n) (gone : is_recorded (s h) ≡ false) where
  early : start_of s h ≤ n
  early = omega (arith, start_le s h)

  after_is : end_of s n (start_of s h) < n → is_recorded (s (end_of s n (start_of s h))) ≡ true
  after_is b = first_after (λ k. is_recorded (s k)) (n - start_of s h) (start_of s h) (omega (arith, early))

  -- the run reaches past h: up to h each hour is missing, and the run ends at a recorded one, or at the month's end
  reaches : h < end_of s n (start_of s h)
  reaches =
      lt_of_not-le
      (λ (l : end_of s n (start_of s h) ≤ h).
      never (is_recorded (s (end_of s n (start_of s h)))) (after_is (omega arith))
      (up_to s h (end_of s n (start_of s h)) gone
      (λ b. start_missing s h (end_of s n (start_of s h)) (search_between n (start_of s h) (λ k. is_recorded (s k)) early).0 b)
      (omega arith)))

  pub maximal : Run s n h (start_of s h) (end_of s n (start_of s h))
  maximal =
      record {
        from = start_le s h;
        below = reaches;
        within = (search_between n (start_of s h) (λ k. is_recorded (s k)) early).1;
        missing = λ j a b. first_missing (λ k. is_recorded (s k)) (n - start_of s h) (start_of s h) j a b;
        before = λ j e. start_before s h j e;
        after = after_is;
      }

at_least : (a c : ℕ) → (a < c → ⊥) → c ≤ a
at_least a c h = le_of_suc-le-suc (lt_of_not-le h)

-- two runs that hold one hour are one
module _ (s : ℕ → Option ℕ) (n h a b c d : ℕ) (one : Run s n h a b) (other : Run s n h c d) where
  no_earlier : a < c → ⊥
  no_earlier l =
      never (is_recorded (s (c - 1))) (other.before (c - 1) (omega arith))
      (one.missing (c - 1) (omega arith) (omega (arith, other.from, one.below)))

  no_later : b < d → ⊥
  no_later l =
      never (is_recorded (s b)) (one.after (omega (arith, other.within)))
      (other.missing b (omega (arith, other.from, one.below)) l)

pub only :
    (s : ℕ → Option ℕ) (n h a b c d : ℕ) → Run s n h a b → Run s n h c d → (a ≡ c) × (b ≡ d)
only s n h a b c d one other = (
  le_antisymm (at_least c a (no_earlier s n h c d a b other one)) (at_least a c (no_earlier s n h a b c d one other)),
  le_antisymm (at_least d b (no_later s n h c d a b other one)) (at_least b d (no_later s n h a b c d one other)),
)
