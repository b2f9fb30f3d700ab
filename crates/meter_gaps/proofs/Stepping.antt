-- An hour more: of a sum, and of the run that an hour stands in.
-- Assumes nothing.
use Rattle.std.specs.Prelude.{Option, Some, None, List}
use Rattle.std.specs.List.{slice_range}
use Prim.Native.Nat.{ℕ, zero, suc, ◌+◌, ◌-◌, ◌≤◌, ◌<◌}
use mathlib.Core.Path.{◌≡◌, refl, subst}
use mathlib.Core.Bool.{Bool, true, false, cond}
use native.Mathlib.Numerals.{add-one}
use native.Mathlib.Omega.{arith}
use borrow.Author.Tests.{eq-eqb, ne_eqb, eqb-false}
use lib.Dec.{eqb}
use mathlib.Core.Logic.{⊎_elim}
use native.Mathlib.Nat.{eq-or-lt_of_le}
use lib.ListN.{get_or, drop}
use lib.Seq.{get_or-take, get_or-drop}
use Rattle.meter_series.specs.Series.{is_recorded, series}
use Rattle.meter_gaps.specs.Filling.{start_of, plus, total_of}

module _ (s : ℕ → Option ℕ) (a : ℕ) where
  pub total_more : (k t v : ℕ) → total_of s a k ≡ Some t → s (a + k) ≡ Some v → total_of s a (k + 1) ≡ Some (t + v)
  unfolding total_of
  total_more k t v p q = rw (add-one k, p, q)

  -- an hour that is missing leaves no sum
  pub total_none : (k n : ℕ) → k < n → s (a + k) ≡ None → total_of s a n ≡ None
  unfolding total_of
  total_none k zero b e = absurd (omega arith)
  total_none k (suc n) b e = ⊎_elim (λ q. subst (λ (j : ℕ). plus (total_of s a j) (s (a + j)) ≡ None) q (rw e (plus_none (total_of s a k)))) (λ l. rw (total_none k n l e)) (eq-or-lt_of_le {n = k} {m = n} (omega arith))
    where
      plus_none : (t : Option ℕ) → plus t None ≡ None
      plus_none None = refl
      plus_none (Some t) = refl

-- the hour at k of the window of n hours from a on
pub window_hour : (hours : List (Option ℕ)) (a n k : ℕ) → k < n → get_or (slice_range hours a (a + n)) k None ≡ series hours (a + k)
window_hour hours a n k b = let e : a + n - a ≡ n = omega arith in rw (e, get_or-take n (drop a hours) k None b, get_or-drop a hours k None)

pub start_le : (s : ℕ → Option ℕ) (h : ℕ) → start_of s h ≤ h
unfolding start_of
start_le s zero = omega arith
start_le s (suc h) = picked_le (is_recorded (s h)) (omega arith) (let l = start_le s h in omega arith)
  where
    picked_le : (b : Bool) {x y u : ℕ} → x ≤ u → y ≤ u → cond b x y ≤ u
    picked_le true p q = p
    picked_le false p q = q

-- a run starts at the first hour, and after an hour that is recorded
pub start_first : (s : ℕ → Option ℕ) (h : ℕ) → h ≡ 0 → true ≡ eqb (start_of s h) h
unfolding start_of
start_first s h e = rw e

pub start_test : (s : ℕ → Option ℕ) (h : ℕ) → (h ≡ 0 → ⊥) → eqb (start_of s h) h ≡ is_recorded (s (h - 1))
unfolding start_of
start_test s zero n = absurd (n refl)
start_test s (suc h) n = let e : suc h - 1 ≡ h = omega arith in rw e (picked (is_recorded (s h)))
  where
    picked : (b : Bool) → eqb (cond b (suc h) (start_of s h)) (suc h) ≡ b
    picked true = eq-eqb (suc h) (suc h) refl
    picked false = ne_eqb (start_of s h) (suc h) (λ z. omega (arith, start_le s h))

module _ (s : ℕ → Option ℕ) (h : ℕ) where
  pub start_earlier : eqb (start_of s h) h ≡ false → start_of s h < h
  start_earlier e = lt_of_ne (start_of s h) h (start_le s h) (eqb-false (start_of s h) h e)
    where
      lt_of_ne : (a b : ℕ) → a ≤ b → (a ≡ b → ⊥) → a < b
      lt_of_ne a b l n = omega arith

  -- after a recorded hour a run begins anew, and after a missing one it goes on
  start_anew : is_recorded (s h) ≡ true → h + 1 ≡ start_of s (h + 1)
  unfolding start_of
  start_anew e = rw (add-one h, e)

  start_same : is_recorded (s h) ≡ false → start_of s h ≡ start_of s (h + 1)
  unfolding start_of
  start_same e = rw (add-one h, e)

  -- what is known of the run of a missing hour is known of the next hour's, where that is the same run
  pub start_kept : (P : ℕ → Type 0) → (is_recorded (s h) ≡ false → P (start_of s h)) → start_of s (h + 1) < h + 1 → P (start_of s (h + 1))
  start_kept P known = by_test (is_recorded (s h)) refl
    where
      by_test : (b : Bool) → is_recorded (s h) ≡ b → start_of s (h + 1) < h + 1 → P (start_of s (h + 1))
      by_test true e l = absurd (omega (arith, start_anew e))
      by_test false e l = subst P (start_same e) (known e)
