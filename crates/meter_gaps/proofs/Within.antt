-- What fills the gaps of a month is made of that month's hours alone: two series that agree in the month are filled alike, whatever either has past
-- its end.
-- Assumes nothing.
use Rattle.std.specs.Prelude.{Option, None}
use Prim.Native.Nat.{ℕ, zero, suc, ◌+◌, ◌-◌, ◌≤◌, ◌<◌}
use mathlib.Core.Path.{◌≡◌, refl, ap}
use mathlib.Core.Bool.{Bool, true, false, ◌&&◌, cond, true≢false}
use native.Mathlib.Omega.{arith}
use lib.Dec.{leb, ltb}
use borrow.Author.Tests.{leb-true, ltb-true}
use Rattle.laws.specs.Counting.{first_from}
use Rattle.meter_series.specs.Series.{is_recorded}
use Rattle.meter_gaps.specs.Filling.{start_of, end_of, plus, total_of, neighbours, mean_of, in_month, average_of, fill_of, fill_from, or_else, filled}
use Rattle.meter_gaps.proofs.Stepping.{start_le}

first_same : (p q : ℕ → Bool) (a k : ℕ) → ((j : ℕ) → a ≤ j → j < a + k → p j ≡ q j) → first_from a k p ≡ first_from a k q
unfolding first_from
first_same p q a zero same = refl
first_same p q a (suc k) same =
    rw (same a (omega arith) (omega arith), first_same p q (a + 1) k (λ j l b. same j (omega arith) (omega arith)))

-- two values that are alike where a test holds are alike where it decides
where_true : (b : Bool) (v w : Option ℕ) → (b ≡ true → v ≡ w) → cond b v None ≡ cond b w None
where_true true v w same = same refl
where_true false v w same = refl

both : (b c : Bool) → b && c ≡ true → (b ≡ true) × (c ≡ true)
both true c e = (refl, e)
both false c e = (e, absurd (let z : true ≡ false = cc in true≢false z))

module _ (s t : ℕ → Option ℕ) (n : ℕ) (same : (h : ℕ) → h < n → s h ≡ t h) where
  start_same : (h : ℕ) → h ≤ n → start_of s h ≡ start_of t h
  unfolding start_of
  start_same zero l = refl
  start_same (suc h) l = rw (same h (omega arith), start_same h (omega arith))

  end_same : (a : ℕ) → a ≤ n → end_of s n a ≡ end_of t n a
  end_same a l =
      first_same (λ j. is_recorded (s j)) (λ j. is_recorded (t j)) a (n - a) (λ j b c. ap is_recorded (same j (omega arith)))

  total_same : (a k : ℕ) → a + k ≤ n → total_of s a k ≡ total_of t a k
  unfolding total_of
  total_same a zero l = refl
  total_same a (suc k) l = rw (total_same a k (omega arith), same (a + k) (omega arith))

  average_same : (a b : ℕ) → a ≤ n → average_of s n a b ≡ average_of t n a b
  unfolding average_of
  average_same a b l =
      where_true (in_month n a b) (mean_of (plus (total_of s (a - neighbours) neighbours) (total_of s b neighbours)))
      (mean_of (plus (total_of t (a - neighbours) neighbours) (total_of t b neighbours)))
      (λ e.
      let early = leb-true neighbours a (both (leb neighbours a) (leb (b + neighbours) n) e).0 in
      let late = leb-true (b + neighbours) n (both (leb neighbours a) (leb (b + neighbours) n) e).1 in
      rw (total_same (a - neighbours) neighbours (omega arith), total_same b neighbours (omega arith)))

  fill_same : (a : ℕ) → a ≤ n → fill_from s n a ≡ fill_from t n a
  unfolding fill_of
  fill_same a l = rw (end_same a l, average_same a (end_of t n a) l)

  pub filled_within : (h : ℕ) → filled s n h ≡ filled t n h
  unfolding filled
  filled_within h =
      where_true (ltb h n) (or_else (s h) (fill_from s n (start_of s h))) (or_else (t h) (fill_from t n (start_of t h)))
      (λ e.
      let inside = ltb-true h n e in
      rw (same h inside, start_same h (omega arith), fill_same (start_of t h) (omega (arith, start_le t h))))
