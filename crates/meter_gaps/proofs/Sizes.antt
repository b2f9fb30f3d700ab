-- No number that filling makes is larger than the largest that was recorded: an average is at most the largest of the eight.
-- Assumes nothing.
use Rattle.std.specs.Prelude.{Option, Some, None}
use mathlib.Core.Path.{◌≡◌}
use Prim.Native.Nat.{ℕ, zero, suc, ◌+◌, ◌*◌, ◌-◌, ◌≤◌}
use mathlib.Core.Bool.{Bool, true, false, ◌&&◌, cond}
use native.Mathlib.Nat.{suc-mul}
use native.Mathlib.Omega.{arith}
use lib.Dec.{leb, ltb}
use Rattle.meter_series.specs.Series.{amount}
use Rattle.meter_gaps.specs.Filling.{start_of, end_of, plus, total_of, neighbours, mean_of, in_month, average_of, fill_of, fill_from, or_else, filled}

plus_most : (v w : Option ℕ) → amount (plus v w) ≤ amount v + amount w
plus_most (Some x) (Some y) = omega arith
plus_most (Some x) None = omega arith
plus_most None w = omega arith

mean_most : (v : Option ℕ) (m : ℕ) → amount v ≤ 8 * m → amount (mean_of v) ≤ m
mean_most (Some t) m h = omega arith
mean_most None m h = omega arith

picked_most : (b : Bool) (v : Option ℕ) (m : ℕ) → amount v ≤ m → amount (cond b v None) ≤ m
picked_most true v m h = h
picked_most false v m h = omega arith

or_most : (v w : Option ℕ) (m : ℕ) → amount v ≤ m → amount w ≤ m → amount (or_else v w) ≤ m
or_most (Some x) w m a b = a
or_most None w m a b = b

module _ (s : ℕ → Option ℕ) (m : ℕ) (small : (h : ℕ) → amount (s h) ≤ m) where
  total_most : (a k : ℕ) → amount (total_of s a k) ≤ k * m
  unfolding total_of
  total_most a zero = omega arith
  total_most a (suc k) =
      omega (arith, suc-mul k m, plus_most (total_of s a k) (s (a + k)), total_most a k, small (a + k))

  pub sum_most : (a k t : ℕ) → total_of s a k ≡ Some t → t ≤ k * m
  sum_most a k t p = rw p at (total_most a k)

  average_most : (n a b : ℕ) → amount (average_of s n a b) ≤ m
  unfolding average_of
  average_most n a b =
      let before = total_of s (a - neighbours) neighbours in
      let after = total_of s b neighbours in
      picked_most (in_month n a b) (mean_of (plus before after)) m
      (mean_most (plus before after) m
      (omega (arith, plus_most before after, total_most (a - neighbours) neighbours, total_most b neighbours)))

  pub fill_most : (n a b : ℕ) → amount (fill_of s n a b) ≤ m
  unfolding fill_of
  fill_most n a b = picked_most (leb 1 (b - a) && leb (b - a) 5) (average_of s n a b) m (average_most n a b)

  pub filled_most : (n h : ℕ) → amount (filled s n h) ≤ m
  unfolding filled
  filled_most n h =
      picked_most (ltb h n) (or_else (s h) (fill_from s n (start_of s h))) m
      (or_most (s h) (fill_from s n (start_of s h)) m (small h) (fill_most n (start_of s h) (end_of s n (start_of s h))))
