-- A number from a to b, times k and rounded down, is from k times a to k times b.
-- Assumes nothing.
use Rattle.std.proofs.Common.{◌≡◌, ℕ, Some, None, ◌*◌, ◌≤◌, Bool, true, false, cond, T, sym, ◌∙◌, subst, le_trans, le_of_eq, mul_assoc, mul_comm, mul-le-mul_left, mul-zero, le-div_iff_mul-le, zero-mul, arith}
use native.Mathlib.Nat.{div-le_of_le-mul}
use lib.Ieee.{Float, nan, inf, fin, up, down}
use lib.Ieee.Fits.{down_pos}
use Rattle.meter_reading.specs.Exact.{times_down, is_between, scaled_of}
use Rattle.meter_reading.proofs.Between.{low, high, zero_low, is_zero}

-- what the definition's parts say of its result
abbrev Within : ℕ → ℕ → ℕ → ℕ → Type 0
Within k a b n = (k * a ≤ n) × (n ≤ k * b)

times_within : (k a b : ℕ) (x : Float) → T (is_between a b x) → Within k a b (times_down k x)
unfolding is_between times_down
times_within k a b nan t = absurd t
times_within k a b (inf s) t = absurd t
times_within k a b (fin true m e) t = (
  rw (zero_low a b m e t, mul-zero k) (omega arith),
  div-le_of_le-mul (down e) (rw (is_zero a b m e t, zero-mul (up e), mul-zero k) (omega arith)),
)
times_within k a b (fin false m e) t = (
  (le-div_iff_mul-le (down_pos e)).1 (le_trans (le_of_eq (mul_assoc k a (down e))) (mul-le-mul_left k (low a b m e t))),
  div-le_of_le-mul (down e) (le_trans (mul-le-mul_left k (high a b m e t)) (le_of_eq (sym (mul_assoc k b (down e)) ∙ mul_comm (k * b) (down e)))),
)

picked : (t : Bool) (k a b v n : ℕ) → (T t → Within k a b v) → cond t (Some v) None ≡ Some n → Within k a b n
picked true k a b v n h e = let z : v ≡ n = cc in subst (Within k a b) z (h tt)
picked false k a b v n h e = let z : ◌≡◌ {A = ℕ} 0 1 = cc in absurd (omega arith)

pub scaled_within : (k a b : ℕ) (x : Float) (n : ℕ) → scaled_of k a b x ≡ Some n → Within k a b n
unfolding scaled_of
scaled_within k a b x n e = picked (is_between a b x) k a b (times_down k x) n (times_within k a b x) e
