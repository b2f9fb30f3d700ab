-- The whole part of an `f64` from 1 to 2 ^ 52, from its bit pattern: the digits, with the leading one put back, shifted down by 1075 less the exponent's field.
-- Assumes nothing.
use Rattle.std.proofs.Common.{◌≡◌, ℕ, suc, ◌+◌, ◌-◌, ◌*◌, ◌/◌, ◌%◌, ◌^◌, ◌<◌, ◌≤◌, min, true, false, not, T, ℤ, sym, ap, ◌∙◌, le_trans, le_of_eq, lt_of_lt_of_le, lt_of_le_of_lt, lt_irrefl, mul-le-mul_right, mod-lt, mul_assoc, mul_comm, mul-pos, one-mul, lt_of_not-le, le-div_iff_mul-le, zero-mul, mul_right_comm, arith, pow_pos, pow_mono, pow-add, shr-shr}
use native.Mathlib.Nat.{div-le_of_le-mul, div-div-eq-div-mul, zero-div}
use lib.Pow.{pow-lt}
use lib.Bits.{bit_and, bit_or, and_mask, or_shifted_r}
use lib.Ieee.{Float, nan, inf, fin, binary64, up, down, size, le, is_nan, to_bits, to_unsigned}
use lib.Ieee.Digits.{size-lt, size-le, size_reaches}
use lib.Ieee.Fits.{down_pos, kept-lt}
use lib.Ieee.Nearest.{div_same}
use lib.Ieee.Positive.{le→cross, above_of_le}
use Rattle.std.proofs.num.Truncating.{one, below_one}
use Rattle.meter_reading.specs.Exact.{times_down, is_between}
use Rattle.meter_reading.proofs.Between.{high, is_zero}

pow_lt_back : (i p : ℕ) → 2 ^ i < 2 ^ p → i < p
pow_lt_back i p h = lt_of_not-le (λ (g : p ≤ i). lt_irrefl (2 ^ i) (lt_of_lt_of_le h (pow_mono g)))

-- what the pattern b says of n, the value in units of 2 ^ -1074
abbrev Pattern : ℕ → ℕ → Type 0
Pattern n b = (b / 2 ^ 52 ≤ 1075) × (1075 - b / 2 ^ 52 < 64) × (bit_or (bit_and b (2 ^ 52 - 1)) (2 ^ 52) / 2 ^ (1075 - b / 2 ^ 52) ≡ n / 2 ^ 1074)

digits_are : (b : ℕ) → bit_or (bit_and b (2 ^ 52 - 1)) (2 ^ 52) ≡ 2 ^ 52 + b % 2 ^ 52
digits_are b = ap (λ (k : ℕ). bit_or k (2 ^ 52)) (and_mask b 52) ∙ or_shifted_r 1 52 (b % 2 ^ 52) (mod-lt b (pow_pos 52))

module _ (k q : ℕ) (lo : 2 ^ 52 ≤ q) (hi : q < 2 ^ 53) where
  field : (0 + k * 2 ^ 52 + q) / 2 ^ 52 ≡ suc k
  field = omega arith

  digits : 2 ^ 52 + (0 + k * 2 ^ 52 + q) % 2 ^ 52 ≡ q
  digits = omega arith

pattern : (n : ℕ) → 2 ^ 1074 ≤ n → n ≤ 2 ^ 1126 → Pattern n (0 + (size n - 53) * 2 ^ 52 + n / 2 ^ (size n - 53))
pattern n lo hi =
    let z = size n in
    let k = z - 53 in
    let q = n / 2 ^ k in
    let b = 0 + k * 2 ^ 52 + q in
    let z_low : 1074 < z = pow_lt_back 1074 z (lt_of_le_of_lt lo (size-lt n)) in
    let z_high : z ≤ 1127 = size-le n 1127 (lt_of_le_of_lt hi (pow-lt {i = 1126} {j = 1127} (omega arith))) in
    let q_low : 2 ^ 52 ≤ q = (le-div_iff_mul-le (pow_pos k)).1 (le_trans (le_of_eq (sym (pow-add 2 52 k))) (size_reaches n (52 + k) (all z z_low))) in
    let f : b / 2 ^ 52 ≡ suc k = field k q q_low (kept-lt 53 n) in
    let by : 1075 - b / 2 ^ 52 ≡ 1074 - k = less (b / 2 ^ 52) k f in (
      bound (b / 2 ^ 52) z f z_high,
      near (b / 2 ^ 52) z f z_low,
      ap (λ (i : ℕ). i / 2 ^ (1075 - b / 2 ^ 52)) (digits_are b ∙ digits k q q_low (kept-lt 53 n))
          ∙ ap (λ (i : ℕ). q / 2 ^ i) by
          ∙ shr-shr n k (1074 - k)
          ∙ ap (λ (i : ℕ). n / 2 ^ i) (join z z_high),
    )
  where
    all : (z : ℕ) → 1074 < z → 52 + (z - 53) < z
    all z h = omega arith

    less : (e k : ℕ) → e ≡ suc k → 1075 - e ≡ 1074 - k
    less e k h = omega arith

    bound : (e z : ℕ) → e ≡ suc (z - 53) → z ≤ 1127 → e ≤ 1075
    bound e z f h = omega arith

    near : (e z : ℕ) → e ≡ suc (z - 53) → 1074 < z → 1075 - e < 64
    near e z f h = omega arith

    join : (z : ℕ) → z ≤ 1127 → z - 53 + (1074 - (z - 53)) ≡ 1074
    join z h = omega arith

-- ---- at a float
abbrev pub Cut : Float → ℕ → Type 0
Cut x b = T (not (is_nan x)) × (b / 2 ^ 52 ≤ 1075) × (1075 - b / 2 ^ 52 < 64) × (bit_or (bit_and b (2 ^ 52 - 1)) (2 ^ 52) / 2 ^ (1075 - b / 2 ^ 52) ≡ times_down 1 x)

whole_units : (a d : ℕ) → 0 < d → a * 2 ^ 1074 / d / 2 ^ 1074 ≡ a / d
whole_units a d D =
    div-div-eq-div-mul (a * 2 ^ 1074) d (2 ^ 1074)
    ∙ div_same (a * 2 ^ 1074) (d * 2 ^ 1074) a d (mul-pos D (pow_pos 1074)) D (mul_assoc a (2 ^ 1074) d ∙ ap (λ (z : ℕ). a * z) (mul_comm (2 ^ 1074) d))

tidy : (d n : ℕ) → 1 * d ≤ n * 1 → d ≤ n
tidy d n h = omega arith

cut_fin : (m : ℕ) (e : ℤ) → down e ≤ m * up e → m * up e ≤ 2 ^ 52 * down e → Cut (fin false m e) (to_bits binary64 (fin false m e))
unfolding to_bits times_down is_nan
cut_fin m e lo hi =
    let a = m * up e in
    let d = down e in
    let n = a * 2 ^ 1074 / d in
    let n_low : 2 ^ 1074 ≤ n = (le-div_iff_mul-le (down_pos e)).1 (le_trans (le_of_eq (mul_comm (2 ^ 1074) d)) (mul-le-mul_right (2 ^ 1074) lo)) in
    let n_high : n ≤ 2 ^ 1126 = div-le_of_le-mul d (le_trans (mul-le-mul_right (2 ^ 1074) hi) (le_of_eq (mul_right_comm (2 ^ 52) d (2 ^ 1074) ∙ mul_comm (2 ^ 1126) d))) in
    let p = pattern n n_low n_high in
    (tt, p.0, p.1, p.2 ∙ whole_units a d (down_pos e) ∙ ap (λ (z : ℕ). z / d) (sym (one-mul a)))

pub cut : (x : Float) → T (is_between 0 (2 ^ 52) x) → T (le one x) → Cut x (to_bits binary64 x)
unfolding is_between
cut nan u h = absurd u
cut (inf s) u h = absurd u
cut (fin true m e) u h = absurd (above_of_le one (fin true m e) tt h)
cut (fin false m e) u h =
    cut_fin m e (tidy (down e) (m * up e) (le→cross one (fin false m e) tt (above_of_le one (fin false m e) tt h) h)) (high 0 (2 ^ 52) m e u)

-- ---- below 1
no_whole : (n c : ℕ) → 0 < c → 0 ≡ min n c → n ≡ 0
no_whole n c C h = omega arith

pub none : (x : Float) → T (is_between 0 (2 ^ 52) x) → T (not (le one x)) → 0 ≡ times_down 1 x
unfolding is_between times_down to_unsigned
none nan u h = absurd u
none (inf s) u h = absurd u
none (fin true m e) u h = sym (ap (λ (z : ℕ). 1 * (z * up e) / down e) (is_zero 0 (2 ^ 52) m e u) ∙ ap (λ (z : ℕ). 1 * z / down e) (zero-mul (up e)) ∙ zero-div (down e))
none (fin false m e) u h = sym (ap (λ (z : ℕ). z / down e) (one-mul (m * up e)) ∙ small (below_one 64 (fin false m e) h))
  where
    small : 0 ≡ to_unsigned 64 (fin false m e) → m * up e / down e ≡ 0
    small t = no_whole (m * up e / down e) (2 ^ 64 - 1) (omega arith) t
