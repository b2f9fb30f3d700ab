-- An `f32` times a whole number below 2 ^ 28, as an `f64`, is exact. So its whole part is that of the exact product.
-- Assumes nothing.
use Rattle.std.proofs.Common.{◌≡◌, ℕ, zero, suc, ◌+◌, ◌-◌, ◌*◌, ◌/◌, ◌%◌, ◌^◌, ◌<◌, ◌≤◌, Bool, true, false, ◌&&◌, T, eqb, ltb, leb, ℤ, pos, negsuc, sym, refl, ap, ◌∙◌, subst, true≢false, le_trans, le_of_eq, lt_of_lt_of_le, le_of_suc-le-suc, lt_of_le_of_lt, le_of_lt, lt_irrefl, mul-le-mul_right, zero-lt-suc, mul_assoc, mul_comm, mul-le-mul, mul-pos, one-mul, lt_of_not-le, zero-mul, mul-one, mul_right_comm, le_of_mul-le-mul_right, mul_left_comm, arith, lit≤, ltb→lt, leb→le, pow_pos, pow_mono, pow-add, shl_lt}
use lib.Pow.{pow-lt}
use lib.Ieee.{Float, nan, inf, fin, binary32, binary64, up, down, unlike, round, mul, fits}
use lib.Ieee.Fits.{and_l, and_r, up_pos, down_pos}
use lib.Ieee.Exact.{HasValue, round_exact}
use lib.Ieee.Scale.{round_same}
use lib.Ieee.Nearest.{div_same}
use Rattle.meter_reading.specs.Exact.{times_down, is_between}
use Rattle.meter_reading.proofs.Between.{inside, high, zero_inside, is_zero}

-- ---- what an `f32` above or below zero is: 24 digits, 2 ^ -149 at least, below 2 ^ 128
abbrev Held : ℕ → ℤ → Type 0
Held m e = (m < 2 ^ 24) × (down e ≤ 2 ^ 149) × (m * up e < 2 ^ 128 * down e)

held : (s : Bool) (m : ℕ) (e : ℤ) → T (fits binary32 (fin s (suc m) e)) → Held (suc m) e
unfolding fits
held s m e h =
    let A = eqb (suc m % 2) 1 in
    let B = ltb (suc m) (2 ^ 24) in
    let C = leb (down e) (2 ^ 149) in
    let D = ltb (suc m * up e) (2 ^ 128 * down e) in (
      ltb→lt (suc m) (2 ^ 24) (and_r A B (and_l (A && B) C (and_l (A && B && C) D h))),
      leb→le (down e) (2 ^ 149) (and_r (A && B) C (and_l (A && B && C) D h)),
      ltb→lt (suc m * up e) (2 ^ 128 * down e) (and_r (A && B && C) D h),
    )

pow_le_back : (a l : ℕ) → 2 ^ a ≤ 2 ^ l → a ≤ l
pow_le_back a l h = le_of_suc-le-suc (lt_of_not-le (λ (g : suc l ≤ a). lt_irrefl (2 ^ l) (lt_of_lt_of_le (pow-lt g) h)))

-- ---- the rounding that changes nothing
module _ (s : Bool) (k : ℕ) (K : k < 2 ^ 28) where
  few : (m : ℕ) → m < 2 ^ 24 → m * k < 2 ^ 53
  few m h = lt_of_le_of_lt (mul-le-mul (le_of_lt h) (le_of_lt K)) (pow-lt {i = 52} {j = 53} (lit≤ tt))

  rounded : (m : ℕ) (e : ℤ) → Held m e → HasValue (round binary64 s (m * up e * k) (down e)) s (m * up e * k) (down e)
  rounded m (pos a) h =
      round_exact binary64 s (m * 2 ^ a * k) 1 (m * k) (a + 1074) (zero-lt-suc 0) (few m h.0)
      (lt_of_le_of_lt (le_of_eq same) (lt_of_lt_of_le (shl_lt 157 1074 wide) (pow_mono {i = 1231} {j = 2098} (lit≤ tt))))
      (sym same ∙ sym (mul-one (m * k * 2 ^ (a + 1074))))
    where
      same : m * k * 2 ^ (a + 1074) ≡ m * 2 ^ a * k * 2 ^ 1074
      same = ap (λ (z : ℕ). m * k * z) (pow-add 2 a 1074) ∙ sym (mul_assoc (m * k) (2 ^ a) (2 ^ 1074)) ∙ ap (λ (z : ℕ). z * 2 ^ 1074) (mul_right_comm m k (2 ^ a))

      wide : m * 2 ^ a * k < 2 ^ 157
      wide = lt_of_le_of_lt (mul-le-mul (le_of_lt (subst (λ (z : ℕ). m * 2 ^ a < z) (mul-one (2 ^ 128)) h.2)) (le_of_lt K)) (pow-lt {i = 156} {j = 157} (lit≤ tt))
  rounded m (negsuc a) h =
      round_exact binary64 s (m * 1 * k) (2 ^ suc a) (m * k) (1074 - suc a) (pow_pos (suc a)) (few m h.0)
      (lt_of_lt_of_le (shl_lt 53 (1074 - suc a) (few m h.0)) (pow_mono (room (suc a))))
      (ap (λ (z : ℕ). z * k * 2 ^ 1074) (mul-one m)
      ∙ ap (λ (z : ℕ). m * k * 2 ^ z) (sym (split (suc a) (pow_le_back (suc a) 149 h.1)))
      ∙ ap (λ (z : ℕ). m * k * z) (pow-add 2 (1074 - suc a) (suc a))
      ∙ sym (mul_assoc (m * k) (2 ^ (1074 - suc a)) (2 ^ suc a)))
    where
      room : (b : ℕ) → 53 + (1074 - b) ≤ 2098
      room b = omega arith

      split : (b : ℕ) → b ≤ 149 → 1074 - b + b ≡ 1074
      split b g = omega arith

  rounded_zero : (e : ℤ) → HasValue (round binary64 s (0 * up e * k) (down e)) s (0 * up e * k) (down e)
  rounded_zero e = round_exact binary64 s (0 * up e * k) (down e) 0 0 (down_pos e) (pow_pos 53) (pow_pos 2098) (ap (λ (z : ℕ). z * k * 2 ^ 1074) (zero-mul (up e)) ∙ ap (λ (z : ℕ). z * 2 ^ 1074) (zero-mul k) ∙ sym (zero-mul (down e)))

  any : (m : ℕ) (e : ℤ) → T (fits binary32 (fin s m e)) → HasValue (round binary64 s (m * up e * k) (down e)) s (m * up e * k) (down e)
  any zero e h = rounded_zero e
  any (suc m) e h = rounded (suc m) e (held s m e h)

plus : (s : Bool) → unlike s false ≡ s
plus true = refl
plus false = refl

scaled_same : (A N D dd k : ℕ) → N * 1 ≡ k * dd → A * N * D ≡ A * k * (D * dd)
scaled_same A N D dd k h =
    ap (λ (z : ℕ). A * z * D) (sym (mul-one N) ∙ h) ∙ simp (mul_assoc, mul_comm, mul_left_comm)

-- ---- the product: `y` is the whole number k
pub exact : (s : Bool) (m : ℕ) (e : ℤ) (y : Float) (k : ℕ) → T (fits binary32 (fin s m e)) → HasValue y false k 1 → k < 2 ^ 28 → HasValue (mul binary64 (fin s m e) y) s (m * up e * k) (down e)
unfolding mul
exact s m e nan k F h K = absurd h
exact s m e (inf t) k F h K = absurd h
exact s m e (fin true n d) k F h K = absurd (true≢false h.0)
exact s m e (fin false n d) k F h K =
    subst (λ (z : Float). HasValue z s (m * up e * k) (down e))
    (sym
    (ap (λ (t : Bool). round binary64 t (m * up e * (n * up d)) (down e * down d)) (plus s)
    ∙ round_same binary64 s (m * up e * (n * up d)) (down e * down d) (m * up e * k) (down e) (mul-pos (down_pos e) (down_pos d)) (down_pos e) (scaled_same (m * up e) (n * up d) (down e) (down d) k h.1)))
    (any s k K m e F)

-- ---- from a value to `is_between` and `times_down`
pub no_size : (m : ℕ) (u : ℕ) → 0 < u → m * u ≡ 0 → m ≡ 0
no_size zero u h e = refl
no_size (suc m) u h e = absurd (lt_irrefl 0 (subst (λ (z : ℕ). 0 < z) e (mul-pos (zero-lt-suc m) h)))

up_to_of_value : (p : Float) (s : Bool) (a c w : ℕ) → 0 < c → HasValue p s a c → (T s → a ≡ 0) → a ≤ w * c → T (is_between 0 w p)
up_to_of_value nan s a c w C h z l = absurd h
up_to_of_value (inf t) s a c w C h z l = absurd h
up_to_of_value (fin true m e) s a c w C h z l = zero_inside 0 w m e refl (no_size m (up e) (up_pos e) (no_size (m * up e) c C (h.1 ∙ ap (λ (n : ℕ). n * down e) (z (subst T h.0 tt)) ∙ zero-mul (down e))))
up_to_of_value (fin false m e) s a c w C h z l =
    inside 0 w m e (least (down e) (m * up e))
    (le_of_mul-le-mul_right (le_trans (le_of_eq h.1) (le_trans (mul-le-mul_right (down e) l) (le_of_eq (mul_right_comm w c (down e))))) C)
  where
    least : (d n : ℕ) → 0 * d ≤ n
    least d n = omega arith

floor_of_value : (p : Float) (s : Bool) (a c : ℕ) → 0 < c → HasValue p s a c → times_down 1 p ≡ a / c
unfolding times_down
floor_of_value nan s a c C h = absurd h
floor_of_value (inf t) s a c C h = absurd h
floor_of_value (fin t m e) s a c C h = ap (λ (z : ℕ). z / down e) (one-mul (m * up e)) ∙ div_same (m * up e) (down e) a c (down_pos e) C h.1

-- k times an x from a to b, as an `f64`: it is at most 2 ^ 52, and its whole part is that of the exact product
pub product : (x y : Float) (k a b : ℕ) → T (fits binary32 x) → T (is_between a b x) → HasValue y false k 1 → k < 2 ^ 28 → b ≤ 2 ^ 24
    → T (is_between 0 (2 ^ 52) (mul binary64 x y)) × (times_down 1 (mul binary64 x y) ≡ times_down k x)
unfolding is_between times_down
product nan y k a b F G h K B = absurd G
product (inf s) y k a b F G h K B = absurd G
product (fin true m e) y k a b F G h K B =
    let v = exact true m e y k F h K in
    let z : m * up e * k ≡ 0 = ap (λ (n : ℕ). n * up e * k) (is_zero a b m e G) ∙ ap (λ (n : ℕ). n * k) (zero-mul (up e)) ∙ zero-mul k in (
      up_to_of_value (mul binary64 (fin true m e) y) true (m * up e * k) (down e) (2 ^ 52) (down_pos e) v (λ t. z) (le_trans (le_of_eq z) (least (2 ^ 52 * down e))),
      floor_of_value (mul binary64 (fin true m e) y) true (m * up e * k) (down e) (down_pos e) v ∙ ap (λ (n : ℕ). n / down e) (mul_comm (m * up e) k),
    )
  where
    least : (n : ℕ) → 0 ≤ n
    least n = omega arith
product (fin false m e) y k a b F G h K B =
    let v = exact false m e y k F h K in (
      up_to_of_value (mul binary64 (fin false m e) y) false (m * up e * k) (down e) (2 ^ 52) (down_pos e) v (λ t. absurd t)
          (le_trans (mul-le-mul_right k (high a b m e G)) (le_trans (le_of_eq (mul_right_comm b (down e) k)) (mul-le-mul_right (down e) (mul-le-mul B (le_of_lt K))))),
      floor_of_value (mul binary64 (fin false m e) y) false (m * up e * k) (down e) (down_pos e) v ∙ ap (λ (n : ℕ). n / down e) (mul_comm (m * up e) k),
    )
