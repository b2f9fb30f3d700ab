-- The code's two comparisons, from a on and up to b, refuse exactly what is no number from a to b: of what is no number each is false.
-- Assumes nothing.
use Rattle.std.proofs.Common.{◌≡◌, ℕ, ◌+◌, ◌*◌, ◌^◌, ◌<◌, ◌≤◌, Bool, true, false, not, ◌&&◌, ◌||◌, T, eqb, ltb, ◌⊎◌, ℤ, pos, sym, refl, ap, ◌∙◌, subst, inl, inr, true≢false, le_trans, le_of_eq, le_of_lt, zero-lt-suc, eq-zero-or-pos, zero-mul, mul-one, mul_right_comm, le_of_mul-le-mul_right, arith, eqb→eq, ltb→lt, lt→ltb}
use lib.Ieee.{Float, nan, inf, fin, binary32, binary64, up, down, lt, eq, le, is_nan, of_int}
use lib.Ieee.Fits.{and_i, and_l, and_r, eq→eqb, up_pos, down_pos}
use lib.Ieee.Exact.{HasValue}
use lib.Ieee.Order.{le_of_values}
use lib.Ieee.Back.{round_whole}
use Rattle.meter_reading.specs.Exact.{is_between}
use Rattle.meter_reading.proofs.Between.{inside, low, high, zero_inside, zero_low, is_zero}
use Rattle.meter_reading.proofs.Product.{no_size}

or_cases : (a b : Bool) → T (a || b) → T a ⊎ T b
or_cases true b t = inl tt
or_cases false b t = inr t

or_l : (a b : Bool) → T a → T (a || b)
or_l true b t = tt
or_l false b t = absurd t

or_r : (a b : Bool) → T b → T (a || b)
or_r true b t = tt
or_r false b t = t

at_most : (a b : ℕ) → T (ltb a b || (eqb a b && true)) → a ≤ b
at_most a b t = elim (or_cases (ltb a b) (eqb a b && true) t) [ inl u ↦ le_of_lt (ltb→lt a b u) | inr u ↦ le_of_eq (eqb→eq a b (and_l (eqb a b) true u)) ]

-- the whole number a, as a float
abbrev Whole-is : ℕ → ℤ → ℕ → Type 0
Whole-is n d a = n * up d * 1 ≡ a * down d

module _ (n : ℕ) (d : ℤ) (a : ℕ) (h : Whole-is n d a) (m : ℕ) (e : ℤ) where
  same_size : n * up d * down e ≡ a * down e * down d
  same_size = ap (λ (z : ℕ). z * down e) (sym (mul-one (n * up d)) ∙ h) ∙ mul_right_comm a (down d) (down e)

  least_of : T (le (fin false n d) (fin false m e)) → a * down e ≤ m * up e
  unfolding le lt eq
  least_of g = le_of_mul-le-mul_right (le_trans (le_of_eq (sym same_size)) (at_most (n * up d * down e) (m * up e * down d) g)) (down_pos d)

  most_of : T (le (fin false m e) (fin false n d)) → m * up e ≤ a * down e
  unfolding le lt eq
  most_of g = le_of_mul-le-mul_right (le_trans (at_most (m * up e * down d) (n * up d * down e) g) (le_of_eq same_size)) (down_pos d)

  -- only zeros are from a whole number on and have a minus
  zeros : T (le (fin false n d) (fin true m e)) → (a ≡ 0) × (m ≡ 0)
  unfolding le lt eq
  zeros g =
      let A = n * up d * down e in
      let C = m * up e * down d in
      let z : A ≡ 0 = eqb→eq A 0 (and_r (eqb A C) (eqb A 0) g) in
      let c : C ≡ 0 = sym (eqb→eq A C (and_l (eqb A C) (eqb A 0) g)) ∙ z in
      (no_size a (down e) (down_pos e) (no_size (a * down e) (down d) (down_pos d) (sym same_size ∙ z)), no_size m (up e) (up_pos e) (no_size (m * up e) (down d) (down_pos d) c))

  zero_least : a ≡ 0 → m ≡ 0 → T (le (fin false n d) (fin true m e))
  unfolding le lt eq
  zero_least l z =
      let A = n * up d * down e in
      let C = m * up e * down d in
      let p : A ≡ 0 = same_size ∙ ap (λ (k : ℕ). k * down e * down d) l ∙ ap (λ (k : ℕ). k * down d) (zero-mul (down e)) ∙ zero-mul (down d) in
      let q : C ≡ 0 = ap (λ (k : ℕ). k * up e * down d) z ∙ ap (λ (k : ℕ). k * down d) (zero-mul (up e)) ∙ zero-mul (down d) in
      and_i (eqb A C) (eqb A 0) (eq→eqb (p ∙ sym q)) (eq→eqb p)

pub within : (l x y : Float) (a b : ℕ) → HasValue l false a 1 → HasValue y false b 1 → T (le l x) → T (le x y) → T (is_between a b x)
unfolding le lt eq
within nan x y a b k h f g = absurd k
within (inf s) x y a b k h f g = absurd k
within (fin true n d) x y a b k h f g = absurd (true≢false k.0)
within (fin false n d) nan y a b k h f g = absurd f
within (fin false n d) (inf true) y a b k h f g = absurd f
within (fin false n d) (inf false) nan a b k h f g = absurd h
within (fin false n d) (inf false) (inf t) a b k h f g = absurd h
within (fin false n d) (inf false) (fin t i j) a b k h f g = absurd g
within (fin false n d) (fin true m e) y a b k h f g = let z = zeros n d a k.1 m e f in zero_inside a b m e z.0 z.1
within (fin false n d) (fin false m e) nan a b k h f g = absurd h
within (fin false n d) (fin false m e) (inf t) a b k h f g = absurd h
within (fin false n d) (fin false m e) (fin true i j) a b k h f g = absurd (true≢false h.0)
within (fin false n d) (fin false m e) (fin false i j) a b k h f g = inside a b m e (least_of n d a k.1 m e f) (most_of i j b h.1 m e g)

minus_below : (m : ℕ) (e : ℤ) (n : ℕ) (d : ℤ) → m ≡ 0 → T (le (fin true m e) (fin false n d))
unfolding le lt eq
minus_below m e n d z =
    let A = m * up e * down d in
    let C = n * up d * down e in
    let a : A ≡ 0 = ap (λ (k : ℕ). k * up e * down d) z ∙ ap (λ (k : ℕ). k * down d) (zero-mul (up e)) ∙ zero-mul (down d) in
    elim (eq-zero-or-pos C) [
      | inl c ↦ or_r (ltb 0 (A + C)) (eqb A C && eqb A 0) (and_i (eqb A C) (eqb A 0) (eq→eqb (a ∙ sym c)) (eq→eqb a))
      | inr c ↦ or_l (ltb 0 (A + C)) (eqb A C && eqb A 0) (lt→ltb 0 (A + C) (more A C c))
    ]
  where
    more : (a c : ℕ) → 0 < c → 0 < a + c
    more a c h = omega arith

pub tested : (l x y : Float) (a b : ℕ) → HasValue l false a 1 → HasValue y false b 1 → T (is_between a b x) → T (le l x) × T (le x y)
unfolding is_between
tested l nan y a b k h u = absurd u
tested l (inf s) y a b k h u = absurd u
tested nan (fin true m e) y a b k h u = absurd k
tested (inf s) (fin true m e) y a b k h u = absurd k
tested (fin true n d) (fin true m e) y a b k h u = absurd (true≢false k.0)
tested (fin false n d) (fin true m e) nan a b k h u = absurd h
tested (fin false n d) (fin true m e) (inf t) a b k h u = absurd h
tested (fin false n d) (fin true m e) (fin true i j) a b k h u = absurd (true≢false h.0)
tested (fin false n d) (fin true m e) (fin false i j) a b k h u =
    (zero_least n d a k.1 m e (zero_low a b m e u) (is_zero a b m e u), minus_below m e i j (is_zero a b m e u))
tested l (fin false m e) y a b k h u = (
  le_of_values l (fin false m e) a 1 (m * up e) (down e) (zero-lt-suc 0) (down_pos e) k (refl, refl) (le_trans (low a b m e u) (le_of_eq (sym (mul-one (m * up e))))),
  le_of_values (fin false m e) y (m * up e) (down e) b 1 (down_pos e) (zero-lt-suc 0) (refl, refl) h (le_trans (le_of_eq (mul-one (m * up e))) (high a b m e u)),
)

pub no_nan : (x : Float) (a b : ℕ) → T (is_between a b x) → T (not (is_nan x))
unfolding is_between is_nan
no_nan nan a b u = absurd u
no_nan (inf s) a b u = absurd u
no_nan (fin s m e) a b u = tt

-- ---- as the code has them
whole_32 : (n : ℕ) → n ≤ 2 ^ 24 → HasValue (of_int binary32 (pos n)) false n 1
unfolding of_int
whole_32 n h = round_whole binary32 false n h

pub whole_64 : (n : ℕ) → n ≤ 2 ^ 53 → HasValue (of_int binary64 (pos n)) false n 1
unfolding of_int
whole_64 n h = round_whole binary64 false n h

same : (a b : Bool) → (T a → T b) → (T b → T a) → a ≡ b
same true true to from = refl
same true false to from = absurd (to tt)
same false true to from = absurd (from tt)
same false false to from = refl

module _ (x : Float) (least most : ℕ) (small : (least ≤ 2 ^ 24) × (most ≤ 2 ^ 24)) where
  abbrev lower : Float
  lower = of_int binary32 (pos least)

  abbrev upper : Float
  upper = of_int binary32 (pos most)

  -- where the first comparison holds, the second says it
  pub second : le lower x ≡ true → le x upper ≡ is_between least most x
  second first =
      same (le x upper) (is_between least most x)
      (λ g. within lower x upper least most (whole_32 least small.0) (whole_32 most small.1) (subst T (sym first) tt) g)
      (λ u. (tested lower x upper least most (whole_32 least small.0) (whole_32 most small.1) u).1)

  -- where it fails, no number from the least on is there
  pub failed : le lower x ≡ false → false ≡ is_between least most x
  failed first =
      same false (is_between least most x) (λ g. absurd g)
      (λ u. subst T first (tested lower x upper least most (whole_32 least small.0) (whole_32 most small.1) u).0)
