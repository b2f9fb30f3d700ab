-- Past the terms that grow, a partial sum ended on a subtracted term lies below every one ended on an added term: two more terms raise the first
-- and lower the second, and where they differ by one term alone, that term is added. Assumes nothing.
use Prim.Native.Nat.{ℕ, zero, suc, ◌+◌, ◌*◌, ◌^◌, ◌/◌, ◌%◌, ◌≤◌, ◌<◌}
use mathlib.Core.Path.{◌≡◌, ap, ◌∙◌}
use mathlib.Core.Bool.{Bool, true, false}
use native.Mathlib.Omega.{arith}
use native.Mathlib.Nat.{add-zero, add-mul, mul_assoc, mul_comm, mul-pos, pow-suc, le_trans, zero-lt-suc}
use native.Mathlib.Nat.{mul-le-mul_left, mul-le-mul_right, mul-lt-mul_of_pos_right, lt_of_mul-lt-mul_right}
use lib.Dec.{eqb}
use borrow.Author.Tests.{eqb-true, eqb-false, eq-eqb, ne_eqb}
use Rattle.lagoon_factor.specs.Rule.{million, even, denominator, added, subtracted, AtLeast, Below}

odd_next : (t : ℕ) → even t ≡ true → even (suc t) ≡ false
odd_next t e = ne_eqb (suc t % 2) 0 (λ z. omega (arith, eqb-true (t % 2) 0 e))

even_next : (t : ℕ) → even t ≡ false → even (suc t) ≡ true
even_next t e = eq-eqb (suc t % 2) 0 (omega (arith, eqb-false (t % 2) 0 e))

even_more : (t k : ℕ) (b : Bool) → even t ≡ b → even (t + 2 * k) ≡ b
even_more t k b e = let same : (t + 2 * k) % 2 ≡ t % 2 = omega arith in ap (λ r. eqb r 0) same ∙ e

-- a sum's two bounds keep under a common factor
more_low : (n d s a w : ℕ) → n * d + million * s ≤ million * a → n * (d * w) + million * (s * w) ≤ million * (a * w)
more_low n d s a w h = simp (add-mul, mul_assoc) at (mul-le-mul_right w h)

more_up : (n d s a : ℕ) {w : ℕ} → 0 < w → million * a < n * d + million * s → million * (a * w) < n * (d * w) + million * (s * w)
more_up n d s a z h = simp (add-mul, mul_assoc) at (mul-lt-mul_of_pos_right h z)

-- one more term, which is added
pub next_up :
    (p q : ℕ) → 0 < q → (n t : ℕ) → even t ≡ true → million * (added p q t + p ^ t) < n * denominator q t + million * subtracted p q t →
    Below p q n (suc t)
unfolding denominator added subtracted
next_up p q whole n t e h = rw (e, add-zero) (more_up n _ _ _ (mul-pos whole (zero-lt-suc t)) h)

module _ (p q : ℕ) (small : p ≤ 3 * q) (whole : 0 < q) where
  step_pos : (t : ℕ) → 0 < q * suc t
  step_pos t = mul-pos whole (zero-lt-suc t)

  -- from term 2 on, a term is at most the one before it
  falls : (t : ℕ) → 2 ≤ t → p ^ suc t ≤ p ^ t * (q * suc t)
  falls t h = rw pow-suc (mul-le-mul_left (p ^ t) (le_trans small (rw (mul_comm 3 q) (mul-le-mul_left q (omega arith)))))

  low_two : (n t : ℕ) → even t ≡ true → 2 ≤ t → AtLeast p q n t → AtLeast p q n (suc (suc t))
  unfolding denominator added subtracted
  low_two n t e h a =
      rw (e, odd_next t e)
      (more_low n _ _ _ (q * suc (suc t))
      (omega (arith, add-mul (added p q t) (p ^ t) (q * suc t), falls t h, more_low n _ _ _ (q * suc t) a)))

  up_two : (n t : ℕ) → even t ≡ false → 2 ≤ t → Below p q n t → Below p q n (suc (suc t))
  unfolding denominator added subtracted
  up_two n t e h a =
      rw (e, even_next t e)
      (more_up n _ _ _ (step_pos (suc t))
      (omega (arith, add-mul (subtracted p q t) (p ^ t) (q * suc t), falls t h, more_up n _ _ _ (step_pos t) a)))

  low_more : (n t : ℕ) → even t ≡ true → 2 ≤ t → AtLeast p q n t → (k : ℕ) → AtLeast p q n (t + 2 * k)
  low_more n t e h a zero = rw add-zero a
  low_more n t e h a (suc k) =
      let next : t + 2 * suc k ≡ suc (suc (t + 2 * k)) = omega arith in
      rw next (low_two n (t + 2 * k) (even_more t k true e) (omega arith) (low_more n t e h a k))

  up_more : (n t : ℕ) → even t ≡ false → 2 ≤ t → Below p q n t → (k : ℕ) → Below p q n (t + 2 * k)
  up_more n t e h a zero = rw add-zero a
  up_more n t e h a (suc k) =
      let next : t + 2 * suc k ≡ suc (suc (t + 2 * k)) = omega arith in
      rw next (up_two n (t + 2 * k) (even_more t k false e) (omega arith) (up_more n t e h a k))

  one_more : (n m t : ℕ) → even t ≡ true → AtLeast p q n t → Below p q m (suc t) → n < m
  unfolding denominator added subtracted
  one_more n m t e a b =
      lt_of_mul-lt-mul_right (denominator q (suc t))
      (omega (arith, rw e at b, add-mul (added p q t) (p ^ t) (q * suc t), more_low n _ _ _ (q * suc t) a))

  pub apart :
      (n m t u : ℕ) → even t ≡ true → even u ≡ false → 2 ≤ t → 2 ≤ u → AtLeast p q n t → Below p q m u → n < m
  apart n m t u e o h g a b =
      let meet : suc (t + 2 * (u / 2)) ≡ u + 2 * (t / 2) = omega (arith, eqb-true (t % 2) 0 e, eqb-false (u % 2) 0 o) in
      one_more n m (t + 2 * (u / 2)) (even_more t (u / 2) true e) (low_more n t e h a (u / 2)) (rw meet (up_more m u o g b (t / 2)))
