-- The nearest tonne by division toward zero: the quotient, one more or one less by the remainder.
-- Assumes nothing.
use Prim.Native.Nat.{ℕ, zero, suc, ◌/◌, ◌%◌, ◌^◌, ◌≤◌, ◌<◌}
use mathlib.Core.Bool.{true, false, false≢true}
use mathlib.Core.Path.{◌≡◌, refl, ap, ◌∙◌}
use native.Mathlib.Nat.{add-zero}
use native.Mathlib.Omega.{arith}
use lib.IntN.{ℤ, pos, negsuc, neg_ℤ, ◌+ℤ◌, ◌-ℤ◌}
use lib.Signed.{mag, lt_z, le_z, quot_z, rem_z}
use mir.Syntax.{w64}
use mir.Val.{SFits}
use borrow.Author.Tests.{ltb-true, ltb-false, leb-true, leb-false, lt-ltb, le-ltb}
use Rattle.tonnes.specs.Tonnes.{net_of}

mag_neg : (r : ℕ) → mag (neg_ℤ (pos r)) ≤ r
mag_neg zero = omega arith
mag_neg (suc r) = omega arith

-- a quotient or a remainder by a million is small
pub quot_small : (z : ℤ) → SFits w64 z → mag (quot_z z (pos 1000000)) < 2 ^ 50
quot_small (pos a) f = let h = f.sfits in omega arith
quot_small (negsuc a) f = let h = f.sfits in omega (arith, mag_neg (suc a / 1000000))

pub rem_small : (z : ℤ) → mag (rem_z z (pos 1000000)) < 2 ^ 50
rem_small (pos a) = omega arith
rem_small (negsuc a) = omega (arith, mag_neg (suc a % 1000000))

pub up_small : (z : ℤ) → mag z < 2 ^ 50 → mag (z +ℤ pos 1) < 2 ^ 63
up_small (pos a) h = omega arith
up_small (negsuc zero) h = omega arith
up_small (negsuc (suc a)) h = rw (lt-ltb 1 (suc (suc a)) (omega arith)) (omega arith)

pub down_small : (z : ℤ) → mag z < 2 ^ 50 → mag (z -ℤ pos 1) < 2 ^ 63
down_small (pos zero) h = omega arith
down_small (pos (suc a)) h = rw (le-ltb (suc a) 1 (omega arith)) (omega arith)
down_small (negsuc a) h = omega arith

-- tests on a negated number
neg_not_above : (n r : ℕ) → lt_z (pos n) (neg_ℤ (pos r)) ≡ true → ⊥
neg_not_above n zero h = omega (arith, ltb-true n 0 h)
neg_not_above n (suc r) h = false≢true h

neg_below : (n r : ℕ) → le_z (neg_ℤ (pos r)) (negsuc n) ≡ true → n < r
neg_below n zero h = absurd (false≢true h)
neg_below n (suc r) h = omega (arith, leb-true n r h)

neg_not_below : (n r : ℕ) → le_z (neg_ℤ (pos r)) (negsuc n) ≡ false → r ≤ n
neg_not_below n zero h = omega arith
neg_not_below n (suc r) h = omega (arith, leb-false n r h)

one_less : (q : ℕ) → neg_ℤ (pos q) -ℤ pos 1 ≡ negsuc q
one_less zero = refl
one_less (suc q) = ap (λ (n : ℕ). negsuc (suc n)) (add-zero q)

pub net_up : (z : ℤ) → lt_z (pos 500000) (rem_z z (pos 1000000)) ≡ true → quot_z z (pos 1000000) +ℤ pos 1 ≡ net_of z
net_up (pos a) h = ap pos (omega (arith, ltb-true 500000 (a % 1000000) h))
net_up (negsuc a) h = absurd (neg_not_above 500000 (suc a % 1000000) h)

pub net_down :
    (z : ℤ) → le_z (rem_z z (pos 1000000)) (negsuc 499999) ≡ true → quot_z z (pos 1000000) -ℤ pos 1 ≡ net_of z
net_down (pos a) h = absurd (false≢true h)
net_down (negsuc a) h =
    let l = neg_below 499999 (suc a % 1000000) h in
    one_less (suc a / 1000000) ∙ rw (lt-ltb 499999 (suc a) (omega arith)) (ap negsuc (omega arith))

neg_same : (a q : ℕ) → q ≡ suc a / 1000000 → suc a % 1000000 ≤ 499999 → neg_ℤ (pos q) ≡ net_of (negsuc a)
neg_same a zero e l = rw (le-ltb 499999 (suc a) (omega arith)) (ap pos (omega arith))
neg_same a (suc q) e l = rw (lt-ltb 499999 (suc a) (omega arith)) (ap negsuc (omega arith))

pub net_same :
    (z : ℤ) → lt_z (pos 500000) (rem_z z (pos 1000000)) ≡ false →
    le_z (rem_z z (pos 1000000)) (negsuc 499999) ≡ false → quot_z z (pos 1000000) ≡ net_of z
net_same (pos a) h k = ap pos (omega (arith, ltb-false 500000 (a % 1000000) h))
net_same (negsuc a) h k = neg_same a (suc a / 1000000) refl (neg_not_below 499999 (suc a % 1000000) k)
