-- Signed sums and differences as the machine takes them: a number below 2^62 in size comes back from its bits as it was.
-- Assumes nothing.
use Prim.Native.Nat.{ℕ, zero, suc, ◌+◌, ◌-◌, ◌^◌, ◌≤◌, ◌<◌}
use mathlib.Core.Bool.{Bool, true, false, cond}
use mathlib.Core.Path.{ap, ◌≡◌, ◌∙◌}
use native.Mathlib.Omega.{arith}
use borrow.Author.Rules.{sfits_of}
use mir.Facts.{to_z-of_z}
use mir.Syntax.{w64}
use mir.Val.{to_z, of_z, SFits}
use lib.Dec.{ltb}
use lib.IntN.{ℤ, pos, negsuc, sub_ℕ, nat_abs, ◌+ℤ◌, ◌-ℤ◌}
use lib.Signed.{mag, le_z}
use Rattle.std.specs.Int.{int_min}
use Rattle.std.proofs.lemmas.Int.{ints}
use Rattle.units.specs.declared.co2e.Co2e.{Co2e}
use Rattle.year_credit.specs.Asks.{sums_most, OperatorFits}
use Rattle.year_credit.specs.Credit.{modelled_of, metered_of, lesser_of, reduction_of, total_of}
use Rattle.year_credit.specs.declared.Operator.{Operator}

sub_size : (a b : ℕ) → mag (sub_ℕ a b) ≤ a + b
sub_size a b = go (ltb a b)
  where
    go : (t : Bool) → mag (cond t (negsuc (b - suc a)) (pos (a - b))) ≤ a + b
    go true = omega arith
    go false = omega arith

pub minus_size : (z : ℤ) (n : ℕ) → mag (z -ℤ pos n) ≤ mag z + n + 1
minus_size (pos a) zero = omega arith
minus_size (pos a) (suc n) = omega (arith, sub_size a (suc n))
minus_size (negsuc a) zero = omega (arith, sub_size 0 (suc a))
minus_size (negsuc a) (suc n) = omega arith

pub plus_size : (z : ℤ) (n : ℕ) → mag (z +ℤ pos n) ≤ mag z + n + 1
plus_size (pos a) n = omega arith
plus_size (negsuc a) n = omega (arith, sub_size n (suc a))

pub lesser_size : (x y : ℤ) → mag (lesser_of x y) ≤ mag x + mag y
lesser_size x y = go (le_z x y)
  where
    go : (t : Bool) → mag (cond t x y) ≤ mag x + mag y
    go true = omega arith
    go false = omega arith

-- the library's lesser of two is that of the definition
pub lesser_min : (x y : ℤ) → int_min x y ≡ lesser_of x y
lesser_min x y = grind (arith, ints)

pub from_zero : (z : ℤ) → nat_abs z ≤ mag z + 1
from_zero (pos n) = omega arith
from_zero (negsuc n) = omega arith

back : (z : ℤ) → mag z < 2 ^ 62 → to_z w64 (of_z w64 z) ≡ z
back z small = to_z-of_z {w = w64} (sfits_of (omega arith))

pub read_back : {x : ℤ} (z : ℤ) → x ≡ z → mag z < 2 ^ 62 → to_z w64 (of_z w64 x) ≡ z
read_back z is small = ap (λ (y : ℤ). to_z w64 (of_z w64 y)) is ∙ back z small

pub lesser_is :
    (x y : ℤ) {lesser : ℤ} (z w : ℤ) → to_z w64 (of_z w64 x) ≡ z → to_z w64 (of_z w64 y) ≡ w → lesser ≡ lesser_of (to_z w64 (of_z w64 x)) (to_z w64 (of_z w64 y)) →
    lesser ≡ lesser_of z w
lesser_is x y z w p q is = is ∙ ap (λ (v : ℤ). lesser_of v (to_z w64 (of_z w64 y))) p ∙ ap (lesser_of z) q

-- x is z and y is n: their sum and their difference
module _ {x y : ℤ} (z : ℤ) (n : ℕ) (x-is : x ≡ z) (y-is : y ≡ pos n) (x-small : mag z < 2 ^ 62) (y-small : n < sums_most) where
  pub sum_is : to_z w64 (of_z w64 x) +ℤ to_z w64 (of_z w64 y) ≡ z +ℤ pos n
  sum_is = rw (x-is, y-is, back z x-small, back (pos n) (omega arith))

  pub difference_is : to_z w64 (of_z w64 x) -ℤ to_z w64 (of_z w64 y) ≡ z -ℤ pos n
  difference_is = rw (x-is, y-is, back z x-small, back (pos n) (omega arith))

  pub difference_fits : SFits w64 (to_z w64 (of_z w64 x) -ℤ to_z w64 (of_z w64 y))
  difference_fits = rw difference_is (sfits_of (omega (arith, minus_size z n)))

  pub difference_read : to_z w64 (of_z w64 (to_z w64 (of_z w64 x) -ℤ to_z w64 (of_z w64 y))) ≡ z -ℤ pos n
  difference_read = to_z-of_z difference_fits ∙ difference_is

-- the sizes on the way to the total
pub reduction_size :
    (baseline : Co2e) (operator : Operator) →
    mag (reduction_of baseline operator) ≤ baseline.0 + operator.project_methane.0 + (metered_of operator).0 + 1
reduction_size baseline operator =
    omega (
      arith,
      minus_size (pos baseline.0) operator.project_methane.0,
      lesser_size (modelled_of baseline operator) (pos (metered_of operator).0),
    )

pub total_size :
    (baseline : Co2e) (operator : Operator) →
    mag (total_of baseline operator) ≤
    baseline.0 + operator.project_methane.0 + (metered_of operator).0 + operator.baseline_co2.0 + operator.project_co2.0 + 3
unfolding total_of
total_size baseline operator =
    let reduction = reduction_of baseline operator in
    omega (
      arith,
      reduction_size baseline operator,
      plus_size reduction operator.baseline_co2.0,
      minus_size (reduction +ℤ pos operator.baseline_co2.0) operator.project_co2.0,
    )

-- the total, from the numbers that its code holds: the reduction x, the baseline's carbon dioxide y and the project's z
module _ (baseline : Co2e) (operator : Operator) (small : baseline.0 < sums_most) (fits : OperatorFits operator) {x y : ℤ} (x-is : x ≡ reduction_of baseline operator) (y-is : y ≡ pos operator.baseline_co2.0) where
  abbrev added : ℤ
  added = reduction_of baseline operator +ℤ pos operator.baseline_co2.0

  reduction_small : mag (reduction_of baseline operator) < 2 ^ 62
  reduction_small = omega (arith, reduction_size baseline operator, fits.project_methane, fits.metered)

  added_small : mag added < 2 ^ 62
  added_small =
      omega (
        arith,
        plus_size (reduction_of baseline operator) operator.baseline_co2.0,
        reduction_size baseline operator,
        fits.project_methane,
        fits.metered,
        fits.baseline_co2,
      )

  added_is : to_z w64 (of_z w64 x) +ℤ to_z w64 (of_z w64 y) ≡ added
  added_is = sum_is (reduction_of baseline operator) operator.baseline_co2.0 x-is y-is reduction_small fits.baseline_co2

  module _ {z : ℤ} (z-is : z ≡ pos operator.project_co2.0) where
    pub total_read :
        to_z w64 (of_z w64 (to_z w64 (of_z w64 (to_z w64 (of_z w64 x) +ℤ to_z w64 (of_z w64 y))) -ℤ to_z w64 (of_z w64 z))) ≡ total_of baseline operator
    unfolding total_of
    total_read = difference_read added operator.project_co2.0 added_is z-is added_small fits.project_co2
