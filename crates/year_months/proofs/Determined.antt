-- No two outcomes fit the contract of a public function. Assumes nothing.
use Prim.Native.Nat.{ℕ, ◌+◌}
use mathlib.Core.Path.{◌≡◌, subst}
use mathlib.Core.List.{List}
use native.Mathlib.Omega.{arith}
use lib.ListN.{get_or}
use lib.Seq.{ext_get_or}
use Rattle.laws.proofs.Determined.{OneAnswer, one}
use Rattle.year_months.specs.Asks.{Holds}
use Rattle.year_months.proofs.period.Year.of.Reads as YearOf
use Rattle.year_months.proofs.period.Year.number.Reads as YearNumber
use Rattle.year_months.proofs.period.Year.months_before.Reads as MonthsBefore
use Rattle.year_months.proofs.period.Year.months_through.Reads as MonthsThrough
use Rattle.year_months.proofs.days.Reads as Days
use Rattle.year_months.proofs.factors.Reads as Factors

pub year_of_one : OneAnswer YearOf.Learnt
year_of_one κ a x y s t = one

pub year_number_one : OneAnswer YearNumber.Learnt
year_number_one κ a x y s t p q = one p.0 q.0

pub months_before_one : OneAnswer MonthsBefore.Learnt
months_before_one κ a x y s t p q = one p.0 q.0

pub months_through_one : OneAnswer MonthsThrough.Learnt
months_through_one κ a x y s t p q = one p.0 q.0

-- an array that holds a series at as many numbers as it has entries is one
pub same_array :
    {entries before : ℕ} {series : ℕ → ℕ} {x y : List ℕ} → Holds ℕ 0 entries before entries series x → Holds ℕ 0 entries before entries series y → x ≡ y
same_array {x = x} {y = y} p q =
    ext_get_or 0 x y (one p.long q.long)
    (λ i inside.
    subst (λ (k : ℕ). get_or x k 0 ≡ get_or y k 0) (omega arith)
    (one (p.each (i + 1) (omega arith) (omega (arith, p.long))) (q.each (i + 1) (omega arith) (omega (arith, p.long)))))

pub days_one : OneAnswer Days.Learnt
days_one κ a x y s t = same_array

pub factors_one : OneAnswer Factors.Learnt
factors_one κ a x y s t = same_array
