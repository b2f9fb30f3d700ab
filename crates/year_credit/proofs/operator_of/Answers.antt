-- `year_credit::operator_of` meets its contract: the loop ends after the year's twelve months. Assumes nothing.
use Prim.Native.Nat.{◌-◌}
use mathlib.Core.Path.{◌≡◌}
use native.Mathlib.Omega.{arith}
use Rattle.calendar.specs.Days.{months_in_year}
use Rattle.year_credit.proofs.operator_of.Goals as goal

pub returns-clause-value : goal.returns-clause-value
returns-clause-value c =
    let kept = c.loop-nth.invariant in
    let end : c.loop-nth.nth - 1 ≡ months_in_year = omega arith in
    rw (kept.project_methane, kept.baseline_co2, kept.project_co2, kept.destroyed, end, c.months_before-before.ensures.value)
