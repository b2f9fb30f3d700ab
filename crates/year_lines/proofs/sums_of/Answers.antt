-- `year_lines::sums_of` meets its contract: before each year stands what the years before it handed on.
-- Assumes nothing.
use native.Mathlib.Omega.{arith}
use Rattle.year_lines.proofs.Carrying.{none_handed}
use Rattle.year_lines.proofs.sums_of.Goals as goal

pub loop-earlier-init : goal.loop-earlier-init
loop-earlier-init c = (omega arith, c.number-earlier-end.ensures.in_period.low, none_handed _ c.empty-standings.ensures)
