-- `year_lines::YearFigures::hand_on` meets its contract: a line that is passed has its standing renewed. Assumes nothing.
use native.Mathlib.Omega.{arith}
use Rattle.year_lines.proofs.Carrying.{renewed_more}
use Rattle.year_lines.proofs.YearFigures.hand_on.Goals as goal

pub loop-passed-preserved : goal.loop-passed-preserved
loop-passed-preserved c = let loop = c.loop-passed in renewed_more _ _ loop.passed (omega arith) c.line_hands_on.ensures loop.invariant
