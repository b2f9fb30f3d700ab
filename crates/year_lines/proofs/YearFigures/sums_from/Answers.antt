-- `year_lines::YearFigures::sums_from` meets its contract: a line that is passed is added to the sums. Assumes nothing.
use Rattle.year_lines.proofs.BySystem.{one_line_more}
use Rattle.year_lines.proofs.YearFigures.sums_from.Goals as goal

pub loop-passed-preserved : goal.loop-passed-preserved
loop-passed-preserved c = let loop = c.loop-passed in one_line_more _ loop.passed loop.invariant c.line_from.ensures c.plus-sums.ensures
