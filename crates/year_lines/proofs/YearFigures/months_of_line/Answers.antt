-- `year_lines::YearFigures::months_of_line` meets its contract: each turn makes one month more. Assumes nothing.
use native.Mathlib.Omega.{arith}
use Rattle.lagoon_run.specs.Run.{no_month}
use Rattle.year_months.proofs.Arrays.{array_at, array_more}
use Rattle.year_lines.proofs.YearFigures.months_of_line.Goals as goal

pub loop-passed-preserved : goal.loop-passed-preserved
loop-passed-preserved c =
    let loop = c.loop-passed in array_more no_month _ _ _ loop.month-items loop.passed _ (omega arith) c.month_of_line.ensures loop.invariant

pub month_of_line-requires-clause-its_entry : goal.month_of_line-requires-clause-its_entry
month_of_line-requires-clause-its_entry c = array_at c.entered_by_line-entered.ensures c.loop-passed.passed (omega arith)
