-- `year_lines::YearFigures::line_hands_on` meets its contract: each month starts from the standing that the month before handed on.
-- Assumes nothing.
use mathlib.Core.Path.{sym, ap, ◌∙◌}
use native.Mathlib.Omega.{arith}
use Rattle.std.specs.Prelude.{◌+◌, Some}
use Rattle.year_months.specs.Series.{months_before}
use Rattle.year_months.proofs.Arrays.{array_at}
use Rattle.year_lines.proofs.Bounds.{month_fits}
use Rattle.year_lines.proofs.Carrying.{begun, month_more, ended}
use Rattle.year_lines.proofs.YearFigures.line_hands_on.Goals as goal

pub loop-passed-init : goal.loop-passed-init
loop-passed-init c = begun _ _ c.args.self.now.year (sym c.system.ensures ∙ c.in-Some-eq0.is ∙ ap Some c.in-Some-eq0.field-0-test) c.requires.handed

pub month-requires : goal.month-requires
month-requires c =
    let self = c.args.self.now in
    month_fits self.book.now c.known.ensures c.args.line c.requires.line_of_book (months_before self.year + c.loop-passed.passed)
    (omega (arith, self.in_period.high)) c.loop-passed.invariant c.month_of_line-month.ensures

pub loop-passed-preserved : goal.loop-passed-preserved
loop-passed-preserved c =
    month_more _ _ (months_before c.args.self.now.year) c.loop-passed.passed c.loop-passed.invariant c.month_of_line-month.ensures c.month.ensures

pub returns : goal.returns
returns c = ended _ _ c.args.self.now.year c.loop-passed.passed c.args.self.now.in_period.low (omega arith) c.loop-passed.invariant

pub month_of_line-month-requires-clause-its_entry : goal.month_of_line-month-requires-clause-its_entry
month_of_line-month-requires-clause-its_entry c = array_at c.entered_by_line-entered.ensures c.loop-passed.passed (omega arith)
