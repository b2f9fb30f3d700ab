-- `year_lines::YearFigures::entered_in_month` meets its contract: the days that it reads are a month's. Assumes nothing.
use mathlib.Core.Path.{refl}
use Rattle.year_lines.proofs.Entered.{days_held, entry_is}
use Rattle.year_lines.proofs.YearFigures.entered_in_month.Goals as goal

pub entered-requires-clause-month_days : goal.entered-requires-clause-month_days
entered-requires-clause-month_days c = let self = c.args.self.now in days_held self.book.now self.year self.has_days _

pub returns : goal.returns
returns c =
    let self = c.args.self.now in
    entry_is self.book.now c.args.line self.year refl c.args.passed c.requires.of_year self.in_period.low c.requires.its_numbers c.own_heads.ensures
    self.has_days c.entered.ensures
