-- After so many months of the year the array holds them. Assumes nothing.
use Rattle.calendar.specs.Days.{months_in_year}
use Rattle.lagoon_month.specs.declared.Month.{Month}
use Rattle.lagoon_run.specs.Run.{no_month}
use Rattle.year_months.specs.Asks.{Holds}
use Rattle.year_months.specs.Series.{months_before}
use Rattle.year_lines.specs.Lines.{month_at}
use Rattle.year_lines.proofs.YearFigures.months_of_line.Given as goal

abbrev pub invariant-loop-passed : goal.invariant-loop-passed
invariant-loop-passed l = Holds Month no_month months_in_year (months_before l.self.year) l.passed (month_at l.self.book.now l.line) l.month-items
