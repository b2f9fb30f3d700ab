-- After so many months of the year the standing is theirs. Assumes nothing.
use Prim.Native.Nat.{◌+◌}
use Rattle.year_months.specs.Series.{months_before}
use Rattle.year_lines.proofs.Carrying.{Stands}
use Rattle.year_lines.proofs.YearFigures.line_hands_on.Given as goal

abbrev pub invariant-loop-passed : goal.invariant-loop-passed
invariant-loop-passed l = Stands l.self.book.now l.line (months_before l.self.year + l.passed) l.standing
