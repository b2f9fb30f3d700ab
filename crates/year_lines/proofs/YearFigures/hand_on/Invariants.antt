-- After so many lines their standings are renewed. Assumes nothing.
use Rattle.year_lines.proofs.Carrying.{Renewed}
use Rattle.year_lines.proofs.YearFigures.hand_on.Given as goal

abbrev pub invariant-loop-passed : goal.invariant-loop-passed
invariant-loop-passed l = Renewed l.self.book.now l.self.year l.passed l.standing-items
