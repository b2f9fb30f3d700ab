-- After so many lines the sums are theirs. Assumes nothing.
use mathlib.Core.Path.{◌≡◌}
use Rattle.year_lines.specs.Lines.{all, line_in, sums_over}
use Rattle.year_lines.proofs.YearFigures.sums_from.Given as goal

abbrev pub invariant-loop-passed : goal.invariant-loop-passed
invariant-loop-passed l = l.sums ≡ sums_over (line_in l.self.book.now l.self.year) all l.passed
