-- The years before this one are laid (Walk). Assumes nothing.
use Rattle.print_years.proofs.Walk.{Walked}
use Rattle.print_years.proofs.lay_years.Given as goal

abbrev pub invariant-loop-year : goal.invariant-loop-year
invariant-loop-year l = Walked l.book l.fn.page l.year l.at l.page
