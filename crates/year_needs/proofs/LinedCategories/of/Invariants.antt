-- `year_needs::LinedCategories::of` meets its contract: the flags of the lines before the one that the loop has come to.
-- Assumes nothing.
use Prim.Native.Nat.{◌-◌, ◌≤◌}
use Rattle.year_needs.specs.Asks.{Lined}
use Rattle.year_needs.proofs.LinedCategories.of.Given as goal

abbrev pub invariant-loop-line : goal.invariant-loop-line
invariant-loop-line l = (1 ≤ l.line) × Lined l.book (l.line - 1) l.flags
