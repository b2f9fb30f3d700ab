-- `year_lines::sums_of` meets its contract: before each year stands what the years before it handed on.
-- Assumes nothing.
use Prim.Native.Nat.{◌-◌, ◌≤◌}
use Rattle.year_lines.specs.Asks.{Standings}
use Rattle.year_lines.proofs.sums_of.Given as goal

abbrev pub invariant-loop-earlier : goal.invariant-loop-earlier
invariant-loop-earlier l = (1 ≤ l.earlier) × (l.earlier ≤ l.fn.year) × Standings l.book (l.earlier - 1) l.standings
