-- The sums of the lines before the one that the loop has come to. Assumes nothing.
use Prim.Native.Nat.{◌-◌}
use Rattle.year_shares.specs.Asks.{Shared}
use Rattle.year_shares.proofs.shares.Given as goal

abbrev pub invariant-loop-line : goal.invariant-loop-line
invariant-loop-line l = Shared l.book (l.line - 1) l.shares
