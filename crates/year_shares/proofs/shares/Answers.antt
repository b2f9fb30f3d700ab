-- `year_shares::shares` meets its contract: a line's share is added to its category's sum, and none passes that of the ranges' ends.
-- Assumes nothing.
use Prim.Native.Nat.{◌-◌}
use native.Mathlib.Omega.{arith}
use Rattle.year_shares.proofs.Ranges.{ShareRanged, share_ranged}
use Rattle.year_shares.proofs.Sharing.{shared_more, shared_most, shared_none}
use Rattle.year_shares.proofs.shares.Goals as goal

pub loop-line-init : goal.loop-line-init
loop-line-init c = shared_none _

pub overflow_add-shares : goal.overflow_add-shares
overflow_add-shares c =
    let loop = c.loop-line in
    let ranged : ShareRanged c.line_at-numbers.result = rw c.line_at-numbers.ensures (share_ranged c.args.book.now c.known.ensures loop.line (omega arith)) in
    omega (
      arith,
      ranged.share,
      shared_most c.args.book.now c.known.ensures (loop.line - 1) (omega arith) loop.invariant c.line_at-numbers.result.category ranged.category,
    )

pub loop-line-preserved : goal.loop-line-preserved
loop-line-preserved c =
    let loop = c.loop-line in
    let ranged : ShareRanged c.line_at-numbers.result = rw c.line_at-numbers.ensures (share_ranged c.args.book.now c.known.ensures loop.line (omega arith)) in
    shared_more c.args.book.now loop.line (omega arith) c.line_at-numbers.ensures ranged.category loop.invariant
