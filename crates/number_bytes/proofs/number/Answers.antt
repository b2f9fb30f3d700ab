-- `number_bytes::number`: each turn takes the last byte that is left. Assumes nothing.
use Rattle.number_bytes.proofs.Numbers.{turn}
use Rattle.number_bytes.proofs.number.Goals as goal

pub loop-byte-preserved : goal.loop-byte-preserved
loop-byte-preserved c = rw c.from.ensures (turn _ _ _ _ _ _ _ c.in-Some.ensures.steps c.loop-byte.invariant)
