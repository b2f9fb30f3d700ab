-- `number_bytes::number`: value is the number of the bytes after those that are left. Assumes nothing.
use Rattle.number_bytes.proofs.Numbers.{SoFar}
use Rattle.number_bytes.proofs.number.Given as goal

abbrev pub invariant-loop-byte : goal.invariant-loop-byte
invariant-loop-byte l = SoFar l.bytes l.at l.wide l.value l.byte-iterator.iter.rest.now
