-- `record_table::slot`: before counts the keys before this one by the bytes looked at. Assumes nothing.
use mathlib.Core.Path.{◌≡◌}
use Prim.Native.Nat.{◌^◌, ◌<◌}
use lib.ListN.{length, drop}
use Rattle.record_table.proofs.Slots.{counted_on}
use Rattle.record_table.proofs.slot.Given as goal

abbrev pub invariant-loop-high : goal.invariant-loop-high
invariant-loop-high g l =
    (counted_on l.before (drop (length l.yielded) l.fn.key.most) (drop (length l.yielded) l.fn.bytes) ≡ counted_on 0 l.fn.key.most l.fn.bytes)
    × (l.before < 256 ^ length l.yielded)
