-- `record_judge::keyed`: from byte i of the key on, wrong is the place of the first that is outside its range, and bytes has them. Assumes nothing.
use mathlib.Core.Path.{◌≡◌}
use Prim.Native.Nat.{◌+◌}
use lib.ListN.{length, drop}
use Rattle.record_judge.specs.Record.{key_in}
use Rattle.record_judge.specs.Keyed.{key_outside}
use Rattle.record_judge.proofs.keyed.Given as goal

abbrev pub invariant-loop-i : goal.invariant-loop-i
invariant-loop-i g l = (l.wrong ≡ key_outside (2 + l.i) (drop l.i l.key.most) l.posted l.fn.outside) × (drop l.i l.bytes ≡ key_in (2 + l.i) (drop l.i l.key.most) l.posted) × (length l.bytes ≡ length l.key.most)
