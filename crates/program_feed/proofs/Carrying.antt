-- A cut record's bytes are moved to the block's start, where they are held. Assumes nothing.
use mathlib.Core.Path.{◌≡◌, ap}
use mathlib.Core.List.{List, ◌++◌}
use Prim.Native.Nat.{ℕ, ◌+◌, ◌-◌, ◌≤◌}
use native.Mathlib.Omega.{arith}
use lib.ListN.{length, take, drop, length-drop}
use lib.Seq.{length-take-le, take_at}
use Rattle.std.specs.List.{copy_within}
use Rattle.program_feed.specs.Blocks.{carried}

pub moved : (block : List ℕ) (from to : ℕ) → copy_within block from to 0 ≡ carried block from to
unfolding carried
moved block from to =
    let e : 0 + (to - from) ≡ to - from = omega arith in
    ap (λ (n : ℕ). take (to - from) (drop from block) ++ drop n block) e

pub held : (block : List ℕ) (from to : ℕ) → to ≤ length block → take (to - from) (carried block from to) ≡ take (to - from) (drop from block)
unfolding carried
held block from to h =
    take_at (take (to - from) (drop from block)) (drop (to - from) block) (to - from)
    (length-take-le (to - from) (drop from block) (omega (arith, length-drop from block)))
