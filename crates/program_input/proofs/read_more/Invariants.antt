-- An interrupted read changes no byte that is held. Assumes nothing.
use mathlib.Core.Path.{◌≡◌}
use lib.ListN.{take}
use Rattle.program_input.proofs.read_more.Given as goal

abbrev pub invariant-loop : goal.invariant-loop
invariant-loop g l = take l.held l.block ≡ take l.held l.fn.block
