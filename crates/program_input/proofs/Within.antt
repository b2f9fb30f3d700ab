-- The bytes that a read gave lie within its room. Assumes nothing.
use Prim.Native.Nat.{ℕ, ◌≤◌}
use native.Mathlib.Omega.{arith}
use Rattle.std.specs.Prelude.{Result, Ok, Err}
use Rattle.program_input.specs.Got.{got_by, Room}

pub roomy : {E : Type 0} (answer : Result ℕ E) (n m : ℕ) → n ≤ m → Room (got_by answer n) m
roomy (Ok k) n m h = omega arith
roomy (Err e) n m h = tt
