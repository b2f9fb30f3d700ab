-- At 520 degrees and 1 atm the corrected flow is the flow, whatever it is. Assumes nothing.
use Prim.Native.Nat.{ℕ}
use mathlib.Core.Path.{◌≡◌}
use native.Mathlib.Omega.{arith}
use Rattle.meter_feet.specs.Feet.{corrected_of}

pub standard_flow : (flow : ℕ) → corrected_of flow 52000 10000 ≡ flow
unfolding corrected_of
standard_flow flow = omega arith
