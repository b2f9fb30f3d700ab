-- Where an hour has no flow, or no content, nothing is weighed, whatever the kind of its meter. Assumes nothing.
use Prim.Native.Nat.{ℕ}
use mathlib.Core.Path.{◌≡◌}
use native.Mathlib.Omega.{arith}
use Rattle.meter_hour.specs.declared.Kind.{Kind}
use Rattle.meter_hour.specs.declared.Kind.TheVariants.{CubicMetres, CubicFeet}
use Rattle.meter_hour.specs.Hour.{grams_in}

pub no_flow : (k : Kind) (content : ℕ) → 0 ≡ grams_in k 0 content
unfolding grams_in
no_flow CubicMetres content = omega arith
no_flow CubicFeet content = omega arith

pub no_content : (k : Kind) (flow : ℕ) → 0 ≡ grams_in k flow 0
unfolding grams_in
no_content CubicMetres flow = omega arith
no_content CubicFeet flow = omega arith
