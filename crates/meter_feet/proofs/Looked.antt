-- What is looked at in an hour in cubic feet, and what is not: a missing value's bits change nothing, and without 8 in the state a bad temperature or
-- pressure has the hour refused, flow or none.
-- Assumes nothing.
use Prim.Native.Nat.{ℕ}
use mathlib.Core.Bool.{true, false}
use mathlib.Core.Path.{◌≡◌, refl}
use lib.Dec.{ltb}
use lib.Ieee.{Float}
use Rattle.laws.proofs.Picking.{either}
use Rattle.meter_reading.specs.Exact.{temperature_of, pressure_of}
use Rattle.std.specs.Prelude.{Option, Some, None}
use Rattle.meter_state.specs.State.{has}
use Rattle.meter_hour.specs.declared.Recorded.{Recorded}
use Rattle.meter_feet.specs.declared.Sample.{Sample}
use Rattle.meter_feet.specs.Feet.{counting, flow_in, content_in, recorded_of}

-- an hour of a state, with these four readings
abbrev pub hour : ℕ → Float → Float → Float → Float → Option Recorded
hour state flow content temperature pressure =
    recorded_of (record { flow = flow; content = content; temperature = temperature; pressure = pressure }) state

module _ (state : ℕ) (flow content temperature pressure : Float) where
  pub with_eight : (f t p : Float) → has 8 state ≡ true → hour state flow content temperature pressure ≡ hour state f content t p
  unfolding recorded_of flow_in content_in
  with_eight f t p e = rw e

  pub without_flow : (f : Float) → has 1 state ≡ true → hour state flow content temperature pressure ≡ hour state f content temperature pressure
  unfolding recorded_of flow_in content_in
  without_flow f e = rw e

  pub without_content : (c : Float) → has 2 state ≡ true → hour state flow content temperature pressure ≡ hour state flow c temperature pressure
  unfolding recorded_of flow_in content_in
  without_content c e = rw e

  -- what is read
  abbrev sample : Sample
  sample = record { flow = flow; content = content; temperature = temperature; pressure = pressure }

  bad_flow : flow_in sample state ≡ None → hour state flow content temperature pressure ≡ None
  unfolding recorded_of
  bad_flow e = rw e (either (λ (x : Option Recorded). x ≡ None) (ltb 15 state) refl refl)

  no_temperature : has 8 state ≡ false → temperature_of temperature ≡ None → flow_in sample state ≡ None
  unfolding flow_in
  no_temperature e t = rw (e, t)

  -- whatever the temperature
  none_counted : (m : Option ℕ) → counting m (λ n. None) ≡ None
  none_counted (Some n) = refl
  none_counted None = refl

  no_pressure : has 8 state ≡ false → pressure_of pressure ≡ None → flow_in sample state ≡ None
  unfolding flow_in
  no_pressure e p = rw (e, p) (none_counted (temperature_of temperature))

  pub bad_temperature : has 8 state ≡ false → temperature_of temperature ≡ None → hour state flow content temperature pressure ≡ None
  bad_temperature e t = bad_flow (no_temperature e t)

  pub bad_pressure : has 8 state ≡ false → pressure_of pressure ≡ None → hour state flow content temperature pressure ≡ None
  bad_pressure e p = bad_flow (no_pressure e p)
