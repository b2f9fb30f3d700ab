-- An hour of a meter in cubic feet: what it recorded, its flow corrected by temperature and pressure (02, (iii)).
use Rattle.std.specs.Prelude.{ℕ, ◌*◌, ◌/◌, cond, Option, Some, None}
use mathlib.Core.List.{List}
use lib.{Dec.ltb, Ieee.Float, Ieee.nan, ListN.get_or}
use Rattle.meter_reading.specs.Exact.{cubic_feet_of, temperature_of, pressure_of, hundredths_of}
use Rattle.meter_state.specs.State.{has}
use Rattle.meter_hour.specs.Hour.{both}
use Rattle.meter_hour.specs.declared.Recorded.{Recorded}
use Rattle.meter_feet.specs.declared.Sample.{Sample}

-- a flow as it were at 520 degrees and 1 atm (5.6, for 5.10), in hundredths of a standard cubic foot, rounded down once: of hundredths of a
-- cubic foot, at a temperature in hundredths and a pressure in ten-thousandths
unfoldable pub corrected_of : ℕ → ℕ → ℕ → ℕ
corrected_of flow temperature pressure = flow * 52000 * pressure / (temperature * 10000)

-- a value that is present is counted, or is bad: the outer None says that one is bad, the inner one that nothing is there
abbrev pub counting : Option ℕ → (ℕ → Option (Option ℕ)) → Option (Option ℕ)
counting (Some n) counted = counted n
counting None counted = None

-- the corrected flow. 8 is added to the state where temperature or pressure is missing: flow and both are then ignored, and the flow counts as
-- missing. Without it both are checked, flow or none.
unfoldable pub flow_in : Sample → ℕ → Option (Option ℕ)
flow_in sample state =
    cond (has 8 state) (Some None)
    (counting (temperature_of sample.temperature) (λ temperature.
    counting (pressure_of sample.pressure) (λ pressure.
    cond (has 1 state) (Some None)
    (counting (cubic_feet_of sample.flow) (λ flow. Some (Some (corrected_of flow temperature pressure)))))))

-- the content, as in 01
unfoldable pub content_in : Sample → ℕ → Option (Option ℕ)
content_in sample state = cond (has 2 state) (Some None) (counting (hundredths_of sample.content) (λ content. Some (Some content)))

-- an hour with a bad value is refused, and so is one whose state is above 15
unfoldable pub recorded_of : Sample → ℕ → Option Recorded
recorded_of sample state = cond (ltb 15 state) None (both (flow_in sample state) (content_in sample state))

-- hour h of a month, from 0; past the last hour nothing is there: state 11 has no flow, no content and no temperature or pressure
unfoldable pub hour_at : List Float → List Float → List Float → List Float → List ℕ → ℕ → Option Recorded
hour_at flows contents temperatures pressures states h =
    recorded_of
    (record {
      flow = get_or flows h nan;
      content = get_or contents h nan;
      temperature = get_or temperatures h nan;
      pressure = get_or pressures h nan;
    })
    (get_or states h 11)
