-- An hour of a meter: what it recorded, and what of that was destroyed (01, "The meter month"; 02, (iii)).
use Rattle.std.specs.Prelude.{ℕ, ◌*◌, ◌/◌, Bool, cond, ◌||◌, Option, Some, None, is_none, option_map}
use mathlib.Core.List.{List}
use lib.{Dec.ltb, Ieee.Float}
use Rattle.units.specs.Grams.{density, share_of}
use Rattle.meter_reading.specs.Exact.{litres_of, hundredths_of}
use Rattle.meter_state.specs.State.{is_out, state_at, reading_at}
use Rattle.meter_state.specs.declared.Reading.{Reading, TheVariants.Both, TheVariants.NoFlow, TheVariants.NoContent, TheVariants.Neither}
use Rattle.meter_series.specs.Series.{amount, is_recorded}
use Rattle.meter_hour.specs.declared.{Recorded.Recorded, Kind.Kind, Kind.TheVariants.CubicMetres, Kind.TheVariants.CubicFeet}

-- a flow and a content, where neither was turned down; else their hour is refused
abbrev pub both : Option (Option ℕ) → Option (Option ℕ) → Option Recorded
both (Some flow) (Some content) = Some (record { flow = flow; content = content })
both (Some flow) None = None
both None content = None

-- the flow in litres and the content in hundredths of a per cent, each where the reading has it. Of each the outer None says that it is turned down, the
-- inner one that it is not there.
unfoldable pub recorded_of : Reading → Option Recorded
recorded_of (Both flow content) = both (option_map Some (litres_of flow)) (option_map Some (hundredths_of content))
recorded_of (NoFlow content) = both (Some None) (option_map Some (hundredths_of content))
recorded_of (NoContent flow) = both (option_map Some (litres_of flow)) (Some None)
recorded_of Neither = both (Some None) (Some None)

-- hour h of a month, device out or not; a state above 7 has it refused too (01, "Refusal numbers", 11)
unfoldable pub hour_at : List Float → List Float → List ℕ → ℕ → Option Recorded
hour_at flows contents states h = cond (ltb 7 (state_at states h)) None (recorded_of (reading_at flows contents states h))

abbrev pub is_refused : Option Recorded → Bool
is_refused hour = is_none hour

-- the flow that an hour recorded, and its content
abbrev pub flow_of : Option Recorded → Option ℕ
flow_of (Some recorded) = recorded.flow
flow_of None = None

abbrev pub content_of : Option Recorded → Option ℕ
content_of (Some recorded) = recorded.content
content_of None = None

-- grams of methane in a flow of some content, rounded down: a litre of it weighs 0.68 grams (house); a standard cubic foot weighs 0.0423
-- pounds, each of 454 grams (5.6, for 5.10), and feet are counted in hundredths (02, (iii))
unfoldable pub grams_in : Kind → ℕ → ℕ → ℕ
grams_in CubicMetres litres hundredths = litres * hundredths * density / 1000000
grams_in CubicFeet feet hundredths = feet * hundredths * 423 * 454 / 10000000000

abbrev pub whole_efficiency : ℕ
whole_efficiency = 10000

-- destroyed, of what the hour recorded and what it has after filling: 0 where the device was out, or where neither was recorded. One that is
-- still missing after filling counts 0, and so does the hour.
unfoldable pub hour_of : Kind → ℕ → ℕ → Recorded → Recorded → ℕ
hour_of kind efficiency state recorded filled =
    cond (is_out state) 0
    (cond (is_recorded recorded.flow || is_recorded recorded.content)
    (share_of (grams_in kind (amount filled.flow) (amount filled.content)) efficiency whole_efficiency) 0)
