-- The hours of a meter of either kind: past the last one nothing is recorded, and no number of one is large.
-- Assumes nothing.
use Rattle.std.proofs.Common.{◌≡◌, ℕ, ◌≤◌, true, List, length, get_or, Option, Some, None, Float, refl}
use lib.Ieee.{nan}
use lib.ListN.{get_or-eq_default}
use Rattle.meter_state.specs.State.{reading_of}
use Rattle.meter_series.specs.Series.{amount, most_hours}
use Rattle.meter_hour.specs.declared.Recorded.{Recorded}
use Rattle.meter_hour.specs.Hour.{recorded_of, hour_at, flow_of, content_of}
use Rattle.meter_hour.specs.Room.{most_flow, most_content}
use Rattle.meter_hour.proofs.Sizes as Metres
use Rattle.meter_feet.proofs.Sizes as Feet
use Rattle.meter_feet.proofs.Past as FeetPast
use Rattle.meter_month.specs.declared.meter.Meter.{Meter, TheVariants.CubicMetres, TheVariants.CubicFeet}
use Rattle.meter_month.specs.Meters.{IsMonth, kind_of, states_of, is_month_in, hour_in}
use Rattle.meter_month.proofs.Hours.{as_long, all_as_long}

-- an hour that is taken, with neither value
abbrev pub neither : Option Recorded
neither = Some (record { flow = None; content = None })

neither_there : (flow content : Float) → recorded_of (reading_of 3 flow content) ≡ neither
unfolding recorded_of reading_of
neither_there flow content = refl

past_metres : (flows contents : List Float) (states : List ℕ) (h : ℕ) → length states ≤ h → hour_at flows contents states h ≡ neither
unfolding hour_at
past_metres flows contents states h l = rw (get_or-eq_default states 3 l) (neither_there (get_or flows h nan) (get_or contents h nan))

pub past : (meter : Meter) (h : ℕ) → length (states_of meter) ≤ h → hour_in meter h ≡ neither
past (CubicMetres flows contents states) = past_metres flows.now contents.now states.now
past (CubicFeet flows contents temperatures pressures states) = FeetPast.past flows.now contents.now temperatures.now pressures.now states.now

-- lists that are a month's have a value for each state
pub lists_fit : (meter : Meter) → is_month_in meter ≡ true → IsMonth meter
lists_fit (CubicMetres flows contents states) = as_long (length flows.now) (length contents.now) (length states.now)
lists_fit (CubicFeet flows contents temperatures pressures states) =
    all_as_long (length flows.now) (length contents.now) (length temperatures.now) (length pressures.now) (length states.now)

-- a month's lists are no longer than the longest month
pub states_most : (meter : Meter) → IsMonth meter → length (states_of meter) ≤ most_hours
states_most (CubicMetres flows contents states) long = long.2
states_most (CubicFeet flows contents temperatures pressures states) long = long.0.2

pub flows_small : (meter : Meter) (h : ℕ) → amount (flow_of (hour_in meter h)) ≤ most_flow (kind_of meter)
flows_small (CubicMetres flows contents states) = Metres.flows_small flows.now contents.now states.now
flows_small (CubicFeet flows contents temperatures pressures states) = Feet.flows_small flows.now contents.now temperatures.now pressures.now states.now

pub contents_small : (meter : Meter) (h : ℕ) → amount (content_of (hour_in meter h)) ≤ most_content
contents_small (CubicMetres flows contents states) = Metres.contents_small flows.now contents.now states.now
contents_small (CubicFeet flows contents temperatures pressures states) = Feet.contents_small flows.now contents.now temperatures.now pressures.now states.now
