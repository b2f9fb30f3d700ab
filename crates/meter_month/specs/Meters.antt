-- A meter of either kind: what its hours are, and that its lists are a month's.
use Rattle.std.specs.Prelude.{ℕ, Bool, not, cond, List, Option, Result, Err, length}
use Rattle.units.specs.declared.methane.Methane.{Methane}
use Rattle.refusals.specs.Refusal.{refusal}
use Rattle.refusals.specs.declared.{Refusal.Refusal, Reason.TheVariants.NoMonth}
use Rattle.meter_hour.specs.Hour.{hour_at}
use Rattle.meter_hour.specs.declared.{Recorded.Recorded, Kind.Kind, Kind.TheVariants.CubicMetres, Kind.TheVariants.CubicFeet}
use Rattle.meter_feet.specs.Feet.{hour_at as feet_hour_at}
use Rattle.meter_month.specs.Month.{are_hours, are_feet_hours, hours_of}
use Rattle.meter_month.specs.Asks.{AsLong, AllAsLong}
use Rattle.meter_month.specs.declared.meter.Meter.{Meter, TheVariants.CubicMetres as InMetres, TheVariants.CubicFeet as InFeet}

abbrev pub kind_of : Meter → Kind
kind_of (InMetres flows contents states) = CubicMetres
kind_of (InFeet flows contents temperatures pressures states) = CubicFeet

abbrev pub states_of : Meter → List ℕ
states_of (InMetres flows contents states) = states.now
states_of (InFeet flows contents temperatures pressures states) = states.now

-- the hours of a meter of either kind
abbrev pub hour_in : Meter → ℕ → Option Recorded
hour_in (InMetres flows contents states) = hour_at flows.now contents.now states.now
hour_in (InFeet flows contents temperatures pressures states) = feet_hour_at flows.now contents.now temperatures.now pressures.now states.now

-- its lists have a value for each of its states, and these are no more than a month has hours
abbrev pub IsMonth : Meter → Type 0
IsMonth (InMetres flows contents states) = AsLong (length flows.now) (length contents.now) (length states.now)
IsMonth (InFeet flows contents temperatures pressures states) =
    AllAsLong (length flows.now) (length contents.now) (length temperatures.now) (length pressures.now) (length states.now)

-- as the code asks it: refusal 10 is not given
abbrev pub is_month_in : Meter → Bool
is_month_in (InMetres flows contents states) = are_hours (length flows.now) (length contents.now) (length states.now)
is_month_in (InFeet flows contents temperatures pressures states) =
    are_feet_hours (length flows.now) (length contents.now) (length temperatures.now) (length pressures.now) (length states.now)

-- the month of a meter of either kind, `month_of` or `feet_month_of` of its lists
abbrev pub meter_month_of : Meter → ℕ → Result Methane Refusal
meter_month_of meter efficiency =
    cond (not (is_month_in meter)) (Err (refusal NoMonth 0)) (hours_of (kind_of meter) efficiency (states_of meter) (hour_in meter))
