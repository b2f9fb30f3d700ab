-- The month of one meter, of either kind (01, "The meter month", "Refusal numbers"; 02, (iii)).
use Rattle.std.specs.Prelude.{ℕ, ◌-◌, Bool, not, ◌&&◌, ◌||◌, cond, List, Option, Result, Ok, Err}
use lib.{Dec.eqb, Dec.ltb, Ieee.Float, ListN.length}
use Rattle.laws.specs.Counting.{sum, first_from}
use Rattle.units.specs.Grams.{methane}
use Rattle.units.specs.declared.methane.Methane.{Methane}
use Rattle.refusals.specs.Refusal.{refusal}
use Rattle.refusals.specs.declared.{Refusal.Refusal, Reason.TheVariants.OutOfRange, Reason.TheVariants.NoMonth, Reason.TheVariants.BadHour}
use Rattle.meter_state.specs.State.{state_at}
use Rattle.meter_gaps.specs.Filling.{filled}
use Rattle.meter_hour.specs.Hour.{hour_at, is_refused, flow_of, content_of, hour_of, whole_efficiency}
use Rattle.meter_hour.specs.declared.{Recorded.Recorded, Kind.Kind, Kind.TheVariants.CubicMetres, Kind.TheVariants.CubicFeet}
use Rattle.meter_feet.specs.Feet.{hour_at as feet_hour_at}

-- what two series, of flows and of contents, have at hour h
abbrev pub both_at : (ℕ → Option ℕ) → (ℕ → Option ℕ) → ℕ → Recorded
both_at flow content h = record { flow = flow h; content = content h }

-- the sum over n hours, the k-th of which is hour k - 1, with these states, flows and contents as recorded, and flows and contents after filling
unfoldable pub grams_of : Kind → ℕ → (ℕ → ℕ) → (ℕ → Option ℕ) → (ℕ → Option ℕ) → (ℕ → Option ℕ) → (ℕ → Option ℕ) → ℕ → ℕ
grams_of kind efficiency state f c flow content n =
    sum n (λ k. let h = k - 1 in hour_of kind efficiency (state h) (both_at f c h) (both_at flow content h))

-- gaps are filled with averages in what the two series count: whole litres or whole hundredths of a standard cubic foot, and whole hundredths of
-- a per cent
unfoldable pub destroyed_of : Kind → ℕ → (ℕ → ℕ) → (ℕ → Option ℕ) → (ℕ → Option ℕ) → ℕ → ℕ
destroyed_of kind efficiency state f c n = grams_of kind efficiency state f c (filled f n) (filled c n) n

-- what each hour recorded of one of the two, flow or content
abbrev pub recorded : (Option Recorded → Option ℕ) → (ℕ → Option Recorded) → ℕ → Option ℕ
recorded part hour h = part (hour h)

-- grams destroyed in a month of hours, as many as there are states
unfoldable pub metered_of : Kind → ℕ → List ℕ → (ℕ → Option Recorded) → ℕ
metered_of kind efficiency states hour =
    destroyed_of kind efficiency (state_at states) (recorded flow_of hour) (recorded content_of hour) (length states)

-- a month has 28 to 31 days
abbrev pub is_month : ℕ → Bool
is_month hours = eqb hours 672 || eqb hours 696 || eqb hours 720 || eqb hours 744

-- refusal 10 is not given: each hour has two readings and a state, and the states are a month's
abbrev pub are_hours : ℕ → ℕ → ℕ → Bool
are_hours readings others states = eqb readings states && eqb others states && is_month states

-- the same of the five lists of a meter in cubic feet
abbrev pub are_feet_hours : ℕ → ℕ → ℕ → ℕ → ℕ → Bool
are_feet_hours flows contents temperatures pressures states = are_hours flows contents states && are_hours temperatures pressures states

-- the first of n hours for which refusal 11 is given; n where there is none
abbrev pub first_refused : (ℕ → Option Recorded) → ℕ → ℕ
first_refused hour n = first_from 0 n (λ h. is_refused (hour h))

-- what a month of hours is refused for after that, in this order; otherwise it states the grams destroyed
unfoldable pub hours_of : Kind → ℕ → List ℕ → (ℕ → Option Recorded) → Result Methane Refusal
hours_of kind efficiency states hour =
    cond (ltb whole_efficiency efficiency) (Err (refusal OutOfRange 0))
    (cond (ltb (first_refused hour (length states)) (length states)) (Err (refusal BadHour (first_refused hour (length states))))
    (Ok (methane (metered_of kind efficiency states hour))))

-- the month of a meter in cubic metres: all of its refusals in the order of `refusals/Refusal.month_order`
unfoldable pub month_of : List Float → List Float → List ℕ → ℕ → Result Methane Refusal
month_of flows contents states efficiency =
    cond (not (are_hours (length flows) (length contents) (length states))) (Err (refusal NoMonth 0))
    (hours_of CubicMetres efficiency states (hour_at flows contents states))

-- and of one in cubic feet
unfoldable pub feet_month_of : List Float → List Float → List Float → List Float → List ℕ → ℕ → Result Methane Refusal
feet_month_of flows contents temperatures pressures states efficiency =
    cond (not (are_feet_hours (length flows) (length contents) (length temperatures) (length pressures) (length states))) (Err (refusal NoMonth 0))
    (hours_of CubicFeet efficiency states (feet_hour_at flows contents temperatures pressures states))
