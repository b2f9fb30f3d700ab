-- What the functions of a month ask of the arrays that they are lent, and hand each other. It says nothing of what the figures are.
use Rattle.std.specs.Prelude.{ℕ, ◌≡◌, ◌≤◌, ◌<◌, List, cond, ltb, Option, Result, Ok, Err}
use Rattle.refusals.specs.Refusal.{refusal}
use Rattle.refusals.specs.declared.{Refusal.Refusal, Reason.TheVariants.BadHour}
use Rattle.meter_series.specs.Series.{series, most_hours}
use Rattle.meter_hour.specs.declared.Recorded.{Recorded}
use Rattle.meter_month.specs.Month.{first_refused}

-- as many flows and contents as states, and no more than a month has hours
abbrev pub AsLong : ℕ → ℕ → ℕ → Type 0
AsLong flows contents states = (flows ≡ states) × (contents ≡ states) × (states ≤ most_hours)

-- and as many temperatures and pressures
abbrev pub AllAsLong : ℕ → ℕ → ℕ → ℕ → ℕ → Type 0
AllAsLong flows contents temperatures pressures states = AsLong flows contents states × AsLong temperatures pressures states

-- the first n hours of a series stand in an array
abbrev pub Holds : List (Option ℕ) → ℕ → (ℕ → Option ℕ) → Type 0
Holds cells n s = (h : ℕ) → h < n → series cells h ≡ s h

-- n hours pass, or the first that is refused has them refused
abbrev pub passing_of : (ℕ → Option Recorded) → ℕ → Result (Unit {0}) Refusal
passing_of hour n = cond (ltb (first_refused hour n) n) (Err (refusal BadHour (first_refused hour n))) (Ok tt)
