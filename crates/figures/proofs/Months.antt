-- 01's figures of whole meter months ("Figures to check"), computed on the definitions; the program runs the same months. Then two months in cubic
-- feet. Assumes nothing.
use Prim.Native.Nat.{ℕ}
use mathlib.Core.Path.{◌≡◌, refl}
use Rattle.std.specs.Prelude.{Result, Ok}
use mathlib.Core.List.{◌++◌}
use lib.Ieee.{round}
use lib.ListN.{replicate}
use Rattle.units.specs.Grams.{methane}
use Rattle.meter_reading.specs.Exact.{is_between, times_down, scaled_of}
use Rattle.meter_state.specs.State.{reading_of}
use Rattle.laws.specs.Counting.{sum, first_from}
use Rattle.meter_gaps.specs.Filling.{start_of, total_of, average_of, fill_of, filled}
use Rattle.refusals.specs.declared.Refusal.{Refusal}
use Rattle.units.specs.declared.methane.Methane.{Methane}
use Rattle.meter_hour.specs.Hour.{recorded_of, hour_at, grams_in, hour_of}
use Rattle.meter_month.specs.Month.{grams_of, destroyed_of, metered_of, hours_of, month_of, feet_month_of}
use Rattle.meter_feet.specs.Feet as Feet
use Rattle.meter_feet.specs.Feet.{corrected_of, flow_in, content_in}
use Rattle.figures.proofs.Starred.{nearest}

-- 672 hours at 100.0 and 60.0, with no flow in so many hours from hour 10 on
abbrev month : ℕ → ℕ → Result Methane Refusal
month missing after =
    month_of (replicate 672 (nearest 100 1)) (replicate 672 (nearest 60 1)) (replicate 10 0 ++ (replicate missing 1 ++ replicate after 0)) 10000

pub five_missing : month 5 657 ≡ Ok (methane 27417600)
unfolding month_of hours_of metered_of destroyed_of grams_of sum hour_of grams_in hour_at recorded_of reading_of filled fill_of average_of start_of total_of first_from scaled_of is_between times_down round
five_missing = refl

pub six_missing : month 6 656 ≡ Ok (methane 27172800)
unfolding month_of hours_of metered_of destroyed_of grams_of sum hour_of grams_in hour_at recorded_of reading_of filled fill_of average_of start_of total_of first_from scaled_of is_between times_down round
six_missing = refl

-- 672 hours at 100.0 cubic feet, 60.0 per cent, 520 degrees and 1 atm, with no temperature or no pressure in so many hours from hour 10 on: their
-- flows, which are there, are not looked at
abbrev feet_month : ℕ → ℕ → Result Methane Refusal
feet_month missing after =
    feet_month_of (replicate 672 (nearest 100 1)) (replicate 672 (nearest 60 1)) (replicate 672 (nearest 520 1)) (replicate 672 (nearest 1 1))
    (replicate 10 0 ++ (replicate missing 8 ++ replicate after 0)) 10000

pub five_not_corrected : feet_month 5 657 ≡ Ok (methane 774144)
unfolding feet_month_of hours_of metered_of destroyed_of grams_of sum hour_of grams_in Feet.hour_at Feet.recorded_of flow_in content_in corrected_of filled fill_of average_of start_of total_of first_from scaled_of is_between times_down round
five_not_corrected = refl

pub six_not_corrected : feet_month 6 656 ≡ Ok (methane 767232)
unfolding feet_month_of hours_of metered_of destroyed_of grams_of sum hour_of grams_in Feet.hour_at Feet.recorded_of flow_in content_in corrected_of filled fill_of average_of start_of total_of first_from scaled_of is_between times_down round
six_not_corrected = refl
