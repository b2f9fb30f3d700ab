-- The starred figures of 01 ("Figures to check"), in its order, on the definitions themselves: what enters, with 02's unequal heads (ii), the lagoon's months, the
-- factor, the B0 rule, net and the meter's hour. Each is computed. Assumes nothing.
use mathlib.Core.Bool.{Bool, true, false, cond}
use mathlib.Core.Path.{◌≡◌, refl}
use Rattle.std.specs.Prelude.{Some}
use Prim.Native.Nat.{ℕ, ◌*◌, ◌≤◌, ◌<◌}
use lib.Dec.{eqb, leb, lit<, lit≤}
use lib.IntN.{pos, neg_ℤ}
use lib.Ieee.{Float, binary32, round}
use mathlib.Core.List.{[], ◌∷◌}
use Rattle.units.specs.declared.solids.Solids.{Solids}
use Rattle.units.specs.Grams.{solids, co2e, potential, b0_rule_of}
use Rattle.tonnes.specs.Tonnes.{net_of}
use Rattle.calendar.specs.Days.{leap_of, february_of, lengths_of, length_of, gone_of, days_of}
use Rattle.lagoon_factor.specs.Rule.{denominator, added, subtracted}
use Rattle.lagoon_factor.specs.Factor.{summed_of, ruled_of, factor_of}
use Rattle.lagoon_month.specs.declared.Standing.{Standing}
use Rattle.lagoon_month.specs.declared.Outcome.{Outcome}
use Rattle.lagoon_month.specs.Month.{entered_of, empty_of, outcome_of}
use Rattle.year_months.specs.Series.{year_at, over_year}
use Rattle.meter_reading.specs.Exact.{is_between, times_down, scaled_of, hundredths_of}
use Rattle.meter_state.specs.State.{reading_of}
use Rattle.laws.specs.Counting.{sum}
use Rattle.meter_gaps.specs.Filling.{filled}
use Rattle.meter_hour.specs.Hour.{recorded_of, hour_at, grams_in, hour_of}
use Rattle.meter_hour.specs.declared.Kind.TheVariants.{CubicMetres, CubicFeet}
use Rattle.meter_feet.specs.Feet as Feet
use Rattle.meter_feet.specs.Feet.{corrected_of, flow_in, content_in, hour_at as feet_hour_at}
use Rattle.meter_month.specs.Month.{grams_of, destroyed_of, metered_of}

-- table solids 1000, mass 6000, share 10,000, by the sum of a year's heads, in a month counted from January 2011
abbrev pub herd_of : ℕ → ℕ → Solids
herd_of heads month = entered_of heads 1000 6000 10000 (days_of 2011 1 month)

-- the same by the head of each month
abbrev pub herd_by : (ℕ → ℕ) → ℕ → Solids
herd_by head month = herd_of (over_year (year_at month) head) month

-- 100 head in every month
abbrev pub herd : ℕ → Solids
herd month = herd_by (λ m. 100) month

-- 100 head up to a month, and so many after it
abbrev pub moved : ℕ → ℕ → ℕ → ℕ
moved last after m = cond (leb m last) 100 after

-- a month of that herd at 4.9 degrees
abbrev pub at_4_9 : Standing → ℕ → Bool → Outcome
at_4_9 standing month drained =
    outcome_of standing (record { entered = herd month; factor = factor_of (pos 49); drained = drained })

abbrev pub january : Bool → Outcome
january drained = at_4_9 empty_of 1 drained

abbrev pub february : Bool → Outcome
february drained = at_4_9 (january drained).next 2 false

-- the f32 nearest to n / d
abbrev pub nearest : ℕ → ℕ → Float
nearest n d = round binary32 false n d

-- an hour by itself at flow 100.0 and content 60.0, both present
abbrev pub hour : ℕ → ℕ
hour efficiency = metered_of CubicMetres efficiency (0 ∷ []) (hour_at (nearest 100 1 ∷ []) (nearest 60 1 ∷ []) (0 ∷ []))

-- an hour in cubic feet by itself at content 60.0, with its flow, temperature and pressure
abbrev pub feet_hour : Float → Float → Float → ℕ
feet_hour flow temperature pressure =
    metered_of CubicFeet 10000 (0 ∷ []) (feet_hour_at (flow ∷ []) (nearest 60 1 ∷ []) (temperature ∷ []) (pressure ∷ []) (0 ∷ []))

pub record Starred : Type 0 where
  pub enters_31_days : herd 1 ≡ solids 14880000
  pub enters_28_days : herd 2 ≡ solids 13440000
  -- half the herd leaves after March 2011; another herd keeps 45 head after April 2012, in its second year (what wrong readings would give: Misread, below)
  pub january_2011_unequal : herd_by (moved 3 50) 1 ≡ solids 9300000
  pub december_2012_unequal : herd_by (moved 16 45) 24 ≡ solids 9424000
  pub january_degraded : (january false).degraded ≡ solids 1547520
  pub january_carried : (january false).next.0 ≡ solids 13332480
  pub february_degraded : (february false).degraded ≡ solids 2784337
  pub february_carried : (february false).next.0 ≡ solids 23988143
  pub january_removed : (january true).removed ≡ solids 13332480
  pub february_after_it_degraded : (february true).degraded ≡ solids 1397760
  pub at_4_9_degrees : factor_of (pos 49) ≡ 104000
  pub at_5_0_degrees : (102000 ≤ factor_of (pos 50)) × (factor_of (pos 50) < 103000)
  pub at_30_1_degrees : (995000 ≤ factor_of (pos 301)) × (factor_of (pos 301) < 996000)
  pub at_30_2_degrees : factor_of (pos 302) ≡ 1000000
  pub b0_rule : b0_rule_of (solids 1000000) 24 potential ≡ co2e 3427200
  pub half : net_of (pos 500000) ≡ pos 0
  pub above_half : net_of (pos 500001) ≡ pos 1
  pub above_minus_half : net_of (neg_ℤ (pos 499999)) ≡ pos 0
  pub minus_half : net_of (neg_ℤ (pos 500000)) ≡ neg_ℤ (pos 1)
  pub hour_destroyed : hour 10000 ≡ 40800
  pub hour_at_9800 : hour 9800 ≡ 39984
  pub content_60_1 : hundredths_of (nearest 601 10) ≡ Some 6009
  -- in cubic feet (02, (iii)): at 520 degrees and 1 atm, at 2.5 atm, and at 519.99 degrees, which in f32 are 51,998 hundredths
  pub feet_hour_destroyed : feet_hour (nearest 100 1) (nearest 520 1) (nearest 1 1) ≡ 1152
  pub feet_hour_at_2_5_atm : feet_hour (nearest 100 1) (nearest 520 1) (nearest 25 10) ≡ 2880
  pub feet_hour_at_519_99_degrees : feet_hour (nearest 400000 1) (nearest 51999 100) (nearest 1 1) ≡ 4609185

-- What wrong readings would give for the two with unequal heads: the month's own count, twelve times; the average rounded down before it is multiplied; and
-- for the second the heads of the first year. None is what the definitions give.
pub record Misread : Type 0 where
  pub january_own_count : herd_of (12 * 100) 1 ≡ solids 14880000
  pub january_average_rounded : herd_of (12 * 62) 1 ≡ solids 9225600
  pub december_own_count : herd_of (12 * 45) 24 ≡ solids 6696000
  pub december_average_rounded : herd_of (12 * 63) 24 ≡ solids 9374400
  pub december_first_year : herd_of (over_year 1 (moved 16 45)) 24 ≡ solids 14880000

pub misread : Misread
unfolding entered_of days_of gone_of length_of lengths_of february_of leap_of sum
misread =
    record {
      january_own_count = refl;
      january_average_rounded = refl;
      december_own_count = refl;
      december_average_rounded = refl;
      december_first_year = refl;
    }

-- Within a year it is the sum that counts: 1,200 head in January 2011 alone enter in December what 100 head in every month do. A year later they enter nothing
-- there.
abbrev pub once : ℕ → ℕ → ℕ
once month m = cond (eqb m month) 1200 0

pub record Spread : Type 0 where
  pub in_january_2011 : herd_by (once 1) 12 ≡ herd 12
  pub in_january_2012 : herd_by (once 13) 12 ≡ solids 0

pub spread : Spread
unfolding entered_of days_of gone_of length_of lengths_of february_of leap_of sum
spread = record { in_january_2011 = refl; in_january_2012 = refl }

pub starred : Starred
unfolding entered_of outcome_of days_of gone_of length_of lengths_of february_of leap_of factor_of ruled_of summed_of denominator added subtracted b0_rule_of metered_of destroyed_of grams_of sum hour_of grams_in hour_at recorded_of reading_of feet_hour_at Feet.recorded_of flow_in content_in corrected_of filled scaled_of is_between times_down round
starred =
    record {
      enters_31_days = refl;
      enters_28_days = refl;
      january_2011_unequal = refl;
      december_2012_unequal = refl;
      january_degraded = refl;
      january_carried = refl;
      february_degraded = refl;
      february_carried = refl;
      january_removed = refl;
      february_after_it_degraded = refl;
      at_4_9_degrees = refl;
      at_5_0_degrees = (lit≤ tt, lit< tt);
      at_30_1_degrees = (lit≤ tt, lit< tt);
      at_30_2_degrees = refl;
      b0_rule = refl;
      half = refl;
      above_half = refl;
      above_minus_half = refl;
      minus_half = refl;
      hour_destroyed = refl;
      hour_at_9800 = refl;
      content_60_1 = refl;
      feet_hour_destroyed = refl;
      feet_hour_at_2_5_atm = refl;
      feet_hour_at_519_99_degrees = refl;
    }
