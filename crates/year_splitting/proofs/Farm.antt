-- A farm that shows where the bounds are reached. 18 head are there in 2011, month by month, and none after it; the lagoon has 12.0 degrees in 2011 and 30.2 in
-- 2012, and is never drained; table solids 100, mass 1000, share 10,000, B0 72. It is entered as one line, or as two lines of nine head. As books the
-- farm is in sample/splitting. Assumes nothing.
use Prim.Native.Nat.{ℕ, ◌+◌, ◌*◌}
use mathlib.Core.Bool.{Bool, true, false, cond}
use mathlib.Core.Path.{◌≡◌, refl, ◌∙◌}
use native.Mathlib.Omega.{arith}
use lib.Dec.{leb}
use lib.IntN.{ℤ, pos}
use Rattle.laws.specs.Counting.{sum}
use Rattle.laws.proofs.Counting.{sum_same, sum_plus}
use Rattle.units.specs.Grams.{methane, co2e, potential, b0_rule_of}
use Rattle.tonnes.specs.Tonnes.{net_of}
use Rattle.calendar.specs.Days.{leap_of, february_of, lengths_of, length_of, gone_of, days_of, months_in_year}
use Rattle.lagoon_factor.specs.Rule.{denominator, added, subtracted}
use Rattle.lagoon_factor.specs.Factor.{summed_of, ruled_of, factor_of}
use Rattle.lagoon_month.specs.declared.Month.{Month}
use Rattle.lagoon_month.specs.Month.{entered_of, outcome_of}
use Rattle.lagoon_run.specs.Run.{with_of, run_from, year_of}
use Rattle.year_months.specs.Series.{months_before, year_at, over_year}
use Rattle.year_credit.specs.Credit.{kilogram, total_of}
use Rattle.year_credit.specs.declared.Operator.{Operator}
use Rattle.year_splitting.proofs.Solids.{Split}
use Rattle.year_splitting.proofs.Grams.{stated_over}
use Rattle.year_splitting.proofs.Lines.{entered_apart}

-- the head of month m, of a line that has so many in 2011
abbrev pub head_in : ℕ → ℕ → ℕ
head_in head m = cond (leb m months_in_year) head 0

abbrev pub tenths_in : ℕ → ℕ
tenths_in m = cond (leb m months_in_year) 120 302

-- month m of such a line
unfoldable pub farm : ℕ → ℕ → Month
farm head m =
    record { entered = entered_of (over_year (year_at m) (head_in head)) 100 1000 10000 (days_of 2011 1 m); factor = factor_of (pos (tenths_in m)); drained = false }

abbrev pub stated : ℕ → ℕ → ℕ
stated head year = (b0_rule_of (year_of (farm head) year).degraded 72 potential).0

-- in every month it is a split, as the theorems ask
halved : (year : ℕ) → over_year year (head_in 9) + over_year year (head_in 9) ≡ over_year year (head_in 18)
halved year =
    sum_plus (λ m. head_in 9 (months_before year + m)) (λ m. head_in 9 (months_before year + m)) months_in_year ∙ sum_same _ _ months_in_year
    (λ m low high. picked (leb (months_before year + m) months_in_year))
  where
    picked : (there : Bool) → cond there 9 0 + cond there 9 0 ≡ cond there 18 0
    picked true = refl
    picked false = refl

pub farm_split : (m : ℕ) → Split (farm 18 m) (farm 9 m) (farm 9 m)
unfolding farm
farm_split m =
    let whole = over_year (year_at m) (head_in 18) in
    let part = over_year (year_at m) (head_in 9) in
    let apart = entered_apart 100 1000 (days_of 2011 1 m) whole 10000 part 10000 part 10000 (omega (arith, halved (year_at m))) in
    record {
      no_more = apart.0;
      gram_less = apart.1;
      first_same = record { factor = refl; drained = refl };
      second_same = record { factor = refl; drained = refl };
    }

-- In the first year the two lines are 30 grams behind, in the second 31 ahead: over both a gram ahead, which is all that two years can gain.
pub baselines : (stated 18 1 ≡ 3726020) × (stated 18 2 ≡ 1677987) × (stated 9 1 ≡ 1862995) × (stated 9 2 ≡ 839009)
unfolding farm sum year_of run_from with_of outcome_of entered_of days_of gone_of length_of lengths_of february_of leap_of factor_of ruled_of summed_of denominator added subtracted b0_rule_of
baselines = (refl, refl, refl, refl)

pub gram_ahead : stated_over (farm 9) 72 0 2 + stated_over (farm 9) 72 0 2 ≡ stated_over (farm 18) 72 0 2 + 1
unfolding sum
gram_ahead = rw (baselines.0, baselines.1, baselines.2, baselines.3)

-- A year's net, where the operator enters so many kilograms of baseline carbon dioxide and so many grams of destroyed methane.
abbrev pub entered : ℕ → ℕ → Operator
entered kilograms grams = record { project_methane = co2e 0; baseline_co2 = co2e (kilogram * kilograms); project_co2 = co2e 0; destroyed = methane grams }

abbrev pub net : ℕ → ℕ → ℕ → ℤ
net baseline kilograms grams = net_of (total_of (co2e baseline) (entered kilograms grams))

-- One filing, with 774 kilograms in the first year and 1,822 in the second: two lines lose a tonne in the first and gain one in the second.
pub one_filing :
    (net (stated 18 1) 774 1000000 ≡ pos 5) × (net (stated 9 1 + stated 9 1) 774 1000000 ≡ pos 4) ×
    (net (stated 18 2) 1822 1000000 ≡ pos 3) × (net (stated 9 2 + stated 9 2) 1822 1000000 ≡ pos 4)
unfolding total_of
one_filing = rw (baselines.0, baselines.1, baselines.2, baselines.3) (refl, refl, refl, refl)

-- Two filings, each with half the kilograms and half the destroyed methane: two tonnes each in the first year, where the whole has five, and two each in the
-- second, where the whole has three.
pub two_filings : (net (stated 9 1) 387 500000 ≡ pos 2) × (net (stated 9 2) 911 500000 ≡ pos 2)
unfolding total_of
two_filings = rw (baselines.2, baselines.3) (refl, refl)

-- Two filings can lose more: where all the destroyed methane is one filing's, the other's methane counts nothing.
pub meter_in_one :
    (net (stated 18 1) 774 1000000 ≡ pos 5) × (net (stated 9 1) 387 1000000 ≡ pos 2) × (net (stated 9 1) 387 0 ≡ pos 0)
unfolding total_of
meter_in_one = rw (baselines.0, baselines.2) (refl, refl, refl)

-- A smaller herd on the same farm, at B0 33: three head, entered as one and two, are a gram ahead over both years as well.
abbrev pub smaller : ℕ → ℕ → ℕ
smaller head year = (b0_rule_of (year_of (farm head) year).degraded 33 potential).0

pub smaller_baselines :
    (smaller 3 1 ≡ 284614) × (smaller 3 2 ≡ 128191) × (smaller 1 1 ≡ 94870) × (smaller 1 2 ≡ 42732) × (smaller 2 1 ≡ 189740) × (smaller 2 2 ≡ 85464)
unfolding farm sum year_of run_from with_of outcome_of entered_of days_of gone_of length_of lengths_of february_of leap_of factor_of ruled_of summed_of denominator added subtracted b0_rule_of
smaller_baselines = (refl, refl, refl, refl, refl, refl)

pub smaller_gram_ahead : stated_over (farm 1) 33 0 2 + stated_over (farm 2) 33 0 2 ≡ stated_over (farm 3) 33 0 2 + 1
unfolding sum
smaller_gram_ahead =
    rw (smaller_baselines.0, smaller_baselines.1, smaller_baselines.2, smaller_baselines.3, smaller_baselines.4, smaller_baselines.5)
