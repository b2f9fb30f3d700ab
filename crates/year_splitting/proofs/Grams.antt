-- The same in grams of CO2e, by what the years state: the B0 rule rounds down once a line and year (01, "The year"), so that what years state together is a sum of
-- rounded figures. Over the years from the first to any Y the two lines can be ahead of the whole by Y - 1 grams, and in the first year never.
-- Assumes nothing.
use Prim.Native.Nat.{ℕ, zero, suc, ◌+◌, ◌*◌, ◌-◌, ◌/◌, ◌≤◌}
use native.Mathlib.Nat.{add-mul, mul_assoc, mul-le-mul, mul-le-mul_right}
use native.Mathlib.Omega.{arith}
use Rattle.laws.specs.Counting.{sum}
use Rattle.units.specs.Grams.{density, potential, b0_rule_of}
use Rattle.calendar.specs.Days.{months_in_year}
use Rattle.lagoon_factor.specs.Rule.{million}
use Rattle.lagoon_month.specs.declared.Month.{Month}
use Rattle.lagoon_run.specs.Run.{year_of}
use Rattle.lagoon_run.proofs.Parts.{Through}
use Rattle.year_months.specs.Series.{last_year}
use Rattle.year_splitting.proofs.Solids.{Split, degraded_over, years_degraded}

-- the B0 rule counts ten-thousandths of a gram of CO2e: so many for each gram of solids, and so many to a gram
abbrev pub for_each : ℕ → ℕ
for_each b0 = b0 * (density * potential)

abbrev pub to_gram : ℕ
to_gram = 10000

-- what so many years state, after so many before them
abbrev pub stated_over : (ℕ → Month) → ℕ → ℕ → ℕ → ℕ
stated_over months b0 before years = sum years (λ y. (b0_rule_of (year_of months (before + y)).degraded b0 potential).0)

-- rounding each of n figures down loses less than a gram of each
record Rounded (exact rounded n : ℕ) : Type 0 where
  least : to_gram * rounded ≤ exact
  most : exact ≤ to_gram * rounded + (to_gram - 1) * n

rounded :
    (months : ℕ → Month) (b0 before years : ℕ) →
    Rounded (degraded_over months before years * for_each b0) (stated_over months b0 before years) years
unfolding sum b0_rule_of
rounded months b0 before zero = omega arith
rounded months b0 before (suc n) =
    let d = (year_of months (before + suc n)).degraded.0 in
    omega (
      arith,
      rounded months b0 before n,
      add-mul (degraded_over months before n) d (for_each b0),
      mul_assoc d b0 (density * potential),
    )

-- Over so many years, after so many before them, at one B0: what the two lines can be ahead of the whole, and what behind.
pub record YearsStated (whole first second b0 before years : ℕ) : Type 0 where
  pub gained : first + second ≤ whole + (months_in_year * before * for_each b0 + (to_gram - 1) * years) / to_gram
  pub lost : whole ≤ first + second + (months_in_year * (before + 2 * years) * for_each b0 + 2 * (to_gram - 1) * years) / to_gram

module _ (whole first second : ℕ → Month) (b0 before years : ℕ)
    (split : Through (months_in_year * (before + years)) (λ m. Split (whole m) (first m) (second m)))
    (small : Through (months_in_year * (before + years)) (λ m. (whole m).factor ≤ million)) where
  pub years_stated :
      YearsStated (stated_over whole b0 before years) (stated_over first b0 before years) (stated_over second b0 before years) b0 before years
  years_stated =
      let solids = years_degraded whole first second before years split small in
      let gained = simp add-mul at (mul-le-mul_right (for_each b0) solids.gained) in
      let lost = simp add-mul at (mul-le-mul_right (for_each b0) solids.lost) in
      let w = rounded whole b0 before years in
      let f = rounded first b0 before years in
      let s = rounded second b0 before years in
      record { gained = omega arith; lost = omega arith }

-- so of the years from the first on, the two lines are ahead by less than a gram for each
pub from_first_year : {whole first second b0 years : ℕ} → YearsStated whole first second b0 0 years → 1 ≤ years → first + second ≤ whole + (years - 1)
from_first_year stated some = omega (arith, stated.gained)

-- and at 01's highest B0 or below, behind by at most 3,447 in the whole crediting period
abbrev pub highest_b0 : ℕ
highest_b0 = 100

within_highest : {b0 grams most : ℕ} → b0 ≤ highest_b0 → grams ≤ most → grams * for_each b0 ≤ most * for_each highest_b0
within_highest low few = mul-le-mul few (mul-le-mul_right (density * potential) low)

pub behind_in_ten_years :
    {whole first second b0 years : ℕ} → YearsStated whole first second b0 0 years → b0 ≤ highest_b0 → years ≤ last_year → whole ≤ first + second + 3447
behind_in_ten_years {b0 = b0} {years = years} stated low within =
    let few : months_in_year * (0 + 2 * years) ≤ months_in_year * (2 * last_year) = omega arith in
    omega (arith, stated.lost, within_highest low few)

-- in any one year of the crediting period they are ahead by at most so many grams, and behind by at most so many
abbrev pub most_ahead : ℕ
most_ahead = 1543

abbrev pub most_behind : ℕ
most_behind = 1886

pub record YearStated (whole first second : ℕ) : Type 0 where
  pub gained : first + second ≤ whole + most_ahead
  pub lost : whole ≤ first + second + most_behind

pub in_one_year :
    {whole first second b0 before : ℕ} → YearsStated whole first second b0 before 1 → b0 ≤ highest_b0 → before + 1 ≤ last_year →
    YearStated whole first second
in_one_year {b0 = b0} {before = before} stated low within =
    let early : months_in_year * before ≤ months_in_year * (last_year - 1) = omega arith in
    let late : months_in_year * (before + 2 * 1) ≤ months_in_year * (last_year + 1) = omega arith in
    record { gained = omega (arith, stated.gained, within_highest low early); lost = omega (arith, stated.lost, within_highest low late) }
