-- The amount in a slot, the years of the crediting period, and what a book says of a month (01, "The records", "The lagoon month"). Months count from 1.
use Rattle.std.specs.Prelude.{ℕ, ◌+◌, ◌*◌, ◌-◌, ◌/◌, ℤ, Option, Some, None, is_some, unwrap_or}
use mathlib.Core.{Bool.Bool, List.List}
use Rattle.laws.specs.Counting.{sum}
use Rattle.calendar.specs.Days.{months_in_year, days_of}
use Rattle.lagoon_factor.specs.Factor.{factor_of}
use Rattle.book_slots.specs.Reads.{first_year_of, first_month_of, temperature_of}

-- the slot was filled (01, "The records": one that was never filled is no value)
abbrev pub filled : Option ℕ → Bool
filled seen = is_some seen

-- the amount in a slot, 0 where it was never filled: 01 says so of a device without MT ("Refusal numbers"), and no other record is lacking where its
-- amount is used
abbrev pub amount_of : Option ℕ → ℕ
amount_of seen = unwrap_or seen 0

-- the years of the crediting period
abbrev pub first_year : ℕ
first_year = 1

abbrev pub last_year : ℕ
last_year = 10

-- the months before a year, and through its end
abbrev pub months_before : ℕ → ℕ
months_before year = months_in_year * (year - 1)

abbrev pub months_through : ℕ → ℕ
months_through year = months_in_year * year

-- the year that month m falls in (02, (ii))
abbrev pub year_at : ℕ → ℕ
year_at m = (m - 1) / months_in_year + first_year

-- the sum of a figure over the twelve months of a year
abbrev pub over_year : ℕ → (ℕ → ℕ) → ℕ
over_year year each = sum months_in_year (λ m. each (months_before year + m))

-- the days of month m
unfoldable pub days_at : List ℕ → ℕ → ℕ
days_at book m = days_of (amount_of (first_year_of book)) (amount_of (first_month_of book)) m

-- the factor of month m
abbrev pub factor_by : Option ℤ → ℕ
factor_by None = 0
factor_by (Some tenths) = factor_of tenths

unfoldable pub factor_at : List ℕ → ℕ → ℕ
factor_at book m = factor_by (temperature_of book m)
