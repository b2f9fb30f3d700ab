-- The Gregorian days of the months that a book counts (01, "The records" and "The lagoon month").
use Rattle.std.specs.Prelude.{ℕ, ◌+◌, ◌-◌, ◌/◌, ◌%◌}
use mathlib.Core.{Bool.Bool, Bool.cond, Bool.not, Bool.◌&&◌, Bool.◌||◌, List.List, List.[], List.◌∷◌}
use lib.{Dec.eqb, ListN.get_or}

-- the months of a year
abbrev pub months_in_year : ℕ
months_in_year = 12

-- a leap year: 4 divides it and 100 does not, or 400 does
unfoldable pub leap_of : ℕ → Bool
leap_of year = eqb (year % 4) 0 && not (eqb (year % 100) 0) || eqb (year % 400) 0

-- the days of February
unfoldable pub february_of : ℕ → ℕ
february_of year = cond (leap_of year) 29 28

-- the days of a year's months, January first
unfoldable pub lengths_of : ℕ → List ℕ
lengths_of year = 31 ∷ february_of year ∷ 31 ∷ 30 ∷ 31 ∷ 30 ∷ 31 ∷ 31 ∷ 30 ∷ 31 ∷ 30 ∷ 31 ∷ []

-- the days of one month of a year, January being 1
unfoldable pub length_of : ℕ → ℕ → ℕ
length_of year month = get_or (lengths_of year) (month - 1) 0

-- the months gone by from January of the first year to a month of the book, whose month 1 is the first month itself
unfoldable pub gone_of : ℕ → ℕ → ℕ
gone_of first_month month = first_month + month - 2

-- the days of a month of the book (01, "The lagoon month": the Gregorian length of that month)
unfoldable pub days_of : ℕ → ℕ → ℕ → ℕ
days_of first_year first_month month =
    let gone = gone_of first_month month in
    length_of (first_year + gone / months_in_year) (gone % months_in_year + 1)
