-- The heads of a category (01, "The records"), and their sum over a year (01, "The year"; 02, (ii)): the annual average population of Equations 5.3 and 5.4, twelve
-- times.
use Rattle.std.specs.Prelude.{ℕ, List}
use Rattle.book_herd.specs.Herd.{head_of}
use Rattle.year_months.specs.Series.{amount_of, over_year}

-- the head of a category in month m
unfoldable pub head_at : List ℕ → ℕ → ℕ → ℕ
head_at book category m = amount_of (head_of book category m)

-- the sum of the year's twelve heads of a category
unfoldable pub heads_of : List ℕ → ℕ → ℕ → ℕ
heads_of book year category = over_year year (head_at book category)
