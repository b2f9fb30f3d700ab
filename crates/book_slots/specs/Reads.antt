-- What the year reads of a book, mark by mark (01, "The records"): YR, TP, PE and MT. Months and devices count from 1.
-- The last number of each read says which entry of its row in 01's table it is, counted from 0, the bytes of the key and the zero bytes too.
-- Assumes nothing.
use Rattle.std.specs.Prelude.{ℕ, ℤ, Option, Some, None}
use mathlib.Core.{Bool.cond, List.List, List.[], List.◌∷◌}
use Rattle.record_table.specs.{Table.yr, Table.tp, Table.pe, Table.mt}
use Rattle.number_bytes.specs.Number.{signed_of}
use Rattle.book_slots.specs.Field.{number_of, seen_of, filled_of}

-- YR
abbrev pub first_year_of : List ℕ → Option ℕ
first_year_of book = seen_of book yr [] 0

abbrev pub first_month_of : List ℕ → Option ℕ
first_month_of book = seen_of book yr [] 1

-- TP: in tenths of a degree
abbrev pub temperature_of : List ℕ → ℕ → Option ℤ
temperature_of book month = cond (filled_of book tp (month ∷ [])) (Some (signed_of (number_of book tp (month ∷ []) 2))) None

-- PE
abbrev pub project_methane_of : List ℕ → ℕ → Option ℕ
project_methane_of book month = seen_of book pe (month ∷ []) 2

abbrev pub baseline_co2_of : List ℕ → ℕ → Option ℕ
baseline_co2_of book month = seen_of book pe (month ∷ []) 3

abbrev pub project_co2_of : List ℕ → ℕ → Option ℕ
project_co2_of book month = seen_of book pe (month ∷ []) 4

-- MT
abbrev pub destroyed_of : List ℕ → ℕ → ℕ → Option ℕ
destroyed_of book month device = seen_of book mt (month ∷ device ∷ []) 2
