-- A month's series: each hour, from 0, recorded a whole number, `Some n`, or nothing, `None`. It stands in an array, and past the array's end nothing is
-- recorded.
use Rattle.std.specs.Prelude.{ℕ, Bool, List, Option, None, is_some, unwrap_or, ◌≤◌, ◌^◌, get_or}

abbrev pub is_recorded : Option ℕ → Bool
is_recorded value = is_some value

abbrev pub series : List (Option ℕ) → ℕ → Option ℕ
series hours h = get_or hours h None

-- the number recorded, 0 where there is none
abbrev pub amount : Option ℕ → ℕ
amount value = unwrap_or value 0

-- the hours of the longest month
abbrev pub most_hours : ℕ
most_hours = 744

-- eight such numbers fit 64 bits together
abbrev pub most_amount : ℕ
most_amount = 2 ^ 60

-- what the code asks of a series: that none of its numbers is above some bound
abbrev pub AtMost : ℕ → List (Option ℕ) → Type 0
AtMost most hours = (h : ℕ) → amount (series hours h) ≤ most
