-- What the functions ask of their callers: a year of the crediting period. And what their arrays hold: a series, as at the months of a year.
use Rattle.std.specs.Prelude.{ℕ, ◌+◌, ◌-◌, ◌≤◌, length, get_or}
use mathlib.Core.{List.List, Path.◌≡◌}
use Rattle.calendar.specs.Days.{months_in_year}
use Rattle.year_months.specs.Series.{first_year, last_year, months_before}

-- a year of the crediting period
pub record InPeriod (year : ℕ) : Type 0 where
  pub low : first_year ≤ year
  pub high : year ≤ last_year

-- an array of so many entries holds a series at the first n numbers after `before`
pub record Holds (A : Type 0) (none : A) (entries before n : ℕ) (series : ℕ → A) (array : List A) : Type 0 where
  pub long : length array ≡ entries
  pub each : (m : ℕ) → 1 ≤ m → m ≤ n → get_or array (m - 1) none ≡ series (before + m)

-- an array with an entry for each month of a year holds a series at all of them
abbrev pub HoldsYear : (A : Type 0) → A → ℕ → (ℕ → A) → List A → Type 0
HoldsYear A none year series array = Holds A none months_in_year (months_before year) months_in_year series array
