-- Refusal 8: the year lacks a record that it needs (01, "Refusal numbers").
use Rattle.std.specs.Prelude.{ℕ, ltb, leb, ℤ, Option, Some, None, is_none, Result, Ok, Err, ⊤}
use mathlib.Core.{Bool.Bool, Bool.false, Bool.cond, Bool.not, Bool.◌&&◌, Bool.◌||◌, List.List}
use Rattle.refusals.specs.{Refusal.refusal, declared.Refusal.Refusal, declared.Reason.TheVariants.Lacking}
use Rattle.laws.specs.Counting.{first, some}
use Rattle.record_table.specs.Table.{lines}
use Rattle.book_slots.specs.Reads.{first_year_of, temperature_of, project_methane_of}
use Rattle.book_herd.specs.Herd.{category_of, head_of}
use Rattle.year_months.specs.Series.{filled, months_before, months_through}

-- there is a line
unfoldable pub any_line : List ℕ → Bool
any_line book = some lines (λ line. filled (category_of book line))

-- month m lacks TP
abbrev pub unmeasured : Option ℤ → Bool
unmeasured temperature = is_none temperature

-- month m lacks HD for the category of a line; where there is no line there is no category
abbrev pub uncounted : List ℕ → ℕ → Option ℕ → Bool
uncounted book m None = false
uncounted book m (Some category) = not (filled (head_of book category m))

unfoldable pub headless : List ℕ → ℕ → Bool
headless book m = some lines (λ line. uncounted book m (category_of book line))

-- month m is a month of the year itself and lacks PE
abbrev pub unentered : List ℕ → ℕ → ℕ → Bool
unentered book year m = ltb (months_before year) m && not (filled (project_methane_of book m))

-- month m lacks a record that the year needs
unfoldable pub lacks : List ℕ → ℕ → ℕ → Bool
lacks book year m = unmeasured (temperature_of book m) || (headless book m || unentered book year m)

-- the lowest such month, or one past the year
unfoldable pub lacking_of : List ℕ → ℕ → ℕ
lacking_of book year = first (months_through year) (lacks book year)

-- the same, or none
unfoldable pub lacking_month : List ℕ → ℕ → Option ℕ
lacking_month book year = cond (leb (lacking_of book year) (months_through year)) (Some (lacking_of book year)) None

-- no YR or no LN is looked at first, and its place is 0
unfoldable pub complete_of : List ℕ → ℕ → Result ⊤ Refusal
complete_of book year =
    cond (not (filled (first_year_of book)) || not (any_line book)) (Err (refusal Lacking 0))
    (cond (leb (lacking_of book year) (months_through year)) (Err (refusal Lacking (lacking_of book year))) (Ok tt))
