-- What the year program prints for a book (01, "Figures to check"). Assumes nothing.
use Rattle.std.specs.Prelude.{ℕ, zero, suc, ◌+◌, ◌-◌, List, [], ◌++◌, Result, Ok, Err}
use Rattle.year_months.specs.Series.{first_year, last_year}
use Rattle.year.specs.Answer.{answer_of}
use Rattle.refusals.specs.declared.Refusal.{Refusal}
use Rattle.year.specs.declared.Figures.{Figures}
use Rattle.print_refusal.specs.Text.{refusal_text}
use Rattle.print_year.specs.Text.{year_text}

-- a year's own lines, and the later years where it is stated: a refused year prints its refusal in place of its four lines and is the last
unfoldable pub answer_text : ℕ → Result Figures Refusal → List ℕ → List ℕ
answer_text year (Ok figures) later = year_text year figures ++ later
answer_text year (Err refusal) later = refusal_text refusal

-- n years of a book, from `year` on
unfoldable pub years_from : List ℕ → ℕ → ℕ → List ℕ
years_from book year zero = []
years_from book year (suc n) = answer_text year (answer_of book year) (years_from book (year + 1) n)

-- how many years are printed: 1 to 10
abbrev pub years : ℕ
years = suc last_year - first_year

unfoldable pub printed : List ℕ → List ℕ
printed book = years_from book first_year years
