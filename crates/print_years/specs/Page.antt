-- The page that the year program lends. Assumes nothing.
use Rattle.std.specs.Prelude.{ℕ, ◌*◌}
use Rattle.print_years.specs.Text.{years}

-- the most bytes of a year's four lines: twenty digits in each figure, or nineteen after a minus sign; and of all that is printed for a book
abbrev pub year_bytes : ℕ
year_bytes = 286

abbrev pub page_bytes : ℕ
page_bytes = years * year_bytes
