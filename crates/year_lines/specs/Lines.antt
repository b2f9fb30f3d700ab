-- A month of a line (01, "The lagoon month"; 02, (ii)), and the lines of a year: solids of the anaerobic ones, and the baseline of all (01, "The year"; Equations
-- 5.3 and 5.4).
use Rattle.std.specs.Prelude.{ℕ, zero, suc, ◌*◌, ◌/◌, eqb, Option, Some, None}
use mathlib.Core.{Bool.Bool, Bool.true, Bool.cond, List.List}
use Rattle.units.specs.{Grams.solids, Grams.share_of, Grams.potential, Grams.b0_rule_of, declared.solids.Solids.Solids}
use Rattle.lagoon_month.specs.{Month.entered_of, declared.Month.Month}
use Rattle.lagoon_run.specs.Run.{year_of}
use Rattle.record_table.specs.Table.{lines}
use Rattle.book_herd.specs.Herd.{system_of, line_of, drained_of}
use Rattle.book_herd.specs.declared.Line.{Line}
use Rattle.year_months.specs.Series.{year_at, days_at, factor_at}
use Rattle.year_heads.specs.Heads.{heads_of}
use Rattle.year_sums.specs.{Sums.anaerobic_of, Sums.baseline_alone, Sums.nothing, Sums.plus, declared.Sums.Sums}

-- what a line enters in so many days, by the sum of the year's twelve heads
abbrev pub entered_by : ℕ → Line → ℕ → Solids
entered_by heads line days = entered_of heads line.solids line.mass line.share days

-- what a line enters in month m: the heads are those of its category in the year that the month falls in
unfoldable pub entered_at : List ℕ → ℕ → ℕ → Solids
entered_at book line m = entered_by (heads_of book (year_at m) (line_of book line).category) (line_of book line) (days_at book m)

-- month m of a line
unfoldable pub month_at : List ℕ → ℕ → ℕ → Month
month_at book line m = record { entered = entered_at book line m; factor = factor_at book m; drained = drained_of book line m }

-- LN's system 0
abbrev pub anaerobic : ℕ
anaerobic = 0

-- grams a day, by the sum of the year's twelve heads, which is twelve times their average; the rest of the divisor brings the fields' units to grams
abbrev pub daily_parts : ℕ
daily_parts = 120000000

abbrev pub daily_of : ℕ → Line → ℕ
daily_of heads line = heads * line.solids * line.mass * line.share / daily_parts

-- a year counts 365 days, in leap years too
abbrev pub days_in_year : ℕ
days_in_year = 365

-- times the conversion factor, which counts ten-thousandths
abbrev pub conversion_parts : ℕ
conversion_parts = 10000

unfoldable pub converted_of : ℕ → Line → Solids
converted_of heads line = solids (share_of (daily_of heads line * days_in_year) line.conversion conversion_parts)

abbrev pub other_of : ℕ → Line → Sums
other_of heads line = baseline_alone (b0_rule_of (converted_of heads line) line.b0 potential)

-- a line in a year, by its system; where there is no line there is nothing
abbrev pub by_system : Option ℕ → Sums → Sums → Sums
by_system None lagoon other = nothing
by_system (Some system) lagoon other = cond (eqb system anaerobic) lagoon other

unfoldable pub line_in : List ℕ → ℕ → ℕ → Sums
line_in book year line =
    by_system (system_of book line) (anaerobic_of (year_of (month_at book line) year) (line_of book line).b0)
    (other_of (heads_of book year (line_of book line).category) (line_of book line))

-- the sum of those of lines 1 to n that are chosen
unfoldable pub sums_over : (ℕ → Sums) → (ℕ → Bool) → ℕ → Sums
sums_over each chosen zero = nothing
sums_over each chosen (suc n) = plus (sums_over each chosen n) (cond (chosen (suc n)) (each (suc n)) nothing)

-- every line is chosen; and the sums of a year, over the lines that are chosen
abbrev pub all : ℕ → Bool
all line = true

abbrev pub sums_of : List ℕ → ℕ → (ℕ → Bool) → Sums
sums_of book year chosen = sums_over (line_in book year) chosen lines
