-- What the functions hand each other, within a year and from year to year. It says nothing of what the figures are.
use Rattle.std.specs.Prelude.{ℕ, ◌-◌, ◌≤◌, length, get_or, Some}
use mathlib.Core.{List.List, Path.◌≡◌}
use Rattle.lagoon_month.specs.{Month.empty_of, declared.Standing.Standing}
use Rattle.lagoon_run.specs.Run.{run_of}
use Rattle.record_table.specs.Table.{lines}
use Rattle.book_herd.specs.Herd.{system_of}
use Rattle.year_months.specs.Series.{months_through}
use Rattle.year_lines.specs.Lines.{anaerobic, month_at}

-- the standing that an anaerobic line's months through a year handed on; year 0 stands for the time before the first month. Of a line of another
-- system nothing is said.
abbrev pub Handed : List ℕ → ℕ → ℕ → Standing → Type 0
Handed book year line standing = system_of book line ≡ Some anaerobic → standing ≡ (run_of (month_at book line) (months_through year)).standing

-- an array of the standings of all lines
pub record Standings (book : List ℕ) (year : ℕ) (standings : List Standing) : Type 0 where
  pub long : length standings ≡ lines
  pub each : (line : ℕ) → 1 ≤ line → line ≤ lines → Handed book year line (get_or standings (line - 1) empty_of)
