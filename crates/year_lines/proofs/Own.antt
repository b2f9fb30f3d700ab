-- A line that stands in the book, as the code reads it: its numbers are in 01's ranges, and the sum of its heads is small.
-- Assumes nothing.
use Prim.Native.Nat.{ℕ, ◌≤◌}
use mathlib.Core.List.{List}
use mathlib.Core.Path.{◌≡◌}
use Rattle.lagoon_month.specs.Asks.{heads_most}
use Rattle.record_table.specs.Table.{lines}
use Rattle.book.specs.Valid.{Valid}
use Rattle.std.specs.Prelude.{Some}
use Rattle.book_herd.specs.Herd.{system_of, line_of}
use Rattle.book_herd.specs.declared.Line.{Line}
use Rattle.book_herd.proofs.Ranges.{category_some}
use Rattle.year_months.specs.Asks.{InPeriod}
use Rattle.year_heads.specs.Heads.{heads_of}
use Rattle.year_heads.proofs.Ranges.{heads_most_lem}
use Rattle.year_lines.proofs.Ranges.{LineRanged, line_ranged}

pub record OwnLine (book : List ℕ) (numbers : Line) : Type 0 where
  pub of_category : 1 ≤ numbers.category
  pub ranged : LineRanged numbers
  pub few : (year : ℕ) {heads : ℕ} → InPeriod year → heads ≡ heads_of book year numbers.category → heads ≤ heads_most

pub own :
    (book : List ℕ) → Valid book → (line : ℕ) → line ≤ lines → {system : ℕ} → system_of book line ≡ Some system → {numbers : Line} →
    numbers ≡ line_of book line → OwnLine book numbers
own book v line there stands read =
    rw read
    (record {
      of_category = category_some book v line there stands;
      ranged = line_ranged book v line there;
      few = λ year period is. rw is (heads_most_lem book v year period (line_of book line).category (line_ranged book v line there).category);
    })
