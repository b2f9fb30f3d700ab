-- What the lines of a year read of a valid book stands in 01's ranges: a slot's amount is nothing, or a value in the range that the table gives it.
-- Assumes nothing.
use Prim.Native.Nat.{ℕ, ◌≤◌}
use mathlib.Core.List.{List}
use native.Mathlib.Omega.{arith}
use Rattle.calendar.proofs.Range as calendar
use Rattle.lagoon_factor.proofs.Right as factor
use Rattle.lagoon_month.proofs.Entry.{entered_most_lem}
use Rattle.lagoon_month.specs.Asks.{entered_most}
use Rattle.lagoon_factor.specs.Rule.{million}
use Rattle.record_table.specs.Table.{lines, categories, months}
use Rattle.book.specs.Valid.{Valid}
use Rattle.book_herd.proofs.Ranges.{numbers_in}
use Rattle.book_slots.specs.Reads.{first_year_of, first_month_of, temperature_of}
use Rattle.book_herd.specs.Herd.{line_of}
use Rattle.book_herd.specs.declared.Line.{Line}
use Rattle.std.specs.Prelude.{ℤ, Option, Some, None}
use Rattle.year_months.specs.Series.{amount_of, year_at, days_at, factor_by, factor_at}
use Rattle.year_months.proofs.Years.{in_period}
use Rattle.year_heads.proofs.Ranges.{heads_most_lem}
use Rattle.year_lines.specs.Lines.{entered_at}

-- the upper ends of LN's ranges, and of the category's
pub record LineRanged (line : Line) : Type 0 where
  pub category : line.category ≤ categories
  pub solids : line.solids ≤ 2000
  pub mass : line.mass ≤ 20000
  pub share : line.share ≤ 10000
  pub b0 : line.b0 ≤ 100
  pub conversion : line.conversion ≤ 10000

factor_by_most : (warmth : Option ℤ) → factor_by warmth ≤ million
factor_by_most None = omega arith
factor_by_most (Some tenths) = factor.most tenths

module _ (book : List ℕ) where
  pub days_most : (m : ℕ) → days_at book m ≤ 31
  unfolding days_at
  days_most m = calendar.most (amount_of (first_year_of book)) (amount_of (first_month_of book)) m

  pub factor_most : (m : ℕ) → factor_at book m ≤ million
  unfolding factor_at
  factor_most m = factor_by_most (temperature_of book m)

module _ (book : List ℕ) (v : Valid book) where
  pub line_ranged : (line : ℕ) → line ≤ lines → LineRanged (line_of book line)
  line_ranged line h =
      let numbers = numbers_in book v line h in
      record {
        category = numbers.category;
        solids = numbers.solids;
        mass = numbers.mass;
        share = numbers.share;
        b0 = numbers.b0;
        conversion = numbers.conversion;
      }

  pub entry_most : (line m : ℕ) → line ≤ lines → m ≤ months → (entered_at book line m).0 ≤ entered_most
  unfolding entered_at
  entry_most line m h k =
      let r = line_ranged line h in
      let few = heads_most_lem book v (year_at m) (in_period m k) (line_of book line).category r.category in
      entered_most_lem (few, r.solids, r.mass, r.share) (days_most book m)
