-- A line's category and share stand in 01's ranges. Assumes nothing.
use Prim.Native.Nat.{ℕ, ◌≤◌}
use mathlib.Core.List.{List}
use Rattle.record_table.specs.Table.{lines, categories}
use Rattle.book.specs.Valid.{Valid}
use Rattle.book_herd.proofs.Ranges.{numbers_in}
use Rattle.book_herd.specs.Herd.{line_of}
use Rattle.book_herd.specs.declared.Line.{Line}
use Rattle.year_shares.specs.Shares.{whole_share}

-- the two numbers of a line that refusal 7 goes by
pub record ShareRanged (line : Line) : Type 0 where
  pub category : line.category ≤ categories
  pub share : line.share ≤ whole_share

module _ (book : List ℕ) (v : Valid book) where
  pub share_ranged : (line : ℕ) → line ≤ lines → ShareRanged (line_of book line)
  share_ranged line h =
      let numbers = numbers_in book v line h in
      record { category = numbers.category; share = numbers.share }
