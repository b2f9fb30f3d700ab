-- A book's first year and month stand in 01's ranges: a slot's amount is nothing, or a value in the range that the table gives it.
-- Assumes nothing.
use Prim.Native.Nat.{ℕ, ◌≤◌}
use mathlib.Core.List.{List}
use native.Mathlib.Omega.{arith}
use lib.Dec.{lit≤}
use Rattle.book.specs.Valid.{Valid}
use Rattle.book_slots.proofs.Ranges.{In, year_in}
use Rattle.book_slots.specs.Reads.{first_year_of, first_month_of}
use Rattle.std.specs.Prelude.{Option, Some, None}
use Rattle.year_months.specs.Series.{amount_of}

pub amount_most : (least most : ℕ) (seen : Option ℕ) → In least most seen → amount_of seen ≤ most
amount_most least most None i = omega arith
amount_most least most (Some x) i = i.1

module _ (book : List ℕ) (v : Valid book) where
  pub first_year_most : amount_of (first_year_of book) ≤ 2089
  first_year_most = amount_most 2000 2089 (first_year_of book) (year_in book v 0 (lit≤ tt) tt)

  pub first_month_most : amount_of (first_month_of book) ≤ 12
  first_month_most = amount_most 1 12 (first_month_of book) (year_in book v 1 (lit≤ tt) tt)
