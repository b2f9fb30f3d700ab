-- A line's category stands in 01's range: a slot's amount is nothing, or a value in the range that the table gives it.
-- Assumes nothing.
use Prim.Native.Nat.{ℕ, ◌≤◌}
use mathlib.Core.List.{List}
use mathlib.Core.Path.{subst, ◌≡◌}
use lib.Dec.{lit≤}
use Rattle.record_table.specs.Table.{lines, categories}
use Rattle.book.specs.Valid.{Valid}
use Rattle.book_slots.proofs.Ranges.{In}
use Rattle.book_herd.proofs.Ranges.{line_in_lem}
use Rattle.book_herd.specs.Herd.{category_of}
use Rattle.std.specs.Prelude.{Option, Some}
use Rattle.year_months.specs.Series.{amount_of}
use Rattle.year_months.proofs.Ranges.{amount_most}

value_most : (least most : ℕ) (seen : Option ℕ) (x : ℕ) → seen ≡ Some x → In least most seen → x ≤ most
value_most least most seen x e i = (subst (In least most) e i).1

value_least : (least most : ℕ) (seen : Option ℕ) (x : ℕ) → seen ≡ Some x → In least most seen → least ≤ x
value_least least most seen x e i = (subst (In least most) e i).0

module _ (book : List ℕ) (v : Valid book) where
  pub category_most : (line x : ℕ) → line ≤ lines → category_of book line ≡ Some x → x ≤ categories
  category_most line x h e = value_most 1 categories (category_of book line) x e (line_in_lem book v line h 2 (lit≤ tt) tt)

  pub category_least : (line x : ℕ) → line ≤ lines → category_of book line ≡ Some x → 1 ≤ x
  category_least line x h e = value_least 1 categories (category_of book line) x e (line_in_lem book v line h 2 (lit≤ tt) tt)

  pub category_amount : (line : ℕ) → line ≤ lines → amount_of (category_of book line) ≤ categories
  category_amount line h = amount_most 1 categories (category_of book line) (line_in_lem book v line h 2 (lit≤ tt) tt)
