-- How large the heads of a valid book and their sum over a year can be, and the sum of one category as the array has it. Assumes nothing.
use Prim.Native.Nat.{ℕ, ◌+◌, ◌*◌, ◌≤◌}
use mathlib.Core.List.{List}
use native.Mathlib.Omega.{arith}
use lib.Dec.{lit≤}
use Rattle.laws.proofs.Counting.{sum_most}
use Rattle.calendar.specs.Days.{months_in_year}
use Rattle.record_table.specs.Table.{categories, months}
use Rattle.book.specs.Valid.{Valid}
use Rattle.book_herd.proofs.Ranges.{head_in_lem}
use Rattle.book_herd.specs.Herd.{head_of}
use Rattle.year_months.specs.Asks.{InPeriod}
use Rattle.year_months.specs.Series.{months_before}
use Rattle.year_months.proofs.Ranges.{amount_most}
use Rattle.year_heads.specs.Heads.{head_at, heads_of}

module _ (book : List ℕ) (v : Valid book) where
  pub head_most : (category m : ℕ) → category ≤ categories → m ≤ months → head_at book category m ≤ 100000
  unfolding head_at
  head_most category m h k = amount_most 0 100000 (head_of book category m) (head_in_lem book v category m h k 2 (lit≤ tt) tt)

  pub heads_most_lem : (year : ℕ) → InPeriod year → (category : ℕ) → category ≤ categories → heads_of book year category ≤ months_in_year * 100000
  unfolding heads_of
  heads_most_lem year period category there =
      sum_most (λ m. head_at book category (months_before year + m)) 100000 months_in_year
      (λ m low high. head_most category (months_before year + m) there (omega (arith, period.high)))
