-- What the functions hand each other to be worked out once. It says nothing of what a year lacks.
use Rattle.std.specs.Prelude.{ℕ, ◌+◌, ◌≤◌}
use mathlib.Core.{Bool.Bool, Bool.false, List.List, Path.◌≡◌}
use lib.{Dec.eqb, ListN.length, ListN.get_or}
use Rattle.laws.specs.Counting.{some}
use Rattle.record_table.specs.Table.{categories}
use Rattle.book_herd.specs.Herd.{category_of}
use Rattle.year_months.specs.Series.{amount_of}

-- a flag for each category number: whether one of lines 1 to n has it. A line that is not in the book has number 0, which is no category.
pub record Lined (book : List ℕ) (n : ℕ) (flags : List Bool) : Type 0 where
  pub long : length flags ≡ categories + 1
  pub each : (category : ℕ) → category ≤ categories → get_or flags category false ≡ some n (λ line. eqb (amount_of (category_of book line)) category)
