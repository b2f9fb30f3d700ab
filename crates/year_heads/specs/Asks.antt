-- What the array of a year's heads holds. It says nothing of what the sums are.
use Rattle.std.specs.Prelude.{ℕ, List}
use Rattle.record_table.specs.Table.{categories}
use Rattle.year_months.specs.Asks.{Holds}
use Rattle.year_heads.specs.Heads.{heads_of}

-- an entry for each category, first to last: the sum of its heads in a year
abbrev pub HoldsHeads : List ℕ → ℕ → List ℕ → Type 0
HoldsHeads book year heads = Holds ℕ 0 categories 0 categories (heads_of book year) heads
