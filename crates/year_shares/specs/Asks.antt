-- What the functions hand each other to be worked out once. It says nothing of which sum is refused.
use Rattle.std.specs.Prelude.{ℕ, ◌+◌, ◌≤◌, length, get_or}
use mathlib.Core.{List.List, Path.◌≡◌}
use Rattle.laws.specs.Counting.{sum}
use Rattle.record_table.specs.Table.{categories}
use Rattle.book_herd.specs.Herd.{line_of}
use Rattle.year_shares.specs.Shares.{share_in}

-- for each category number, the sum of its shares in lines 1 to n
pub record Shared (book : List ℕ) (n : ℕ) (sums : List ℕ) : Type 0 where
  pub long : length sums ≡ categories + 1
  pub each : (category : ℕ) → category ≤ categories → get_or sums category 0 ≡ sum n (λ line. share_in category (line_of book line))
