-- Refusal 7: the shares of one category sum above the whole (01, "Refusal numbers").
use Rattle.std.specs.Prelude.{ℕ, eqb, ltb, leb, Result, Ok, Err, ⊤}
use mathlib.Core.{Bool.cond, List.List}
use Rattle.refusals.specs.{Refusal.refusal, declared.Refusal.Refusal, declared.Reason.TheVariants.OverShared}
use Rattle.laws.specs.Counting.{sum, first}
use Rattle.record_table.specs.Table.{lines, categories}
use Rattle.book_herd.specs.{Herd.line_of, declared.Line.Line}

-- shares count ten-thousandths
abbrev pub whole_share : ℕ
whole_share = 10000

-- a line's share of a category; a line that is not in the book has category 0, which is no category
abbrev pub share_in : ℕ → Line → ℕ
share_in category line = cond (eqb line.category category) line.share 0

unfoldable pub shares_of : List ℕ → ℕ → ℕ
shares_of book category = sum lines (λ line. share_in category (line_of book line))

-- the lowest category whose shares sum above the whole, or one past the categories
unfoldable pub over_of : List ℕ → ℕ
over_of book = first categories (λ category. ltb whole_share (shares_of book category))

-- refusal 7, at that category
unfoldable pub fit_of : List ℕ → Result ⊤ Refusal
fit_of book = cond (leb (over_of book) categories) (Err (refusal OverShared (over_of book))) (Ok tt)
