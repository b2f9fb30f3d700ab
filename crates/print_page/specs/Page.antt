-- A text laid into a lent page. Assumes nothing.
use Rattle.std.specs.Prelude.{ℕ, ◌+◌, length, take, drop}
use mathlib.Core.{Path.◌≡◌, List.List, List.◌++◌}

-- the page with a text in it from a place on: the bytes before the place and past the text's end stay
unfoldable pub laid : List ℕ → ℕ → List ℕ → List ℕ
laid page at text = take at page ++ text ++ drop (at + length text) page

-- a text is laid into a page from a place on, and `end` is the place after it
pub record Lays (before : List ℕ) (at : ℕ) (text : List ℕ) (end : ℕ) (after : List ℕ) : Type 0 where
  pub ends : end ≡ at + length text
  pub page : after ≡ laid before at text
