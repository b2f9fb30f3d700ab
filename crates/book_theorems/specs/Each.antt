-- Records posted one after the other, each whether the one before was taken or not.
-- Assumes nothing.
use Rattle.std.specs.Prelude.{ℕ, List, [], ◌∷◌}
use Rattle.book.specs.Book.{book_after}

unfoldable pub book_each : List ℕ → List (List ℕ) → List ℕ
book_each book [] = book
book_each book (r ∷ rs) = book_each (book_after book r) rs
