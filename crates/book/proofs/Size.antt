-- An array of as many zeros as the code says has a book's size, where that number is what the table makes it. Assumes nothing.
use mathlib.Core.Path.{◌≡◌, ◌∙◌}
use Prim.Native.Nat.{ℕ}
use lib.ListN.{length, replicate, length-replicate}
use Rattle.book.specs.Book.{book_bytes}

pub zeros_sized : {n : ℕ} → n ≡ book_bytes → length (replicate {A = ℕ} n 0) ≡ book_bytes
zeros_sized {n} is = length-replicate {A = ℕ} n 0 ∙ is
