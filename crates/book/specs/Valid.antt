-- What a book is (01, "The records"): what postings make from the empty one; and that by its slots: each is empty or holds bytes that posting puts there.
-- Assumes nothing.
use Rattle.std.specs.Prelude.{ℕ, ◌<◌, length, Ok}
use mathlib.Core.{List.List, Logic.◌⊎◌, Path.◌≡◌}
use Rattle.record_table.specs.Slot.{slots}
use Rattle.record_judge.specs.{Record.judged, Record.stored_of, declared.Change.TheVariants.Put}
use Rattle.book.specs.Book.{book_bytes, record_at, nothing, book_after, empty_book}

pub data Made : List ℕ → Type 0 where
  empty : Made empty_book
  posted : {book : List ℕ} → Made book → (r : List ℕ) → Made (book_after book r)

-- bytes that stand in slot k as posting puts them there: posted themselves, they would be put into that slot as they are
pub record Stands (k : ℕ) (bytes : List ℕ) : Type 0 where
  pub judged_so : judged bytes ≡ Ok (Put k)
  pub stored_so : stored_of bytes ≡ bytes

pub record Valid (book : List ℕ) : Type 0 where
  pub size : length book ≡ book_bytes
  pub each : (k : ℕ) → k < slots → (record_at book k ≡ nothing) ⊎ Stands k (record_at book k)
