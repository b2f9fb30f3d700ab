-- A run of bytes posted record by record, until one is refused (01, "Figures to check": the year program's input).
-- Assumes nothing.
use Rattle.std.specs.Prelude.{ℕ, zero, suc, ◌+◌, ◌-◌, ◌/◌, List, [], ◌∷◌, length, Result, Ok, Err}
use Rattle.refusals.specs.declared.Refusal.{Refusal}
use Rattle.record_table.specs.Table.{record_bytes}
use Rattle.book.specs.Book.{record_at, taken, answer_of, book_after}

-- n records from number k on; and all of them, the last of which may be shorter
unfoldable pub records_from : List ℕ → ℕ → ℕ → List (List ℕ)
records_from bytes k zero = []
records_from bytes k (suc n) = record_at bytes k ∷ records_from bytes (k + 1) n

unfoldable pub records_of : List ℕ → List (List ℕ)
records_of bytes = records_from bytes 0 ((length bytes + (record_bytes - 1)) / record_bytes)

-- go on after a record that is taken, and stop at one that is refused
abbrev pub onward : {A : Type 0} → Result Unit Refusal → A → A → A
onward (Ok unit) further stop = further
onward (Err refusal) further stop = stop

-- the first refusal, or that all are taken; and the book afterwards
unfoldable pub answer_all : List ℕ → List (List ℕ) → Result Unit Refusal
answer_all book [] = taken
answer_all book (r ∷ rs) = onward (answer_of book r) (answer_all (book_after book r) rs) (answer_of book r)

unfoldable pub book_all : List ℕ → List (List ℕ) → List ℕ
book_all book [] = book
book_all book (r ∷ rs) = onward (answer_of book r) (book_all (book_after book r) rs) (book_after book r)
