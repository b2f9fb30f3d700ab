-- The book, and what posting a record does to it (01, "The records", "Refusal numbers"): sixteen bytes a slot, all 0 in a slot that is not filled.
-- Assumes nothing.
use Rattle.std.specs.Prelude.{ℕ, ◌+◌, ◌*◌, Result, Ok, Err}
use mathlib.Core.{Bool.Bool, Bool.cond, List.List, List.◌++◌}
use lib.{Dec.eqb, ListN.get_or, ListN.take, ListN.drop, ListN.replicate}
use Rattle.record_table.specs.{Table.record_bytes, Slot.slots}
use Rattle.refusals.specs.{Refusal.refusal, declared.Reason.TheVariants.AlreadyFilled, declared.Refusal.Refusal}
use Rattle.record_judge.specs.{Record.judged, Record.stored_of, declared.Change.Change, declared.Change.TheVariants.Put, declared.Change.TheVariants.Empty}

abbrev pub book_bytes : ℕ
book_bytes = slots * record_bytes

-- record number k of a run of bytes, from 0, shorter where the run ends in it; of a book, what stands in slot k
unfoldable pub record_at : List ℕ → ℕ → List ℕ
record_at bytes k = take record_bytes (drop (k * record_bytes) bytes)

-- slot k is not filled: its first byte, which is a letter of a mark in a filled one, is 0
unfoldable pub free : List ℕ → ℕ → Bool
free book k = eqb (get_or book (k * record_bytes) 0) 0

-- the sixteen bytes of a slot in which nothing stands
abbrev pub nothing : List ℕ
nothing = replicate record_bytes 0

-- the book with these sixteen bytes in slot k; and with them there if the slot is not filled
unfoldable pub book_with : List ℕ → ℕ → List ℕ → List ℕ
book_with book k bytes = take (k * record_bytes) book ++ (bytes ++ drop (k * record_bytes + record_bytes) book)

abbrev pub book_filled : List ℕ → ℕ → List ℕ → List ℕ
book_filled book k bytes = cond (free book k) (book_with book k bytes) book

-- the answer where a record is taken
abbrev pub taken : Result Unit Refusal
taken = Ok tt

-- What posting answers, and the book afterwards, by what the record is judged to do. Bytes are put into a slot that is not filled, and refused where it
-- is. Emptying a slot is taken whatever stands there: no mark does it yet.
unfoldable pub answer_by : List ℕ → Result Change Refusal → Result Unit Refusal
answer_by book (Err refusal) = Err refusal
answer_by book (Ok (Put k)) = cond (free book k) taken (Err (refusal AlreadyFilled 0))
answer_by book (Ok (Empty k)) = taken

unfoldable pub book_by : List ℕ → List ℕ → Result Change Refusal → List ℕ
book_by book r (Err refusal) = book
book_by book r (Ok (Put k)) = book_filled book k (stored_of r)
book_by book r (Ok (Empty k)) = book_with book k nothing

unfoldable pub answer_of : List ℕ → List ℕ → Result Unit Refusal
answer_of book r = answer_by book (judged r)

unfoldable pub book_after : List ℕ → List ℕ → List ℕ
book_after book r = book_by book r (judged r)

-- the empty book, where no slot is filled
unfoldable pub empty_book : List ℕ
empty_book = replicate book_bytes 0
