-- One field of one slot of a book: nothing where the slot was never filled, else its value, which may be 0 (01, "The records").
-- Assumes nothing.
use Rattle.std.specs.Prelude.{ℕ, ◌+◌, ◌*◌, take, drop, Option, Some, None}
use mathlib.Core.{Bool.Bool, Bool.cond, Bool.not, List.List, List.[], List.◌∷◌}
use Rattle.record_table.specs.{Table.Entry, Table.zeros, Table.field, Table.entries_of, Table.record_bytes, Table.after_mark, Slot.slot_of}
use Rattle.number_bytes.specs.Number.{number_at}
use Rattle.book.specs.Book.{free}

-- the width of some entries together, in bytes; and the offset and the width of entry n of a row, counted from 0
abbrev pub bytes_in : List Entry → ℕ
bytes_in [] = 0
bytes_in (zeros n ∷ es) = n + bytes_in es
bytes_in (field wide range ∷ es) = wide + bytes_in es

abbrev pub place_of : ℕ → ℕ → ℕ
place_of row n = after_mark + bytes_in (take n (entries_of row))

abbrev pub bytes_of : ℕ → ℕ → ℕ
bytes_of row n = bytes_in (take 1 (drop n (entries_of row)))

-- what is seen at an offset of a slot
unfoldable pub seen_at : List ℕ → ℕ → ℕ → ℕ → Option ℕ
seen_at book slot at wide = cond (not (free book slot)) (Some (number_at book (slot * record_bytes + at) wide)) None

-- of the slot of a key of a row: whether it is filled; and of entry n, the number, 0 where it is not filled, and what is seen
abbrev pub filled_of : List ℕ → ℕ → List ℕ → Bool
filled_of book row bytes = not (free book (slot_of row bytes))

abbrev pub number_of : List ℕ → ℕ → List ℕ → ℕ → ℕ
number_of book row bytes n = number_at book (slot_of row bytes * record_bytes + place_of row n) (bytes_of row n)

abbrev pub seen_of : List ℕ → ℕ → List ℕ → ℕ → Option ℕ
seen_of book row bytes n = seen_at book (slot_of row bytes) (place_of row n) (bytes_of row n)
