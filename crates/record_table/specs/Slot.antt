-- The key of a record is its mark with its line, category, month or device (01, "The records"): each key has a slot.
-- Assumes nothing.
use Rattle.std.specs.Prelude.{ℕ, ◌+◌, ◌*◌, ◌-◌, List, [], ◌∷◌, take}
use Rattle.record_table.specs.Table.{Row, table, highest_of}

-- the number of keys of a row, by the highest value of each byte of its key; and the number of keys that come before a given one
unfoldable pub count : List ℕ → ℕ
count [] = 1
count (high ∷ highest) = high * count highest

unfoldable pub index : List ℕ → List ℕ → ℕ
index [] bytes = 0
index (high ∷ highest) [] = 0
index (high ∷ highest) (byte ∷ bytes) = (byte - 1) * count highest + index highest bytes

-- Slots are ordered by mark, as in the table, and within a mark by the bytes of the key. The number of slots of some rows; of the whole table; and the
-- slot of a key of a row.
unfoldable pub total : List Row → ℕ
total [] = 0
total (row ∷ rows) = count row.highest + total rows

unfoldable pub slots : ℕ
slots = total table

unfoldable pub slot_of : ℕ → List ℕ → ℕ
slot_of row bytes = total (take row table) + index (highest_of row) bytes
