-- What a record does, judged alone (01, "The records", "Refusal numbers"; 02, (i)): it is refused, 1 to 4, or it puts bytes into the slot of its key.
-- Assumes nothing.
use Rattle.std.specs.Prelude.{ℕ, suc, ◌+◌, Option, None, Some, Result, Ok, Err}
use Rattle.std.specs.Option.{option_or}
use mathlib.Core.{Bool.cond, List.List, List.[], List.◌∷◌}
use lib.{Dec.eqb, Dec.ltb, ListN.length, ListN.get_or}
use Rattle.record_table.specs.Table.{Entry, zeros, field, Row, table, ln, highest_of, entries_of, record_bytes, after_mark}
use Rattle.number_bytes.specs.Number.{number_at}
use Rattle.record_table.specs.Slot.{slot_of}
use Rattle.refusals.specs.{Refusal.refusal, declared.Refusal.Refusal}
use Rattle.refusals.specs.declared.Reason.TheVariants.{NotSixteenBytes, UnknownMark, NotZero, OutOfRange}
use Rattle.record_fields.specs.Entry.{outside_at, nonzero_at}
use Rattle.record_defaults.specs.StandsFor.{stands_for}
use Rattle.record_judge.specs.Defaults.{is_defaults, defaults_entries}
use Rattle.record_judge.specs.declared.Change.{Change, TheVariants.Put}

-- the lowest offset of a zero byte that is not 0, among the entries from an offset on
unfoldable pub nonzero_in : ℕ → List Entry → List ℕ → Option ℕ
nonzero_in at [] r = None
nonzero_in at (zeros n ∷ es) r = option_or (nonzero_at r at n) (nonzero_in (at + n) es r)
nonzero_in at (field wide range ∷ es) r = nonzero_in (at + wide) es r

-- the offset of the first field outside its range, among the entries from an offset on
unfoldable pub outside_in : ℕ → List Entry → List ℕ → Option ℕ
outside_in at [] r = None
outside_in at (zeros n ∷ es) r = outside_in (at + n) es r
outside_in at (field wide range ∷ es) r = option_or (outside_at r at wide range) (outside_in (at + wide) es r)

-- the bytes of a key from an offset on, one for each highest value
unfoldable pub key_in : ℕ → List ℕ → List ℕ → List ℕ
key_in at [] r = []
key_in at (high ∷ highest) r = get_or r at 0 ∷ key_in (at + 1) highest r

-- the number of the row with these letters, or the number of rows where none has them; the row of a record; and its key, read by a row
unfoldable pub row_in : ℕ → List Row → ℕ
row_in letters [] = 0
row_in letters (row ∷ rows) = cond (eqb row.letters letters) 0 (suc (row_in letters rows))

unfoldable pub row_of : List ℕ → ℕ
row_of r = row_in (number_at r 0 after_mark) table

unfoldable pub key_of : ℕ → List ℕ → List ℕ
key_of row r = key_in after_mark (highest_of row) r

-- the row whose key a record has, and what stands after its mark: its own row's; a defaults line has LN's key, and its own entries
unfoldable pub key_row : List ℕ → ℕ
key_row r = cond (is_defaults r) ln (row_of r)

unfoldable pub entries_for : List ℕ → List Entry
entries_for r = cond (is_defaults r) (defaults_entries r) (entries_of (row_of r))

-- a zero byte that is not 0 is refused at its offset; else a field outside its range is, at its offset; else the record is put into its slot
unfoldable pub verdict : Option ℕ → Option ℕ → ℕ → Result Change Refusal
verdict (Some place) outside slot = Err (refusal NotZero place)
verdict None (Some place) slot = Err (refusal OutOfRange place)
verdict None None slot = Ok (Put slot)

-- a record judged by its entries, for the slots of a row; and by a row of the table
abbrev pub judged_by : List Entry → ℕ → List ℕ → Result Change Refusal
judged_by entries row r = verdict (nonzero_in after_mark entries r) (outside_in after_mark entries r) (slot_of row (key_of row r))

unfoldable pub judged_as : ℕ → List ℕ → Result Change Refusal
judged_as row r = judged_by (entries_of row) row r

-- any bytes judged: other than sixteen of them are refused, and so are letters that are no mark, both at place 0
unfoldable pub judged : List ℕ → Result Change Refusal
judged r =
    cond (eqb (length r) record_bytes)
    (cond (ltb (key_row r) (length table)) (judged_by (entries_for r) (key_row r) r) (Err (refusal UnknownMark 0)))
    (Err (refusal NotSixteenBytes 0))

-- the sixteen bytes that a record puts into its slot: the record as it came; of a defaults line, the LN that it stands for
unfoldable pub stored_of : List ℕ → List ℕ
stored_of r = cond (is_defaults r) (stands_for r) r
