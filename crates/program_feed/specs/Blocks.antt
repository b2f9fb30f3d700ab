-- The input comes in blocks (01, "Figures to check": the year program): what is posted of one, and what of it is held for the next.
-- Assumes nothing.
use Rattle.std.specs.Prelude.{ℕ, ◌*◌, ◌-◌, ◌/◌, List, ◌++◌, take, drop, Result, Ok, Err}
use Rattle.record_table.specs.Table.{record_bytes}
use Rattle.refusals.specs.declared.Refusal.{Refusal}
use Rattle.book.specs.Run.{records_of, answer_all}

-- how many of n bytes belong to whole records; and the whole records among a block's first n bytes
abbrev pub whole_bytes : ℕ → ℕ
whole_bytes n = n / record_bytes * record_bytes

unfoldable pub whole_records : List ℕ → ℕ → List (List ℕ)
whole_records block filled = records_of (take (whole_bytes filled) block)

-- what posting them to a book answers
abbrev pub posted_of : List ℕ → List ℕ → ℕ → Result Unit Refusal
posted_of book block filled = answer_all book (whole_records block filled)

-- a block whose bytes from one place to another stand at its start too
unfoldable pub carried : List ℕ → ℕ → ℕ → List ℕ
carried block from to = take (to - from) (drop from block) ++ drop (to - from) block

-- where the whole records are taken, the bytes of a cut one are carried and held; a refusal leaves the block as it is
abbrev pub block_by : Result Unit Refusal → List ℕ → ℕ → List ℕ
block_by (Ok unit) block filled = carried block (whole_bytes filled) filled
block_by (Err refusal) block filled = block

abbrev pub fed_by : Result Unit Refusal → ℕ → Result ℕ Refusal
fed_by (Ok unit) filled = Ok (filled - whole_bytes filled)
fed_by (Err refusal) filled = Err refusal
