-- What a read gives. Which bytes it reads is the reader's, and is left open here. Assumes nothing.
use Rattle.std.specs.Prelude.{ℕ, ◌≤◌, min, Result, Ok, Err}

-- what the answer of a read into `room` bytes says: an error, that it failed; else the number of bytes, and 0 at the end of the input
abbrev pub got_by : {E : Type 0} → Result ℕ E → ℕ → Result ℕ E
got_by (Ok count) room = Ok (min count room)
got_by (Err error) room = Err error

-- a read gives no more bytes than there is room for
abbrev pub Room : {E : Type 0} → Result ℕ E → ℕ → Type 0
Room (Ok count) room = count ≤ room
Room (Err error) room = Unit
