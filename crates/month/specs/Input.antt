-- What the month program makes of its standard input. Which input comes is the system's, and no contract can say it. Assumes nothing.
use Rattle.std.specs.Prelude.{ℕ, ◌≡◌, ◌≤◌, List, ◌++◌, length, Result, Ok, Err}
use Rattle.std.specs.declared.io.Error.{Error}
use Rattle.units.specs.declared.methane.Methane.{Methane}
use Rattle.refusals.specs.declared.Refusal.{Refusal}
use Rattle.meter_bytes.specs.Format.{stated_of}

-- a read failed; or some input came, and the answer is that of all of it: where its bytes fill the buffer, whatever may follow them changes nothing
pub data Comes (buffer : ℕ) : Result (Result Methane Refusal) Error → Type 0 where
  unread : {error : Error} → Comes buffer (Err error)
  read :
      (input : List ℕ) {answer : Result Methane Refusal} → answer ≡ stated_of input → (buffer ≤ length input → (more : List ℕ) → answer ≡ stated_of (input ++ more)) →
      Comes buffer (Ok answer)
