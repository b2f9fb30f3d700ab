-- What the year program makes of its standard input. Which input comes is the system's, and no contract can say it. Assumes nothing.
use Rattle.std.specs.Prelude.{ℕ, Result, Ok, Err}
use Rattle.std.specs.declared.io.Error.{Error}
use mathlib.Core.{Path.◌≡◌, List.List}
use Rattle.print_page.specs.Page.{Lays}
use Rattle.years.specs.Output.{output}

-- a read failed, and the page stays as it was; or some input came, and its output is laid
pub data Comes (page : List ℕ) : Result ℕ Error → List ℕ → Type 0 where
  unread : {error : Error} {later : List ℕ} → later ≡ page → Comes page (Err error) later
  read : (input : List ℕ) {end : ℕ} {later : List ℕ} → Lays page 0 (output input) end later → Comes page (Ok end) later
