-- What posting a whole input gives (01, "Figures to check": the year program). Assumes nothing.
use Rattle.std.specs.Prelude.{ℕ, Result, Ok, Err}
use Rattle.std.specs.declared.io.Error.{Error}
use mathlib.Core.{Path.◌≡◌, List.List}
use Rattle.book.specs.{Run.records_of, Run.answer_all, Run.book_all}
use Rattle.refusals.specs.declared.Refusal.{Refusal}
use Rattle.program_feed.specs.declared.Stop.{Stop, TheVariants.Refused, TheVariants.Failed}

-- the book that an input makes of another, and how its reading ends
unfoldable pub book_of : List ℕ → List ℕ → List ℕ
book_of book input = book_all book (records_of input)

abbrev pub ending_by : Result Unit Refusal → Result Unit Stop
ending_by (Ok unit) = Ok tt
ending_by (Err refusal) = Err (Refused refusal)

unfoldable pub ending_of : List ℕ → List ℕ → Result Unit Stop
ending_of book input = ending_by (answer_all book (records_of input))

-- some input came; then a read failed, or the reading ended as the input's records decide. The book afterwards is what those records make of the book before
pub data Comes (book : List ℕ) : Result Unit Stop → List ℕ → Type 0 where
  unread : (input : List ℕ) {error : Error} {later : List ℕ} → later ≡ book_of book input → Comes book (Err (Failed error)) later
  read : (input : List ℕ) {ending : Result Unit Stop} {later : List ℕ} → ending ≡ ending_of book input → later ≡ book_of book input → Comes book ending later
