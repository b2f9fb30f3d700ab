-- What the year program prints for its whole input (01, "Figures to check"). Assumes nothing.
use Rattle.std.specs.Prelude.{ℕ, List, [], Result, Ok, Err}
use Rattle.book.specs.Book.{empty_book}
use Rattle.print_refusal.specs.Text.{refusal_text}
use Rattle.print_years.specs.Text.{printed}
use Rattle.program_feed.specs.{Input.book_of, Input.ending_of, declared.Stop.Stop, declared.Stop.TheVariants.Refused, declared.Stop.TheVariants.Failed}

-- a posting refusal is the only output; else the years are printed; of an input that could not be read, nothing
unfoldable pub ending_text : Result Unit Stop → List ℕ → List ℕ
ending_text (Ok unit) book = printed book
ending_text (Err (Refused refusal)) book = refusal_text refusal
ending_text (Err (Failed error)) book = []

unfoldable pub output : List ℕ → List ℕ
output input = ending_text (ending_of empty_book input) (book_of empty_book input)
