-- The one line that the month prints: `destroyed N`, or `refused N at P`. Assumes nothing.
use Rattle.std.specs.Prelude.{ℕ, List, ◌++◌, Result, Ok, Err}
use Rattle.print_page.specs.{Number.word, Text.figure}
use Rattle.print_refusal.specs.Text.{refusal_text}
use Rattle.units.specs.declared.methane.Methane.{Methane}
use Rattle.refusals.specs.declared.Refusal.{Refusal}

unfoldable pub destroyed_text : ℕ → List ℕ
destroyed_text grams = figure "destroyed " grams ++ word "\n"

abbrev pub answer_text : Result Methane Refusal → List ℕ
answer_text (Ok methane) = destroyed_text methane.0
answer_text (Err refusal) = refusal_text refusal

-- the most bytes of it: two digits in a refusal's number, and twenty in its place
abbrev pub text_bytes : ℕ
text_bytes = 35
