-- A refusal as it is printed (01, "Figures to check"): `refused N at P`, by its reason's number and its place. Assumes nothing.
use Rattle.std.specs.Prelude.{ℕ, List, ◌++◌}
use Rattle.refusals.specs.{Refusal.number_of, declared.Refusal.Refusal}
use Rattle.print_page.specs.{Number.word, Text.figure}

unfoldable pub refusal_text : Refusal → List ℕ
refusal_text refusal = figure "refused " (number_of refusal.reason) ++ figure " at " refusal.place ++ word "\n"
