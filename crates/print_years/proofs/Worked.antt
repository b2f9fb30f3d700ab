-- The worked example of 01, "Figures to check", printed from its figures. Assumes nothing.
use mathlib.Core.Path.{◌≡◌, refl}
use mathlib.Core.List.{List}
use Prim.Native.Nat.{ℕ}
use lib.IntN.{pos}
use Rattle.std.specs.Prelude.{Ok, Err}
use Rattle.refusals.specs.Refusal.{refusal}
use Rattle.refusals.specs.declared.Reason.TheVariants.{Lacking}
use Rattle.units.specs.Grams.{solids, co2e}
use Rattle.year.specs.declared.Figures.{Figures}
use Rattle.print_page.specs.Number.{word, last_digits, decimal, signed}
use Rattle.print_refusal.specs.Text.{refusal_text}
use Rattle.print_year.specs.Text.{heading_text, solids_text, grams_text, tonnes_text, year_text}
use Rattle.print_years.specs.Text.{answer_text}

abbrev pub worked : Figures
worked =
    record {
      entered = solids 175200000;
      degraded = solids 175200000;
      removed = solids 0;
      carried = solids 0;
      baseline = co2e 600445440;
      project_methane = co2e 12000000;
      metered = co2e 504000000;
      net = pos 498;
      credited = 498;
    }

-- year 1 is stated and year 2 refused, so that no later year is printed, whatever it is
pub printed_whole :
    (later : List ℕ) → answer_text 1 (Ok worked) (answer_text 2 (Err (refusal Lacking 13)) later)
    ≡ word "year 1\nentered 175200000 degraded 175200000 removed 0 carried 0\nbaseline 600445440 project 12000000 metered 504000000\nnet 498 credited 498\nrefused 8 at 13\n"
unfolding answer_text year_text heading_text solids_text grams_text tonnes_text refusal_text decimal signed last_digits
printed_whole later = refl
