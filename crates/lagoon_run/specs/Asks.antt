-- What a run asks of its caller, so that no product or sum passes 64 bits. It says nothing of what the figures are.
use Rattle.std.specs.Prelude.{ℕ, ◌+◌, ◌*◌, ◌≤◌, ◌<◌, length, get_or}
use mathlib.Core.{List.List}
use Rattle.lagoon_factor.specs.Rule.{million}
use Rattle.lagoon_month.specs.{declared.Month.Month, declared.Standing.Standing, Asks.entered_most, Asks.grams_most}
use Rattle.lagoon_run.specs.Run.{no_month}

pub record RunFits (standing : Standing) (months : List Month) : Type 0 where
  pub room : standing.0.0 + length months * entered_most < grams_most
  pub entry : (i : ℕ) → i < length months → (get_or months i no_month).entered.0 ≤ entered_most
  pub factor : (i : ℕ) → i < length months → (get_or months i no_month).factor ≤ million
