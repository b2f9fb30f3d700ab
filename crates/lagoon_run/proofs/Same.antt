-- Two months at the same temperature and drain mark differ in what entered alone.
-- Assumes nothing.
use Prim.Native.Nat.{ℕ}
use mathlib.Core.Bool.{Bool}
use mathlib.Core.Path.{◌≡◌}
use Rattle.units.specs.Grams.{solids}
use Rattle.lagoon_month.specs.declared.Month.{Month}
use Rattle.lagoon_run.proofs.Parts.{SameLagoon}

-- the month of a factor and a drain mark into which so much enters
abbrev pub at : ℕ → Bool → ℕ → Month
at factor drained grams = record { entered = solids grams; factor = factor; drained = drained }

pub shared : (one other : Month) → SameLagoon one other → one ≡ at other.factor other.drained one.entered.0
shared one other same = rw (← same.factor, ← same.drained)
