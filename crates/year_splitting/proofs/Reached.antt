-- The bounds of Solids.antt on n months after the first k are reached, both of them, where k and n are 1.
-- Assumes nothing.
use Prim.Native.Nat.{ℕ, ◌+◌, ◌≤◌}
use mathlib.Core.Bool.{Bool, true, false, cond}
use mathlib.Core.Path.{◌≡◌, refl}
use native.Mathlib.Omega.{arith}
use lib.Dec.{eqb}
use Rattle.lagoon_factor.specs.Rule.{million}
use Rattle.lagoon_month.specs.declared.Month.{Month}
use Rattle.lagoon_month.specs.Month.{outcome_of}
use Rattle.lagoon_run.specs.Run.{with_of, run_from}
use Rattle.lagoon_run.proofs.Same.{at}
use Rattle.year_splitting.proofs.Solids.{Split, after_months}

-- one number in the first month, another one later
abbrev pub then : ℕ → ℕ → ℕ → ℕ
then early late m = cond (eqb m 1) early late

-- a lagoon into which so much enters, month by month, at such factors
unfoldable pub lagoon : (factors entered : ℕ → ℕ) → ℕ → Month
lagoon factors entered m = at (factors m) false (entered m)

-- two such lines of a part each are a split of the whole, as the theorems ask, where the two parts come to the whole or a gram less
abbrev Halves : ℕ → ℕ → Type 0
Halves whole part = (part + part ≤ whole) × (whole ≤ part + part + 1)

pub split :
    (factors : ℕ → ℕ) (whole whole-later part part-later : ℕ) → Halves whole part → Halves whole-later part-later →
    (m : ℕ) → let half = lagoon factors (then part part-later) m in Split (lagoon factors (then whole whole-later) m) half half
unfolding lagoon
split factors whole whole-later part part-later first later m =
    let now = picked (eqb m 1) in
    record {
      no_more = now.0;
      gram_less = now.1;
      first_same = record { factor = refl; drained = refl };
      second_same = record { factor = refl; drained = refl };
    }
  where
    picked : (january : Bool) → Halves (cond january whole whole-later) (cond january part part-later)
    picked true = first
    picked false = later

-- One gram ahead after one month: two parts of a gram each degrade nothing at half, and both grams later; the whole degrades one in each month.
pub gram_ahead :
    ((after_months 1 (lagoon (then 500000 million) (then 2 0)) 1).degraded.0 ≡ 1) ×
    ((after_months 1 (lagoon (then 500000 million) (then 1 0)) 1).degraded.0 ≡ 1)
unfolding lagoon run_from with_of outcome_of
gram_ahead = (refl, refl)

gram_ahead_split : (m : ℕ) → Split (lagoon (then 500000 million) (then 2 0) m) (lagoon (then 500000 million) (then 1 0) m) (lagoon (then 500000 million) (then 1 0) m)
gram_ahead_split = split (then 500000 million) 2 0 1 0 (omega arith) (omega arith)

-- Three grams behind after one month: the parts enter a gram less in each month, and in the second month rounding keeps each of them from degrading its gram.
pub grams_behind :
    ((after_months 1 (lagoon (then 0 900000) (then 1 3)) 1).degraded.0 ≡ 3) ×
    ((after_months 1 (lagoon (then 0 900000) (then 0 1)) 1).degraded.0 ≡ 0)
unfolding lagoon run_from with_of outcome_of
grams_behind = (refl, refl)

grams_behind_split : (m : ℕ) → Split (lagoon (then 0 900000) (then 1 3) m) (lagoon (then 0 900000) (then 0 1) m) (lagoon (then 0 900000) (then 0 1) m)
grams_behind_split = split (then 0 900000) 1 3 0 1 (omega arith) (omega arith)
