-- A run's code: its totals have room for the next month, a turn of the loop is one month more, and a run depends on its own months alone.
-- Assumes nothing.
use Prim.Native.Nat.{ℕ, suc, ◌+◌, ◌-◌, ◌≤◌, ◌<◌}
use mathlib.Core.List.{List}
use mathlib.Core.Path.{◌≡◌, ap}
use native.Mathlib.Numerals.{add-one}
use native.Mathlib.Nat.{mul-le-mul_right}
use native.Mathlib.Omega.{arith}
use lib.ListN.{length, get_or}
use Rattle.lagoon_month.specs.declared.Month.{Month}
use Rattle.lagoon_month.specs.declared.Standing.{Standing}
use Rattle.lagoon_run.specs.declared.Totals.{Totals}
use Rattle.lagoon_factor.specs.Rule.{million}
use Rattle.lagoon_month.specs.Month.{available_of}
use Rattle.lagoon_run.specs.Run.{with_of, run_from, no_month, months_of}
use Rattle.lagoon_month.specs.Asks.{entered_most, grams_most}
use Rattle.lagoon_run.specs.Asks.{RunFits}
use Rattle.lagoon_run.proofs.Conserved.{conserved, entered_at_most}

-- what a run's code asks of its totals before one month more
pub record HasRoom (totals : Totals) (month : Month) : Type 0 where
  pub entered : totals.entered.0 + month.entered.0 < grams_most
  pub out : totals.degraded.0 + totals.removed.0 + available_of totals.standing month < grams_most
  pub factor : month.factor ≤ million

module _ (standing : Standing) (list : List Month) where
  abbrev pub months : ℕ → Month
  months = months_of list

  -- the list counts from 0, and months from 1
  step : (passed : ℕ) → months (suc passed) ≡ get_or list passed no_month
  step passed = let e : suc passed - 1 ≡ passed = omega arith in ap (λ (k : ℕ). get_or list k no_month) e

  room : RunFits standing list → (i : ℕ) → i < length list → HasRoom (run_from standing months i) (get_or list i no_month)
  room fits i below =
      omega (
        arith,
        fits.room,
        mul-le-mul_right entered_most below,
        fits.entry i below,
        fits.factor i below,
        conserved standing months i (λ m low high. fits.factor (m - 1) (omega arith)),
        entered_at_most standing months entered_most i (λ m low high. fits.entry (m - 1) (omega arith)),
      )

  -- a turn of the loop
  module _ {totals : Totals} (passed : ℕ) (is : totals ≡ run_from standing months passed) where
    pub has_room : RunFits standing list → passed < length list → HasRoom totals (get_or list passed no_month)
    has_room fits below = rw is (room fits passed below)

    pub one_more : {next : Totals} → next ≡ with_of totals (get_or list passed no_month) → next ≡ run_from standing months (passed + 1)
    unfolding run_from
    one_more more = rw (add-one passed, step passed, ← is) more
