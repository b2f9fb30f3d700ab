-- Each gram goes one way: what entered, with what stood at the start, is what degraded, was removed and is carried on.
-- Assumes nothing.
use Prim.Native.Nat.{ℕ, zero, suc, ◌+◌, ◌*◌, ◌≤◌}
use mathlib.Core.Bool.{Bool, true, false, cond}
use mathlib.Core.Path.{◌≡◌}
use native.Mathlib.Nat.{suc-mul}
use native.Mathlib.Omega.{arith}
use Rattle.lagoon_month.specs.declared.Month.{Month}
use Rattle.lagoon_month.specs.declared.Outcome.{Outcome}
use Rattle.lagoon_month.specs.declared.Standing.{Standing}
use Rattle.lagoon_run.specs.declared.Totals.{Totals}
use Rattle.lagoon_factor.specs.Rule.{million}
use Rattle.lagoon_month.specs.Month.{outcome_of, available_of, left_of}
use Rattle.lagoon_run.specs.Run.{with_of, run_from}
use Rattle.lagoon_run.proofs.Parts.{Through}
use Rattle.lagoon_month.proofs.Left.{degraded_le}

either : (drained : Bool) (left : ℕ) → cond drained left 0 + cond drained 0 left ≡ left
either true left = omega arith
either false left = omega arith

pub month_conserved :
    (standing : Standing) (month : Month) → month.factor ≤ million →
    (outcome_of standing month).degraded.0 + (outcome_of standing month).removed.0 + (outcome_of standing month).next.0.0 ≡ available_of standing month
unfolding outcome_of
month_conserved standing month small =
    omega (arith, either month.drained (left_of standing month), degraded_le (available_of standing month) month.factor small)

-- the same of an outcome that a call handed back
pub told :
    (standing : Standing) (month : Month) {outcome : Outcome} →
    outcome ≡ outcome_of standing month → month.factor ≤ million →
    outcome.degraded.0 + outcome.removed.0 + outcome.next.0.0 ≡ available_of standing month
told standing month is small = rw is (month_conserved standing month small)

-- from any standing
abbrev pub ConservedFrom : Standing → Totals → Type 0
ConservedFrom standing totals =
    totals.entered.0 + standing.0.0 ≡ totals.degraded.0 + totals.removed.0 + totals.standing.0.0

with_conserved :
    (standing : Standing) (totals : Totals) (month : Month) → month.factor ≤ million →
    ConservedFrom standing totals → ConservedFrom standing (with_of totals month)
unfolding with_of
with_conserved standing totals month small kept = omega (arith, month_conserved totals.standing month small)

module _ (standing : Standing) (months : ℕ → Month) where
  pub conserved : (n : ℕ) → Through n (λ m. (months m).factor ≤ million) → ConservedFrom standing (run_from standing months n)
  unfolding run_from
  conserved zero small = omega arith
  conserved (suc n) small =
      with_conserved standing (run_from standing months n) (months (suc n)) (small (suc n) (omega arith) (omega arith))
      (conserved n (λ m low high. small m low (omega arith)))

  pub entered_at_most :
      (most n : ℕ) → Through n (λ m. (months m).entered.0 ≤ most) → (run_from standing months n).entered.0 ≤ n * most
  unfolding run_from with_of
  entered_at_most most zero each = omega arith
  entered_at_most most (suc n) each =
      omega (
        arith,
        each (suc n) (omega arith) (omega arith),
        entered_at_most most n (λ m low high. each m low (omega arith)),
        suc-mul n most,
      )
