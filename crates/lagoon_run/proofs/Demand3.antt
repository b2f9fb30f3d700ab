-- Demand 3. A herd is modelled whole, and again as two part herds of the same system, each from an empty lagoon, through the same n months at the same
-- temperatures and drain marks; each month the parts' entries add up to the whole's. Then of each of the three, what entered is what degraded, what was
-- removed and what is carried on, gram for gram. And the whole's degraded is never below the two parts' together, nor above it by more than n grams,
-- a gram for each month's rounding. It holds for any number of months, whatever the factors from 0 to a million and whatever the drain marks.
-- Assumes nothing.
use Prim.Native.Nat.{ℕ, zero, suc, ◌+◌, ◌≤◌}
use mathlib.Core.Bool.{Bool, true, false}
use mathlib.Core.Path.{◌≡◌, refl}
use native.Mathlib.Nat.{add-suc, le_dest}
use native.Mathlib.Omega.{arith}
use Rattle.lagoon_month.specs.declared.Month.{Month}
use Rattle.lagoon_month.specs.declared.Standing.{Standing}
use Rattle.lagoon_run.specs.declared.Totals.{Totals}
use Rattle.lagoon_factor.specs.Rule.{million}
use Rattle.lagoon_month.specs.Month.{empty_of, outcome_of}
use Rattle.lagoon_run.specs.Run.{with_of, run_from, run_of}
use Rattle.lagoon_run.proofs.Parts.{Through, AddsUp, Demand3}
use Rattle.lagoon_month.proofs.Left.{left_split}
use Rattle.lagoon_run.proofs.Same.{at, shared}
use Rattle.lagoon_run.proofs.Conserved.{conserved}

-- what each month keeps of the whole beside its parts: it has removed and carries no more than they, and less by at most a gram a month
pub record Beside (whole first second : Totals) (n : ℕ) : Type 0 where
  pub entered : whole.entered.0 ≡ first.entered.0 + second.entered.0
  pub removed : whole.removed.0 ≤ first.removed.0 + second.removed.0
  pub carried : whole.standing.0.0 ≤ first.standing.0.0 + second.standing.0.0
  pub short :
      first.removed.0 + second.removed.0 + first.standing.0.0 + second.standing.0.0 ≤
      whole.removed.0 + whole.standing.0.0 + n

-- one month, whose factor and drain mark are the same for all three
module _ (whole first second : Totals) (n e a b factor : ℕ) (adds : a + b ≡ e) (small : factor ≤ million) (kept : Beside whole first second n) where
  with_beside :
      (drained : Bool) →
      Beside (with_of whole (at factor drained e)) (with_of first (at factor drained a)) (with_of second (at factor drained b)) (suc n)
  unfolding with_of outcome_of
  with_beside drained =
      let gap = le_dest kept.carried in
      let split = left_split factor (a + first.standing.0.0) (b + second.standing.0.0) (e + whole.standing.0.0) gap.0 small (omega arith) in
      elim drained as (λ d. Beside (with_of whole (at factor d e)) (with_of first (at factor d a)) (with_of second (at factor d b)) (suc n))
      [ true ↦ omega arith | false ↦ omega arith ]

-- from any standings of which the parts' are together so many grams more than the whole's
module _ (whole first second : ℕ → Month) (from from-1 from-2 : Standing) (more : ℕ) (stands : from-1.0.0 + from-2.0.0 ≡ from.0.0 + more) where
  pub beside :
      (n : ℕ) → Through n (λ m. AddsUp (whole m) (first m) (second m)) → Through n (λ m. (whole m).factor ≤ million) →
      Beside (run_from from whole n) (run_from from-1 first n) (run_from from-2 second n) (more + n)
  unfolding run_from
  beside zero adds small = omega arith
  beside (suc n) adds small =
      let now = adds (suc n) (omega arith) (omega arith) in
      rw (add-suc more n, shared (first (suc n)) (whole (suc n)) now.first_same, shared (second (suc n)) (whole (suc n)) now.second_same)
      (with_beside (run_from from whole n) (run_from from-1 first n) (run_from from-2 second n) (more + n) (whole (suc n)).entered.0 (first (suc n)).entered.0
      (second (suc n)).entered.0 (whole (suc n)).factor now.entered (small (suc n) (omega arith) (omega arith))
      (beside n (λ m low high. adds m low (omega arith)) (λ m low high. small m low (omega arith)))
      (whole (suc n)).drained)

pub demand_3 :
    (whole first second : ℕ → Month) (n : ℕ) →
    Through n (λ m. AddsUp (whole m) (first m) (second m)) →
    Through n (λ m. (whole m).factor ≤ million) → Demand3 (run_of whole n) (run_of first n) (run_of second n) n
demand_3 whole first second n adds small =
    omega (
      arith,
      beside whole first second empty_of empty_of empty_of 0 refl n adds small,
      conserved empty_of whole n small,
      conserved empty_of first n (λ m low high. rw (adds m low high).first_same.factor (small m low high)),
      conserved empty_of second n (λ m low high. rw (adds m low high).second_same.factor (small m low high)),
    )
