-- A lagoon in which no less stands and into which no less enters each month, at the same temperatures and drain marks, degrades, removes and carries on no less.
-- Assumes nothing.
use Prim.Native.Nat.{ℕ, zero, suc, ◌+◌, ◌≤◌}
use mathlib.Core.Bool.{Bool, true, false}
use native.Mathlib.Omega.{arith}
use Rattle.lagoon_month.specs.declared.Month.{Month}
use Rattle.lagoon_month.specs.declared.Standing.{Standing}
use Rattle.lagoon_run.specs.declared.Totals.{Totals}
use Rattle.lagoon_factor.specs.Rule.{million}
use Rattle.lagoon_month.specs.Month.{outcome_of}
use Rattle.lagoon_run.specs.Run.{with_of, run_from}
use Rattle.lagoon_run.proofs.Parts.{Through, SameLagoon}
use Rattle.lagoon_month.proofs.Left.{left_more}
use Rattle.lagoon_run.proofs.Same.{at, shared}

pub record EntersMore (less more : Month) : Type 0 where
  pub entered : less.entered.0 ≤ more.entered.0
  pub same : SameLagoon less more

pub record More (less more : Totals) : Type 0 where
  pub entered : less.entered.0 ≤ more.entered.0
  pub degraded : less.degraded.0 ≤ more.degraded.0
  pub removed : less.removed.0 ≤ more.removed.0
  pub carried : less.standing.0.0 ≤ more.standing.0.0

module _ (less more : Totals) (a b factor : ℕ) (enters : a ≤ b) (small : factor ≤ million) (kept : More less more) where
  with_more : (drained : Bool) → More (with_of less (at factor drained a)) (with_of more (at factor drained b))
  unfolding with_of outcome_of
  with_more drained =
      let grows = left_more factor (a + less.standing.0.0) (b + more.standing.0.0) small (omega arith) in
      elim drained as (λ v. More (with_of less (at factor v a)) (with_of more (at factor v b))) [ true ↦ omega arith | false ↦ omega arith ]

-- from two standings, of which the first is no more than the second
module _ (less more : ℕ → Month) (low high : Standing) (stands : low.0.0 ≤ high.0.0) where
  pub more_degrades :
      (n : ℕ) → Through n (λ m. EntersMore (less m) (more m)) → Through n (λ m. (more m).factor ≤ million) →
      More (run_from low less n) (run_from high more n)
  unfolding run_from
  more_degrades zero enters small = omega arith
  more_degrades (suc n) enters small =
      let now = enters (suc n) (omega arith) (omega arith) in
      rw (shared (less (suc n)) (more (suc n)) now.same)
      (with_more (run_from low less n) (run_from high more n) (less (suc n)).entered.0 (more (suc n)).entered.0 (more (suc n)).factor
      now.entered (small (suc n) (omega arith) (omega arith))
      (more_degrades n (λ m from to. enters m from (omega arith)) (λ m from to. small m from (omega arith)))
      (more (suc n)).drained)
