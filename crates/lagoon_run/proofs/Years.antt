-- A run of k months and n more is the run of the first k, and then n from the standing that they handed on.
-- Assumes nothing.
use Prim.Native.Nat.{ℕ, zero, suc, ◌+◌}
use mathlib.Core.Path.{◌≡◌, refl}
use native.Mathlib.Nat.{add-zero, add-suc}
use native.Mathlib.Omega.{arith}
use Rattle.lagoon_month.specs.declared.Month.{Month}
use Rattle.lagoon_month.specs.declared.Standing.{Standing}
use Rattle.lagoon_run.specs.declared.Totals.{Totals}
use Rattle.lagoon_run.specs.Run.{with_of, run_from, after}

pub record Joined (all before rest : Totals) : Type 0 where
  pub entered : all.entered.0 ≡ before.entered.0 + rest.entered.0
  pub degraded : all.degraded.0 ≡ before.degraded.0 + rest.degraded.0
  pub removed : all.removed.0 ≡ before.removed.0 + rest.removed.0
  pub standing : all.standing ≡ rest.standing

with_joined : (all before rest : Totals) (month : Month) → Joined all before rest → Joined (with_of all month) before (with_of rest month)
unfolding with_of
with_joined all before rest month joined =
    rw joined.standing
    (record {
      entered = omega (arith, joined.entered);
      degraded = omega (arith, joined.degraded);
      removed = omega (arith, joined.removed);
      standing = refl;
    })

module _ (standing : Standing) (months : ℕ → Month) (k : ℕ) where
  pub joined :
      (n : ℕ) →
      Joined (run_from standing months (k + n)) (run_from standing months k) (run_from (run_from standing months k).standing (after k months) n)
  unfolding run_from
  joined zero = rw (add-zero k) (record { entered = omega arith; degraded = omega arith; removed = omega arith; standing = refl })
  joined (suc n) =
      rw (add-suc k n)
      (with_joined (run_from standing months (k + n)) (run_from standing months k)
      (run_from (run_from standing months k).standing (after k months) n) (months (suc (k + n))) (joined n))
