-- A run depends on its own months alone: months that are the same one by one make the same run, whether they are a book's or an array's.
-- Assumes nothing.
use Prim.Native.Nat.{ℕ, zero, suc, ◌+◌, ◌*◌, ◌-◌, ◌≤◌}
use mathlib.Core.Path.{refl, ap, ◌≡◌, ◌∙◌}
use native.Mathlib.Omega.{arith}
use Rattle.laws.proofs.Counting.{Each}
use Rattle.lagoon_run.proofs.Conserved.{conserved, entered_at_most}
use Rattle.lagoon_month.specs.Asks.{entered_most}
use Rattle.lagoon_factor.specs.Rule.{million}
use Rattle.lagoon_month.specs.Month.{empty_of}
use Rattle.lagoon_run.specs.Run.{run_from, run_of, after, year_of}
use Rattle.lagoon_month.specs.declared.Month.{Month}
use Rattle.lagoon_month.specs.declared.Standing.{Standing}
use Rattle.lagoon_run.specs.declared.Totals.{Totals}

pub same_run : (standing : Standing) (one other : ℕ → Month) (n : ℕ) → Each n (λ m. one m ≡ other m) → run_from standing one n ≡ run_from standing other n
unfolding run_from
same_run standing one other zero same = refl
same_run standing one other (suc n) same =
    rw (same (suc n) (omega arith) (omega arith), same_run standing one other n (λ m low high. same m low (omega arith)))

pub same_year : (one other : ℕ → Month) (y : ℕ) → 1 ≤ y → Each (12 * y) (λ m. one m ≡ other m) → year_of one y ≡ year_of other y
unfolding year_of
same_year one other y low same =
    let k = 12 * (y - 1) in
    same_run (run_of one k).standing (after k one) (after k other) 12 (λ m l h. same (k + m) (omega arith) (omega arith)) ∙
    ap (λ (t : Totals). run_from t.standing (after k other) 12) (same_run empty_of one other k (λ m l h. same m l (omega arith)))

-- what a run hands on is at most what it started from and what entered
pub standing_most :
    (standing : Standing) (run : ℕ → Month) (n : ℕ) → Each n (λ m. (run m).factor ≤ million) → Each n (λ m. (run m).entered.0 ≤ entered_most) →
    (run_from standing run n).standing.0.0 ≤ standing.0.0 + n * entered_most
standing_most standing run n small each = omega (arith, conserved standing run n small, entered_at_most standing run entered_most n each)
