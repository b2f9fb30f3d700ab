-- Each figure has the months before the one that the loop has come to, and is small. Assumes nothing.
use Prim.Native.Nat.{◌+◌, ◌*◌, ◌-◌, ◌≤◌}
use mathlib.Core.Path.{◌≡◌}
use Rattle.laws.specs.Counting.{sum}
use Rattle.units.specs.Grams.{methane, co2e}
use Rattle.book_slots.specs.Reads.{project_methane_of, baseline_co2_of, project_co2_of}
use Rattle.year_credit.specs.Credit.{grams_of, destroyed_at}
use Rattle.year_credit.specs.Asks.{month_most}
use Rattle.year_credit.proofs.operator_of.Given as goal

abbrev pub invariant-loop-nth : goal.invariant-loop-nth
invariant-loop-nth l =
    record {
      project_methane : l.project_methane ≡ co2e (sum (l.nth - 1) (λ m. (grams_of (project_methane_of l.book (l.before + m))).0));
      baseline_co2 : l.baseline_co2 ≡ co2e (sum (l.nth - 1) (λ m. (grams_of (baseline_co2_of l.book (l.before + m))).0));
      project_co2 : l.project_co2 ≡ co2e (sum (l.nth - 1) (λ m. (grams_of (project_co2_of l.book (l.before + m))).0));
      destroyed : l.destroyed ≡ methane (sum (l.nth - 1) (λ m. (destroyed_at l.book (l.before + m)).0));
      project_methane_small : l.project_methane.0 ≤ (l.nth - 1) * month_most;
      baseline_co2_small : l.baseline_co2.0 ≤ (l.nth - 1) * month_most;
      project_co2_small : l.project_co2.0 ≤ (l.nth - 1) * month_most;
      destroyed_small : l.destroyed.0 ≤ (l.nth - 1) * month_most;
    }
