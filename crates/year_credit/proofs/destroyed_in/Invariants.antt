-- The sum of the devices before the one that the loop has come to, which is small. Assumes nothing.
use Prim.Native.Nat.{◌*◌, ◌-◌, ◌^◌, ◌≤◌}
use mathlib.Core.Path.{◌≡◌}
use Rattle.laws.specs.Counting.{sum}
use Rattle.units.specs.Grams.{methane}
use Rattle.book_slots.specs.Reads.{destroyed_of}
use Rattle.year_months.specs.Series.{amount_of}
use Rattle.year_credit.proofs.destroyed_in.Given as goal

abbrev pub invariant-loop-device : goal.invariant-loop-device
invariant-loop-device l =
    record {
      summed : l.destroyed ≡ methane (sum (l.device - 1) (λ d. amount_of (destroyed_of l.book l.month d)));
      small : l.destroyed.0 ≤ (l.device - 1) * 10 ^ 12;
    }
