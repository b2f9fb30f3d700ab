-- The sum of the months before the one that the loop has come to. Assumes nothing.
use Prim.Native.Nat.{◌+◌, ◌-◌}
use mathlib.Core.Path.{◌≡◌}
use Rattle.laws.specs.Counting.{sum}
use Rattle.year_heads.specs.Heads.{head_at}
use Rattle.year_heads.proofs.of_category.Given as goal

abbrev pub invariant-loop-month : goal.invariant-loop-month
invariant-loop-month l = l.heads ≡ sum (l.month - 1) (λ m. head_at l.book l.category (l.before + m))
