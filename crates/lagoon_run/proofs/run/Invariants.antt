-- After so many months the totals are theirs. Assumes nothing.
use mathlib.Core.Path.{◌≡◌}
use Rattle.lagoon_run.specs.Run.{run_from, months_of}
use Rattle.lagoon_run.proofs.run.Given as goal

abbrev pub invariant-loop-month : goal.invariant-loop-month
invariant-loop-month l = l.totals ≡ run_from l.fn.from (months_of l.months) l.month-index
