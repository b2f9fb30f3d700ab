-- `lagoon_run::run` meets its contract: the totals of the months so far have room for the next.
-- Assumes nothing.
use native.Mathlib.Omega.{arith}
use Rattle.lagoon_run.proofs.Runs.{has_room}
use Rattle.lagoon_run.proofs.run.Goals as goal

pub with-totals-requires-clause-grams_fit : goal.with-totals-requires-clause-grams_fit
with-totals-requires-clause-grams_fit c =
    let room = has_room c.args.from c.args.months.now c.loop-month.month-index c.loop-month.invariant c.requires (omega arith) in (room.entered, room.out)
