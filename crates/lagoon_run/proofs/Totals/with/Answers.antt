-- `lagoon_run::Totals::with` meets its contract: a month hands back no more than was available.
-- Assumes nothing.
use native.Mathlib.Omega.{arith}
use Rattle.lagoon_run.proofs.Conserved.{told}
use Rattle.lagoon_run.proofs.Totals.with.Goals as goal

pub plus-requires-2 : goal.plus-requires-2
plus-requires-2 c = omega (arith, c.requires, told c.args.self.standing c.args.month c.month-outcome.ensures c.requires.factor_at_most_one)

pub plus-requires-3 : goal.plus-requires-3
plus-requires-3 c = omega (arith, c.requires, told c.args.self.standing c.args.month c.month-outcome.ensures c.requires.factor_at_most_one)
