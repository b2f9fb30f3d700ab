-- `meter_month::sum` meets its contract: the total and what an hour more weighs fit.
-- Assumes nothing.
use Rattle.meter_month.proofs.Totals.{sum_fits}
use Rattle.meter_month.proofs.sum.Goals as goal

pub plus-total-requires : goal.plus-total-requires
plus-total-requires c =
    rw (c.loop-hour.invariant, c.hour_grams.ensures, c.at-in-loop-hour.ensures)
    (sum_fits _ _ _ _ _ _ _ c.requires.one_month.1 c.requires.at_most.0 c.requires.at_most.1 c.loop-hour.hour _ _ _ c.loop-hour-test.true c.requires.one_month.0)
