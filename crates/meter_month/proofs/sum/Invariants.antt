-- `meter_month::sum` meets its contract. The loop's invariant: the total is that of the hours passed.
-- Assumes nothing.
use Rattle.std.proofs.Common.{◌≡◌}
use Rattle.units.specs.Grams.{methane}
use Rattle.meter_state.specs.State.{state_at}
use Rattle.meter_series.specs.Series.{series}
use Rattle.meter_month.specs.Month.{grams_of}
use Rattle.meter_month.proofs.sum.Given as goal

abbrev pub invariant-loop-hour : goal.invariant-loop-hour
invariant-loop-hour l =
    l.total ≡ methane (grams_of l.kind l.efficiency (state_at l.states) (series l.recorded.flows.now) (series l.recorded.contents.now) (series l.filled.flows.now) (series l.filled.contents.now) l.hour)
