-- `meter_gaps::Month::total` meets its contract. The loop's invariant: the hours passed are recorded, and their sum is the sum so far.
-- Assumes nothing.
use Rattle.std.proofs.Common.{◌≡◌, Some}
use Rattle.meter_series.specs.Series.{series}
use Rattle.meter_gaps.specs.Filling.{total_of}
use Rattle.meter_gaps.proofs.Month.total.Given as goal

abbrev pub invariant-loop-hour : goal.invariant-loop-hour
invariant-loop-hour l = total_of (series l.self.hours.now) l.from l.hour-index ≡ Some l.sum
