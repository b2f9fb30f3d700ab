-- `meter_gaps::fill` meets its contract: the hours passed are filled, and the others are as they were recorded. Assumes nothing.
use Rattle.meter_gaps.proofs.Walk.{Walked}
use Rattle.meter_gaps.proofs.fill.Given as goal

abbrev pub invariant-loop-hour : goal.invariant-loop-hour
invariant-loop-hour l = Walked l.hours l.out l.hour l.filling
