-- `meter_month::record_hours` meets its contract. The loop's invariant: the search from the hour at hand on gives what the whole search gives, and
-- the hours passed stand in both series.
-- Assumes nothing.
use Rattle.std.proofs.Common.{◌≡◌, ◌≤◌, ◌-◌, length}
use Rattle.laws.specs.Counting.{first_from}
use Rattle.meter_hour.specs.Hour.{is_refused, flow_of, content_of}
use Rattle.meter_month.specs.Month.{first_refused, recorded}
use Rattle.meter_month.specs.Asks.{Holds}
use Rattle.meter_month.specs.Meters.{states_of, hour_in}
use Rattle.meter_month.proofs.record_hours.Given as goal

abbrev pub invariant-loop-hour : goal.invariant-loop-hour
invariant-loop-hour l =
    record {
      to_end : l.hour-end ≡ length (states_of l.meter);
      within : l.hour ≤ length (states_of l.meter);
      search_left : first_refused (hour_in l.meter) (length (states_of l.meter)) ≡ first_from l.hour (length (states_of l.meter) - l.hour) (λ k. is_refused (hour_in l.meter k));
      flows_recorded : Holds l.flows l.hour (recorded flow_of (hour_in l.meter));
      contents_recorded : Holds l.contents l.hour (recorded content_of (hour_in l.meter));
    }

abbrev pub decreases-loop-hour : goal.decreases-loop-hour
decreases-loop-hour l = l.hour-end - l.hour
