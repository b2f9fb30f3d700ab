-- `meter_month::record_hours` meets its contract: the search goes on past an hour that is taken, and both series hold it.
-- Assumes nothing.
use Rattle.std.proofs.Common.{◌<◌, length, ap, sym, ◌∙◌, arith}
use Rattle.laws.proofs.Counting.{search_passes}
use Rattle.meter_series.proofs.Arrays.{stored}
use Rattle.meter_hour.specs.Hour.{is_refused, flow_of, content_of}
use Rattle.meter_month.specs.Month.{recorded}
use Rattle.meter_month.specs.Meters.{states_of, hour_in}
use Rattle.meter_month.proofs.record_hours.Goals as goal

pub loop-hour-preserved : goal.loop-hour-preserved
loop-hour-preserved c =
    let hours = hour_in c.args.meter.now in
    let n = length (states_of c.args.meter.now) in
    let l = c.loop-hour in
    let inside : l.hour < n = omega (arith, c.loop-hour-test.true, l.invariant.to_end) in
    let taken = sym c.in-Some.is ∙ c.recorded_at.ensures in
    record {
      to_end = l.invariant.to_end;
      within = omega (arith, inside);
      search_left = l.invariant.search_left ∙ search_passes n l.hour (λ k. is_refused (hours k)) inside (sym (ap is_refused taken));
      flows_recorded = stored l.flows l.hour c.in-Some.recorded.flow (recorded flow_of hours) (omega (arith, inside)) l.invariant.flows_recorded (ap flow_of taken);
      contents_recorded = stored l.contents l.hour c.in-Some.recorded.content (recorded content_of hours) (omega (arith, inside)) l.invariant.contents_recorded (ap content_of taken);
    }
