-- `meter_gaps::fill` meets its contract, by what `Walk` says of an hour more. Assumes nothing.
use mathlib.Core.Path.{ap, ◌∙◌}
use mathlib.Core.Bool.{not}
use native.Mathlib.Omega.{arith}
use Rattle.meter_gaps.proofs.Walk.{walk_begun, walk_filled, walk_passed, walk_ended}
use Rattle.meter_gaps.proofs.fill.Goals.{then-is_none, else-is_none}
use Rattle.meter_gaps.proofs.fill.Goals as goal

pub loop-hour-init : goal.loop-hour-init
loop-hour-init c = walk_begun c.args.hours.now c.copy_from_slice.new.self c.copy_from_slice.ensures.after c.requires.one_month

pub filling_at-filling-requires-clause-known_past_start : goal.filling_at-filling-requires-clause-known_past_start
filling_at-filling-requires-clause-known_past_start c = c.loop-hour.invariant.known

pub loop-hour-preserved : goal.loop-hour-preserved
loop-hour-preserved c =
    let hours = c.args.hours.now in
    let l = c.loop-hour in
    elim c.if-is_none.branch [
      | then-is_none w ↦ rw (w.out-is, w.filling-is)
          (walk_filled hours l.out l.hour l.filling (omega arith) l.invariant w.filling_at-filling.result c.requires.one_month
          (c.is_none.ensures ∙ ap not w.if-is_none.true) w.filling_at-filling.ensures)
      | else-is_none w ↦ rw (w.out-is, w.filling-is)
          (walk_passed hours l.out l.hour l.filling (omega arith) l.invariant (c.is_none.ensures ∙ ap not w.if-is_none.false))
    ]

pub returns-clause-result_len : goal.returns-clause-result_len
returns-clause-result_len c = c.loop-hour.invariant.room

pub returns-clause-by_index : goal.returns-clause-by_index
returns-clause-by_index c = walk_ended c.args.hours.now c.loop-hour.out c.loop-hour.hour c.loop-hour.filling (omega arith) c.loop-hour.invariant
