-- Each turn posts what came and holds the rest (Reading); what can still come falls with each turn, since a record taken fills a slot (Slots). Assumes nothing.
use mathlib.Core.Path.{sym, ap, ◌∙◌}
use Prim.Native.Nat.{◌+◌, ◌≤◌}
use native.Mathlib.Nat.{pos_of_ne-zero}
use native.Mathlib.Omega.{arith}
use lib.ListN.{length}
use Rattle.std.specs.Prelude.{Err}
use Rattle.std.proofs.lemmas.Result.{err_from_is_err_and}
use Rattle.book.proofs.Kept.{kept_all}
use Rattle.program_feed.specs.Input.{ending_by}
use Rattle.program_feed.proofs.Reading.{begin, valid, unread_after, ended, onwards, stopped}
use Rattle.program_feed.proofs.post_input.Goals as goal

pub loop-count-init : goal.loop-count-init
loop-count-init g c = begin c.args.book.now c.args.block.now c.requires.valid

pub returns-in_err-count : goal.returns-in_err-count
returns-in_err-count g c =
    let p = err_from_is_err_and c.from_residual.result c.from_residual.ensures.1 in
    record { comes = rw (p.1, p.2) (unread_after c.loop-count.invariant c.in_err-count.field-0.0); still_valid = valid c.loop-count.invariant }

pub post_all-requires : goal.post_all-requires
post_all-requires g c = valid c.loop-count.invariant

pub returns-in_err-post_all : goal.returns-in_err-post_all
returns-in_err-post_all g c =
    let p = err_from_is_err_and c.from_residual-in_err-post_all.result c.from_residual-in_err-post_all.ensures.1 in
    let answer = p.1 ∙ ap Err p.2 ∙ ap ending_by (sym c.in_err-post_all.was ∙ c.post_all.ensures.value) in
    record {
      comes = ended c.loop-count.invariant c.read_more.new.block c.read_more.ensures.block_unchanged answer c.post_all.ensures.after;
      still_valid = rw c.post_all.ensures.after (kept_all _ _ (valid c.loop-count.invariant));
    }

pub returns-then-count-eq0 : goal.returns-then-count-eq0
returns-then-count-eq0 g c =
    let answer = ap ending_by (sym c.in_ok-post_all.was ∙ c.post_all.ensures.value) in
    record {
      comes = ended c.loop-count.invariant c.read_more.new.block c.read_more.ensures.block_unchanged answer c.post_all.ensures.after;
      still_valid = rw c.post_all.ensures.after (kept_all _ _ (valid c.loop-count.invariant));
    }

pub post_block-requires-clause-valid : goal.post_block-requires-clause-valid
post_block-requires-clause-valid g c = valid c.loop-count.invariant

pub returns-in_err-held : goal.returns-in_err-held
returns-in_err-held g c =
    let p = err_from_is_err_and c.from_residual-in_err-held.result c.from_residual-in_err-held.ensures.1 in
    let room : c.loop-count.held + c.in_ok-count.count ≤ length c.read_more.new.block = omega (arith, c.in_ok-count.ensures.room) in
    let told = c.post_block.ensures in
    record {
      comes = rw (p.1, p.2)
          (stopped c.loop-count.invariant c.read_more.new.block c.read_more.ensures.block_unchanged c.in_ok-count.count room told.value told.after told.block_after c.in_err-held.was);
      still_valid = rw told.after (kept_all _ _ (valid c.loop-count.invariant));
    }

pub loop-count-smaller : goal.loop-count-smaller
loop-count-smaller g c =
    let room : c.loop-count.held + c.in_ok-count.count ≤ length c.read_more.new.block = omega (arith, c.in_ok-count.ensures.room) in
    let told = c.post_block.ensures in
    (onwards c.loop-count.invariant c.read_more.new.block c.read_more.ensures.block_unchanged c.in_ok-count.count room told.value told.after told.block_after
    (pos_of_ne-zero c.if-count-eq0.false) c.in_ok-held.was).1

pub loop-count-preserved : goal.loop-count-preserved
loop-count-preserved g c =
    let room : c.loop-count.held + c.in_ok-count.count ≤ length c.read_more.new.block = omega (arith, c.in_ok-count.ensures.room) in
    let told = c.post_block.ensures in
    (onwards c.loop-count.invariant c.read_more.new.block c.read_more.ensures.block_unchanged c.in_ok-count.count room told.value told.after told.block_after
    (pos_of_ne-zero c.if-count-eq0.false) c.in_ok-held.was).0
