-- `book::post_all` meets its contract: what is still to come makes what all of it makes. Assumes nothing.
use mathlib.Core.Path.{sym, ap, ◌∙◌}
use lib.ListN.{length}
use Prim.Native.Nat.{ℕ, min}
use Rattle.std.specs.Prelude.{Err}
use Rattle.std.proofs.lemmas.Result.{err_from_is_err_and}
use Rattle.std.specs.Slice.Iter.{chunks_rest}
use Rattle.book.proofs.Runs.{onwards, stopped, ended}
use Rattle.book.proofs.post_all.Goals as goal

pub loop-record-preserved : goal.loop-record-preserved
loop-record-preserved c =
    let s = c.in-Some.ensures.steps.1 in
    let l = c.loop-record in
    let long = s.1 ∙ ap (λ (n : ℕ). min n (length (chunks_rest l.record-iterator))) l.invariant.sixteen in
    record {
      sixteen = c.in-Some.ensures.steps.0 ∙ l.invariant.sixteen;
      going = onwards l.invariant.going _ _ s.0 long s.2 (sym c.post.ensures.value ∙ c.in_ok-post.was) c.post.ensures.after;
    }

pub returns-in_err-post : goal.returns-in_err-post
returns-in_err-post c =
    let s = c.in-Some.ensures.steps.1 in
    let l = c.loop-record in
    let long = s.1 ∙ ap (λ (n : ℕ). min n (length (chunks_rest l.record-iterator))) l.invariant.sixteen in
    let e = stopped l.invariant.going _ _ s.0 long s.2 _ (sym c.post.ensures.value ∙ c.in_err-post.was) in
    let p = err_from_is_err_and c.from_residual.result c.from_residual.ensures.1 in
    record { value = p.1 ∙ ap Err p.2 ∙ e.0; after = c.post.ensures.after ∙ e.1 }

pub returns : goal.returns
returns c =
    let e = ended c.loop-record.invariant.going c.in-None.ensures.steps.1.0 in
    record { value = e.0; after = e.1 }
