-- Each ending has its own text, and a page has room for it; the ending and the book are those of the input that came. Assumes nothing.
use mathlib.Core.Path.{refl, ap, ◌∙◌}
use Prim.Native.Nat.{◌^◌, ◌<◌}
use native.Mathlib.Omega.{arith}
use borrow.Author.Rules.{rules}
use Rattle.std.specs.Prelude.{Err}
use Rattle.book.proofs.Kept.{empty_valid}
use Rattle.print_years.proofs.Lengths.{refusal_fits}
use Rattle.years.specs.Output.{ending_text}
use Rattle.years.specs.Input.{unread}
use Rattle.years.proofs.Printed.{laid}
use Rattle.years.proofs.lay_input.Goals as goal

pub post_input-requires-clause-valid : goal.post_input-requires-clause-valid
post_input-requires-clause-valid g c = rw c.empty.ensures empty_valid

pub lay_refusal-requires : goal.lay_refusal-requires
lay_refusal-requires g c =
    let place : c.in-Err-Refused.refusal.place < 2 ^ 64 = search rules in
    omega (arith, refusal_fits c.in-Err-Refused.refusal place)

pub returns-in-Ok : goal.returns-in-Ok
unfolding ending_text
returns-in-Ok g c = laid c.empty.ensures c.in-Ok.ensures.comes refl tt (rw c.of.ensures at c.lay_years.ensures)

pub returns-in-Err-Refused : goal.returns-in-Err-Refused
unfolding ending_text
returns-in-Err-Refused g c = laid c.empty.ensures c.post_input.ensures.comes (c.in-Err-Refused.is ∙ ap Err c.in-Err-Refused.field-0-is) tt c.lay_refusal.ensures

pub returns-in-Err-Failed : goal.returns-in-Err-Failed
returns-in-Err-Failed g c = unread refl
