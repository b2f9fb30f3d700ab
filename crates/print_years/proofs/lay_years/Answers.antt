-- The years are laid one after the other (Walk), and each finds room, since no year's lines are longer than `year_bytes` (Lengths). Assumes nothing.
use Prim.Native.Nat.{◌^◌, ◌<◌}
use native.Mathlib.Omega.{arith}
use borrow.Author.Rules.{rules}
use Rattle.print_years.proofs.Walk.{begin, stated, refused, ended}
use Rattle.print_years.proofs.Lengths.{Held, year_fits, refusal_fits}
use Rattle.print_years.proofs.lay_years.Goals as goal

pub loop-year-init : goal.loop-year-init
loop-year-init c = begin _ _

pub lay_year-at-requires : goal.lay_year-at-requires
lay_year-at-requires c =
    let held : Held c.in-Ok.figures = search rules in
    omega (arith, year_fits c.loop-year.year c.in-Ok.figures (omega arith) held)

pub lay_refusal-requires : goal.lay_refusal-requires
lay_refusal-requires c =
    let refusal = c.in-Err.refusal in
    let place : refusal.place < 2 ^ 64 = search rules in
    omega (arith, refusal_fits refusal place)

pub returns-in-Err : goal.returns-in-Err
returns-in-Err c = refused c.loop-year.invariant c.loop-year-test.true c.year.ensures c.in-Err.is c.lay_refusal.ensures

pub loop-year-preserved : goal.loop-year-preserved
loop-year-preserved c =
    let held : Held c.in-Ok.figures = search rules in
    stated c.loop-year.invariant c.loop-year-test.true c.year.ensures c.in-Ok.is c.lay_year-at.ensures
    (year_fits c.loop-year.year c.in-Ok.figures (omega arith) held)

pub returns : goal.returns
returns c = ended c.loop-year.invariant c.loop-year-test.false
