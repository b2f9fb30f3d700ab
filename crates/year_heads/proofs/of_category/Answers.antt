-- `year_heads::of_category` meets its contract: no sum of the months so far passes that of the ranges' ends.
-- Assumes nothing.
use Prim.Native.Nat.{ℕ, ◌+◌, ◌-◌, ◌≤◌}
use native.Mathlib.Omega.{arith}
use Rattle.laws.proofs.Counting.{sum_most}
use Rattle.calendar.specs.Days.{months_in_year}
use Rattle.year_heads.specs.Heads.{head_at}
use Rattle.year_heads.proofs.Ranges.{head_most}
use Rattle.year_heads.proofs.of_category.Goals as goal

pub overflow_add-heads : goal.overflow_add-heads
overflow_add-heads c =
    let loop = c.loop-month in
    let year = c.months_before-before in
    let most : (m : ℕ) → m ≤ months_in_year → head_at c.args.book.now c.args.category (year.result + m) ≤ 100000 = λ m high.
    head_most c.args.book.now c.known.ensures c.args.category (year.result + m) c.requires.category_within (omega (arith, year.ensures.value, year.ensures.in_period.high)) in
    omega (arith, loop.invariant, c.head-heads.ensures, most loop.month (omega arith), sum_most _ 100000 (loop.month - 1) (λ m low high. most m (omega arith)))
