-- `year_needs::LinedCategories::of` meets its contract: the flags of the lines before the one that the loop has come to.
-- Assumes nothing.
use Prim.Native.Nat.{◌≤◌}
use native.Mathlib.Omega.{arith}
use mathlib.Core.Path.{ap, ◌∙◌}
use Rattle.record_table.specs.Table.{categories}
use Rattle.year_months.specs.Series.{amount_of}
use Rattle.year_needs.proofs.Lined.{lined_more, lined_none}
use Rattle.year_needs.proofs.Ranges.{category_amount}
use Rattle.year_needs.proofs.LinedCategories.of.Goals as goal

pub loop-line-init : goal.loop-line-init
loop-line-init c = (omega arith, lined_none _)

pub loop-line-preserved : goal.loop-line-preserved
loop-line-preserved c =
    let small : c.unwrap_or-category.result ≤ categories =
    rw (c.unwrap_or-category.ensures ∙ ap amount_of c.category.ensures) (category_amount c.args.book.now c.known.ensures c.loop-line.line (omega arith)) in
    (omega arith, lined_more c.args.book.now c.loop-line.line (omega arith) c.category.ensures c.unwrap_or-category.ensures small c.loop-line.invariant.1)
