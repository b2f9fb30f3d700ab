-- `year::figures_of` meets its contract: a signed number comes back from its bits.
-- Assumes nothing.
use mathlib.Core.Path.{◌≡◌}
use borrow.Author.Rules.{rules}
use mir.Syntax.{w64}
use mir.Val.{of_z, to_z}
use Rattle.year.proofs.Never.{figures_are}
use Rattle.year.proofs.figures_of.Goals as goal

pub returns : goal.returns
returns c =
    let total = c.total.result in
    let net = c.net-net.result in
    let total_read : to_z w64 (of_z w64 total) ≡ total = search rules in
    let net_read : to_z w64 (of_z w64 net) ≡ net = search rules in
    figures_are c.args.book.now c.args.year total net c.sums_of-sums.ensures.value c.operator_of-operator.ensures.value c.metered.ensures
    c.total.ensures total_read c.net-net.ensures net_read c.credited.ensures
