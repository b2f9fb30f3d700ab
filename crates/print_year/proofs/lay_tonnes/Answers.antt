-- The line's four texts are laid one after the other, and what is printed of net is the number that its bits say. Assumes nothing.
use mathlib.Core.Path.{◌≡◌}
use borrow.Author.Rules.{rules}
use lib.ListN.{length}
use mir.Syntax.{w64}
use mir.Val.{to_z, of_z}
use Rattle.print_year.specs.Text.{tonnes_text}
use Rattle.print_page.proofs.Laying.{joined}
use Rattle.print_year.proofs.Lengths.{begins}
use Rattle.print_year.proofs.lay_tonnes.Goals as goal

pub returns : goal.returns
unfolding tonnes_text
returns c =
    let held : to_z w64 (of_z w64 c.args.figures.net) ≡ c.args.figures.net = search rules in
    let start = begins c.args.at (length (tonnes_text c.args.figures)) c.requires in
    joined
    (joined (joined c.lay_word-named.ensures (rw held at c.lay_signed-net.ensures) start) c.lay_figure-credited.ensures start)
    c.lay_word.ensures
    start
