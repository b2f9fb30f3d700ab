-- The line's five texts are laid one after the other. Assumes nothing.
use lib.ListN.{length}
use Rattle.print_year.specs.Text.{solids_text}
use Rattle.print_page.proofs.Laying.{joined}
use Rattle.print_year.proofs.Lengths.{begins}
use Rattle.print_year.proofs.lay_solids.Goals as goal

pub returns : goal.returns
unfolding solids_text
returns c =
    let start = begins c.args.at (length (solids_text c.args.figures)) c.requires in
    joined (joined (joined (joined (rw c.grams.ensures at c.lay_figure-entered.ensures) (rw c.grams-2.ensures at c.lay_figure-degraded.ensures) start) (rw c.grams-3.ensures at c.lay_figure-removed.ensures) start) (rw c.grams-4.ensures at c.lay_figure-carried.ensures) start) c.lay_word.ensures start
