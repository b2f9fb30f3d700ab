-- The line's four texts are laid one after the other. Assumes nothing.
use lib.ListN.{length}
use Rattle.print_year.specs.Text.{grams_text}
use Rattle.print_page.proofs.Laying.{joined}
use Rattle.print_year.proofs.Lengths.{begins}
use Rattle.print_year.proofs.lay_grams.Goals as goal

pub returns : goal.returns
unfolding grams_text
returns c =
    let start = begins c.args.at (length (grams_text c.args.figures)) c.requires in
    joined (joined (joined (rw c.grams.ensures at c.lay_figure-baseline.ensures) (rw c.grams-2.ensures at c.lay_figure-project.ensures) start) (rw c.grams-3.ensures at c.lay_figure-metered.ensures) start) c.lay_word.ensures start
