-- The four lines are laid one after the other. Assumes nothing.
use lib.ListN.{length}
use Rattle.print_year.specs.Text.{year_text}
use Rattle.print_page.proofs.Laying.{joined}
use Rattle.print_year.proofs.Lengths.{begins}
use Rattle.print_year.proofs.lay_year.Goals as goal

pub returns : goal.returns
unfolding year_text
returns c =
    let start = begins c.args.at (length (year_text c.args.year c.args.figures)) c.requires in
    joined
    (joined (joined c.lay_heading-second.ensures c.lay_solids-third.ensures start) c.lay_grams-fourth.ensures start)
    c.lay_tonnes.ensures
    start
