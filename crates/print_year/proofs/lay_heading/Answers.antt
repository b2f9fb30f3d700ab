-- The line's two texts are laid one after the other. Assumes nothing.
use native.Mathlib.Omega.{arith}
use Rattle.print_year.specs.Text.{heading_text}
use Rattle.print_page.proofs.Laying.{joined}
use Rattle.print_year.proofs.lay_heading.Goals as goal

pub returns : goal.returns
unfolding heading_text
returns c = joined c.lay_figure-numbered.ensures c.lay_word.ensures (omega arith)
