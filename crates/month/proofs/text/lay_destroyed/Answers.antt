-- The two texts are laid one after the other. Assumes nothing.
use native.Mathlib.Omega.{arith}
use Rattle.print_page.proofs.Laying.{joined}
use Rattle.month.specs.Text.{destroyed_text}
use Rattle.month.proofs.text.lay_destroyed.Goals as goal

pub returns : goal.returns
unfolding destroyed_text
returns c = joined c.lay_figure-named.ensures c.lay_word.ensures (omega arith)
