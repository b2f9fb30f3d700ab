-- Its three texts are laid one after the other. Assumes nothing.
use native.Mathlib.Omega.{arith}
use Rattle.print_page.proofs.Laying.{joined}
use Rattle.print_refusal.proofs.lay_numbered.Goals as goal

pub returns : goal.returns
returns c = rw c.from.ensures at (joined (joined c.lay_figure-numbered.ensures c.lay_figure-placed.ensures (omega arith)) c.lay_word.ensures (omega arith))
