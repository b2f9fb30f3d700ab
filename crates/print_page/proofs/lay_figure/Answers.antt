-- The word and the digits are laid one after the other. Assumes nothing.
use native.Mathlib.Omega.{arith}
use Rattle.print_page.proofs.Laying.{joined}
use Rattle.print_page.proofs.lay_figure.Goals as goal

pub returns : goal.returns
returns c = joined c.lay_word-named.ensures c.lay_decimal.ensures (omega arith)
