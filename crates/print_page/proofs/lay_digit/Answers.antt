-- One stored byte is a text of one byte. Assumes nothing.
use mathlib.Core.Path.{refl}
use Rattle.print_page.proofs.Laying.{stored}
use Rattle.print_page.proofs.lay_digit.Goals as goal

pub returns : goal.returns
returns c = record { ends = refl; page = stored c.args.page.now c.args.at _ c.requires.1 }
