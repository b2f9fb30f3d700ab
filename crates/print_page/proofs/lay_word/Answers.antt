-- The copied part of the page is the word. Assumes nothing.
use mathlib.Core.Path.{refl}
use Rattle.print_page.proofs.Laying.{copied}
use Rattle.print_page.proofs.lay_word.Goals as goal

pub returns : goal.returns
returns c = record { ends = refl; page = copied c.args.page.now c.copy_from_slice.new.self c.args.word.now c.args.at c.copy_from_slice.ensures.after }
