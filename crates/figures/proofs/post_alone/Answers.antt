-- The empty book is a book. Assumes nothing.
use mathlib.Core.Path.{refl, sym, subst}
use Rattle.record_table.specs.Slot.{count, total, slots}
use Rattle.book.specs.Valid.{Valid}
use Rattle.book.proofs.Kept.{empty_valid}
use Rattle.book.proofs.Size.{zeros_sized}
use Rattle.figures.proofs.post_alone.Goals as goal

pub empty-requires : goal.empty-requires
unfolding count total slots
empty-requires g c = zeros_sized refl

pub post-requires : goal.post-requires
post-requires g c = subst Valid (sym c.empty.ensures) empty_valid
