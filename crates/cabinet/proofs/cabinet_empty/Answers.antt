-- Memory is made an empty book where it has a book's size, which the table computes. Assumes nothing.
use mathlib.Core.Path.{refl}
use borrow.Author.Tests.{eq-eqb, ne_eqb}
use Rattle.record_table.specs.Slot.{count, total, slots}
use Rattle.cabinet.proofs.cabinet_empty.Goals as goal

pub returns-then-memory-ne-BYTES : goal.returns-then-memory-ne-BYTES
unfolding count total slots
returns-then-memory-ne-BYTES c = rw (ne_eqb _ _ c.if-memory-ne-BYTES.true) record { value = refl; memory_after = refl }

pub empty-requires : goal.empty-requires
unfolding count total slots
empty-requires c = c.if-memory-ne-BYTES.false

pub returns : goal.returns
unfolding count total slots
returns c = rw (eq-eqb _ _ c.if-memory-ne-BYTES.false) record { value = refl; memory_after = c.empty.ensures }
