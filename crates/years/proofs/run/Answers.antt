-- The book is as long as `lay_input` asks (a book's size is what the table computes), and what is written lies within the page. Assumes nothing.
use mathlib.Core.Path.{refl, sym}
use lib.Seq.{length-take-le}
use Rattle.record_table.specs.Slot.{count, total, slots}
use Rattle.years.proofs.Printed.{ends_within}
use Rattle.years.proofs.run.Goals as goal

pub lay_input-requires-clause-book_len : goal.lay_input-requires-clause-book_len
unfolding count total slots
lay_input-requires-clause-book_len c = refl

pub slice_bounds-page-end : goal.slice_bounds-page-end
slice_bounds-page-end c = ends_within c.in-Ok.end c.in-Ok.ensures refl

pub slice_bounds-write_all-end : goal.slice_bounds-write_all-end
slice_bounds-write_all-end c = sym (length-take-le _ _ (ends_within c.in-Ok.end c.in-Ok.ensures refl))
