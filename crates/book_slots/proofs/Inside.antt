-- The slot of a key lies inside the book: one law over the row. Assumes nothing.
use mathlib.Core.Path.{◌≡◌, subst⁻¹}
use mathlib.Core.List.{List}
use Prim.Native.Nat.{ℕ, ◌<◌}
use lib.ListN.{length}
use Rattle.record_table.specs.Table.{table, highest_of}
use Rattle.record_table.specs.Slot.{slots, slot_of}
use Rattle.record_table.proofs.Slots.{Low, among, among_all}

pub inside : (row : ℕ) → row < length table → (bytes : List ℕ) {k : ℕ} → k ≡ slot_of row bytes → Low (highest_of row) bytes → k < slots
inside row h bytes e l = subst⁻¹ (λ (n : ℕ). n < slots) e (among_all row (slot_of row bytes) h (among row h bytes l))
