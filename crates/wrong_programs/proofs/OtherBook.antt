-- A program that leaves every book empty, or keeps other values than were posted, breaks the promise of posting. Assumes nothing.
use Prim.Native.Nat.{ℕ, ◌<◌}
use mathlib.Core.List.{List}
use mathlib.Core.Path.{◌≡◌, sym, ap, ◌∙◌}
use native.Mathlib.Omega.{arith}
use lib.ListN.{length, get_or}
use Rattle.std.specs.Prelude.{Some}
use Rattle.record_table.specs.Table.{entries_of}
use Rattle.number_bytes.specs.Number.{number_at}
use Rattle.record_table.specs.Slot.{slot_of}
use Rattle.record_judge.specs.Defaults.{is_defaults}
use Rattle.record_judge.specs.Record.{key_of, key_row, stored_of}
use Rattle.record_judge.proofs.Keys.{key_slot}
use Rattle.book.specs.Book.{record_at, answer_of, empty_book, taken}
use Rattle.book.specs.Valid.{Valid}
use Rattle.book.proofs.Kept.{empty_slot, empty_valid}
use Rattle.book_slots.specs.Field.{place_of, bytes_of, seen_of}
use Rattle.book_theorems.proofs.Own.{taken_fills}
use Rattle.book_theorems.proofs.Read.{read_stored}
use Rattle.wrong_programs.proofs.Promise.{KeepsBooks}
use Rattle.wrong_programs.proofs.Records.{year_record}
use Rattle.wrong_programs.proofs.Answers.{year_taken}

-- every book is left empty
pub leaves_empty : (after : List ℕ → List ℕ → List ℕ) → ((book r : List ℕ) → Valid book → after book r ≡ empty_book) → KeepsBooks after → ⊥
unfolding stored_of is_defaults number_at
leaves_empty after empties keeps =
    let s = taken_fills empty_book year_record empty_valid.size year_taken in
    let left = sym (keeps empty_book year_record empty_valid) ∙ empties empty_book year_record empty_valid in
    let held = sym s.there.holds ∙ ap (λ (b : List ℕ). record_at b s.slot) left ∙ empty_slot s.slot s.there.below in
    let letter : ◌≡◌ {A = ℕ} 89 0 = ap (λ (l : List ℕ). get_or l 0 0) held in
    omega arith

module _ (after : List ℕ → List ℕ → List ℕ) (book r : List ℕ) (v : Valid book) (t : answer_of book r ≡ taken) where
  -- the slot of a record taken holds something else afterwards
  pub keeps_another : (record_at (after book r) (slot_of (key_row r) (key_of (key_row r) r)) ≡ stored_of r → ⊥) → KeepsBooks after → ⊥
  keeps_another other keeps =
      let s = taken_fills book r v.size t in
      other (ap (λ (b : List ℕ). record_at b (slot_of (key_row r) (key_of (key_row r) r))) (keeps book r v) ∙ ap (record_at _) (key_slot r s.slot s.judged_so) ∙ s.there.holds)

  -- a field of a record taken is read, under its key, as another value than was posted, or than a defaults line stands for
  pub keeps_other_values :
      (n : ℕ) → n < length (entries_of (key_row r)) →
      (seen_of (after book r) (key_row r) (key_of (key_row r) r) n ≡ Some (number_at (stored_of r) (place_of (key_row r) n) (bytes_of (key_row r) n)) → ⊥) → KeepsBooks after → ⊥
  keeps_other_values n h other keeps =
      other (ap (λ (b : List ℕ). seen_of b (key_row r) (key_of (key_row r) r) n) (keeps book r v) ∙ read_stored book r v.size t n h)
