-- A field of a filled slot is in the range that the table gives it, and a number of an empty slot is 0: one law over the table. Assumes nothing.
use mathlib.Core.Path.{◌≡◌, refl, sym, ap, ◌∙◌, subst}
use mathlib.Core.Bool.{Bool, true, false}
use mathlib.Core.List.{List, [], ◌∷◌}
use Prim.Native.Nat.{ℕ, zero, suc, ◌+◌, ◌*◌, ◌≤◌, ◌<◌}
use native.Mathlib.Nat.{add-zero, add_assoc, le_of_suc-le-suc, not-suc-le-zero}
use native.Mathlib.Omega.{arith}
use borrow.Author.Tests.{not-true, not-false}
use lib.Dec.{leb, leb→le}
use lib.ListN.{length, get_or, take, drop, get_or-replicate}
use Rattle.laws.proofs.Table.{each, at}
use Rattle.record_table.specs.Table.{Range, Entry, zeros, field, table, highest_of, entries_of, record_bytes, after_mark}
use Rattle.number_bytes.specs.Number.{number_at}
use Rattle.record_table.specs.Slot.{slots, slot_of}
use Rattle.record_table.proofs.Slots.{Low, among, among_all, one_row}
use Rattle.record_fields.specs.Entry.{in_range}
use Rattle.record_judge.specs.Record.{row_of}
use Rattle.record_judge.proofs.StoredBytes.{taken_itself}
use Rattle.record_judge.proofs.Entries.{Ranged}
use Rattle.record_judge.proofs.Keys.{there, fields}
use Rattle.book.specs.Book.{record_at, free, nothing}
use Rattle.book.specs.Valid.{Valid}
use Rattle.book.proofs.Slot.{slot_byte}
use Rattle.book.proofs.Letters.{free_empty, filled_held}
use Rattle.book_slots.specs.Field.{bytes_in, place_of, bytes_of, number_of, filled_of}

-- a number of a slot is the same number of the book; and in an empty slot it is 0
pub number_slot : (book : List ℕ) (k at n : ℕ) → at + n ≤ record_bytes → number_at (record_at book k) at n ≡ number_at book (k * record_bytes + at) n
unfolding number_at
number_slot book k at zero h = refl
number_slot book k at (suc n) h =
    let e : k * record_bytes + (at + 1) ≡ k * record_bytes + at + 1 = omega arith in
    let b = slot_byte book k at (omega arith) in
    let i = number_slot book k (at + 1) n (omega arith) ∙ ap (λ (p : ℕ). number_at book p n) e in
    rw (b, i)

none : (at n : ℕ) → at + n ≤ record_bytes → number_at nothing at n ≡ 0
unfolding number_at
none at zero h = refl
none at (suc n) h = rw (get_or-replicate {A = ℕ} record_bytes at 0 0 (omega arith), none (at + 1) n (omega arith))

-- one test over the whole table: each entry ends inside the record
ends : ℕ → ℕ → Bool
ends row n = leb (place_of row n + bytes_of row n) record_bytes

all_end : ℕ → Bool
all_end row = each (ends row) (length (entries_of row))

pub inside_record : (row : ℕ) → row < length table → (n : ℕ) → n < length (entries_of row) → place_of row n + bytes_of row n ≤ record_bytes
unfolding ends all_end each
inside_record row h n l = leb→le _ _ (at (ends row) (length (entries_of row)) (at all_end (length table) tt row h) n l)

-- each field of a record that has none outside its range
not_field : {m wide : ℕ} {range : Range} {X : Type 0} → zeros m ≡ field wide range → X
not_field e = let z : ◌≡◌ {A = ℕ} 0 1 = cc in absurd (omega arith)

same_range : {w wide : ℕ} {g range : Range} → field w g ≡ field wide range → g ≡ range
same_range e = cc

nth :
    (from_at : ℕ) (es : List Entry) (r : List ℕ) (n wide : ℕ) (range : Range) → Ranged from_at es r → n < length es →
    get_or es n (zeros 0) ≡ field wide range → in_range range r (number_at r (from_at + bytes_in (take n es)) (bytes_in (take 1 (drop n es)))) ≡ true
nth at [] r n wide range g h e = absurd (not-suc-le-zero h)
nth at (zeros m ∷ es) r zero wide range g h e = not_field e
nth at (field w own ∷ es) r zero wide range g h e =
    subst (λ (x : Range). in_range x r (number_at r (at + 0) (w + 0)) ≡ true) (same_range e) (rw (add-zero at, add-zero w) g.0)
nth at (zeros m ∷ es) r (suc n) wide range g h e =
    rw add_assoc at (nth (at + m) es r n wide range g (le_of_suc-le-suc h) e)
nth at (field w own ∷ es) r (suc n) wide range g h e =
    rw add_assoc at (nth (at + w) es r n wide range g.1 (le_of_suc-le-suc h) e)

-- entry n of a row, in the slot of a key of that row
module _ (book : List ℕ) (v : Valid book) (row : ℕ) (h : row < length table) (bytes : List ℕ) (low : Low (highest_of row) bytes) where
  slot : ℕ
  slot = slot_of row bytes

  below : slot_of row bytes < slots
  below = among_all row (slot_of row bytes) h (among row h bytes low)

  -- what is filled was judged by this row
  its_fields : filled_of book row bytes ≡ true → Ranged after_mark (entries_of row) (record_at book (slot_of row bytes))
  its_fields f =
      let e = filled_held book (slot_of row bytes) v below (not-true (free book (slot_of row bytes)) f) in
      let t = taken_itself (record_at book (slot_of row bytes)) (slot_of row bytes) e.judged_so e.stored_so in
      let same = one_row (row_of (record_at book (slot_of row bytes))) row (slot_of row bytes) (there (record_at book (slot_of row bytes)) (slot_of row bytes) t) (among row h bytes low) in
      subst (λ (m : ℕ). Ranged after_mark (entries_of m) (record_at book (slot_of row bytes))) same (fields (record_at book (slot_of row bytes)) (slot_of row bytes) t)

  module _ (n : ℕ) (l : n < length (entries_of row)) where
    pub as_read : number_at (record_at book (slot_of row bytes)) (place_of row n) (bytes_of row n) ≡ number_of book row bytes n
    as_read = number_slot book (slot_of row bytes) (place_of row n) (bytes_of row n) (inside_record row h n l)

    pub filled_ranged :
        (wide : ℕ) (range : Range) → get_or (entries_of row) n (zeros 0) ≡ field wide range → filled_of book row bytes ≡ true →
        in_range range (record_at book (slot_of row bytes)) (number_of book row bytes n) ≡ true
    filled_ranged wide range e f =
        subst (λ (x : ℕ). in_range range (record_at book (slot_of row bytes)) x ≡ true) as_read
        (nth after_mark (entries_of row) (record_at book (slot_of row bytes)) n wide range (its_fields f) l e)

    pub empty_zero : filled_of book row bytes ≡ false → number_of book row bytes n ≡ 0
    empty_zero f =
        let z = free_empty book (slot_of row bytes) v below (not-false (free book (slot_of row bytes)) f) in
        sym as_read ∙ ap (λ (r : List ℕ). number_at r (place_of row n) (bytes_of row n)) z ∙ none (place_of row n) (bytes_of row n) (inside_record row h n l)
