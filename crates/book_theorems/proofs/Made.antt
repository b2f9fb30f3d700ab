-- A book is what postings make of the empty one: that, and that each slot is empty or holds what posting puts there, are the same.
-- Assumes nothing.
use mathlib.Core.Path.{◌≡◌, refl, sym, ap, ◌∙◌, subst}
use mathlib.Core.Bool.{Bool, true, false, cond}
use mathlib.Core.List.{List}
use mathlib.Core.Logic.{⊎_elim}
use Prim.Native.Nat.{ℕ, zero, suc, ◌+◌, ◌*◌, ◌/◌, ◌%◌, ◌≤◌, ◌<◌}
use native.Mathlib.Omega.{arith}
use lib.ListN.{length, get_or}
use lib.Seq.{ext_get_or}
use Rattle.record_table.specs.Table.{record_bytes}
use Rattle.record_table.specs.Slot.{slots}
use Rattle.record_table.proofs.Slots.{lt_or_ge}
use Rattle.record_judge.specs.Record.{stored_of}
use Rattle.book.specs.Book.{book_bytes, record_at, free, nothing, book_with, book_by, book_after, empty_book}
use Rattle.book.specs.Valid.{Made, empty, posted, Stands, Valid}
use Rattle.book.proofs.Slot.{with_length, slot_same, slot_other, slot_length, slot_byte}
use Rattle.book.proofs.Free.{empty_free}
use Rattle.book.proofs.Kept.{kept, empty_slot, empty_valid}
use Rattle.book.proofs.Letters.{free_empty, filled_held}

pub made_valid : {book : List ℕ} → Made book → Valid book
made_valid empty = empty_valid
made_valid (posted {book = book} m r) = kept book r (made_valid m)

-- books are equal by their slots
book_ext : (a b : List ℕ) → length a ≡ book_bytes → length b ≡ book_bytes → ((j : ℕ) → j < slots → record_at a j ≡ record_at b j) → a ≡ b
book_ext a b la lb f =
    ext_get_or 0 a b (la ∙ sym lb)
    (λ i h.
    let e : i / record_bytes * record_bytes + i % record_bytes ≡ i = omega arith in
    let o : i % record_bytes < record_bytes = omega arith in
    let j : i / record_bytes < slots = omega arith in
    ap (λ (n : ℕ). get_or a n 0) (sym e) ∙ sym (slot_byte a (i / record_bytes) (i % record_bytes) o) ∙ ap (λ (l : List ℕ). get_or l (i % record_bytes) 0) (f (i / record_bytes) j)
    ∙ slot_byte b (i / record_bytes) (i % record_bytes) o ∙ ap (λ (n : ℕ). get_or b n 0) e)

-- what postings make of the empty book, with the book's slots below k, and nothing from k on
record Upto (book : List ℕ) (k : ℕ) : Type 0 where
  part : List ℕ
  made : Made part
  size : length part ≡ book_bytes
  below : (j : ℕ) → j < k → j < slots → record_at part j ≡ record_at book j
  above : (j : ℕ) → k ≤ j → j < slots → record_at part j ≡ nothing

none : (book : List ℕ) → Upto book 0
none book =
    record {
      part = empty_book;
      made = empty;
      size = empty_valid.size;
      below = λ j l h. let z : ⊥ = omega arith in absurd z;
      above = λ j l h. empty_slot j h;
    }

-- one slot more: a slot that is empty needs no posting, and one that is filled is posted
module _ (book : List ℕ) (v : Valid book) (k : ℕ) (h : k < slots) (u : Upto book k) where
  passed : free book k ≡ true → Upto book (k + 1)
  passed f =
      record {
        part = u.part;
        made = u.made;
        size = u.size;
        below = λ j l hj. ⊎_elim
            (λ lt. u.below j lt hj)
            (λ ge. let e : j ≡ k = omega arith in u.above j ge hj ∙ sym (ap (record_at book) e ∙ free_empty book k v h f))
            (lt_or_ge j k);
        above = λ j l hj. u.above j (omega arith) hj;
      }

  after : Stands k (record_at book k) → book_after u.part (record_at book k) ≡ book_with u.part k (record_at book k)
  unfolding book_after book_by
  after s =
      ap (book_by u.part (record_at book k)) s.judged_so
      ∙ ap (λ (b : Bool). cond b (book_with u.part k (stored_of (record_at book k))) u.part) (empty_free u.part k (u.above k (omega arith) h))
      ∙ ap (book_with u.part k) s.stored_so

  put : free book k ≡ false → Upto book (k + 1)
  put f =
      let r = record_at book k in
      let s = filled_held book k v h f in
      let long = slot_length book k v.size h in
      record {
        part = book_with u.part k r;
        made = subst Made (after s) (posted u.made r);
        size = with_length u.part k r u.size h long;
        below = λ j l hj. ⊎_elim
            (λ lt. slot_other u.part k r u.size h long j hj (λ q. omega arith) ∙ u.below j lt hj)
            (λ ge. let q : j ≡ k = omega arith in ap (record_at (book_with u.part k r)) q ∙ slot_same u.part k r u.size h long ∙ ap (record_at book) (sym q))
            (lt_or_ge j k);
        above = λ j l hj. slot_other u.part k r u.size h long j hj (λ q. omega arith) ∙ u.above j (omega arith) hj;
      }

  by : (b : Bool) → free book k ≡ b → Upto book (k + 1)
  by true f = passed f
  by false f = put f

upto : (book : List ℕ) → Valid book → (k : ℕ) → k ≤ slots → Upto book k
upto book v zero h = none book
upto book v (suc k) h =
    let l : k < slots = omega arith in
    let e : k + 1 ≡ suc k = omega arith in
    subst (Upto book) e (by book v k l (upto book v k (omega arith)) (free book k) refl)

pub valid_made : (book : List ℕ) → Valid book → Made book
valid_made book v =
    let u = upto book v slots (omega arith) in
    subst Made (book_ext u.part book u.size v.size (λ j h. u.below j h h)) u.made
