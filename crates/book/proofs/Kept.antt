-- The empty book is a book, and every posting keeps a book one. Assumes nothing.
use Rattle.std.specs.Prelude.{Result, Ok, Err}
use Rattle.refusals.specs.declared.Refusal.{Refusal}
use mathlib.Core.Path.{◌≡◌, refl, sym, ◌∙◌, subst}
use mathlib.Core.Bool.{Bool, true, false}
use mathlib.Core.List.{List, [], ◌∷◌}
use mathlib.Core.Logic.{◌⊎◌, inl, inr, ⊎_elim}
use Prim.Native.Nat.{ℕ, ◌+◌, ◌*◌, ◌<◌}
use native.Mathlib.Omega.{arith}
use borrow.Author.Tests.{eqb-true, eqb-false}
use lib.Dec.{eqb}
use lib.ListN.{length, length-replicate, get_or-replicate}
use lib.Seq.{ext_get_or}
use Rattle.laws.proofs.Picking.{either}
use Rattle.record_table.specs.Table.{record_bytes}
use Rattle.record_table.specs.Slot.{slots}
use Rattle.record_judge.specs.Record.{judged, stored_of}
use Rattle.record_judge.specs.declared.Change.{Change}
use Rattle.record_judge.specs.declared.Change.TheVariants.{Put, Empty}
use Rattle.record_judge.proofs.StoredBytes.{stored_long, stored_judged, stored_once}
use Rattle.record_judge.proofs.Keys.{put_below, emptied_below}
use Rattle.book.specs.Book.{book_bytes, record_at, free, nothing, book_with, book_by, answer_of, book_after, empty_book}
use Rattle.book.specs.Valid.{Stands, Valid}
use Rattle.book.specs.Run.{onward, book_all}
use Rattle.book.proofs.Slot.{with_length, slot_same, slot_other, slot_length, slot_byte}

pub same_or_not : (a b : ℕ) (t : Bool) → eqb a b ≡ t → (a ≡ b) ⊎ (a ≡ b → ⊥)
same_or_not a b true e = inl (eqb-true a b e)
same_or_not a b false e = inr (eqb-false a b e)

-- what may stand in a slot, put there, leaves a book
abbrev Fits : ℕ → List ℕ → Type 0
Fits k bytes = (bytes ≡ nothing) ⊎ Stands k bytes

with_valid :
    (book : List ℕ) (k : ℕ) (bytes : List ℕ) → Valid book → k < slots → length bytes ≡ record_bytes → Fits k bytes → Valid (book_with book k bytes)
with_valid book k bytes v h long fits =
    record {
      size = with_length book k bytes v.size h long;
      each = λ j hj. ⊎_elim
          (λ same. subst (λ (i : ℕ). Fits i (record_at (book_with book k bytes) i)) (sym same) (subst (Fits k) (sym (slot_same book k bytes v.size h long)) fits))
          (λ other. subst (Fits j) (sym (slot_other book k bytes v.size h long j hj other)) (v.each j hj))
          (same_or_not j k (eqb j k) refl);
    }

by : (book r : List ℕ) (found : Result Change Refusal) → judged r ≡ found → Valid book → Valid (book_by book r found)
unfolding book_by
by book r (Err x) e v = v
by book r (Ok (Put k)) e v =
    let stands : Stands k (stored_of r) = record { judged_so = stored_judged r k e; stored_so = stored_once r } in
    either Valid (free book k) (with_valid book k (stored_of r) v (put_below r k e) (stored_long r k e) (inr stands)) v
by book r (Ok (Empty k)) e v = with_valid book k nothing v (emptied_below r k e) (length-replicate {A = ℕ} record_bytes 0) (inl refl)

pub kept : (book r : List ℕ) → Valid book → Valid (book_after book r)
unfolding book_after
kept book r v = by book r (judged r) refl v

-- and so does a run of them
on : (p : Result Unit Refusal) (further stop : List ℕ) → Valid further → Valid stop → Valid (onward p further stop)
on (Ok unit) further stop v w = v
on (Err x) further stop v w = w

pub kept_all : (book : List ℕ) (rs : List (List ℕ)) → Valid book → Valid (book_all book rs)
unfolding book_all
kept_all book [] v = v
kept_all book (r ∷ rs) v =
    let w = kept book r v in
    on (answer_of book r) (book_all (book_after book r) rs) (book_after book r) (kept_all (book_after book r) rs w) w

-- each slot of the empty book is empty
empty_length : length empty_book ≡ book_bytes
unfolding empty_book
empty_length = length-replicate book_bytes 0

pub empty_slot : (k : ℕ) → k < slots → record_at empty_book k ≡ nothing
unfolding empty_book
empty_slot k h =
    let l = slot_length empty_book k empty_length h in
    ext_get_or 0 (record_at empty_book k) nothing l
    (λ i hi.
    let li : i < record_bytes = omega arith in
    slot_byte empty_book k i li ∙ get_or-replicate book_bytes (k * record_bytes + i) 0 0 (omega arith) ∙ sym (get_or-replicate record_bytes i 0 0 li))

pub empty_valid : Valid empty_book
empty_valid = record { size = empty_length; each = λ k h. inl (empty_slot k h) }
