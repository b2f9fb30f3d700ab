-- What stands in a slot after some records are posted is worked out from what stood there and the records alone, and so is what is read of it.
-- Assumes nothing.
use mathlib.Core.Path.{◌≡◌, refl, sym, ap, ◌∙◌}
use mathlib.Core.Bool.{Bool, true, false, cond, not, ◌&&◌}
use mathlib.Core.List.{List, [], ◌∷◌}
use Prim.Native.Nat.{ℕ, ◌+◌, ◌*◌, ◌≤◌, ◌<◌}
use borrow.Author.Tests.{eqb-true, eqb-false}
use lib.Dec.{eqb}
use lib.ListN.{length, get_or, length-replicate}
use Rattle.std.specs.Prelude.{Result, Ok, Err, Some, None}
use Rattle.refusals.specs.declared.Refusal.{Refusal}
use Rattle.record_table.specs.Table.{record_bytes}
use Rattle.number_bytes.specs.Number.{number_at}
use Rattle.record_table.specs.Slot.{slots}
use Rattle.record_judge.specs.Record.{judged, stored_of}
use Rattle.record_judge.specs.declared.Change.{Change}
use Rattle.record_judge.specs.declared.Change.TheVariants.{Put, Empty}
use Rattle.record_judge.proofs.StoredBytes.{stored_long}
use Rattle.record_judge.proofs.Keys.{put_below, emptied_below}
use Rattle.book.specs.Book.{record_at, free, nothing, book_with, book_by, book_after}
use Rattle.book.specs.Valid.{Valid}
use Rattle.book.proofs.Slot.{slot_same, slot_other}
use Rattle.book.proofs.Free.{first_byte}
use Rattle.book.proofs.Kept.{kept}
use Rattle.book_slots.specs.Field.{seen_at}
use Rattle.book_slots.proofs.Within.{number_slot}
use Rattle.book_theorems.specs.Each.{book_each}

-- nothing stands in a slot
abbrev pub bare : List ℕ → Bool
bare held = eqb (get_or held 0 0) 0

-- what stands in slot k after a record: its bytes, where it puts them there and nothing stood there, or nothing, where it empties the slot; and after some
-- records
unfoldable pub held_by : ℕ → List ℕ → List ℕ → Result Change Refusal → List ℕ
held_by k held r (Err x) = held
held_by k held r (Ok (Put j)) = cond (eqb j k && bare held) (stored_of r) held
held_by k held r (Ok (Empty j)) = cond (eqb j k) nothing held

unfoldable pub held_after : ℕ → List ℕ → List (List ℕ) → List ℕ
held_after k held [] = held
held_after k held (r ∷ rs) = held_after k (held_by k held r (judged r)) rs

free_bare : (book : List ℕ) (k : ℕ) → free book k ≡ bare (record_at book k)
unfolding free
free_bare book k = ap (λ (x : ℕ). eqb x 0) (sym (first_byte book k))

-- bytes put into slot j, where a test of it allows that, stand in slot k if it is that one
module _ (book bytes : List ℕ) (v : Valid book) (long : length bytes ≡ record_bytes) (k : ℕ) (h : k < slots) where
  own : (b : Bool) → record_at (cond b (book_with book k bytes) book) k ≡ cond b bytes (record_at book k)
  own true = slot_same book k bytes v.size h long
  own false = refl

  other : (j : ℕ) → j < slots → (k ≡ j → ⊥) → (b : Bool) → record_at (cond b (book_with book j bytes) book) k ≡ record_at book k
  other j l ne true = slot_other book j bytes v.size l long k h ne
  other j l ne false = refl

  into :
      (test : ℕ → Bool) (j : ℕ) → j < slots → (same : Bool) → eqb j k ≡ same →
      record_at (cond (test j) (book_with book j bytes) book) k ≡ cond (same && test k) bytes (record_at book k)
  into test j l false n = other j l (λ q. eqb-false j k n (sym q)) (test j)
  into test j l true n = ap (λ (i : ℕ). record_at (cond (test i) (book_with book i bytes) book) k) (eqb-true j k n) ∙ own (test k)

and_true : (b : Bool) → (b && true) ≡ b
and_true true = refl
and_true false = refl

module _ (book r : List ℕ) (v : Valid book) (k : ℕ) (h : k < slots) where
  by : (found : Result Change Refusal) → judged r ≡ found → record_at (book_by book r found) k ≡ held_by k (record_at book k) r found
  unfolding book_by held_by
  by (Err x) e = refl
  by (Ok (Put j)) e =
      into book (stored_of r) v (stored_long r j e) k h (free book) j (put_below r j e) (eqb j k) refl
      ∙ ap (λ (b : Bool). cond (eqb j k && b) (stored_of r) (record_at book k)) (free_bare book k)
  by (Ok (Empty j)) e =
      into book nothing v (length-replicate {A = ℕ} record_bytes 0) k h (λ i. true) j (emptied_below r j e) (eqb j k) refl
      ∙ ap (λ (b : Bool). cond b nothing (record_at book k)) (and_true (eqb j k))

  one : record_at (book_after book r) k ≡ held_by k (record_at book k) r (judged r)
  unfolding book_after
  one = by (judged r) refl

pub kept_each : (book : List ℕ) (rs : List (List ℕ)) → Valid book → Valid (book_each book rs)
unfolding book_each
kept_each book [] v = v
kept_each book (r ∷ rs) v = kept_each (book_after book r) rs (kept book r v)

pub slotwise : (book : List ℕ) (rs : List (List ℕ)) → Valid book → (k : ℕ) → k < slots → record_at (book_each book rs) k ≡ held_after k (record_at book k) rs
unfolding book_each held_after
slotwise book [] v k h = refl
slotwise book (r ∷ rs) v k h = slotwise (book_after book r) rs (kept book r v) k h ∙ ap (λ (held : List ℕ). held_after k held rs) (one book r v k h)

-- what is read of a slot, by what stands in it: whether it is filled, a number, and what is seen
module _ (book : List ℕ) (k : ℕ) {held : List ℕ} (stands : record_at book k ≡ held) where
  pub filled_held : not (free book k) ≡ not (bare held)
  filled_held = ap not (free_bare book k ∙ ap bare stands)

  module _ (at wide : ℕ) (inside : at + wide ≤ record_bytes) where
    pub number_held : number_at book (k * record_bytes + at) wide ≡ number_at held at wide
    number_held = sym (number_slot book k at wide inside) ∙ ap (λ (r : List ℕ). number_at r at wide) stands

    pub seen_held : seen_at book k at wide ≡ cond (not (bare held)) (Some (number_at held at wide)) None
    unfolding seen_at
    seen_held =
        ap (λ (b : Bool). cond b (Some (number_at book (k * record_bytes + at) wide)) None) filled_held
        ∙ ap (λ (x : ℕ). cond (not (bare held)) (Some x) None) number_held
