-- A record that is taken changes exactly its own slot, and posting looks at nothing else of the book. Assumes nothing.
use mathlib.Core.Path.{◌≡◌, refl, sym, ap, ◌∙◌}
use mathlib.Core.Bool.{Bool, true, false, cond}
use mathlib.Core.List.{List}
use mathlib.Core.Logic.{◌⊎◌, inl, inr, ⊎_elim}
use Prim.Native.Nat.{ℕ, ◌<◌}
use lib.ListN.{length, length-replicate}
use Rattle.std.specs.Prelude.{Result, Ok, Err}
use Rattle.refusals.specs.Refusal.{refusal}
use Rattle.refusals.specs.declared.Reason.TheVariants.{AlreadyFilled}
use Rattle.refusals.specs.declared.Refusal.{Refusal}
use Rattle.record_table.specs.Table.{record_bytes}
use Rattle.record_table.specs.Slot.{slots}
use Rattle.record_judge.specs.Record.{judged, stored_of}
use Rattle.record_judge.specs.declared.Change.{Change}
use Rattle.record_judge.specs.declared.Change.TheVariants.{Put, Empty}
use Rattle.record_judge.proofs.Taken.{never_empties}
use Rattle.record_judge.proofs.StoredBytes.{stored_long}
use Rattle.record_judge.proofs.Keys.{put_below, emptied_below}
use Rattle.book.specs.Book.{book_bytes, record_at, free, nothing, book_with, answer_by, book_by, answer_of, book_after, taken}
use Rattle.book.proofs.Slot.{slot_same, slot_other}
use Rattle.book.proofs.Free.{free_same}
use Rattle.book.proofs.Taking.{not_taken, was_free}

-- a refusal leaves the book as it was
same_by : (book r : List ℕ) (found : Result Change Refusal) (x : Refusal) → answer_by book found ≡ Err x → book_by book r found ≡ book
unfolding answer_by book_by
same_by book r (Err y) x e = refl
same_by book r (Ok (Put k)) x e = go (free book k) e
  where
    go : (b : Bool) → cond b taken (Err (refusal AlreadyFilled 0)) ≡ Err x → cond b (book_with book k (stored_of r)) book ≡ book
    go true e = not_taken (sym e)
    go false e = refl
same_by book r (Ok (Empty k)) x e = not_taken (sym e)

pub refused_same : (book r : List ℕ) (x : Refusal) → answer_of book r ≡ Err x → book_after book r ≡ book
unfolding answer_of book_after
refused_same book r = same_by book r (judged r)

-- slot k holds these bytes after a record, and every other slot is as it was
pub record Leaves (book r bytes : List ℕ) (k : ℕ) : Type 0 where
  pub below : k < slots
  pub holds : record_at (book_after book r) k ≡ bytes
  pub others : (j : ℕ) → j < slots → (j ≡ k → ⊥) → record_at (book_after book r) j ≡ record_at book j

leaves :
    (book r bytes : List ℕ) (k : ℕ) → length book ≡ book_bytes → k < slots → length bytes ≡ record_bytes →
    book_after book r ≡ book_with book k bytes → Leaves book r bytes k
leaves book r bytes k size h long after =
    record {
      below = h;
      holds = ap (λ (b : List ℕ). record_at b k) after ∙ slot_same book k bytes size h long;
      others = λ j hj ne. ap (λ (b : List ℕ). record_at b j) after ∙ slot_other book k bytes size h long j hj ne;
    }

-- a record taken puts its bytes into a slot that was free, or empties one
pub record Fills (book r : List ℕ) : Type 0 where
  pub slot : ℕ
  pub judged_so : judged r ≡ Ok (Put slot)
  pub was_free : free book slot ≡ true
  pub there : Leaves book r (stored_of r) slot

pub record Empties (book r : List ℕ) : Type 0 where
  pub slot : ℕ
  pub judged_so : judged r ≡ Ok (Empty slot)
  pub there : Leaves book r nothing slot

does_by : (book r : List ℕ) → length book ≡ book_bytes → (found : Result Change Refusal) → judged r ≡ found → answer_by book found ≡ taken → Fills book r ⊎ Empties book r
unfolding answer_by book_by book_after
does_by book r size (Err x) e t = not_taken t
does_by book r size (Ok (Put k)) e t =
    let was = was_free book k t in
    let after = ap (book_by book r) e ∙ ap (λ (b : Bool). cond b (book_with book k (stored_of r)) book) was in
    inl (record { slot = k; judged_so = e; was_free = was; there = leaves book r (stored_of r) k size (put_below r k e) (stored_long r k e) after })
does_by book r size (Ok (Empty k)) e t =
    inr (record { slot = k; judged_so = e; there = leaves book r nothing k size (emptied_below r k e) (length-replicate {A = ℕ} record_bytes 0) (ap (book_by book r) e) })

pub taken_does : (book r : List ℕ) → length book ≡ book_bytes → answer_of book r ≡ taken → Fills book r ⊎ Empties book r
unfolding answer_of
taken_does book r size t = does_by book r size (judged r) refl t

-- and as long as no mark empties a slot, it puts its bytes
pub taken_fills : (book r : List ℕ) → length book ≡ book_bytes → answer_of book r ≡ taken → Fills book r
taken_fills book r size t = ⊎_elim (λ f. f) (λ e. absurd (never_empties r e.slot e.judged_so)) (taken_does book r size t)

-- a record that is refused on its own account gets one answer from every book
pub looks_nowhere : (a b r : List ℕ) (x : Refusal) → judged r ≡ Err x → answer_of a r ≡ answer_of b r
unfolding answer_of answer_by
looks_nowhere a b r x e = ap (answer_by a) e ∙ sym (ap (answer_by b) e)

-- two books that hold the same in a record's slot give it one answer, and hold the same there afterwards
module _ (a b r : List ℕ) (k : ℕ) (e : judged r ≡ Ok (Put k)) (same : record_at a k ≡ record_at b k) where
  pub looks_there : answer_of a r ≡ answer_of b r
  unfolding answer_of answer_by
  looks_there = ap (answer_by a) e ∙ ap (λ (f : Bool). cond f taken (Err (refusal AlreadyFilled 0))) (free_same a b k same) ∙ sym (ap (answer_by b) e)

  pub leaves_there : length a ≡ book_bytes → length b ≡ book_bytes → record_at (book_after a r) k ≡ record_at (book_after b r) k
  unfolding book_after book_by
  leaves_there la lb =
      let h = put_below r k e in
      let long = stored_long r k e in
      ap (λ (l : List ℕ). record_at l k) (ap (book_by a r) e ∙ ap (λ (f : Bool). cond f (book_with a k (stored_of r)) a) (free_same a b k same))
      ∙ go (free b k) (slot_same a k (stored_of r) la h long ∙ sym (slot_same b k (stored_of r) lb h long))
      ∙ sym (ap (λ (l : List ℕ). record_at l k) (ap (book_by b r) e))
    where
      go :
          (f : Bool) → record_at (book_with a k (stored_of r)) k ≡ record_at (book_with b k (stored_of r)) k →
          record_at (cond f (book_with a k (stored_of r)) a) k ≡ record_at (cond f (book_with b k (stored_of r)) b) k
      go true s = s
      go false s = same
