-- A record taken fills a free slot, since none empties one, so that a book takes no more records than it has free slots. Assumes nothing.
use mathlib.Core.Path.{◌≡◌, refl, sym, ap, ◌∙◌}
use mathlib.Core.Bool.{Bool, true, false, cond}
use mathlib.Core.List.{List, [], ◌∷◌}
use Prim.Native.Nat.{ℕ, zero, suc, ◌+◌, ◌<◌}
use native.Mathlib.Decide.{dec_lt}
use native.Mathlib.Omega.{arith}
use lib.ListN.{length}
use Rattle.std.specs.Prelude.{Result, Ok, Err}
use Rattle.refusals.specs.declared.Refusal.{Refusal}
use Rattle.record_table.specs.Slot.{slots}
use Rattle.record_judge.specs.Record.{judged, stored_of}
use Rattle.record_judge.specs.declared.Change.{Change}
use Rattle.record_judge.specs.declared.Change.TheVariants.{Put, Empty}
use Rattle.record_judge.proofs.Keys.{put_below}
use Rattle.record_judge.proofs.Taken.{never_empties}
use Rattle.record_judge.proofs.StoredBytes.{stored_long, stored_judged}
use Rattle.book.specs.Book.{free, book_with, answer_by, book_by, answer_of, book_after}
use Rattle.book.specs.Run.{onward, answer_all, book_all}
use Rattle.book.specs.Valid.{Valid}
use Rattle.book.proofs.Slot.{slot_same, slot_other}
use Rattle.book.proofs.Free.{free_same}
use Rattle.book.proofs.Kept.{kept}
use Rattle.book.proofs.Letters.{held_filled}
use Rattle.book.proofs.Taking.{not_taken, was_free}

-- at how many places below n a test passes
unfoldable pub count : (ℕ → Bool) → ℕ → ℕ
count test zero = 0
count test (suc n) = cond (test n) 1 0 + count test n

same : (p q : ℕ → Bool) (n : ℕ) → ((j : ℕ) → j < n → p j ≡ q j) → count p n ≡ count q n
unfolding count
same p q zero e = refl
same p q (suc n) e = rw (e n (omega arith)) (ap (λ (m : ℕ). cond (q n) 1 0 + m) (same p q n (λ j h. e j (omega arith))))

module _ (p q : ℕ → Bool) (k : ℕ) (was : p k ≡ true) (is : q k ≡ false) where
  one_less : (n : ℕ) → k < n → ((j : ℕ) → j < n → (j ≡ k → ⊥) → p j ≡ q j) → count p n ≡ count q n + 1
  unfolding count
  one_less zero h e = let z : ⊥ = omega arith in absurd z
  one_less (suc n) h e = go (dec_lt k n) (one_less n)
    where
      go :
          Dec (k < n) → (k < n → ((j : ℕ) → j < n → (j ≡ k → ⊥) → p j ≡ q j) → count p n ≡ count q n + 1) →
          cond (p n) 1 0 + count p n ≡ cond (q n) 1 0 + count q n + 1
      go (yes l) earlier =
          let rest = earlier l (λ j hj ne. e j (omega arith) ne) in
          rw (e n (omega arith) (λ z. omega arith)) (omega (arith, rest))
      go (no l) earlier =
          let here : n ≡ k = omega arith in
          let rest = same p q n (λ j hj. e j (omega arith) (λ z. omega arith)) in
          rw (ap p here ∙ was, ap q here ∙ is) (omega (arith, rest))

unfoldable pub free_slots : List ℕ → ℕ
free_slots book = count (free book) slots

by : (book r : List ℕ) (found : Result Change Refusal) → judged r ≡ found → Valid book → answer_by book found ≡ Ok tt → free_slots book ≡ free_slots (book_by book r found) + 1
unfolding answer_by book_by free_slots
by book r (Err x) e v t = not_taken t
by book r (Ok (Empty k)) e v t = absurd (never_empties r k e)
by book r (Ok (Put k)) e v t =
    let below = put_below r k e in
    let long = stored_long r k e in
    let f = was_free book k t in
    rw f
    (one_less (free book) (free (book_with book k (stored_of r))) k f
    (held_filled (book_with book k (stored_of r)) k k (ap judged (slot_same book k (stored_of r) v.size below long) ∙ stored_judged r k e)) slots below
    (λ j h ne. sym (free_same (book_with book k (stored_of r)) book j (slot_other book k (stored_of r) v.size below long j h ne))))

fills : (book r : List ℕ) → Valid book → answer_of book r ≡ Ok tt → free_slots book ≡ free_slots (book_after book r) + 1
unfolding answer_of book_after
fills book r v t = by book r (judged r) refl v t

pub fills_all : (book : List ℕ) (rs : List (List ℕ)) → Valid book → answer_all book rs ≡ Ok tt → free_slots book ≡ free_slots (book_all book rs) + length rs
unfolding answer_all book_all
fills_all book [] v t = omega arith
fills_all book (r ∷ rs) v t = go (answer_of book r) refl (fills_all (book_after book r) rs (kept book r v)) t
  where
    go :
        (p : Result Unit Refusal) → answer_of book r ≡ p →
        (answer_all (book_after book r) rs ≡ Ok tt → free_slots (book_after book r) ≡ free_slots (book_all (book_after book r) rs) + length rs) →
        onward p (answer_all (book_after book r) rs) p ≡ Ok tt →
        free_slots book ≡ free_slots (onward p (book_all (book_after book r) rs) (book_after book r)) + suc (length rs)
    go (Ok unit) e later u = omega (arith, fills book r v e, later u)
    go (Err x) e later u = not_taken u
