-- An unclean stop doubles nothing: once posted, a record finds its slot filled, and a slot that is filled stays filled, since no record empties one.
-- Assumes nothing.
use mathlib.Core.Path.{◌≡◌, refl, sym, ap, ◌∙◌, subst}
use mathlib.Core.Bool.{Bool, true, false, cond, true≢false}
use mathlib.Core.List.Memᴰ
use mathlib.Core.List.{List, [], ◌∷◌, ◌++◌, Memᴰ}
use mathlib.Core.Logic.{⊎_elim}
use Prim.Native.Nat.{ℕ, ◌<◌}
use lib.Dec.{eqb}
use lib.ListN.{length}
use Rattle.std.specs.Prelude.{Result, Ok, Err}
use Rattle.record_table.specs.Table.{record_bytes}
use Rattle.record_table.specs.Slot.{slots, slot_of}
use Rattle.refusals.specs.Refusal.{refusal}
use Rattle.refusals.specs.declared.Reason.TheVariants.{NotSixteenBytes, AlreadyFilled}
use Rattle.refusals.specs.declared.Refusal.{Refusal}
use Rattle.record_judge.specs.Record.{key_of, key_row, judged, stored_of}
use Rattle.record_judge.specs.declared.Change.{Change}
use Rattle.record_judge.specs.declared.Change.TheVariants.{Put, Empty}
use Rattle.record_judge.proofs.Marks.{short}
use Rattle.record_judge.proofs.Taken.{never_empties}
use Rattle.record_judge.proofs.StoredBytes.{stored_long, stored_judged}
use Rattle.record_judge.proofs.Keys.{put_below, key_slot}
use Rattle.book.specs.Book.{free, book_with, answer_by, book_by, answer_of, book_after, taken}
use Rattle.book.specs.Valid.{Valid}
use Rattle.book.proofs.Slot.{slot_same, slot_other}
use Rattle.book.proofs.Free.{free_same}
use Rattle.book.proofs.Kept.{kept, same_or_not}
use Rattle.book.proofs.Letters.{held_filled}
use Rattle.book_theorems.specs.Each.{book_each}
use Rattle.book_theorems.proofs.Own.{taken_fills}

-- a record that has nothing left to fill: refused on its own account, or its slot is filled
pub data Spent (book r : List ℕ) : Type 0 where
  refused : (x : Refusal) → judged r ≡ Err x → Spent book r
  filled : (k : ℕ) → judged r ≡ Ok (Put k) → free book k ≡ false → Spent book r

pub record Turned (book r : List ℕ) : Type 0 where
  pub refusal : Refusal
  pub refused : answer_of book r ≡ Err refusal
  pub same : book_after book r ≡ book

turned : {book r : List ℕ} → Spent book r → Turned book r
unfolding answer_of answer_by book_after book_by
turned {book} {r} (refused x e) = record { refusal = x; refused = ap (answer_by book) e; same = ap (book_by book r) e }
turned {book} {r} (filled k e f) =
    record {
      refusal = refusal AlreadyFilled 0;
      refused = ap (answer_by book) e ∙ ap (λ (b : Bool). cond b taken (Err (refusal AlreadyFilled 0))) f;
      same = ap (book_by book r) e ∙ ap (λ (b : Bool). cond b (book_with book k (stored_of r)) book) f;
    }

-- a slot that is filled stays filled
module _ (book s : List ℕ) (v : Valid book) where
  stays_by : (k j : ℕ) → k < slots → free book k ≡ false → judged s ≡ Ok (Put j) → (b : Bool) → free book j ≡ b → free (cond b (book_with book j (stored_of s)) book) k ≡ false
  stays_by k j h full e false f = full
  stays_by k j h full e true f =
      ⊎_elim
      (λ same. absurd (true≢false (sym f ∙ ap (free book) (sym same) ∙ full)))
      (λ other. free_same (book_with book j (stored_of s)) book k (slot_other book j (stored_of s) v.size (put_below s j e) (stored_long s j e) k h other) ∙ full)
      (same_or_not k j (eqb k j) refl)

  stays_as : (k : ℕ) → k < slots → free book k ≡ false → (found : Result Change Refusal) → judged s ≡ found → free (book_by book s found) k ≡ false
  unfolding book_by
  stays_as k h full (Err x) e = full
  stays_as k h full (Ok (Put j)) e = stays_by k j h full e (free book j) refl
  stays_as k h full (Ok (Empty j)) e = absurd (never_empties s j e)

  stays : (k : ℕ) → k < slots → free book k ≡ false → free (book_after book s) k ≡ false
  unfolding book_after
  stays k h full = stays_as k h full (judged s) refl

  -- a record that was posted is spent, whether it was taken or not
  fills_by : (k : ℕ) → judged s ≡ Ok (Put k) → (b : Bool) → free book k ≡ b → free (cond b (book_with book k (stored_of s)) book) k ≡ false
  fills_by k e false f = f
  fills_by k e true f =
      held_filled (book_with book k (stored_of s)) k k (ap judged (slot_same book k (stored_of s) v.size (put_below s k e) (stored_long s k e)) ∙ stored_judged s k e)

  fills : (k : ℕ) → judged s ≡ Ok (Put k) → free (book_after book s) k ≡ false
  unfolding book_after book_by
  fills k e = ap (λ (found : Result Change Refusal). free (book_by book s found) k) e ∙ fills_by k e (free book k) refl

  once_by : (found : Result Change Refusal) → judged s ≡ found → Spent (book_after book s) s
  once_by (Err x) e = refused x e
  once_by (Ok (Put k)) e = filled k e (fills k e)
  once_by (Ok (Empty k)) e = absurd (never_empties s k e)

  once : Spent (book_after book s) s
  once = once_by (judged s) refl

  still : {r : List ℕ} → Spent book r → Spent (book_after book s) r
  still (refused x e) = refused x e
  still {r} (filled k e f) = filled k e (stays k (put_below r k e) f)

still_each : (book : List ℕ) → Valid book → (ss : List (List ℕ)) {r : List ℕ} → Spent book r → Spent (book_each book ss) r
unfolding book_each
still_each book v [] p = p
still_each book v (s ∷ ss) p = still_each (book_after book s) (kept book s v) ss (still book s v p)

spent : (book : List ℕ) → Valid book → (rs : List (List ℕ)) (r : List ℕ) → Memᴰ r rs → Spent (book_each book rs) r
unfolding book_each
spent book v [] r m = absurd (Memᴰ.not-nil m)
spent book v (s ∷ rs) r m =
    ⊎_elim
    (λ e. still_each (book_after book s) (kept book s v) rs (subst (Spent (book_after book s)) (sym e) (once book s v)))
    (λ t. spent (book_after book s) (kept book s v) rs r t)
    (Memᴰ.cases_cons m)

-- a record posted again is refused, and leaves the book as it is
pub refused_again : (book : List ℕ) → Valid book → (rs : List (List ℕ)) (r : List ℕ) → Memᴰ r rs → Turned (book_each book rs) r
refused_again book v rs r m = turned (spent book v rs r m)

-- and after one that was taken, it and every other record of its slot are refused 5, whatever was posted since
stays_each : (book : List ℕ) → Valid book → (ss : List (List ℕ)) (k : ℕ) → k < slots → free book k ≡ false → free (book_each book ss) k ≡ false
unfolding book_each
stays_each book v [] k h full = full
stays_each book v (s ∷ ss) k h full = stays_each (book_after book s) (kept book s v) ss k h (stays book s v k h full)

pub slot_again :
    (book : List ℕ) → Valid book → (r s : List ℕ) → answer_of book r ≡ taken → judged s ≡ judged r → (ss : List (List ℕ)) →
    answer_of (book_each (book_after book r) ss) s ≡ Err (refusal AlreadyFilled 0)
unfolding answer_of answer_by
slot_again book v r s t same ss =
    let own = taken_fills book r v.size t in
    let full = stays_each (book_after book r) (kept book r v) ss own.slot own.there.below (fills book r v own.slot own.judged_so) in
    ap (answer_by (book_each (book_after book r) ss)) (same ∙ own.judged_so) ∙ ap (λ (b : Bool). cond b taken (Err (refusal AlreadyFilled 0))) full

-- the key tells the slot: so an LN after an LD of its line, or an LD after an LN
pub key_again :
    (book : List ℕ) → Valid book → (r s : List ℕ) → answer_of book r ≡ taken → (k : ℕ) → judged s ≡ Ok (Put k) →
    key_row s ≡ key_row r → key_of (key_row s) s ≡ key_of (key_row r) r → (ss : List (List ℕ)) →
    answer_of (book_each (book_after book r) ss) s ≡ Err (refusal AlreadyFilled 0)
key_again book v r s t k e row key ss =
    let own = taken_fills book r v.size t in
    let one : k ≡ own.slot =
    sym (key_slot s k e) ∙ ap (slot_of (key_row s)) key ∙ ap (λ (n : ℕ). slot_of n (key_of (key_row r) r)) row ∙ key_slot r own.slot own.judged_so in
    slot_again book v r s t (e ∙ ap (λ (n : ℕ). Ok (Put n)) one ∙ sym own.judged_so) ss

pub taken_again :
    (book : List ℕ) → Valid book → (r : List ℕ) → answer_of book r ≡ taken → (ss : List (List ℕ)) → answer_of (book_each (book_after book r) ss) r ≡ Err (refusal AlreadyFilled 0)
taken_again book v r t ss = slot_again book v r r t refl ss

-- so any of them, in any order, any number of times, leave the same book
again : (book : List ℕ) (ss : List (List ℕ)) → ((s : List ℕ) → Memᴰ s ss → book_after book s ≡ book) → book_each book ss ≡ book
unfolding book_each
again book [] f = refl
again book (s ∷ ss) f = ap (λ (b : List ℕ). book_each b ss) (f s (Memᴰ.head refl)) ∙ again book ss (λ t m. f t (Memᴰ.tail m))

pub same_again : (book : List ℕ) → Valid book → (rs ss : List (List ℕ)) → ((s : List ℕ) → Memᴰ s ss → Memᴰ s rs) → book_each (book_each book rs) ss ≡ book_each book rs
same_again book v rs ss among = again (book_each book rs) ss (λ s m. (refused_again book v rs s (among s m)).same)

-- and after a stop anywhere among some records, posting all of them from the first makes what no stop would have made
each_append : (book : List ℕ) (ps qs : List (List ℕ)) → book_each book (ps ++ qs) ≡ book_each (book_each book ps) qs
unfolding book_each
each_append book [] qs = refl
each_append book (p ∷ ps) qs = each_append (book_after book p) ps qs

pub resumed : (book : List ℕ) → Valid book → (ps qs : List (List ℕ)) → book_each (book_each book ps) (ps ++ qs) ≡ book_each book (ps ++ qs)
resumed book v ps qs =
    each_append (book_each book ps) ps qs
    ∙ ap (λ (b : List ℕ). book_each b qs) (same_again book v ps ps (λ s m. m))
    ∙ sym (each_append book ps qs)

-- a record cut short is refused 1, and changes nothing
pub torn : (book r : List ℕ) → (length r ≡ record_bytes → ⊥) → (answer_of book r ≡ Err (refusal NotSixteenBytes 0)) × (book_after book r ≡ book)
unfolding answer_of answer_by book_after book_by
torn book r cut = (ap (answer_by book) (short r cut), ap (book_by book r) (short r cut))
