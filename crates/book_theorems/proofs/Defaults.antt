-- A defaults line is posted as the LN that it stands for (02, (i)): on every book the answer and the book afterwards are that LN's, which the empty book
-- takes; and one that is wrong in itself is refused on every book, and changes none. Assumes nothing.
use mathlib.Core.Path.{◌≡◌, refl, sym, ap, ◌∙◌, subst}
use mathlib.Core.Bool.{Bool, true, cond}
use mathlib.Core.List.{List, [], ◌∷◌}
use Prim.Native.Nat.{ℕ, ◌<◌}
use lib.Dec.{lit≤}
use lib.ListN.{length, get_or}
use Rattle.std.specs.Prelude.{Result, Ok, Err, Some}
use Rattle.refusals.specs.Refusal.{refusal}
use Rattle.refusals.specs.declared.Reason.TheVariants.{AlreadyFilled}
use Rattle.refusals.specs.declared.Refusal.{Refusal}
use Rattle.number_bytes.specs.Number.{number_at}
use Rattle.record_table.specs.Table.{ln, entries_of}
use Rattle.record_defaults.specs.Tables.{mass_of, b0_of, solids_of}
use Rattle.record_defaults.specs.StandsFor.{livestock_at, state_at, stands_for}
use Rattle.record_defaults.proofs.Inside.{solids_at, mass_at, b0_at}
use Rattle.record_judge.specs.Defaults.{is_defaults}
use Rattle.record_judge.specs.Record.{key_in, key_of, judged, stored_of}
use Rattle.record_judge.specs.declared.Change.{Change}
use Rattle.record_judge.specs.declared.Change.TheVariants.{Put, Empty}
use Rattle.record_judge.proofs.Defaults.{two_bytes, one_byte}
use Rattle.record_judge.proofs.Taken.{never_empties}
use Rattle.record_judge.proofs.StoredBytes.{stored_line, stored_once, stored_judged}
use Rattle.record_judge.proofs.Keys.{put_below, defaults_row}
use Rattle.book.specs.Book.{book_bytes, free, book_with, answer_by, book_by, answer_of, book_after, empty_book, taken}
use Rattle.book.proofs.Free.{empty_free}
use Rattle.book.proofs.Kept.{empty_slot}
use Rattle.book_slots.specs.Field.{place_of, bytes_of, seen_of}
use Rattle.book_theorems.proofs.Read.{read_stored}

-- posted to a book, a record answers and leaves it as another does
pub record Alike (book r s : List ℕ) : Type 0 where
  pub answer : answer_of book r ≡ answer_of book s
  pub after : book_after book r ≡ book_after book s

-- refused by every book, by one refusal, and changing none
pub record Spurned (r : List ℕ) : Type 0 where
  pub refusal : Refusal
  pub judged_so : judged r ≡ Err refusal
  pub refused : (book : List ℕ) → answer_of book r ≡ Err refusal
  pub same : (book : List ℕ) → book_after book r ≡ book

-- posted to every book as its LN, which the empty book takes
pub record AsLine (r : List ℕ) : Type 0 where
  pub alike : (book : List ℕ) → Alike book r (stands_for r)
  pub line_taken : answer_of empty_book (stands_for r) ≡ taken

pub data Outcome (r : List ℕ) : Type 0 where
  spurned : Spurned r → Outcome r
  as_line : AsLine r → Outcome r

-- any record answers, and leaves a book, as what it stores does
module _ (r : List ℕ) (k : ℕ) (e : judged r ≡ Ok (Put k)) where
  as_stored : (book : List ℕ) → Alike book r (stored_of r)
  unfolding answer_of book_after book_by
  as_stored book =
      let f = stored_judged r k e in
      record {
        answer = ap (answer_by book) (e ∙ sym f);
        after =
            ap (book_by book r) e
            ∙ ap (λ (bytes : List ℕ). cond (free book k) (book_with book k bytes) book) (sym (stored_once r))
            ∙ sym (ap (book_by book (stored_of r)) f);
      }

  stored_taken : answer_of empty_book (stored_of r) ≡ taken
  unfolding answer_of answer_by
  stored_taken =
      ap (answer_by empty_book) (stored_judged r k e)
      ∙ ap (λ (b : Bool). cond b taken (Err (refusal AlreadyFilled 0))) (empty_free empty_book k (empty_slot k (put_below r k e)))

by : (r : List ℕ) → stored_of r ≡ stands_for r → (found : Result Change Refusal) → judged r ≡ found → Outcome r
unfolding answer_of answer_by book_after book_by
by r line (Err x) e = spurned (record { refusal = x; judged_so = e; refused = λ book. ap (answer_by book) e; same = λ book. ap (book_by book r) e })
by r line (Ok (Put k)) e =
    as_line (record {
      alike = λ book. subst (Alike book r) line (as_stored r k e book);
      line_taken = ap (answer_of empty_book) (sym line) ∙ stored_taken r k e;
    })
by r line (Ok (Empty k)) e = absurd (never_empties r k e)

pub posted_as_line : (r : List ℕ) → is_defaults r ≡ true → Outcome r
posted_as_line r d = by r (stored_line r d) (judged r) refl

-- and what is read of it afterwards is what the tables have: table solids, mass and B0, by their entries of LN's row
module _ (book r : List ℕ) (size : length book ≡ book_bytes) (t : answer_of book r ≡ taken) (d : is_defaults r ≡ true) where
  field : (n : ℕ) → n < length (entries_of ln) → seen_of (book_after book r) ln (get_or r 2 0 ∷ []) n ≡ Some (number_at (stands_for r) (place_of ln n) (bytes_of ln n))
  unfolding key_of key_in
  field n h =
      subst (λ (m : ℕ). n < length (entries_of m) → seen_of (book_after book r) m (key_of m r) n ≡ Some (number_at (stored_of r) (place_of m n) (bytes_of m n))) (defaults_row r d) (read_stored book r size t n) h
      ∙ ap (λ (bytes : List ℕ). Some (number_at bytes (place_of ln n) (bytes_of ln n))) (stored_line r d)

  pub read_solids : seen_of (book_after book r) ln (get_or r 2 0 ∷ []) solids_at ≡ Some (solids_of (get_or r livestock_at 0) (get_or r state_at 0))
  unfolding number_at stands_for
  read_solids = field solids_at (lit≤ tt) ∙ ap Some (two_bytes (solids_of (get_or r livestock_at 0) (get_or r state_at 0)))

  pub read_mass : seen_of (book_after book r) ln (get_or r 2 0 ∷ []) mass_at ≡ Some (mass_of (get_or r livestock_at 0))
  unfolding number_at stands_for
  read_mass = field mass_at (lit≤ tt) ∙ ap Some (two_bytes (mass_of (get_or r livestock_at 0)))

  pub read_b0 : seen_of (book_after book r) ln (get_or r 2 0 ∷ []) b0_at ≡ Some (b0_of (get_or r livestock_at 0))
  unfolding number_at stands_for
  read_b0 = field b0_at (lit≤ tt) ∙ ap Some (one_byte (b0_of (get_or r livestock_at 0)))
