-- What is read of a slot is what was stored there, which is what was posted: each read's slot and offset are those that posting fills. Assumes nothing.
use mathlib.Core.Path.{◌≡◌, sym, ap, ◌∙◌, subst}
use mathlib.Core.Bool.{Bool, true, false, cond, not}
use mathlib.Core.List.{List, [], ◌∷◌}
use Prim.Native.Nat.{ℕ, ◌+◌, ◌*◌, ◌≤◌, ◌<◌}
use native.Mathlib.Omega.{arith}
use lib.Dec.{lit≤}
use lib.ListN.{length, get_or}
use Rattle.std.specs.Prelude.{Ok, Some, None}
use Rattle.record_table.specs.Table.{table, entries_of, yr, ln, hd, tp, dr, pe, mt, record_bytes}
use Rattle.number_bytes.specs.Number.{number_at, signed_of}
use Rattle.record_table.specs.Slot.{slots, slot_of}
use Rattle.record_judge.specs.Record.{key_in, row_of, key_of, key_row, judged, stored_of}
use Rattle.record_judge.specs.declared.Change.TheVariants.{Put}
use Rattle.record_judge.proofs.StoredBytes.{stored_judged}
use Rattle.record_judge.proofs.Keys.{key_slot, key_below, row_own, row_stored}
use Rattle.book.specs.Book.{book_bytes, record_at, free, answer_of, book_after, taken}
use Rattle.book.proofs.Free.{free_same}
use Rattle.book.proofs.Letters.{held_filled}
use Rattle.book_slots.specs.Field.{place_of, bytes_of, seen_at, number_of, seen_of, filled_of}
use Rattle.book_slots.specs.Reads.{first_year_of, temperature_of, project_methane_of, destroyed_of}
use Rattle.book_herd.specs.Herd.{head_of, drained_of}
use Rattle.book_slots.proofs.Within.{number_slot, inside_record}
use Rattle.book_theorems.proofs.Own.{Fills, taken_fills}

-- a read of a slot goes by what stands in it alone
pub read_same : (a b : List ℕ) (k at wide : ℕ) → at + wide ≤ record_bytes → record_at a k ≡ record_at b k → seen_at a k at wide ≡ seen_at b k at wide
unfolding seen_at
read_same a b k at wide h e =
    let n = sym (number_slot a k at wide h) ∙ ap (λ (r : List ℕ). number_at r at wide) e ∙ number_slot b k at wide h in
    ap (λ (f : Bool). cond (not f) (Some (number_at a (k * record_bytes + at) wide)) None) (free_same a b k e)
    ∙ ap (λ (x : ℕ). cond (not (free b k)) (Some x) None) n

-- a slot that holds a record is read as that record's field
holds_read : (book r : List ℕ) (k j at wide : ℕ) → at + wide ≤ record_bytes → judged r ≡ Ok (Put j) → record_at book k ≡ r → seen_at book k at wide ≡ Some (number_at r at wide)
unfolding seen_at
holds_read book r k j at wide h e held =
    ap (λ (f : Bool). cond (not f) (Some (number_at book (k * record_bytes + at) wide)) None) (held_filled book k j (ap judged held ∙ e))
    ∙ ap Some (sym (number_slot book k at wide h) ∙ ap (λ (s : List ℕ). number_at s at wide) held)

warm : (b : Bool) (x y : ℕ) → cond b (Some x) None ≡ Some y → cond b (Some (signed_of x)) None ≡ Some (signed_of y)
warm true x y e = let z : x ≡ y = cc in ap (λ (n : ℕ). Some (signed_of n)) z
warm false x y e = let z : ◌≡◌ {A = ℕ} 0 1 = cc in absurd (omega arith)

module _ (book r : List ℕ) (size : length book ≡ book_bytes) (t : answer_of book r ≡ taken) where
  -- what it fills, and its key's slot
  own : Fills book r
  own = taken_fills book r size t

  its : slot_of (key_row r) (key_of (key_row r) r) ≡ own.slot
  its = key_slot r own.slot own.judged_so

  -- each field of a record that was taken is read, under its key, as it was stored
  pub read_stored :
      (n : ℕ) → n < length (entries_of (key_row r)) →
      seen_of (book_after book r) (key_row r) (key_of (key_row r) r) n ≡ Some (number_at (stored_of r) (place_of (key_row r) n) (bytes_of (key_row r) n))
  read_stored n h =
      let row = key_below r own.slot own.judged_so in
      subst
      (λ (k : ℕ). seen_at (book_after book r) k (place_of (key_row r) n) (bytes_of (key_row r) n) ≡ Some (number_at (stored_of r) (place_of (key_row r) n) (bytes_of (key_row r) n)))
      (sym its)
      (holds_read (book_after book r) (stored_of r) own.slot own.slot (place_of (key_row r) n) (bytes_of (key_row r) n) (inside_record (key_row r) row n h) (stored_judged r own.slot own.judged_so) own.there.holds)

  -- and every other slot is read as before
  pub read_others :
      (j : ℕ) → j < slots → (j ≡ slot_of (key_row r) (key_of (key_row r) r) → ⊥) → (at wide : ℕ) → at + wide ≤ record_bytes →
      seen_at (book_after book r) j at wide ≡ seen_at book j at wide
  read_others j h ne at wide l = read_same (book_after book r) book j at wide l (own.there.others j h (λ e. ne (e ∙ sym its)))

  -- a record of the table is read as it was posted
  module _ (row : ℕ) (h : row < length table) (e : row_of r ≡ row) where
    own_key : key_row r ≡ row
    own_key = row_own r (subst (λ (n : ℕ). n < length table) (sym e) h) ∙ e

    pub read_posted : (n : ℕ) → n < length (entries_of row) → seen_of (book_after book r) row (key_of row r) n ≡ Some (number_at r (place_of row n) (bytes_of row n))
    read_posted n l =
        subst
        (λ (m : ℕ). n < length (entries_of m) → seen_of (book_after book r) m (key_of m r) n ≡ Some (number_at r (place_of m n) (bytes_of m n)))
        own_key
        (λ l. read_stored n l ∙ ap (λ (bytes : List ℕ). Some (number_at bytes (place_of (key_row r) n) (bytes_of (key_row r) n))) (row_stored r (subst (λ (n : ℕ). n < length table) (sym e) h)))
        l

    filled_there : filled_of (book_after book r) row (key_of row r) ≡ true
    filled_there =
        subst (λ (m : ℕ). filled_of (book_after book r) m (key_of m r) ≡ true) own_key
        (subst (λ (k : ℕ). not (free (book_after book r) k) ≡ true) (sym its)
        (ap not (held_filled (book_after book r) own.slot own.slot (ap judged own.there.holds ∙ stored_judged r own.slot own.judged_so))))

  -- mark by mark, one field of each: the offsets are those of the paper's table
  pub posted_year : row_of r ≡ yr → first_year_of (book_after book r) ≡ Some (number_at r 2 2)
  unfolding key_of key_in
  posted_year e = read_posted yr (lit≤ tt) e 0 (lit≤ tt)

  pub posted_share : row_of r ≡ ln → seen_of (book_after book r) ln (get_or r 2 0 ∷ []) 6 ≡ Some (number_at r 10 2)
  unfolding key_of key_in
  posted_share e = read_posted ln (lit≤ tt) e 6 (lit≤ tt)

  pub posted_head : row_of r ≡ hd → head_of (book_after book r) (get_or r 2 0) (get_or r 3 0) ≡ Some (number_at r 4 4)
  unfolding key_of key_in
  posted_head e = read_posted hd (lit≤ tt) e 2 (lit≤ tt)

  pub posted_methane : row_of r ≡ pe → project_methane_of (book_after book r) (get_or r 2 0) ≡ Some (number_at r 4 4)
  unfolding key_of key_in
  posted_methane e = read_posted pe (lit≤ tt) e 2 (lit≤ tt)

  pub posted_destroyed : row_of r ≡ mt → destroyed_of (book_after book r) (get_or r 2 0) (get_or r 3 0) ≡ Some (number_at r 4 8)
  unfolding key_of key_in
  posted_destroyed e = read_posted mt (lit≤ tt) e 2 (lit≤ tt)

  -- a temperature and a drain mark, which are not read as unsigned fields
  pub posted_drained : row_of r ≡ dr → drained_of (book_after book r) (get_or r 2 0) (get_or r 3 0) ≡ true
  unfolding key_of key_in
  posted_drained e = filled_there dr (lit≤ tt) e

  pub posted_temperature : row_of r ≡ tp → temperature_of (book_after book r) (get_or r 2 0) ≡ Some (signed_of (number_at r 4 2))
  unfolding key_of key_in seen_at
  posted_temperature e = warm (filled_of (book_after book r) tp (get_or r 2 0 ∷ [])) (number_of (book_after book r) tp (get_or r 2 0 ∷ []) 2) (number_at r 4 2) (read_posted tp (lit≤ tt) e 2 (lit≤ tt))
