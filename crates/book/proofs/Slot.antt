-- One slot of a book: its bytes, and what stands there and elsewhere once sixteen bytes are put into it. Assumes nothing.
use mathlib.Core.Path.{◌≡◌, refl, sym, ap, ◌∙◌}
use mathlib.Core.List.{List, [], ◌∷◌, ◌++◌, append_assoc}
use mathlib.Core.Logic.{◌⊎◌, inl, inr, ⊎_elim}
use Prim.Native.Nat.{ℕ, suc, ◌+◌, ◌*◌, ◌-◌, ◌≤◌, ◌<◌}
use native.Mathlib.Omega.{arith}
use borrow.Rule.Slice.PartMut.{put_mid}
use lib.ListN.{length, get_or, take, drop, set, length-drop}
use lib.Seq.{sets, sets-eq, length-sets, get_or-set_other, get_or-take, get_or-drop, ext_get_or, take_at, drop_at, drop-drop, length-take-le}
use Rattle.record_table.specs.Table.{record_bytes}
use Rattle.record_table.specs.Slot.{slots}
use Rattle.record_table.proofs.Slots.{lt_or_ge}
use Rattle.book.specs.Book.{book_bytes, record_at, book_with}

-- a place that is not among n from i on
Out : ℕ → ℕ → ℕ → Type 0
Out i n j = (j < i) ⊎ (i + n ≤ j)

out_head : (i n j : ℕ) → Out i (suc n) j → (i ≡ j → ⊥) × Out (suc i) n j
unfolding Out
out_head i n j o = ⊎_elim (λ h. ((λ e. omega arith), inl (omega arith))) (λ h. ((λ e. omega arith), inr (omega arith))) o

get_or_out : (l : List ℕ) (i : ℕ) (vs : List ℕ) (j : ℕ) → Out i (length vs) j → get_or (sets l i vs) j 0 ≡ get_or l j 0
get_or_out l i [] j o = refl
get_or_out l i (v ∷ vs) j o =
    let p = out_head i (length vs) j o in
    get_or_out (set l i v) (suc i) vs j p.1 ∙ get_or-set_other l i j v 0 (λ e. p.0 (sym e))

-- the bytes of a slot, and how many
pub slot_length : (book : List ℕ) (j : ℕ) → length book ≡ book_bytes → j < slots → length (record_at book j) ≡ record_bytes
unfolding record_at
slot_length book j e h = length-take-le record_bytes (drop (j * record_bytes) book) (simp length-drop (omega arith))

pub slot_byte : (book : List ℕ) (j o : ℕ) → o < record_bytes → get_or (record_at book j) o 0 ≡ get_or book (j * record_bytes + o) 0
unfolding record_at
slot_byte book j o h = get_or-take record_bytes (drop (j * record_bytes) book) o 0 h ∙ get_or-drop (j * record_bytes) book o 0

-- slots are equal by their bytes
pub slot_ext :
    (a b : List ℕ) (j : ℕ) → length a ≡ book_bytes → length b ≡ book_bytes → j < slots →
    ((o : ℕ) → o < record_bytes → get_or a (j * record_bytes + o) 0 ≡ get_or b (j * record_bytes + o) 0) → record_at a j ≡ record_at b j
slot_ext a b j ea eb h f =
    ext_get_or 0 (record_at a j) (record_at b j) (slot_length a j ea h ∙ sym (slot_length b j eb h))
    (λ i l. let li : i < record_bytes = omega (arith, slot_length a j ea h) in slot_byte a j i li ∙ f i li ∙ sym (slot_byte b j i li))

module _ (book : List ℕ) (k : ℕ) (bytes : List ℕ) (size : length book ≡ book_bytes) (below : k < slots) (long : length bytes ≡ record_bytes) where
  as_sets : book_with book k bytes ≡ sets book (k * record_bytes) bytes
  unfolding book_with
  as_sets = sym (sets-eq bytes book (k * record_bytes) (omega arith) ∙ rw long (append_assoc (take (k * record_bytes) book) bytes (drop (k * record_bytes + record_bytes) book)))

  pub with_length : length (book_with book k bytes) ≡ book_bytes
  with_length = ap length as_sets ∙ length-sets book (k * record_bytes) bytes ∙ size

  -- its own slot holds the bytes
  pub slot_same : record_at (book_with book k bytes) k ≡ bytes
  unfolding book_with record_at
  slot_same =
      ap (take record_bytes) (drop_at (take (k * record_bytes) book) (bytes ++ drop (k * record_bytes + record_bytes) book) (k * record_bytes) (length-take-le (k * record_bytes) book (omega arith)))
      ∙ take_at bytes (drop (k * record_bytes + record_bytes) book) record_bytes long

  other_byte : (j o : ℕ) → (j ≡ k → ⊥) → o < record_bytes → get_or (book_with book k bytes) (j * record_bytes + o) 0 ≡ get_or book (j * record_bytes + o) 0
  unfolding Out
  other_byte j o ne h =
      let p : Out (k * record_bytes) (length bytes) (j * record_bytes + o) =
      ⊎_elim (λ lt. inl (omega arith)) (λ ge. inr (let g : k ≡ j → ⊥ = (λ e. ne (sym e)) in omega arith)) (lt_or_ge j k) in
      ap (λ (l : List ℕ). get_or l (j * record_bytes + o) 0) as_sets ∙ get_or_out book (k * record_bytes) bytes (j * record_bytes + o) p

  -- every other slot is as it was
  pub slot_other : (j : ℕ) → j < slots → (j ≡ k → ⊥) → record_at (book_with book k bytes) j ≡ record_at book j
  slot_other j h ne = slot_ext (book_with book k bytes) book j with_length size h (λ o ho. other_byte j o ne ho)

-- a copy of sixteen bytes over the part of the book that is slot k
pub written :
    (book bytes : List ℕ) (k : ℕ) (part : List ℕ) → length bytes ≡ record_bytes → part ≡ bytes →
    put_mid (k * record_bytes) (k * record_bytes + record_bytes - k * record_bytes) book part ≡ book_with book k bytes
unfolding book_with
written book bytes k part l whole =
    let s : k * record_bytes + record_bytes - k * record_bytes ≡ record_bytes = omega arith in
    rw (whole, s) (rw drop-drop refl)
