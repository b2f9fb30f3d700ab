-- The range of each read of a valid book, from the table, by one law. Assumes nothing.
use mathlib.Core.Path.{◌≡◌, refl}
use mathlib.Core.Bool.{Bool, true, false, cond}
use mathlib.Core.List.{List, [], ◌∷◌}
use Prim.Native.Nat.{ℕ, ◌≤◌, ◌<◌}
use native.Mathlib.Omega.{arith}
use lib.Dec.{T, eqb, lit≤}
use lib.IntN.{ℤ, pos, neg_ℤ}
use lib.ListN.{length, get_or}
use lib.Signed.{le_z}
use Rattle.record_table.specs.Table.{from, unless, signed, Entry, zeros, field, months, devices, table, highest_of, entries_of, yr, tp, pe, mt}
use Rattle.number_bytes.specs.Number.{signed_of}
use Rattle.record_table.specs.Slot.{slot_of}
use Rattle.record_table.proofs.Slots.{Low}
use Rattle.record_fields.specs.Entry.{in_range}
use Rattle.record_judge.proofs.Entries.{both, within}
use Rattle.book.specs.Book.{record_at}
use Rattle.book.specs.Valid.{Valid}
use Rattle.book_slots.specs.Field.{seen_at, number_of, seen_of, filled_of}
use Rattle.book_slots.specs.Reads.{temperature_of}
use Rattle.std.specs.Prelude.{Option, Some, None}
use Rattle.book_slots.proofs.Within.{filled_ranged, empty_zero}

-- the lowest and the highest value of entry n of a row, where it is an unsigned field
abbrev pub lowest_of : Entry → ℕ
lowest_of (zeros n) = 0
lowest_of (field wide (from low high)) = low
lowest_of (field wide (unless by high)) = 0
lowest_of (field wide (signed below above)) = 0

abbrev pub top_of : Entry → ℕ
top_of (zeros n) = 0
top_of (field wide (from low high)) = high
top_of (field wide (unless by high)) = high
top_of (field wide (signed below above)) = above

abbrev pub unsigned : Entry → Bool
unsigned (zeros n) = false
unsigned (field wide (from low high)) = true
unsigned (field wide (unless by high)) = true
unsigned (field wide (signed below above)) = false

abbrev pub entry_at : ℕ → ℕ → Entry
entry_at row n = get_or (entries_of row) n (zeros 0)

abbrev pub low : ℕ → ℕ → ℕ
low row n = lowest_of (entry_at row n)

abbrev pub high : ℕ → ℕ → ℕ
high row n = top_of (entry_at row n)

-- nothing, or a value in a range
abbrev pub In : ℕ → ℕ → Option ℕ → Type 0
In least most None = Unit {0}
In least most (Some x) = (least ≤ x) × (x ≤ most)

at_most : (b : Bool) (top : ℕ) → cond b 0 top ≤ top
at_most true top = omega arith
at_most false top = omega arith

narrow : (r : List ℕ) (by top x : ℕ) → in_range (unless by top) r x ≡ true → x ≤ top
unfolding in_range
narrow r by top x e =
    let b = within 0 (cond (eqb (get_or r by 0) 0) 0 top) r x e in
    omega (arith, b.1, at_most (eqb (get_or r by 0) 0) top)

either : (b : Bool) {x least most : ℕ} → (b ≡ true → (least ≤ x) × (x ≤ most)) → In least most (cond b (Some x) None)
either true f = f refl
either false f = tt

small : (b : Bool) {x least most : ℕ} → (b ≡ true → (least ≤ x) × (x ≤ most)) → (b ≡ false → x ≡ 0) → x ≤ most
small true f g = (f refl).1
small false f g = let z = g refl in omega arith

module _ (book : List ℕ) (v : Valid book) (row : ℕ) (h : row < length table) (bytes : List ℕ) (l : Low (highest_of row) bytes) (n : ℕ) (m : n < length (entries_of row)) where
  ranged_by :
      (e : Entry) → entry_at row n ≡ e → T (unsigned e) → filled_of book row bytes ≡ true →
      (lowest_of e ≤ number_of book row bytes n) × (number_of book row bytes n ≤ top_of e)
  ranged_by (zeros k) e t f = absurd t
  ranged_by (field wide (from least most)) e t f = within least most (record_at book (slot_of row bytes)) (number_of book row bytes n) (filled_ranged book v row h bytes l n m wide (from least most) e f)
  ranged_by (field wide (unless by top)) e t f = (omega arith, narrow (record_at book (slot_of row bytes)) by top (number_of book row bytes n) (filled_ranged book v row h bytes l n m wide (unless by top) e f))
  ranged_by (field wide (signed below above)) e t f = absurd t

  -- what is seen is nothing or in the table's range, and the number read is at most the table's highest, filled or not
  pub seen_in : T (unsigned (entry_at row n)) → In (low row n) (high row n) (seen_of book row bytes n)
  unfolding seen_at
  seen_in t = either (filled_of book row bytes) (ranged_by (entry_at row n) refl t)

  pub most : T (unsigned (entry_at row n)) → number_of book row bytes n ≤ high row n
  most t = small (filled_of book row bytes) (ranged_by (entry_at row n) refl t) (empty_zero book v row h bytes l n m)

-- unknown, or from minus a number to another
abbrev pub Mild : ℕ → ℕ → Option ℤ → Type 0
Mild below above None = Unit {0}
Mild below above (Some t) = (le_z (neg_ℤ (pos below)) t ≡ true) × (le_z t (pos above) ≡ true)

mild : (b : Bool) (t : ℤ) (below above : ℕ) → (b ≡ true → (le_z (neg_ℤ (pos below)) t ≡ true) × (le_z t (pos above) ≡ true)) → Mild below above (cond b (Some t) None)
mild true t below above f = f refl
mild false t below above f = tt

-- mark by mark: what is seen, and the number
module _ (book : List ℕ) (v : Valid book) where
  pub year_in : (n : ℕ) → n < length (entries_of yr) → T (unsigned (entry_at yr n)) → In (low yr n) (high yr n) (seen_of book yr [] n)
  year_in n = seen_in book v yr (lit≤ tt) [] tt n

  pub year_most : (n : ℕ) → n < length (entries_of yr) → T (unsigned (entry_at yr n)) → number_of book yr [] n ≤ high yr n
  year_most n = most book v yr (lit≤ tt) [] tt n

  pub project_in : (month : ℕ) → month ≤ months → (n : ℕ) → n < length (entries_of pe) → T (unsigned (entry_at pe n)) → In (low pe n) (high pe n) (seen_of book pe (month ∷ []) n)
  project_in month h n = seen_in book v pe (lit≤ tt) (month ∷ []) (omega arith, tt) n

  pub project_most : (month : ℕ) → month ≤ months → (n : ℕ) → n < length (entries_of pe) → T (unsigned (entry_at pe n)) → number_of book pe (month ∷ []) n ≤ high pe n
  project_most month h n = most book v pe (lit≤ tt) (month ∷ []) (omega arith, tt) n

  pub meter_in : (month device : ℕ) → month ≤ months → device ≤ devices → (n : ℕ) → n < length (entries_of mt) → T (unsigned (entry_at mt n)) → In (low mt n) (high mt n) (seen_of book mt (month ∷ device ∷ []) n)
  meter_in month device h k n = seen_in book v mt (lit≤ tt) (month ∷ device ∷ []) (omega arith, (omega arith, tt)) n

  pub meter_most : (month device : ℕ) → month ≤ months → device ≤ devices → (n : ℕ) → n < length (entries_of mt) → T (unsigned (entry_at mt n)) → number_of book mt (month ∷ device ∷ []) n ≤ high mt n
  meter_most month device h k n = most book v mt (lit≤ tt) (month ∷ device ∷ []) (omega arith, (omega arith, tt)) n

  -- a temperature, in tenths: from minus 500 to 600
  pub temperature_in : (month : ℕ) → month ≤ months → Mild 500 600 (temperature_of book month)
  unfolding in_range
  temperature_in month h =
      mild (filled_of book tp (month ∷ [])) (signed_of (number_of book tp (month ∷ []) 2)) 500 600
      (λ f. both _ _ (filled_ranged book v tp (lit≤ tt) (month ∷ []) (omega arith, tt) 2 (lit≤ tt) 2 (signed 500 600) refl f))
