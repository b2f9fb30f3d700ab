-- The book of 01's worked example ("Figures to check"), another where device 1 destroyed nothing, and what stands in each slot that their first year
-- looks at, and where the second finds nothing. Assumes nothing.
use Prim.Native.Nat.{ℕ, suc, ◌-◌}
use mathlib.Core.Bool.{Bool, true, false, cond, ◌&&◌}
use mathlib.Core.List.{List, [], ◌∷◌}
use mathlib.Core.Path.{◌≡◌, refl, ap, ◌∙◌, subst}
use native.Mathlib.Omega.{arith}
use lib.Dec.{T, eqb, ltb, eqb→eq, ltb→lt}
use Rattle.laws.proofs.Counting.{Each}
use Rattle.laws.proofs.Table.{left, right, each, at}
use Rattle.calendar.specs.Days.{months_in_year}
use Rattle.record_table.specs.Table.{lines, yr, ln, hd, tp, dr, pe, mt}
use Rattle.number_bytes.specs.Number.{number_at, signed_of}
use Rattle.record_table.specs.Slot.{count, index, total, slots, slot_of}
use Rattle.record_fields.specs.Entry.{in_range, outside_at, nonzero_at}
use Rattle.record_judge.specs.Defaults.{is_defaults}
use Rattle.record_judge.specs.Record.{nonzero_in, outside_in, key_in, row_in, row_of, key_of, key_row, entries_for, verdict, judged, stored_of}
use Rattle.book.specs.Book.{record_at, nothing, empty_book}
use Rattle.book.specs.Valid.{Valid}
use Rattle.book.proofs.Kept.{empty_slot, empty_valid}
use Rattle.book_theorems.specs.Each.{book_each}
use Rattle.book_theorems.proofs.Slotwise.{held_by, held_after, kept_each, slotwise}
use Rattle.wrong_programs.proofs.Records.{year_record, line_record, head_record, temperature_record, project_record, meter_record, records}

unfoldable pub made : Bool → List ℕ
made destroyed = book_each empty_book (records destroyed)

pub record Stands (book : List ℕ) (destroyed : Bool) : Type 0 where
  pub valid : Valid book
  pub year : record_at book (slot_of yr []) ≡ year_record
  pub line : Each lines (λ l. record_at book (slot_of ln (l ∷ [])) ≡ cond (eqb l 1) line_record nothing)
  pub head : Each months_in_year (λ m. record_at book (slot_of hd (1 ∷ m ∷ [])) ≡ head_record m)
  pub temperature : Each months_in_year (λ m. record_at book (slot_of tp (m ∷ [])) ≡ temperature_record m)
  pub drain : Each months_in_year (λ m. record_at book (slot_of dr (1 ∷ m ∷ [])) ≡ nothing)
  pub project : Each months_in_year (λ m. record_at book (slot_of pe (m ∷ [])) ≡ project_record m)
  pub first_device : Each months_in_year (λ m. record_at book (slot_of mt (m ∷ 1 ∷ [])) ≡ meter_record destroyed m)
  pub second_device : Each months_in_year (λ m. record_at book (slot_of mt (m ∷ 2 ∷ [])) ≡ nothing)
  pub third_device : Each months_in_year (λ m. record_at book (slot_of mt (m ∷ 3 ∷ [])) ≡ nothing)
  pub fourth_device : Each months_in_year (λ m. record_at book (slot_of mt (m ∷ 4 ∷ [])) ≡ nothing)
  pub month_after : record_at book (slot_of tp (suc months_in_year ∷ [])) ≡ nothing

-- one test of a slot, in both books
alike : List ℕ → List ℕ → Bool
alike [] [] = true
alike [] (y ∷ ys) = false
alike (x ∷ xs) [] = false
alike (x ∷ xs) (y ∷ ys) = eqb x y && alike xs ys

alike_same : (xs ys : List ℕ) → T (alike xs ys) → xs ≡ ys
unfolding alike
alike_same [] [] t = refl
alike_same [] (y ∷ ys) t = absurd t
alike_same (x ∷ xs) [] t = absurd t
alike_same (x ∷ xs) (y ∷ ys) t =
    ap (λ (z : ℕ). z ∷ xs) (eqb→eq x y (left (eqb x y) (alike xs ys) t)) ∙ ap (λ (zs : List ℕ). y ∷ zs) (alike_same xs ys (right (eqb x y) (alike xs ys) t))

holds : ℕ → (Bool → List ℕ) → Bool → Bool
holds k r destroyed = ltb k slots && alike (held_after k nothing (records destroyed)) (r destroyed)

both : (Bool → Bool) → Bool
both test = test true && test false

either : (test : Bool → Bool) → T (both test) → (b : Bool) → T (test b)
unfolding both
either test t true = left (test true) (test false) t
either test t false = right (test true) (test false) t

module _ (destroyed : Bool) where
  stands : (k : ℕ) (r : Bool → List ℕ) → T (both (holds k r)) → record_at (made destroyed) k ≡ r destroyed
  unfolding holds made
  stands k r t =
      let passed = either (holds k r) t destroyed in
      let held = held_after k nothing (records destroyed) in
      let below = ltb→lt k slots (left (ltb k slots) (alike held (r destroyed)) passed) in
      slotwise empty_book (records destroyed) empty_valid k below
      ∙ ap (λ (empty : List ℕ). held_after k empty (records destroyed)) (empty_slot k below)
      ∙ alike_same held (r destroyed) (right (ltb k slots) (alike held (r destroyed)) passed)

  stands_each :
      (n : ℕ) (slot : ℕ → ℕ) (r : Bool → ℕ → List ℕ) → T (each (λ i. both (holds (slot (suc i)) (λ b. r b (suc i)))) n) →
      Each n (λ i. record_at (made destroyed) (slot i) ≡ r destroyed i)
  stands_each n slot r t i low high =
      let e : suc (i - 1) ≡ i = omega arith in
      subst (λ (j : ℕ). record_at (made destroyed) (slot j) ≡ r destroyed j) e
      (stands (slot (suc (i - 1))) (λ b. r b (suc (i - 1))) (at (λ j. both (holds (slot (suc j)) (λ b. r b (suc j)))) n t (i - 1) (omega arith)))

  pub made_stands : Stands (made destroyed) destroyed
  unfolding made holds both alike each held_after held_by judged key_row entries_for stored_of is_defaults verdict row_of row_in key_of key_in nonzero_in nonzero_at outside_in outside_at in_range signed_of number_at slot_of total index count slots
  made_stands =
      record {
        valid = kept_each empty_book (records destroyed) empty_valid;
        year = stands (slot_of yr []) (λ b. year_record) tt;
        line = stands_each lines (λ l. slot_of ln (l ∷ [])) (λ b l. cond (eqb l 1) line_record nothing) tt;
        head = stands_each months_in_year (λ m. slot_of hd (1 ∷ m ∷ [])) (λ b. head_record) tt;
        temperature = stands_each months_in_year (λ m. slot_of tp (m ∷ [])) (λ b. temperature_record) tt;
        drain = stands_each months_in_year (λ m. slot_of dr (1 ∷ m ∷ [])) (λ b m. nothing) tt;
        project = stands_each months_in_year (λ m. slot_of pe (m ∷ [])) (λ b. project_record) tt;
        first_device = stands_each months_in_year (λ m. slot_of mt (m ∷ 1 ∷ [])) meter_record tt;
        second_device = stands_each months_in_year (λ m. slot_of mt (m ∷ 2 ∷ [])) (λ b m. nothing) tt;
        third_device = stands_each months_in_year (λ m. slot_of mt (m ∷ 3 ∷ [])) (λ b m. nothing) tt;
        fourth_device = stands_each months_in_year (λ m. slot_of mt (m ∷ 4 ∷ [])) (λ b m. nothing) tt;
        month_after = stands (slot_of tp (suc months_in_year ∷ [])) (λ b. nothing) tt;
      }
