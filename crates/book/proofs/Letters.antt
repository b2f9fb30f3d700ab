-- A record that is taken starts with a letter, so a filled slot never looks empty. Assumes nothing.
use mathlib.Core.Path.{◌≡◌, refl, sym, ap, ◌∙◌}
use mathlib.Core.Bool.{Bool, true, false, cond, not, true≢false}
use mathlib.Core.List.{List, [], ◌∷◌}
use mathlib.Core.Logic.{⊎_elim}
use Prim.Native.Nat.{ℕ, suc, ◌+◌, ◌*◌, ◌%◌, ◌<◌}
use native.Mathlib.Omega.{arith}
use borrow.Author.Tests.{eqb-true, eqb-false, ne_eqb}
use lib.Dec.{T, eqb}
use lib.ListN.{length, get_or}
use Rattle.std.specs.Prelude.{Ok}
use Rattle.laws.proofs.Table.{each, at}
use Rattle.record_table.specs.Table.{Row, no_row, table}
use Rattle.number_bytes.specs.Number.{number_at}
use Rattle.record_table.specs.Slot.{slots}
use Rattle.record_judge.specs.Record.{row_in, row_of, judged}
use Rattle.record_judge.specs.declared.Change.TheVariants.{Put}
use Rattle.record_judge.specs.Defaults.{defaults_letters, is_defaults}
use Rattle.record_judge.proofs.Taken.{row_put}
use Rattle.book.specs.Book.{record_at, free, nothing}
use Rattle.book.specs.Valid.{Stands, Valid}
use Rattle.book.proofs.Free.{first_byte, empty_free}

-- the row that is found has the letters
found_by :
    (w : ℕ) (row : Row) (rows : List Row) → (row_in w rows < length rows → (get_or rows (row_in w rows) no_row).letters ≡ w) →
    (b : Bool) → eqb row.letters w ≡ b → cond b 0 (suc (row_in w rows)) < suc (length rows) → (get_or (row ∷ rows) (cond b 0 (suc (row_in w rows))) no_row).letters ≡ w
found_by w row rows later true e h = eqb-true _ _ e
found_by w row rows later false e h = later (omega arith)

found : (w : ℕ) (rows : List Row) → row_in w rows < length rows → (get_or rows (row_in w rows) no_row).letters ≡ w
unfolding row_in
found w [] h = let z : ⊥ = omega arith in absurd z
found w (row ∷ rows) h = found_by w row rows (found w rows) (eqb row.letters w) refl h

-- one test over the whole table: the first letter is not 0
lettered : ℕ → Bool
lettered row = not (eqb ((get_or table row no_row).letters % 256) 0)

not_zero_lem : (n : ℕ) (b : Bool) → eqb n 0 ≡ b → T (not b) → n ≡ 0 → ⊥
not_zero_lem n true e t z = t
not_zero_lem n false e t z = eqb-false _ _ e z

first_letter : (row : ℕ) → row < length table → (get_or table row no_row).letters % 256 ≡ 0 → ⊥
unfolding lettered each
first_letter row h = not_zero_lem _ (eqb ((get_or table row no_row).letters % 256) 0) refl (at lettered (length table) tt row h)

row_start : (r : List ℕ) → row_of r < length table → get_or r 0 0 ≡ 0 → ⊥
unfolding row_of number_at
row_start r h z =
    let w = get_or r 0 0 + 256 * (get_or r 1 0 + 256 * 0) in
    let f : (get_or table (row_in w table) no_row).letters ≡ w = found w table h in
    first_letter (row_in w table) h (ap (λ (n : ℕ). n % 256) f ∙ omega arith)

-- nor is LD's
defaults_start : (r : List ℕ) → is_defaults r ≡ true → get_or r 0 0 ≡ 0 → ⊥
unfolding is_defaults number_at
defaults_start r d z =
    omega (arith, eqb-true (get_or r 0 0 + 256 * (get_or r 1 0 + 256 * 0)) defaults_letters d, z)

pub starts : (r : List ℕ) (k : ℕ) → judged r ≡ Ok (Put k) → get_or r 0 0 ≡ 0 → ⊥
starts r k e z = go (is_defaults r) refl
  where
    go : (b : Bool) → is_defaults r ≡ b → ⊥
    go true d = defaults_start r d z
    go false d = row_start r (row_put r k e d).row z

-- so a slot that holds a record is filled, and in a book one that is free is empty, and one that is filled holds what posting puts there
pub held_filled : (book : List ℕ) (k j : ℕ) → judged (record_at book k) ≡ Ok (Put j) → free book k ≡ false
unfolding free
held_filled book k j e = ne_eqb _ _ (λ z. starts (record_at book k) j e (first_byte book k ∙ z))

module _ (book : List ℕ) (k : ℕ) (v : Valid book) (h : k < slots) where
  pub free_empty : free book k ≡ true → record_at book k ≡ nothing
  free_empty f = ⊎_elim (λ e. e) (λ e. absurd (true≢false (sym f ∙ held_filled book k k e.judged_so))) (v.each k h)

  pub filled_held : free book k ≡ false → Stands k (record_at book k)
  filled_held f = ⊎_elim (λ e. absurd (true≢false (sym (empty_free book k e) ∙ f))) (λ e. e) (v.each k h)
