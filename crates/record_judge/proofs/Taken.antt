-- What is so of a record, by what it is judged to do. One that puts bytes into a slot has sixteen bytes, a row of the table or the letters of LD, no field
-- outside its range, and its key's slot; a refusal has a reason that posting gives; and no record empties a slot, since no mark does that yet.
-- Assumes nothing.
use mathlib.Core.Path.{◌≡◌, refl, sym, subst}
use mathlib.Core.Bool.{Bool, true, false}
use mathlib.Core.List.{List, Memᴰ}
use Prim.Native.Nat.{ℕ, ◌<◌}
use borrow.Author.Tests.{ltb-true, eqb-true, eqb-false}
use lib.Dec.{eqb, ltb}
use lib.ListN.{length}
use Rattle.std.specs.Prelude.{Option, None, Some, Result, Ok, Err}
use Rattle.laws.proofs.Picking.{picked}
use Rattle.refusals.specs.Refusal.{posting_order}
use Rattle.refusals.specs.declared.Refusal.{Refusal}
use Rattle.record_table.specs.Table.{table, ln, entries_of, record_bytes, after_mark}
use Rattle.record_table.specs.Slot.{slot_of}
use Rattle.record_judge.specs.Defaults.{is_defaults, defaults_entries}
use Rattle.record_judge.specs.Record.{outside_in, row_of, key_of, verdict, judged_as, judged}
use Rattle.record_judge.specs.declared.Change.{Change}
use Rattle.record_judge.specs.declared.Change.TheVariants.{Put, Empty}
use Rattle.record_judge.proofs.Entries.{Ranged, ranged}
use Rattle.record_judge.proofs.Marks.{short, as_defaults, as_row}

-- a record of the table that is put into slot k
pub record Taken (r : List ℕ) (k : ℕ) : Type 0 where
  pub long : length r ≡ record_bytes
  pub row : row_of r < length table
  pub ranged : outside_in after_mark (entries_of (row_of r)) r ≡ None
  pub slot : slot_of (row_of r) (key_of (row_of r) r) ≡ k

-- what is so of a record that is put there, by whether it is a defaults line
PutBy : Bool → List ℕ → ℕ → Type 0
PutBy true r k = Ranged after_mark (defaults_entries r) r × (slot_of ln (key_of ln r) ≡ k)
PutBy false r k = Taken r k

So : List ℕ → Result Change Refusal → Type 0
So r (Err x) = Memᴰ x.reason posting_order
So r (Ok (Put k)) = (length r ≡ record_bytes) × PutBy (is_defaults r) r k
So r (Ok (Empty k)) = ⊥

by_verdict : (r : List ℕ) (nonzero outside : Option ℕ) (slot : ℕ) → (outside ≡ None → So r (Ok (Put slot))) → So r (verdict nonzero outside slot)
unfolding So verdict
by_verdict r (Some place) outside slot put = Memᴰ.tail (Memᴰ.tail (Memᴰ.head refl))
by_verdict r None (Some place) slot put = Memᴰ.tail (Memᴰ.tail (Memᴰ.tail (Memᴰ.head refl)))
by_verdict r None None slot put = put refl

module _ (r : List ℕ) (long : length r ≡ record_bytes) where
  put_defaults : is_defaults r ≡ true → outside_in after_mark (defaults_entries r) r ≡ None → So r (Ok (Put (slot_of ln (key_of ln r))))
  unfolding So PutBy
  put_defaults its inside = (long, subst (λ (b : Bool). PutBy b r (slot_of ln (key_of ln r))) (sym its) (ranged after_mark (defaults_entries r) r inside, refl))

  put_row : is_defaults r ≡ false → ltb (row_of r) (length table) ≡ true → outside_in after_mark (entries_of (row_of r)) r ≡ None → So r (Ok (Put (slot_of (row_of r) (key_of (row_of r) r))))
  unfolding So PutBy
  put_row other row inside =
      let t : Taken r (slot_of (row_of r) (key_of (row_of r) r)) = record { long = long; row = ltb-true _ _ row; ranged = inside; slot = refl } in
      (long, subst (λ (b : Bool). PutBy b r (slot_of (row_of r) (key_of (row_of r) r))) (sym other) t)

  by_row_lem : is_defaults r ≡ false → ltb (row_of r) (length table) ≡ true → So r (judged_as (row_of r) r)
  unfolding judged_as
  by_row_lem other row = by_verdict r _ _ _ (put_row other row)

  by_letters : (b : Bool) → is_defaults r ≡ b → So r (judged r)
  unfolding So
  by_letters true its = subst (So r) (sym (as_defaults r long its)) (by_verdict r _ _ _ (put_defaults its))
  by_letters false other =
      subst (So r) (sym (as_row r long other))
      (picked (So r) (ltb (row_of r) (length table)) (by_row_lem other) (λ none. Memᴰ.tail (Memᴰ.head refl)))

by_length : (r : List ℕ) (b : Bool) → eqb (length r) record_bytes ≡ b → So r (judged r)
unfolding So
by_length r true e = by_letters r (eqb-true _ _ e) (is_defaults r) refl
by_length r false e = subst (So r) (sym (short r (eqb-false _ _ e))) (Memᴰ.head refl)

so : (r : List ℕ) → So r (judged r)
so r = by_length r (eqb (length r) record_bytes) refl

pub never_empties : (r : List ℕ) (k : ℕ) → judged r ≡ Ok (Empty k) → ⊥
unfolding So
never_empties r k e = subst (So r) e (so r)

pub numbered : (r : List ℕ) (x : Refusal) → judged r ≡ Err x → Memᴰ x.reason posting_order
unfolding So
numbered r x e = subst (So r) e (so r)

-- of a record that puts bytes into slot k
module _ (r : List ℕ) (k : ℕ) (e : judged r ≡ Ok (Put k)) where
  its : (length r ≡ record_bytes) × PutBy (is_defaults r) r k
  unfolding So
  its = subst (So r) e (so r)

  pub put_long : length r ≡ record_bytes
  put_long = its.0

  pub defaults_put : is_defaults r ≡ true → Ranged after_mark (defaults_entries r) r × (slot_of ln (key_of ln r) ≡ k)
  unfolding PutBy
  defaults_put d = subst (λ (b : Bool). PutBy b r k) d its.1

  pub row_put : is_defaults r ≡ false → Taken r k
  unfolding PutBy
  row_put d = subst (λ (b : Bool). PutBy b r k) d its.1
