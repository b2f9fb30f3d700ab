-- Every slot lies inside the book, and a slot tells its key: keys of a row are counted as digits, and the rows' slots follow each other.
-- Assumes nothing.
use mathlib.Core.Path.{◌≡◌, refl, sym, ap, ◌∙◌, subst}
use mathlib.Core.Bool.{Bool, true, false}
use mathlib.Core.List.{List, [], ◌∷◌, ◌++◌, map}
use Prim.Native.Nat.{ℕ, ◌+◌, ◌*◌, ◌-◌, ◌<◌}
use native.Mathlib.Omega.{arith}
use Rattle.std.specs.Prelude.{Ok}
use lib.ListN.{length, get_or}
use Rattle.record_table.specs.Table.{Entry, u8, no_row, table, ln, highest_of, entries_of, after_mark}
use Rattle.record_table.specs.Slot.{count, index, slots, slot_of}
use Rattle.record_table.proofs.Slots.{digit_same, Low, index_below, Among, among, among_all, one_row}
use Rattle.record_judge.specs.Defaults.{is_defaults}
use Rattle.record_judge.specs.Record.{key_in, row_of, key_of, key_row, judged, stored_of}
use Rattle.record_judge.specs.declared.Change.TheVariants.{Put, Empty}
use Rattle.record_judge.proofs.Taken.{Taken, never_empties}
use Rattle.record_judge.proofs.StoredBytes.{stored_line, stored_itself, taken}
use Rattle.record_judge.proofs.Defaults.{defaults_rowless, line_row, line_key}
use Rattle.record_judge.proofs.Entries.{Ranged, ranged, within_byte}

-- the bytes of a key whose entries, with some after them, are in their ranges
module _ (after : List Entry) where
  low : (at : ℕ) (highest r : List ℕ) → Ranged at (map (u8 1) highest ++ after) r → Low highest (key_in at highest r)
  unfolding key_in
  low at [] r g = tt
  low at (high ∷ highest) r g = let b = within_byte r at 1 high g.0 in (omega arith, low (at + 1) highest r g.1)

  tells :
      (at : ℕ) (highest r s : List ℕ) → Ranged at (map (u8 1) highest ++ after) r → Ranged at (map (u8 1) highest ++ after) s →
      index highest (key_in at highest r) ≡ index highest (key_in at highest s) → key_in at highest r ≡ key_in at highest s
  unfolding key_in index
  tells at [] r s g h e = refl
  tells at (high ∷ highest) r s g h e =
      let b = within_byte r at 1 high g.0 in
      let c = within_byte s at 1 high h.0 in
      let i = index_below highest (key_in (at + 1) highest r) (low (at + 1) highest r g.1) in
      let j = index_below highest (key_in (at + 1) highest s) (low (at + 1) highest s h.1) in
      let d : get_or r at 0 - 1 ≡ get_or s at 0 - 1 = digit_same (get_or r at 0 - 1) (get_or s at 0 - 1) (count highest) _ _ i j e in
      let a : get_or r at 0 ≡ get_or s at 0 = omega arith in
      let f : index highest (key_in (at + 1) highest r) ≡ index highest (key_in (at + 1) highest s) = omega (arith, e, ap (λ (x : ℕ). x * count highest) d) in
      let k = tells (at + 1) highest r s g.1 h.1 f in
      cc

abbrev after_key : ℕ → List Entry
after_key row = (get_or table row no_row).after

-- of a record that is taken
module _ (r : List ℕ) (k : ℕ) (t : Taken r k) where
  pub fields : Ranged after_mark (entries_of (row_of r)) r
  fields = ranged after_mark (entries_of (row_of r)) r t.ranged

  pub there : Among (row_of r) k
  unfolding key_of
  there = subst (Among (row_of r)) t.slot (among (row_of r) t.row (key_of (row_of r) r) (low (after_key (row_of r)) after_mark (highest_of (row_of r)) r fields))

  slot_below : k < slots
  slot_below = among_all (row_of r) k t.row there

-- the slot into which a record puts its bytes lies inside the book
pub put_below : (r : List ℕ) (k : ℕ) → judged r ≡ Ok (Put k) → k < slots
put_below r k e = slot_below (stored_of r) k (taken r k e)

-- and the slot of one that would be emptied lies inside the book too
pub emptied_below : (r : List ℕ) (k : ℕ) → judged r ≡ Ok (Empty k) → k < slots
emptied_below r k e = absurd (never_empties r k e)

-- the row whose key a record has
pub defaults_row : (r : List ℕ) → is_defaults r ≡ true → key_row r ≡ ln
unfolding key_row
defaults_row r d = simp d

own_row : (r : List ℕ) → is_defaults r ≡ false → key_row r ≡ row_of r
unfolding key_row
own_row r d = simp d

-- letters that a row has are not LD's, so a record of the table has its own row's key and stores itself
row_other : (r : List ℕ) → row_of r < length table → is_defaults r ≡ false
row_other r h = go (is_defaults r) refl
  where
    go : (b : Bool) → is_defaults r ≡ b → is_defaults r ≡ false
    go true d = let z : ⊥ = omega (arith, h, defaults_rowless r d) in absurd z
    go false d = d

pub row_own : (r : List ℕ) → row_of r < length table → key_row r ≡ row_of r
row_own r h = own_row r (row_other r h)

pub row_stored : (r : List ℕ) → row_of r < length table → stored_of r ≡ r
row_stored r h = stored_itself r (row_other r h)

-- a record has the key of what it stores, and its slot is that key's
key_row_lem : (r : List ℕ) → row_of (stored_of r) ≡ key_row r
key_row_lem r = go (is_defaults r) refl
  where
    go : (b : Bool) → is_defaults r ≡ b → row_of (stored_of r) ≡ key_row r
    go true d = ap row_of (stored_line r d) ∙ line_row r ∙ sym (defaults_row r d)
    go false d = ap row_of (stored_itself r d) ∙ sym (own_row r d)

key_same : (r : List ℕ) → key_of (key_row r) (stored_of r) ≡ key_of (key_row r) r
key_same r = go (is_defaults r) refl
  where
    go : (b : Bool) → is_defaults r ≡ b → key_of (key_row r) (stored_of r) ≡ key_of (key_row r) r
    go true d = ap (λ (n : ℕ). key_of n (stored_of r)) (defaults_row r d) ∙ ap (key_of ln) (stored_line r d) ∙ line_key r ∙ sym (ap (λ (n : ℕ). key_of n r) (defaults_row r d))
    go false d = ap (key_of (key_row r)) (stored_itself r d)

pub key_slot : (r : List ℕ) (k : ℕ) → judged r ≡ Ok (Put k) → slot_of (key_row r) (key_of (key_row r) r) ≡ k
key_slot r k e = ap (slot_of (key_row r)) (sym (key_same r)) ∙ sym (ap (λ (n : ℕ). slot_of n (key_of n (stored_of r))) (key_row_lem r)) ∙ (taken r k e).slot

pub key_below : (r : List ℕ) (k : ℕ) → judged r ≡ Ok (Put k) → key_row r < length table
key_below r k e = subst (λ (n : ℕ). n < length table) (key_row_lem r) (taken r k e).row

-- two records of the table that are taken for one slot have one key
same_row : (r s : List ℕ) (k : ℕ) → Taken r k → Taken s k → row_of r ≡ row_of s
same_row r s k t u = one_row (row_of r) (row_of s) k (there r k t) (there s k u)

at_row : (row : ℕ) → row < length table → (r s : List ℕ) → Ranged after_mark (entries_of row) r → Ranged after_mark (entries_of row) s
    → slot_of row (key_of row r) ≡ slot_of row (key_of row s) → key_of row r ≡ key_of row s
unfolding slot_of key_of
at_row row h r s g f e = tells (after_key row) after_mark (highest_of row) r s g f (omega arith)

same_key : (r s : List ℕ) (k : ℕ) → Taken r k → Taken s k → key_of (row_of r) r ≡ key_of (row_of s) s
same_key r s k t u =
    let m = same_row r s k t u in
    let g : Ranged after_mark (entries_of (row_of r)) s = subst (λ (n : ℕ). Ranged after_mark (entries_of n) s) (sym m) (fields s k u) in
    let e : slot_of (row_of r) (key_of (row_of r) s) ≡ k = subst (λ (n : ℕ). slot_of n (key_of n s) ≡ k) (sym m) u.slot in
    at_row (row_of r) t.row r s (fields r k t) g (t.slot ∙ sym e) ∙ ap (λ (n : ℕ). key_of n s) m

-- and so have any two that put their bytes into one slot
pub one_key : (r s : List ℕ) (k : ℕ) → judged r ≡ Ok (Put k) → judged s ≡ Ok (Put k) → (key_row r ≡ key_row s) × (key_of (key_row r) r ≡ key_of (key_row s) s)
one_key r s k e f =
    let row = sym (key_row_lem r) ∙ same_row (stored_of r) (stored_of s) k (taken r k e) (taken s k f) ∙ key_row_lem s in
    let its : (q : List ℕ) → key_of (key_row q) q ≡ key_of (row_of (stored_of q)) (stored_of q) = λ q. sym (key_same q) ∙ sym (ap (λ (n : ℕ). key_of n (stored_of q)) (key_row_lem q)) in
    (row, its r ∙ same_key (stored_of r) (stored_of s) k (taken r k e) (taken s k f) ∙ sym (its s))
