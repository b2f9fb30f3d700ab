-- No field of a record is outside its range where each one is in it, and the other way round. Assumes nothing.
use mathlib.Core.Path.{◌≡◌, refl, sym, ap}
use mathlib.Core.Bool.{Bool, true, false, cond, ◌&&◌}
use mathlib.Core.List.{List, [], ◌∷◌}
use Prim.Native.Nat.{ℕ, ◌+◌, ◌*◌, ◌≤◌}
use native.Mathlib.Omega.{arith}
use borrow.Author.Tests.{leb-true}
use lib.Dec.{leb}
use lib.ListN.{get_or}
use Rattle.std.specs.Prelude.{Option, None, Some}
use Rattle.std.specs.Option.{option_or}
use Rattle.std.proofs.lemmas.Option.{none-some}
use Rattle.record_table.specs.Table.{from, Entry, zeros, field}
use Rattle.number_bytes.specs.Number.{number_at}
use Rattle.record_fields.specs.Entry.{in_range, outside_at}
use Rattle.record_judge.specs.Record.{outside_in}

-- each field, from an offset on, is in its range
abbrev pub Ranged : ℕ → List Entry → List ℕ → Type 0
Ranged at [] r = Unit {0}
Ranged at (zeros n ∷ es) r = Ranged (at + n) es r
Ranged at (field wide range ∷ es) r = (in_range range r (number_at r at wide) ≡ true) × Ranged (at + wide) es r

-- none is outside where each is in its range, and only there
spared : (b : Bool) (at : ℕ) (later : Option ℕ) → option_or (cond b None (Some at)) later ≡ None → (b ≡ true) × (later ≡ None)
spared true at later h = (refl, h)
spared false at later h = absurd (none-some at (sym h))

pub ranged : (at : ℕ) (es : List Entry) (r : List ℕ) → outside_in at es r ≡ None → Ranged at es r
unfolding outside_in outside_at
ranged at [] r h = tt
ranged at (zeros n ∷ es) r h = ranged (at + n) es r h
ranged at (field wide range ∷ es) r h =
    let s = spared (in_range range r (number_at r at wide)) at (outside_in (at + wide) es r) h in
    (s.0, ranged (at + wide) es r s.1)

pub none_outside : (at : ℕ) (es : List Entry) (r : List ℕ) → Ranged at es r → outside_in at es r ≡ None
unfolding outside_in outside_at
none_outside at [] r g = refl
none_outside at (zeros n ∷ es) r g = none_outside (at + n) es r g
none_outside at (field wide range ∷ es) r g = simp g.0 (none_outside (at + wide) es r g.1)

-- what a range of whole numbers says of a number, and of a byte
pub both : (a b : Bool) → (a && b) ≡ true → (a ≡ true) × (b ≡ true)
both true b e = (refl, e)
both false b e = let z : ◌≡◌ {A = ℕ} 0 1 = cc in absurd (omega arith)

pub within : (low high : ℕ) (r : List ℕ) (x : ℕ) → in_range (from low high) r x ≡ true → (low ≤ x) × (x ≤ high)
unfolding in_range
within low high r x e =
    let b = both (leb low x) (leb x high) e in
    (leb-true _ _ b.0, leb-true _ _ b.1)

pub within_byte : (r : List ℕ) (at low high : ℕ) → in_range (from low high) r (number_at r at 1) ≡ true → (low ≤ get_or r at 0) × (get_or r at 0 ≤ high)
unfolding number_at
within_byte r at low high e =
    let b = within low high r (get_or r at 0 + 256 * 0) e in
    (omega arith, omega arith)

-- a byte's range is asked of the byte
pub byte_in : (low high : ℕ) (r : List ℕ) (at : ℕ) → in_range (from low high) r (number_at r at 1) ≡ (leb low (get_or r at 0) && leb (get_or r at 0) high)
unfolding number_at in_range
byte_in low high r at =
    let e : get_or r at 0 + 256 * 0 ≡ get_or r at 0 = omega arith in
    ap (λ (x : ℕ). leb low x && leb x high) e
