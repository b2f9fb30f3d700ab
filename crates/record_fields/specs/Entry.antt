-- One entry of a record (01, "The records"): whether a field's number is in its range, and where bytes that must be 0 are not.
-- Assumes nothing.
use Rattle.std.specs.Prelude.{ℕ, zero, suc, ◌+◌, Option, None, Some}
use mathlib.Core.{Bool.Bool, Bool.cond, Bool.◌&&◌, List.List}
use lib.{Dec.eqb, Dec.leb, IntN.pos, IntN.neg_ℤ, ListN.get_or, Signed.le_z}
use Rattle.record_table.specs.Table.{Range, from, unless, signed}
use Rattle.number_bytes.specs.Number.{number_at, signed_of}

-- the number x of a record r is in a range
unfoldable pub in_range : Range → List ℕ → ℕ → Bool
in_range (from low high) r x = leb low x && leb x high
in_range (unless by high) r x = leb 0 x && leb x (cond (eqb (get_or r by 0) 0) 0 high)
in_range (signed below above) r x = le_z (neg_ℤ (pos below)) (signed_of x) && le_z (signed_of x) (pos above)

-- the offset `at` of a field that is outside its range
unfoldable pub outside_at : List ℕ → ℕ → ℕ → Range → Option ℕ
outside_at r at wide range = cond (in_range range r (number_at r at wide)) None (Some at)

-- the offset of the first of the n bytes from `at` on that is not 0
unfoldable pub nonzero_at : List ℕ → ℕ → ℕ → Option ℕ
nonzero_at r at zero = None
nonzero_at r at (suc n) = cond (eqb (get_or r at 0) 0) (nonzero_at r (at + 1) n) (Some at)
