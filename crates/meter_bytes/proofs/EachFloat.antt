-- The floats of an input, one by one: how many there are, which stands where, and an array whose first ones they are.
-- Assumes nothing.
use Prim.Native.Nat.{ℕ, zero, suc, ◌+◌, ◌*◌, ◌<◌}
use mathlib.Core.Path.{◌≡◌, refl, ap, sym, ◌∙◌}
use mathlib.Core.List.{List, ◌++◌}
use native.Mathlib.Omega.{arith}
use lib.Ieee.{Float, nan}
use lib.ListN.{length, get_or, take}
use lib.Seq.{ext_get_or, take_at}
use Rattle.number_float.specs.Float.{float_at}
use Rattle.meter_bytes.specs.Format.{floats_at}

pub floats_length : (input : List ℕ) (at n : ℕ) → length (floats_at input at n) ≡ n
unfolding floats_at
floats_length input at zero = refl
floats_length input at (suc n) = ap suc (floats_length input (at + 4) n)

floats_get : (input : List ℕ) (at n k : ℕ) → k < n → get_or (floats_at input at n) k nan ≡ float_at input (at + 4 * k)
unfolding floats_at
floats_get input at zero k b = absurd (omega arith)
floats_get input at (suc n) zero b = let e : at + 4 * 0 ≡ at = omega arith in sym (ap (float_at input) e)
floats_get input at (suc n) (suc k) b =
    let e : at + 4 + 4 * k ≡ at + 4 * suc k = omega arith in
    floats_get input (at + 4) n k (omega arith) ∙ ap (float_at input) e

-- floats that are those of the input, each at its place, at the start of a list
pub floats_begin :
    (input : List ℕ) (at n : ℕ) (floats others : List Float) → length floats ≡ n →
    ((k : ℕ) → k < n → get_or floats k nan ≡ float_at input (at + 4 * k)) → take n (floats ++ others) ≡ floats_at input at n
floats_begin input at n floats others sized each =
    take_at floats others n sized
    ∙ ext_get_or nan floats (floats_at input at n) (sized ∙ sym (floats_length input at n))
    (λ k b. let l : k < n = omega arith in each k l ∙ sym (floats_get input at n k l))
