-- Sixteen bits as a signed number: below 2^15 the number itself, from there on 2^16 less. Assumes nothing.
use mathlib.Core.Path.{◌≡◌, refl, ap}
use mathlib.Core.Bool.{Bool, true, false}
use Prim.Native.Nat.{ℕ, suc, ◌-◌, ◌^◌, ◌<◌}
use native.Mathlib.Omega.{arith}
use borrow.Author.Tests.{lt-ltb}
use lib.Dec.{ltb}
use lib.IntN.{pos, negsuc, ◌-ℤ◌}
use mir.Syntax.{w16}
use mir.Val.{to_z}
use Rattle.number_bytes.specs.Number.{signed_of}

pub signed_is : (n : ℕ) → n < 2 ^ 16 → to_z w16 n ≡ signed_of n
unfolding signed_of
signed_is n top = go (ltb n (2 ^ 15)) refl
  where
    less : negsuc (2 ^ 16 - suc n) ≡ pos n -ℤ pos (2 ^ 16)
    less = rw (lt-ltb n (2 ^ 16) top) (ap negsuc (omega arith))

    go : (b : Bool) → ltb n (2 ^ 15) ≡ b → to_z w16 n ≡ signed_of n
    go true e = simp e
    go false e = simp e less
