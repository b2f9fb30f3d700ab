-- A number below 0 is printed as a minus sign and its size, and another as its size alone. Assumes nothing.
use mathlib.Core.Path.{◌≡◌, refl, sym}
use mathlib.Core.Bool.{true, false, false≢true}
use native.Mathlib.Omega.{arith}
use borrow.Author.Tests.{ltb-true}
use lib.IntN.{ℤ, pos, negsuc, nat_abs}
use lib.Signed.{lt_z}
use mathlib.Core.List.{◌++◌}
use Rattle.print_page.specs.Number.{word, decimal, signed}

-- what is printed of a number below 0, and of another
pub minus_text : (z : ℤ) → lt_z z (pos 0) ≡ true → signed z ≡ word "-" ++ decimal (nat_abs z)
unfolding signed
minus_text (pos n) t = let e : ⊥ = omega (arith, ltb-true n 0 t) in absurd e
minus_text (negsuc n) t = refl

pub plain_text : (z : ℤ) → lt_z z (pos 0) ≡ false → signed z ≡ decimal (nat_abs z)
unfolding signed
plain_text (pos n) t = refl
plain_text (negsuc n) t = absurd (false≢true (sym t))
