-- Edges of a figure's text, computed. Assumes nothing.
use mathlib.Core.Path.{◌≡◌, refl}
use Prim.Native.Nat.{◌^◌, ◌-◌}
use lib.IntN.{pos, negsuc}
use Rattle.print_page.specs.Number.{word, last_digits, decimal, signed}

-- 0 is one digit, no number starts with another 0, a 0 inside or at the end stays, and the lowest net is printed whole
pub edges :
    (decimal 0 ≡ word "0") × (decimal 9 ≡ word "9") × (decimal 10 ≡ word "10") × (decimal 1002 ≡ word "1002")
    × (decimal (2 ^ 64 - 1) ≡ word "18446744073709551615") × (signed (pos 0) ≡ word "0") × (signed (negsuc 0) ≡ word "-1")
    × (signed (negsuc (2 ^ 63 - 1)) ≡ word "-9223372036854775808")
unfolding decimal signed last_digits
edges = (refl, refl, refl, refl, refl, refl, refl, refl)
