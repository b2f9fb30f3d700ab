-- No two numbers are the factor at one temperature: outside the rule both are the one figure, and by the rule each is below the other and 1.
-- Assumes nothing.
use Prim.Native.Nat.{ℕ, ◌+◌, ◌<◌}
use mathlib.Core.Path.{◌≡◌, ◌∙◌, sym}
use mathlib.Core.Bool.{Bool, true, false}
use native.Mathlib.Omega.{arith}
use lib.IntN.{ℤ, pos, nat_abs}
use lib.Signed.{lt_z}
use Rattle.lagoon_factor.specs.Rule.{y_numerator, y_denominator, Rounded, cold_end, hot_end, Factor}
use Rattle.lagoon_factor.proofs.Apart.{apart}
use Rattle.lagoon_factor.proofs.Ends.{Asks}

less : (c n m : ℕ) → Rounded c n → Rounded c m → n < m + 1
less c n m f g =
    let low = f.reaches in
    let up = g.below in
    apart (y_numerator c) (y_denominator c) (omega arith) (omega arith) n (m + 1) low.terms up.terms
    low.ended up.ended (omega arith) (omega arith) low.bound up.bound

rounded_one : (c n m : ℕ) → Rounded c n → Rounded c m → n ≡ m
rounded_one c n m f g = omega (arith, less c n m f g, less c m n g f)

asked_one : (cold tabled : Bool) (c n m : ℕ) → Asks cold tabled c n → Asks cold tabled c m → n ≡ m
asked_one true tabled c n m f g = f ∙ sym g
asked_one false true c n m f g = rounded_one c n m f g
asked_one false false c n m f g = f ∙ sym g

pub one : (c : ℤ) (n m : ℕ) → Factor c n → Factor c m → n ≡ m
unfolding Factor
one c n m = asked_one (lt_z c (pos cold_end)) (lt_z c (pos hot_end)) (nat_abs c) n m
