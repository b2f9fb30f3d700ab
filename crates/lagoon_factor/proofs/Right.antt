-- The factor of the definition is the factor by the rule, at every temperature, and is at most a million, so that no month degrades more than there is.
-- Assumes nothing.
use Prim.Native.Nat.{ℕ, ◌≤◌}
use mathlib.Core.Path.{◌≡◌, refl}
use mathlib.Core.Bool.{Bool, true, false}
use lib.Dec.{lit≤}
use lib.IntN.{ℤ, pos, nat_abs}
use lib.Signed.{lt_z}
use Rattle.lagoon_factor.specs.Rule.{million, cold_end, hot_end, Factor}
use Rattle.lagoon_factor.specs.Factor.{ruled_of, factor_of}
use Rattle.lagoon_factor.proofs.Ends.{inside, Asks, given}
use Rattle.lagoon_factor.proofs.Entries.{Right, ruled_right}
use Rattle.lagoon_factor.proofs.One.{one}

module _ (c entry : ℕ) where
  asked :
      (cold tabled : Bool) → (cold ≡ false → tabled ≡ true → Right c entry) →
      Asks cold tabled c (given cold tabled entry) × (given cold tabled entry ≤ million)
  asked true tabled r = (refl, lit≤ tt)
  asked false true r = ((r refl refl).rounded, (r refl refl).most)
  asked false false r = (refl, lit≤ tt)

both : (c : ℤ) → Factor c (factor_of c) × (factor_of c ≤ million)
unfolding Factor factor_of
both c =
    asked (nat_abs c) (ruled_of (nat_abs c)) (lt_z c (pos cold_end)) (lt_z c (pos hot_end))
    (λ low high. let i = inside c low high in ruled_right (nat_abs c) i.low i.high)

pub is_factor : (c : ℤ) → Factor c (factor_of c)
is_factor c = (both c).0

pub most : (c : ℤ) → factor_of c ≤ million
most c = (both c).1

-- and no other number is
pub the_factor : (c : ℤ) (n : ℕ) → Factor c n → n ≡ factor_of c
the_factor c n f = one c n (factor_of c) f (is_factor c)
