-- What a factor of at most a million leaves of the available grams.
-- Assumes nothing.
use Prim.Native.Nat.{ℕ, ◌+◌, ◌*◌, ◌-◌, ◌≤◌}
use mathlib.Core.Path.{◌≡◌, ap, sym, ◌∙◌}
use native.Mathlib.Nat.{mul-le-mul_left, add-mul, le_dest}
use native.Mathlib.Omega.{arith}
use Rattle.units.specs.Grams.{share_of}
use Rattle.lagoon_factor.specs.Rule.{million}

pub degraded_le : (available factor : ℕ) → factor ≤ million → share_of available factor million ≤ available
degraded_le available factor small = omega (arith, mul-le-mul_left available small)

abbrev pub left : ℕ → ℕ → ℕ
left available factor = available - share_of available factor million

-- Of a whole that is short of its two parts by `short`: what is left of it is no more than what is left of them, and less by at most short + 1.
module _ (factor a b whole short : ℕ) (small : factor ≤ million) (e : whole + short ≡ a + b) where
  products : whole * factor + short * factor ≡ a * factor + b * factor
  products = sym (add-mul whole short factor) ∙ ap (λ (n : ℕ). n * factor) e ∙ add-mul a b factor

  pub left_split :
      (left whole factor ≤ left a factor + left b factor) × (left a factor + left b factor ≤ left whole factor + short + 1)
  left_split =
      omega (
        arith,
        products,
        mul-le-mul_left whole small,
        mul-le-mul_left a small,
        mul-le-mul_left b small,
        mul-le-mul_left short small,
      )

-- Of more, more degrades and more is left.
pub left_more :
    (factor a b : ℕ) → factor ≤ million → a ≤ b →
    (share_of a factor million ≤ share_of b factor million) × (left a factor ≤ left b factor)
left_more factor a b small more =
    let gap = le_dest more in
    omega (
      arith,
      ap (λ (n : ℕ). n * factor) gap.1,
      add-mul a gap.0 factor,
      mul-le-mul_left gap.0 small,
      degraded_le a factor small,
    )
