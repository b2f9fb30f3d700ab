-- What a month's herd enters, and what degrades, stays small: each product is at most that of the ranges' ends.
-- Assumes nothing.
use Prim.Native.Nat.{ℕ, ◌*◌, ◌/◌, ◌≤◌}
use mathlib.Core.Path.{◌≡◌}
use native.Mathlib.Nat.{mul-le-mul}
use native.Mathlib.Omega.{arith}
use Rattle.lagoon_month.specs.Month.{entered_of}
use Rattle.lagoon_month.specs.Asks.{heads_most, entered_most}

-- one factor after the other; a line of another system has these products too
module _ {heads table_solids mass share : ℕ} (ends : (heads ≤ heads_most) × (table_solids ≤ 2000) × (mass ≤ 20000) × (share ≤ 10000)) where
  pub two : heads * table_solids ≤ 2400000000
  two = mul-le-mul ends.0 ends.1

  pub three : heads * table_solids * mass ≤ 48000000000000
  three = mul-le-mul two ends.2

  pub four : heads * table_solids * mass * share ≤ 480000000000000000
  four = mul-le-mul three ends.3

  module _ {days : ℕ} (month : days ≤ 31) where
    pub five : heads * table_solids * mass * share * days ≤ 14880000000000000000
    five = mul-le-mul four month

    pub entered_most_lem : (entered_of heads table_solids mass share days).0 ≤ entered_most
    unfolding entered_of
    entered_most_lem = omega (arith, five)

-- the paper multiplies by the calibration, the code divides by less: the rest of the one division is the other's, eight times
pub calibrated : (product : ℕ) → product / 150000000 ≡ product * 8 / (12 * 100000000)
calibrated product = omega arith
