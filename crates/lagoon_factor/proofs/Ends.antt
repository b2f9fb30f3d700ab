-- The two tests of a temperature, below the table's first and below the end past it: what they leave between, and the rule once they are answered.
-- Assumes nothing.
use mathlib.Core.Path.{◌≡◌}
use mathlib.Core.Bool.{Bool, true, false, cond, true≢false}
use Prim.Native.Nat.{ℕ, ◌≤◌, ◌<◌}
use lib.Dec.{T}
use lib.IntN.{ℤ, pos, negsuc, nat_abs}
use lib.Signed.{lt_z, non_neg}
use borrow.Author.Tests.{ltb-true, ltb-false}
use Rattle.lagoon_factor.specs.Rule.{million, Rounded, cold_end, cold_factor, hot_end}

pub record Inside (c : ℤ) : Type 0 where
  pub low : cold_end ≤ nat_abs c
  pub high : nat_abs c < hot_end
  pub positive : T (non_neg c)

pub inside : (c : ℤ) → lt_z c (pos cold_end) ≡ false → lt_z c (pos hot_end) ≡ true → Inside c
inside (pos c) low high = record { low = ltb-false c cold_end low; high = ltb-true c hot_end high; positive = tt }
inside (negsuc c) low high = absurd (true≢false low)

-- what the rule asks of n
abbrev pub Asks : (cold tabled : Bool) → (c n : ℕ) → Type 0
Asks cold tabled c n = cond cold (n ≡ cold_factor) (cond tabled (Rounded c n) (n ≡ million))

-- the factor, from the table's entry
abbrev pub given : (cold tabled : Bool) → (entry : ℕ) → ℕ
given cold tabled entry = cond cold cold_factor (cond tabled entry million)
