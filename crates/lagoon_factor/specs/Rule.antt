-- The temperature factor, by the rule (01, "The lagoon month"): the series for exp(-p/q) in whole numbers, and what its partial sums say of a factor.
-- Term k is p^k / (q^k k!), from term 0 on; the terms are added and subtracted in turn, the first being added.
use Rattle.std.specs.Prelude.{ℕ, zero, suc, ◌+◌, ◌*◌, ◌-◌, ◌^◌, ◌%◌, ◌≤◌, ◌<◌}
use mathlib.Core.{Bool.Bool, Bool.true, Bool.false, Bool.cond, Path.◌≡◌}
use lib.{Dec.eqb, IntN.ℤ, IntN.pos, IntN.nat_abs, Signed.lt_z}

-- factors are counted in millionths
abbrev pub million : ℕ
million = 1000000

-- 2 divides k
abbrev pub even : ℕ → Bool
even k = eqb (k % 2) 0

-- q^t t!, over which the first t terms are brought
unfoldable pub denominator : ℕ → ℕ → ℕ
denominator q zero = 1
denominator q (suc t) = denominator q t * (q * suc t)

-- over that, the sum of those of the first t terms that are added: the even ones, counted from 0
unfoldable pub added : ℕ → ℕ → ℕ → ℕ
added p q zero = 0
added p q (suc t) = (added p q t + cond (even t) (p ^ t) 0) * (q * suc t)

-- and the sum of those that are subtracted
unfoldable pub subtracted : ℕ → ℕ → ℕ → ℕ
subtracted p q zero = 0
subtracted p q (suc t) = (subtracted p q t + cond (even t) 0 (p ^ t)) * (q * suc t)

-- the partial sum of t terms is at least n millionths
abbrev pub AtLeast : ℕ → ℕ → ℕ → ℕ → Type 0
AtLeast p q n t = n * denominator q t + million * subtracted p q t ≤ million * added p q t

-- the partial sum of t terms is below n millionths
abbrev pub Below : ℕ → ℕ → ℕ → ℕ → Type 0
Below p q n t = million * added p q t < n * denominator q t + million * subtracted p q t

-- y at c tenths of a degree is E (T1 - K) / (R T1 K), with E 15,175, R 1.987, T1 303.16 and K = C + 273, each temperature in hundredths of a
-- degree. A fraction: its numerator, and its denominator
abbrev pub y_numerator : ℕ → ℕ
y_numerator c = 1517500000 * (3016 - 10 * c)

abbrev pub y_denominator : ℕ → ℕ
y_denominator c = 60237892 * (27300 + 10 * c)

-- a partial sum of at least four terms keeps a bound: ended on a subtracted term, where their number is even, or on an added one, where it is not
pub record Ended (on_subtracted : Bool) (Keeps : ℕ → Type 0) : Type 0 where
  pub terms : ℕ
  pub four : 4 ≤ terms
  pub ended : even terms ≡ on_subtracted
  pub bound : Keeps terms

-- n is a million times exp(-y), rounded down
pub record Rounded (c n : ℕ) : Type 0 where
  pub reaches : Ended true (AtLeast (y_numerator c) (y_denominator c) n)
  pub below : Ended false (Below (y_numerator c) (y_denominator c) (n + 1))

-- the first temperature that the rule is for, 5.0 degrees
abbrev pub cold_end : ℕ
cold_end = 50

-- the factor below it
abbrev pub cold_factor : ℕ
cold_factor = 104000

-- the first temperature past the rule, 30.2 degrees, from which on the factor is a million (the house's reading)
abbrev pub hot_end : ℕ
hot_end = 302

-- n is the factor at c tenths of a degree: below 5.0 degrees, from there to 30.1 by the rule, and from 30.2 on
unfoldable pub Factor : ℤ → ℕ → Type 0
Factor c n =
    cond (lt_z c (pos cold_end)) (n ≡ cold_factor) (cond (lt_z c (pos hot_end)) (Rounded (nat_abs c) n) (n ≡ million))
