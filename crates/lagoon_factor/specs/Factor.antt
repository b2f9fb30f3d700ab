-- The factor as a function (01, "The lagoon month"): where the rule is asked, what the series' first sixteen terms make. Nobody has to believe that
-- sixteen are enough: the number is right by the rule, and no other is (proofs/Right.antt).
use Rattle.std.specs.Prelude.{ℕ, ◌*◌, ◌-◌, ◌/◌, cond}
use lib.{IntN.ℤ, IntN.pos, IntN.nat_abs, Signed.lt_z}
use Rattle.lagoon_factor.specs.Rule.{million, denominator, added, subtracted, y_numerator, y_denominator, cold_end, cold_factor, hot_end}

abbrev pub terms : ℕ
terms = 16

-- a million times their sum for exp(-p/q), rounded down
unfoldable pub summed_of : ℕ → ℕ → ℕ
summed_of p q = million * (added p q terms - subtracted p q terms) / denominator q terms

-- the same at c tenths of a degree
unfoldable pub ruled_of : ℕ → ℕ
ruled_of c = summed_of (y_numerator c) (y_denominator c)

-- the factor at c tenths of a degree
unfoldable pub factor_of : ℤ → ℕ
factor_of c = cond (lt_z c (pos cold_end)) cold_factor (cond (lt_z c (pos hot_end)) (ruled_of (nat_abs c)) million)
