-- What is asked so that no sum passes 64 bits. It says nothing of what the figures are.
use Rattle.std.specs.Prelude.{ℕ, ◌+◌}
use Rattle.year_sums.specs.declared.Sums.{Sums}

-- the grams of all sums
abbrev pub all_grams : Sums → ℕ
all_grams sums = sums.entered.0 + sums.degraded.0 + sums.removed.0 + sums.carried.0 + sums.baseline.0
