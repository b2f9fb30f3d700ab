-- What the functions ask of their callers, so that no product or sum passes 64 bits. They say nothing of what the figures are.
use Rattle.std.specs.Prelude.{ℕ, ◌<◌, ◌^◌}
use Rattle.year_credit.specs.{Credit.metered_of, declared.Operator.Operator}

-- what a year's sums and the operator's figures stay below
abbrev pub sums_most : ℕ
sums_most = 2 ^ 60

-- what a figure of one month stays below
abbrev pub month_most : ℕ
month_most = 2 ^ 42

pub record OperatorFits (operator : Operator) : Type 0 where
  pub project_methane : operator.project_methane.0 < sums_most
  pub baseline_co2 : operator.baseline_co2.0 < sums_most
  pub project_co2 : operator.project_co2.0 < sums_most
  pub metered : (metered_of operator).0 < sums_most
