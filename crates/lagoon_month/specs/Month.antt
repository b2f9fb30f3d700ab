-- The lagoon month (01, "The lagoon month"; 02, (ii); Equation 5.3): whole grams of volatile solids, rounded down at each stated division.
use Rattle.std.specs.Prelude.{ℕ, ◌+◌, ◌*◌, ◌-◌, ◌/◌, cond}
use Rattle.units.specs.{declared.solids.Solids.Solids, Grams.solids, Grams.share_of}
use Rattle.lagoon_factor.specs.Rule.{million}
use Rattle.lagoon_month.specs.declared.{Month.Month, Outcome.Outcome, Standing.Standing}

-- entered, by the sum of the year's twelve heads, which is twelve times their average; 8 tenths are the protocol's calibration; the rest of the divisor
-- brings the fields' units to grams
unfoldable pub entered_of : ℕ → ℕ → ℕ → ℕ → ℕ → Solids
entered_of heads table_solids mass share days = solids (heads * table_solids * mass * share * days * 8 / (12 * 100000000))

-- the first month starts from 0
abbrev pub empty_of : Standing
empty_of = record { 0 = solids 0 }

-- available: what entered, and what was carried in
abbrev pub available_of : Standing → Month → ℕ
available_of standing month = month.entered.0 + standing.0.0

-- degraded: available x factor / 1,000,000
abbrev pub degraded_of : Standing → Month → ℕ
degraded_of standing month = share_of (available_of standing month) month.factor million

-- what is left
abbrev pub left_of : Standing → Month → ℕ
left_of standing month = available_of standing month - degraded_of standing month

-- a drained month removes what is left and carries 0 on, any other carries it on (house)
unfoldable pub outcome_of : Standing → Month → Outcome
outcome_of standing month =
    record {
      next = record { 0 = solids (cond month.drained 0 (left_of standing month)) };
      degraded = solids (degraded_of standing month);
      removed = solids (cond month.drained (left_of standing month) 0);
    }
