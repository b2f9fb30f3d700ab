-- The sums of a year over one line, and over two together: solids of the anaerobic ones, and the baseline of all (01, "The year").
use Rattle.std.specs.Prelude.{ℕ, ◌+◌}
use Rattle.units.specs.{Grams.solids, Grams.co2e, Grams.potential, Grams.b0_rule_of, declared.co2e.Co2e.Co2e}
use Rattle.lagoon_run.specs.declared.Totals.{Totals}
use Rattle.year_sums.specs.declared.Sums.{Sums}

-- an anaerobic line: its year's solids, and the B0 rule on what degraded
abbrev pub anaerobic_of : Totals → ℕ → Sums
anaerobic_of totals b0 =
    record {
      entered = totals.entered;
      degraded = totals.degraded;
      removed = totals.removed;
      carried = totals.standing.0;
      baseline = b0_rule_of totals.degraded b0 potential;
    }

-- a line of another system adds no solids to the sums
abbrev pub baseline_alone : Co2e → Sums
baseline_alone baseline =
    record { entered = solids 0; degraded = solids 0; removed = solids 0; carried = solids 0; baseline = baseline }

abbrev pub nothing : Sums
nothing = baseline_alone (co2e 0)

-- two lines' sums together
abbrev pub plus : Sums → Sums → Sums
plus one other =
    record {
      entered = solids (one.entered.0 + other.entered.0);
      degraded = solids (one.degraded.0 + other.degraded.0);
      removed = solids (one.removed.0 + other.removed.0);
      carried = solids (one.carried.0 + other.carried.0);
      baseline = co2e (one.baseline.0 + other.baseline.0);
    }
