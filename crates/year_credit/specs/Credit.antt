-- The year's credit: what the operator entered, the lesser of modelled and metered, and the total (01, "The year"; Equations 5.1, 5.10).
use Rattle.std.specs.Prelude.{ℕ, ◌*◌, Option}
use mathlib.Core.{Bool.cond, List.List}
use lib.{IntN.ℤ, IntN.pos, IntN.◌+ℤ◌, IntN.◌-ℤ◌, Signed.le_z}
use Rattle.laws.specs.Counting.{sum}
use Rattle.units.specs.{Grams.methane, Grams.co2e, Grams.potential, Grams.warming_of, declared.co2e.Co2e.Co2e, declared.methane.Methane.Methane}
use Rattle.record_table.specs.Table.{devices}
use Rattle.book_slots.specs.{Reads.project_methane_of, Reads.baseline_co2_of, Reads.project_co2_of, Reads.destroyed_of}
use Rattle.year_months.specs.Series.{amount_of, over_year}
use Rattle.year_credit.specs.declared.Operator.{Operator}

-- PE's kilograms count 1,000 each
abbrev pub kilogram : ℕ
kilogram = 1000

abbrev pub grams_of : Option ℕ → Co2e
grams_of kilograms = co2e (kilogram * amount_of kilograms)

-- what all devices destroyed in month m; one without MT counts 0
unfoldable pub destroyed_at : List ℕ → ℕ → Methane
destroyed_at book m = methane (sum devices (λ device. amount_of (destroyed_of book m device)))

-- what the operator entered for the year: project methane, the baseline's and the project's carbon dioxide, and the destroyed methane
abbrev pub operator_of : List ℕ → ℕ → Operator
operator_of book year =
    record {
      project_methane = co2e (over_year year (λ m. (grams_of (project_methane_of book m)).0));
      baseline_co2 = co2e (over_year year (λ m. (grams_of (baseline_co2_of book m)).0));
      project_co2 = co2e (over_year year (λ m. (grams_of (project_co2_of book m)).0));
      destroyed = methane (over_year year (λ m. (destroyed_at book m).0));
    }

-- modelled, signed; and metered
abbrev pub modelled_of : Co2e → Operator → ℤ
modelled_of baseline operator = pos baseline.0 -ℤ pos operator.project_methane.0

abbrev pub metered_of : Operator → Co2e
metered_of operator = warming_of operator.destroyed potential

-- the methane reduction is the lesser of the two
abbrev pub lesser_of : ℤ → ℤ → ℤ
lesser_of modelled metered = cond (le_z modelled metered) modelled metered

abbrev pub reduction_of : Co2e → Operator → ℤ
reduction_of baseline operator = lesser_of (modelled_of baseline operator) (pos (metered_of operator).0)

-- the total
unfoldable pub total_of : Co2e → Operator → ℤ
total_of baseline operator = reduction_of baseline operator +ℤ pos operator.baseline_co2.0 -ℤ pos operator.project_co2.0
