-- How large the operator's figures of a year can be, from the ranges of what was entered. Assumes nothing.
use Prim.Native.Nat.{ℕ, ◌+◌, ◌*◌, ◌^◌, ◌≤◌, ◌<◌}
use mathlib.Core.List.{List}
use native.Mathlib.Omega.{arith}
use Rattle.laws.proofs.Counting.{sum_most}
use Rattle.laws.specs.Counting.{sum}
use Rattle.calendar.specs.Days.{months_in_year}
use Rattle.record_table.specs.Table.{months, devices}
use Rattle.book.specs.Valid.{Valid}
use Rattle.book_slots.specs.Reads.{project_methane_of, baseline_co2_of, project_co2_of, destroyed_of}
use Rattle.std.specs.Prelude.{Option}
use Rattle.year_months.specs.Asks.{InPeriod}
use Rattle.year_months.specs.Series.{amount_of, months_before}
use Rattle.year_credit.specs.Asks.{month_most, OperatorFits}
use Rattle.year_credit.specs.Credit.{grams_of, destroyed_at, operator_of}
use Rattle.year_credit.proofs.Ranges.{project_methane_most, baseline_co2_most, project_co2_most, destroyed_most_lem}

-- a figure of PE over a year's months, which come after so many
entered_small :
    (read : ℕ → Option ℕ) (before : ℕ) → ((m : ℕ) → m ≤ months_in_year → amount_of (read (before + m)) < 2 ^ 32) →
    sum months_in_year (λ m. (grams_of (read (before + m))).0) ≤ months_in_year * month_most
entered_small read before small = sum_most (λ m. (grams_of (read (before + m))).0) month_most months_in_year (λ m low high. omega (arith, small m high))

module _ (book : List ℕ) (v : Valid book) where
  destroyed_small : (m : ℕ) → m ≤ months → (destroyed_at book m).0 ≤ month_most
  unfolding destroyed_at
  destroyed_small m h =
      omega (
        arith,
        sum_most (λ device. amount_of (destroyed_of book m device)) (10 ^ 12) devices (λ device low high. destroyed_most_lem book v m device h high),
      )

  module _ (year : ℕ) (period : InPeriod year) where
    within : (m : ℕ) → m ≤ months_in_year → months_before year + m ≤ months
    within m h = omega (arith, period.high)

    pub operator_fits : OperatorFits (operator_of book year)
    operator_fits =
        let before = months_before year in
        let project_methane = entered_small (project_methane_of book) before (λ m h. project_methane_most book v (before + m) (within m h)) in
        let baseline_co2 = entered_small (baseline_co2_of book) before (λ m h. baseline_co2_most book v (before + m) (within m h)) in
        let project_co2 = entered_small (project_co2_of book) before (λ m h. project_co2_most book v (before + m) (within m h)) in
        let destroyed = sum_most (λ m. (destroyed_at book (before + m)).0) month_most months_in_year (λ m low h. destroyed_small (before + m) (within m h)) in
        record { project_methane = omega arith; baseline_co2 = omega arith; project_co2 = omega arith; metered = omega arith }
