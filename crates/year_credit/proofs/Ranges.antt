-- What the operator entered stands in 01's ranges: a slot's amount is nothing, or a value in the range that the table gives it.
-- Assumes nothing.
use Prim.Native.Nat.{ℕ, ◌^◌, ◌≤◌, ◌<◌}
use mathlib.Core.List.{List}
use native.Mathlib.Omega.{arith}
use lib.Dec.{lit≤}
use Rattle.record_table.specs.Table.{months, devices}
use Rattle.book.specs.Valid.{Valid}
use Rattle.book_slots.proofs.Ranges.{project_in, meter_in}
use Rattle.book_slots.specs.Reads.{project_methane_of, baseline_co2_of, project_co2_of, destroyed_of}
use Rattle.year_months.specs.Series.{amount_of}
use Rattle.year_months.proofs.Ranges.{amount_most}

module _ (book : List ℕ) (v : Valid book) where
  pub project_methane_most : (m : ℕ) → m ≤ months → amount_of (project_methane_of book m) < 2 ^ 32
  project_methane_most m h = omega (arith, amount_most 0 4294967295 (project_methane_of book m) (project_in book v m h 2 (lit≤ tt) tt))

  pub baseline_co2_most : (m : ℕ) → m ≤ months → amount_of (baseline_co2_of book m) < 2 ^ 32
  baseline_co2_most m h = omega (arith, amount_most 0 4294967295 (baseline_co2_of book m) (project_in book v m h 3 (lit≤ tt) tt))

  pub project_co2_most : (m : ℕ) → m ≤ months → amount_of (project_co2_of book m) < 2 ^ 32
  project_co2_most m h = omega (arith, amount_most 0 4294967295 (project_co2_of book m) (project_in book v m h 4 (lit≤ tt) tt))

  pub destroyed_most_lem : (m device : ℕ) → m ≤ months → device ≤ devices → amount_of (destroyed_of book m device) ≤ 10 ^ 12
  destroyed_most_lem m device h k = amount_most 0 (10 ^ 12) (destroyed_of book m device) (meter_in book v m device h k 2 (lit≤ tt) tt)
