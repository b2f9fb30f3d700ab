-- The year that a month falls in: a year's months are its own, and no month through a year's end falls in a later one. Assumes nothing.
use Prim.Native.Nat.{ℕ, ◌+◌, ◌≤◌}
use mathlib.Core.Path.{◌≡◌}
use native.Mathlib.Omega.{arith}
use Rattle.calendar.specs.Days.{months_in_year}
use Rattle.record_table.specs.Table.{months}
use Rattle.year_months.specs.Asks.{InPeriod}
use Rattle.year_months.specs.Series.{months_before, months_through, year_at}

pub own_year : (year m : ℕ) → 1 ≤ year → 1 ≤ m → m ≤ months_in_year → year_at (months_before year + m) ≡ year
own_year year m some low high = omega arith

pub no_later : (year m : ℕ) → 1 ≤ m → m ≤ months_through year → year_at m ≤ year
no_later year m low high = omega arith

pub in_period : (m : ℕ) → m ≤ months → InPeriod (year_at m)
in_period m within = record { low = omega arith; high = omega arith }
