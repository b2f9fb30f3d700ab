-- No month has fewer than 28 days nor more than 31: each of the lengths that a month is told by lies between.
-- Assumes nothing.
use mathlib.Core.Bool.{◌||◌}
use Prim.Native.Nat.{ℕ, ◌+◌, ◌/◌, ◌%◌, ◌≤◌}
use native.Mathlib.Omega.{arith}
use lib.Dec.{eqb}
use Rattle.laws.proofs.Picking.{either}
use Rattle.calendar.specs.Days.{months_in_year, leap_of, february_of, gone_of, days_of}
use Rattle.calendar.proofs.Months.{told, is_told}

pub record Usual (days : ℕ) : Type 0 where
  pub least : 28 ≤ days
  pub most : days ≤ 31

told_usual : (year month : ℕ) → Usual (told year month)
unfolding told february_of
told_usual year month =
    either Usual (eqb month 2) (either Usual (leap_of year) (omega arith) (omega arith))
    (either Usual (eqb month 4 || eqb month 6 || eqb month 9 || eqb month 11) (omega arith) (omega arith))

module _ (first_year first_month month : ℕ) where
  usual : Usual (days_of first_year first_month month)
  unfolding days_of
  usual =
      let gone = gone_of first_month month in
      rw (is_told (first_year + gone / months_in_year) (gone % months_in_year + 1) (omega arith) (omega arith)) (told_usual _ _)

  pub least : 28 ≤ days_of first_year first_month month
  least = usual.least

  pub most : days_of first_year first_month month ≤ 31
  most = usual.most
