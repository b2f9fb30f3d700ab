-- The twelve months from a January on have 365 days, or 366 in a leap year: the sum of the list, for February of either length.
-- Assumes nothing.
use mathlib.Core.Path.{◌≡◌, refl}
use mathlib.Core.Bool.{Bool, true, false, cond}
use Prim.Native.Nat.{ℕ, zero, suc, ◌+◌}
use native.Mathlib.Nat.{add-zero}
use Rattle.calendar.specs.Days.{months_in_year, leap_of, february_of, lengths_of, length_of, gone_of, days_of}

-- the sum over months 1 to n
pub sum : (ℕ → ℕ) → ℕ → ℕ
sum f zero = 0
sum f (suc n) = sum f n + f (suc n)

either : (leap : Bool) → 31 + cond leap 29 28 + 31 + 30 + 31 + 30 + 31 + 31 + 30 + 31 + 30 + 31 ≡ cond leap 366 365
either true = refl
either false = refl

pub year_sum : (year : ℕ) → sum (days_of year 1) months_in_year ≡ cond (leap_of year) 366 365
unfolding sum days_of gone_of length_of lengths_of february_of
year_sum year = simp add-zero (either (leap_of year))
