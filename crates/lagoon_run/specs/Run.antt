-- A run of months (01, "The lagoon month"): each month starts from the standing that the month before handed on. Months are numbered from 1, and
-- `months m` are the figures of month m.
use Rattle.std.specs.Prelude.{ℕ, zero, suc, ◌+◌, ◌*◌, ◌-◌, get_or}
use mathlib.Core.{Bool.false, List.List}
use Rattle.units.specs.Grams.{solids}
use Rattle.calendar.specs.Days.{months_in_year}
use Rattle.lagoon_month.specs.{declared.Month.Month, declared.Standing.Standing, Month.empty_of, Month.outcome_of}
use Rattle.lagoon_run.specs.declared.Totals.{Totals}

-- no month yet
abbrev pub start_of : Standing → Totals
start_of standing = record { entered = solids 0; degraded = solids 0; removed = solids 0; standing = standing }

-- one month more
unfoldable pub with_of : Totals → Month → Totals
with_of totals month =
    record {
      entered = solids (totals.entered.0 + month.entered.0);
      degraded = solids (totals.degraded.0 + (outcome_of totals.standing month).degraded.0);
      removed = solids (totals.removed.0 + (outcome_of totals.standing month).removed.0);
      standing = (outcome_of totals.standing month).next;
    }

-- months 1 to n, from a standing
unfoldable pub run_from : Standing → (ℕ → Month) → ℕ → Totals
run_from standing months zero = start_of standing
run_from standing months (suc n) = with_of (run_from standing months n) (months (suc n))

-- months 1 to n, from an empty lagoon
abbrev pub run_of : (ℕ → Month) → ℕ → Totals
run_of months n = run_from empty_of months n

-- the months after the first k, numbered from 1 again
abbrev pub after : ℕ → (ℕ → Month) → ℕ → Month
after k months m = months (k + m)

-- the twelve months of year y (1 to 10), from the standing that the years before it handed on
unfoldable pub year_of : (ℕ → Month) → ℕ → Totals
year_of months y =
    let before = months_in_year * (y - 1) in
    run_from (run_of months before).standing (after before months) months_in_year

-- no month: nothing enters, nothing degrades, nothing is drained
abbrev pub no_month : Month
no_month = record { entered = solids 0; factor = 0; drained = false }

-- months by their list
abbrev pub months_of : List Month → ℕ → Month
months_of months m = get_or months (m - 1) no_month
