-- The gaps of a month of n hours (01, "The meter month"), over any series of hours.
use Rattle.std.specs.Prelude.{ℕ, zero, suc, ◌+◌, ◌-◌, ◌/◌, Bool, ◌&&◌, cond, leb, ltb, Option, Some, None}
use Rattle.std.specs.Option.{option_or}
use Rattle.laws.specs.Counting.{first_from}
use Rattle.meter_series.specs.Series.{is_recorded}

-- the first hour of the run of missing hours that ends at h: each hour from it up to h is missing, and the hour before it is not
unfoldable pub start_of : (ℕ → Option ℕ) → ℕ → ℕ
start_of s zero = 0
start_of s (suc h) = cond (is_recorded (s h)) (suc h) (start_of s h)

-- the first hour from h on that is recorded, or the month's end
abbrev pub end_of : (ℕ → Option ℕ) → ℕ → ℕ → ℕ
end_of s n h = first_from h (n - h) (λ j. is_recorded (s j))

-- a sum is there where both its parts are
abbrev pub plus : Option ℕ → Option ℕ → Option ℕ
plus (Some a) (Some b) = Some (a + b)
plus (Some a) None = None
plus None b = None

-- the sum of the k hours from hour a on, where all are recorded
unfoldable pub total_of : (ℕ → Option ℕ) → ℕ → ℕ → Option ℕ
total_of s a zero = Some 0
total_of s a (suc k) = plus (total_of s a k) (s (a + k))

-- four hours before a run and four after it make its average
abbrev pub neighbours : ℕ
neighbours = 4

-- the average of all eight, by their sum, rounded down
abbrev pub mean_of : Option ℕ → Option ℕ
mean_of (Some t) = Some (t / (neighbours + neighbours))
mean_of None = None

-- the neighbours of the run from a up to b are hours of this month
abbrev pub in_month : ℕ → ℕ → ℕ → Bool
in_month n a b = leb neighbours a && leb (b + neighbours) n

-- the average of the neighbours of that run, where all eight are recorded in this month
unfoldable pub average_of : (ℕ → Option ℕ) → ℕ → ℕ → ℕ → Option ℕ
average_of s n a b =
    cond (in_month n a b) (mean_of (plus (total_of s (a - neighbours) neighbours) (total_of s b neighbours))) None

-- a run of 1 to 5 hours is filled with that average, and no other run is
unfoldable pub fill_of : (ℕ → Option ℕ) → ℕ → ℕ → ℕ → Option ℕ
fill_of s n a b = cond (leb 1 (b - a) && leb (b - a) 5) (average_of s n a b) None

-- what fills the run that starts at hour a
abbrev pub fill_from : (ℕ → Option ℕ) → ℕ → ℕ → Option ℕ
fill_from s n a = fill_of s n a (end_of s n a)

abbrev pub or_else : Option ℕ → Option ℕ → Option ℕ
or_else value other = option_or value other

-- hour h of the month after filling: what was recorded, else what fills its run. Only recorded hours are looked at, so no filled value
-- feeds an average. Past the month's end there is nothing.
unfoldable pub filled : (ℕ → Option ℕ) → ℕ → ℕ → Option ℕ
filled s n h = cond (ltb h n) (or_else (s h) (fill_from s n (start_of s h))) None
