-- A line of a book, and two lines, of the same or of two other books, that divide its manure between them: what the years state for them.
-- Assumes nothing.
use Prim.Native.Nat.{ℕ, ◌+◌, ◌*◌, ◌-◌, ◌≤◌}
use mathlib.Core.Path.{◌≡◌, refl, ap, ◌∙◌}
use native.Mathlib.Nat.{zero-add, add-mul, mul-add, mul_right_comm}
use native.Mathlib.Omega.{arith}
use Rattle.laws.specs.Counting.{sum}
use Rattle.laws.proofs.Counting.{Each, sum_same, sum_plus}
use Rattle.calendar.specs.Days.{months_in_year}
use Rattle.lagoon_month.specs.Month.{entered_of}
use Rattle.record_table.specs.Table.{lines}
use Rattle.book.specs.Valid.{Valid}
use Rattle.book_slots.specs.Reads.{temperature_of}
use Rattle.std.specs.Prelude.{Some}
use Rattle.book_herd.specs.Herd.{system_of, line_of, drained_of}
use Rattle.book_herd.specs.declared.Line.{Line}
use Rattle.year_months.specs.Asks.{InPeriod}
use Rattle.year_months.specs.Series.{first_year, months_before, months_through, year_at, factor_by, factor_at, days_at}
use Rattle.year_heads.specs.Heads.{head_at, heads_of}
use Rattle.year_lines.specs.Lines.{anaerobic, entered_at, month_at, line_in}
use Rattle.year_lines.proofs.Parts.{LineOf}
use Rattle.year_lines.proofs.Ranges.{factor_most, line_ranged}
use Rattle.year_lines.proofs.BySystem.{anaerobic_is}
use Rattle.year_splitting.proofs.Solids.{Split}
use Rattle.year_splitting.proofs.Grams.{stated_over, YearsStated, years_stated, from_first_year, YearStated, in_one_year}

abbrev pub numbers_of : LineOf → Line
numbers_of line = line_of line.book line.line

-- the head of its category in month m, the sum of them over a year, and how much of the year's manure is the line's: that sum times its share
abbrev pub head_in : LineOf → ℕ → ℕ
head_in line m = head_at line.book (numbers_of line).category m

abbrev pub heads_in : LineOf → ℕ → ℕ
heads_in line year = heads_of line.book year (numbers_of line).category

abbrev pub manure_in : LineOf → ℕ → ℕ
manure_in line year = heads_in line year * (numbers_of line).share

abbrev pub ManureDivided : LineOf → LineOf → LineOf → ℕ → Type 0
ManureDivided whole first second year = manure_in first year + manure_in second year ≡ manure_in whole year

-- two ways to divide it: the heads, month by month of the year, at one share; or the share, at the same heads
module _ (whole first second : LineOf) (year : ℕ) where
  pub heads_divided :
      (numbers_of first).share ≡ (numbers_of whole).share → (numbers_of second).share ≡ (numbers_of whole).share →
      Each months_in_year (λ m. let at = months_before year + m in head_in first at + head_in second at ≡ head_in whole at) →
      ManureDivided whole first second year
  unfolding heads_of
  heads_divided first-share second-share heads =
      let sums : heads_in first year + heads_in second year ≡ heads_in whole year =
      sum_plus (λ m. head_in first (months_before year + m)) (λ m. head_in second (months_before year + m)) months_in_year
      ∙ sum_same _ _ months_in_year heads in
      rw (first-share, second-share, ← sums) (omega (arith, add-mul (heads_in first year) (heads_in second year) (numbers_of whole).share))

  pub share_divided :
      heads_in first year ≡ heads_in whole year → heads_in second year ≡ heads_in whole year →
      (numbers_of first).share + (numbers_of second).share ≡ (numbers_of whole).share → ManureDivided whole first second year
  share_divided first-heads second-heads shares =
      rw (first-heads, second-heads, ← shares) (omega (arith, mul-add (heads_in whole year) (numbers_of first).share (numbers_of second).share))

-- a line of the same kind of animal; its category and its share may be others
pub record SameKind (part whole : LineOf) : Type 0 where
  pub system : system_of part.book part.line ≡ system_of whole.book whole.line
  pub solids : (numbers_of part).solids ≡ (numbers_of whole).solids
  pub mass : (numbers_of part).mass ≡ (numbers_of whole).mass
  pub b0 : (numbers_of part).b0 ≡ (numbers_of whole).b0

pub record SplitLine (whole first second : LineOf) : Type 0 where
  pub lagoon : system_of whole.book whole.line ≡ Some anaerobic
  pub first_kind : SameKind first whole
  pub second_kind : SameKind second whole

-- month m has the same days, temperature and drain mark
pub record SameMonth (part whole : LineOf) (m : ℕ) : Type 0 where
  pub days : days_at part.book m ≡ days_at whole.book m
  pub temperature : temperature_of part.book m ≡ temperature_of whole.book m
  pub drained : drained_of part.book part.line m ≡ drained_of whole.book whole.line m

pub record SplitMonth (whole first second : LineOf) (m : ℕ) : Type 0 where
  pub divided : ManureDivided whole first second (year_at m)
  pub first_month : SameMonth first whole m
  pub second_month : SameMonth second whole m

-- Of what enters in two parts, each rounded down by itself, at most a gram is lost against the whole.
pub share_first : (heads solids mass share : ℕ) → heads * solids * mass * share ≡ heads * share * solids * mass
share_first heads solids mass share = rw (mul_right_comm (heads * solids) mass share, mul_right_comm heads solids share)

pub entered_apart :
    (solids mass days heads share heads-1 share-1 heads-2 share-2 : ℕ) → heads-1 * share-1 + heads-2 * share-2 ≡ heads * share →
    ((entered_of heads-1 solids mass share-1 days).0 + (entered_of heads-2 solids mass share-2 days).0 ≤ (entered_of heads solids mass share days).0) ×
    ((entered_of heads solids mass share days).0 ≤ (entered_of heads-1 solids mass share-1 days).0 + (entered_of heads-2 solids mass share-2 days).0 + 1)
unfolding entered_of
entered_apart solids mass days heads share heads-1 share-1 heads-2 share-2 divided =
    rw (share_first heads solids mass share, share_first heads-1 solids mass share-1, share_first heads-2 solids mass share-2, ← divided)
    (simp add-mul (omega arith))

module _ (whole first second : LineOf) (line : SplitLine whole first second) where
  split_month :
      (m : ℕ) → SplitMonth whole first second m →
      Split (month_at whole.book whole.line m) (month_at first.book first.line m) (month_at second.book second.line m)
  unfolding month_at entered_at factor_at
  split_month m now =
      let year = year_at m in
      let apart = entered_apart (numbers_of whole).solids (numbers_of whole).mass (days_at whole.book m)
      (heads_in whole year) (numbers_of whole).share (heads_in first year) (numbers_of first).share (heads_in second year) (numbers_of second).share
      now.divided in
      let first_is = line.first_kind in
      let second_is = line.second_kind in
      rw (first_is.solids, first_is.mass, second_is.solids, second_is.mass, now.first_month.days, now.second_month.days)
      (record {
        no_more = apart.0;
        gram_less = apart.1;
        first_same = record { factor = ap factor_by now.first_month.temperature; drained = now.first_month.drained };
        second_same = record { factor = ap factor_by now.second_month.temperature; drained = now.second_month.drained };
      })

-- the baselines of a line in so many years, after so many before them
abbrev pub baselines_over : LineOf → ℕ → ℕ → ℕ
baselines_over line before years = sum years (λ y. (line_in line.book (before + y) line.line).baseline.0)

baselines_are :
    (line : LineOf) (before years : ℕ) → system_of line.book line.line ≡ Some anaerobic →
    stated_over (month_at line.book line.line) (numbers_of line).b0 before years ≡ baselines_over line before years
baselines_are line before years lagoon =
    sum_same _ _ years
    (λ y low high. ap (λ s. s.baseline.0) (anaerobic_is line.book (before + y) line.line refl lagoon refl refl refl refl))

module _ (whole first second : LineOf) (line : SplitLine whole first second) (before years : ℕ)
    (months : Each (months_in_year * (before + years)) (SplitMonth whole first second)) where
  pub lines_stated :
      YearsStated (baselines_over whole before years) (baselines_over first before years) (baselines_over second before years) (numbers_of whole).b0 before years
  unfolding month_at
  lines_stated =
      let first_is = line.first_kind in
      let second_is = line.second_kind in
      rw (
        ← baselines_are whole before years line.lagoon,
        ← baselines_are first before years (first_is.system ∙ line.lagoon),
        ← baselines_are second before years (second_is.system ∙ line.lagoon),
        first_is.b0,
        second_is.b0,
      )
      (years_stated (month_at whole.book whole.line) (month_at first.book first.line) (month_at second.book second.line)
      (numbers_of whole).b0 before years (λ m low high. split_month whole first second line m (months m low high))
      (λ m low high. factor_most whole.book m))

-- Of the years from the first to any, the two lines are ahead by less than a gram for each: of the first year alone, never.
pub lines_from_first_year :
    (whole first second : LineOf) → SplitLine whole first second → (years : ℕ) → 1 ≤ years → Each (months_in_year * years) (SplitMonth whole first second) →
    baselines_over first 0 years + baselines_over second 0 years ≤ baselines_over whole 0 years + (years - 1)
lines_from_first_year whole first second line years some months =
    from_first_year (lines_stated whole first second line 0 years (λ m low high. months m low (omega arith))) some

-- what a line states in one year
abbrev pub baseline_in : LineOf → ℕ → ℕ
baseline_in line year = (line_in line.book year line.line).baseline.0

alone : (line : LineOf) (year : ℕ) → 1 ≤ year → baselines_over line (year - 1) 1 ≡ baseline_in line year
unfolding sum
alone line year low = let here : year - 1 + 1 ≡ year = omega arith in rw (here, zero-add)

pub lines_in_first_year :
    (whole first second : LineOf) → SplitLine whole first second → Each months_in_year (SplitMonth whole first second) →
    baseline_in first first_year + baseline_in second first_year ≤ baseline_in whole first_year
lines_in_first_year whole first second line months =
    omega (
      arith,
      alone whole first_year (omega arith),
      alone first first_year (omega arith),
      alone second first_year (omega arith),
      lines_from_first_year whole first second line 1 (omega arith) (λ m low high. months m low (omega arith)),
    )

pub lines_in_year :
    (whole first second : LineOf) → SplitLine whole first second → Valid whole.book → whole.line ≤ lines →
    (year : ℕ) → InPeriod year → Each (months_through year) (SplitMonth whole first second) →
    YearStated (baseline_in whole year) (baseline_in first year) (baseline_in second year)
lines_in_year whole first second line valid there year period months =
    let low = period.low in
    let high = period.high in
    rw (← alone whole year low, ← alone first year low, ← alone second year low)
    (in_one_year (lines_stated whole first second line (year - 1) 1 (λ m from to. months m from (omega arith)))
    (line_ranged whole.book valid whole.line there).b0 (omega arith))
