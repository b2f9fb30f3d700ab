-- A herd split on paper, by a year's net tonnes: two lines in one filing against one, and two filings against one. The other lines of the books, where there
-- are any, come to the same; so do the operator's entries, together.
-- Assumes nothing.
use Prim.Native.Nat.{ℕ, zero, suc, ◌+◌, ◌-◌, ◌/◌, ◌≤◌}
use mathlib.Core.List.{List}
use mathlib.Core.Path.{◌≡◌, sym, subst}
use native.Mathlib.Omega.{arith}
use lib.IntN.{ℤ, pos, ◌+ℤ◌}
use lib.Signed.{◌≤ℤ◌}
use Rattle.laws.proofs.Counting.{Each}
use Rattle.units.specs.Grams.{co2e}
use Rattle.tonnes.specs.Tonnes.{net_of}
use Rattle.tonnes.proofs.Nearest.{sum_is, ordered}
use Rattle.calendar.specs.Days.{months_in_year}
use Rattle.book.specs.Valid.{Valid}
use Rattle.year_months.specs.Asks.{InPeriod}
use Rattle.year_months.specs.Series.{first_year, last_year, months_through}
use Rattle.year_lines.specs.Lines.{all}
use Rattle.year_lines.proofs.Parts.{LineOf}
use Rattle.year_credit.specs.Credit.{operator_of, total_of}
use Rattle.year_credit.specs.declared.Operator.{Operator}
use Rattle.year.specs.Figures.{figures_of}
use Rattle.year.specs.declared.Figures.{Figures}
use Rattle.year_splitting.proofs.Grams.{most_ahead, most_behind, YearStated}
use Rattle.year_splitting.proofs.Lines.{SplitLine, SplitMonth, baseline_in, lines_in_first_year, lines_in_year}
use Rattle.year_splitting.proofs.Others.{but, baseline_of, Placed, line_at, line_and_others, two_and_others}
use Rattle.year_splitting.proofs.Tonnes.{AtMost, Divided, total_more, totals_more, tonne, net_more, nets_more, shown, credited_more}

abbrev pub net_in : List ℕ → ℕ → ℤ
net_in book year = (figures_of book year).net

-- the total that it is the net of
abbrev total_in : List ℕ → ℕ → ℤ
total_in book year = total_of (co2e (baseline_of book year all)) (operator_of book year)

-- the nets of the years from the first on, together
unfoldable pub nets_over : List ℕ → ℕ → ℤ
nets_over book zero = pos 0
nets_over book (suc year) = nets_over book year +ℤ net_in book (suc year)

-- One filing: a book in which a line stands whole, and one in which it is split; the other lines and the operator's entries come to the same in the year.
pub record OneFiling (whole split : List ℕ) (line first second year : ℕ) : Type 0 where
  pub line_placed : Placed line
  pub first_placed : Placed first
  pub second_placed : Placed second
  pub two : first ≡ second → ⊥
  pub others : baseline_of split year (but second (but first all)) ≡ baseline_of whole year (but line all)
  pub operator : operator_of split year ≡ operator_of whole year

pub record WithinATonne (whole split : Figures) : Type 0 where
  pub gained : split.net ≤ℤ (whole.net +ℤ pos 1)
  pub lost : whole.net ≤ℤ (split.net +ℤ pos 1)
  pub credited_gained : split.credited ≤ whole.credited + 1
  pub credited_lost : whole.credited ≤ split.credited + 1

pub net_within :
    (one other : List ℕ) (year more : ℕ) → operator_of other year ≡ operator_of one year → baseline_of other year all ≤ baseline_of one year all + more →
    AtMost (net_in other year) (net_in one year) ((more + (tonne - 1)) / tonne)
unfolding figures_of
net_within one other year more same ahead =
    subst
    (λ (o : Operator). AtMost (net_of (total_of (co2e (baseline_of other year all)) o)) (net_of (total_in one year))
    ((more + (tonne - 1)) / tonne))
    (sym same) (net_more (total_more (baseline_of one year all) (baseline_of other year all) more (operator_of one year) ahead))

-- the two books' baselines are as far apart as the line's and its parts'
pub differ :
    (whole split : List ℕ) (line first second year : ℕ) → OneFiling whole split line first second year →
    baseline_of split year all + baseline_in (line_at whole line) year ≡
    baseline_of whole year all + baseline_in (line_at split first) year + baseline_in (line_at split second) year
differ whole split line first second year filing =
    omega (
      arith,
      line_and_others whole year line filing.line_placed,
      two_and_others split year first second filing.first_placed filing.second_placed filing.two,
      filing.others,
    )

module _ (whole split : List ℕ) (line first second : ℕ) (valid : Valid whole)
    (herd : SplitLine (line_at whole line) (line_at split first) (line_at split second)) where
  abbrev Month : ℕ → Type 0
  Month m = SplitMonth (line_at whole line) (line_at split first) (line_at split second) m

  abbrev Filed : ℕ → Type 0
  Filed year = OneFiling whole split line first second year

  module _ (year : ℕ) (period : InPeriod year) (months : Each (months_through year) Month) (filing : Filed year) where
    stated : YearStated (baseline_in (line_at whole line) year) (baseline_in (line_at split first) year) (baseline_in (line_at split second) year)
    stated = lines_in_year (line_at whole line) (line_at split first) (line_at split second) herd valid filing.line_placed.high year period months

    gained : AtMost (net_in split year) (net_in whole year) 1
    gained = net_within whole split year most_ahead filing.operator (omega (arith, differ whole split line first second year filing, stated.gained))

    lost : AtMost (net_in whole year) (net_in split year) 1
    lost = net_within split whole year most_behind (sym filing.operator) (omega (arith, differ whole split line first second year filing, stated.lost))

  -- In any year of the crediting period, at most one tonne more, and at most one less.
  pub one_filing : (year : ℕ) → InPeriod year → Each (months_through year) Month → Filed year → WithinATonne (figures_of whole year) (figures_of split year)
  unfolding figures_of
  one_filing year period months filing =
      let more = gained year period months filing in
      let less = lost year period months filing in
      record {
        gained = shown more;
        lost = shown less;
        credited_gained = credited_more (net_in split year) (net_in whole year) more;
        credited_lost = credited_more (net_in whole year) (net_in split year) less;
      }

  -- In the first year, none more.
  first_gained : Each months_in_year Month → Filed first_year → AtMost (net_in split first_year) (net_in whole first_year) 0
  first_gained months filing =
      net_within whole split first_year 0 filing.operator
      (omega (
        arith,
        differ whole split line first second first_year filing,
        lines_in_first_year (line_at whole line) (line_at split first) (line_at split second) herd months,
      ))

  pub one_filing_first_year : Each months_in_year Month → Filed first_year → net_in split first_year ≤ℤ net_in whole first_year
  one_filing_first_year months filing = ordered _ _ (omega (arith, (first_gained months filing).most))

  -- So over the years from the first on, at most a tonne for each year after it.
  all_gained :
      (later : ℕ) → suc later ≤ last_year → Each (months_through (suc later)) Month → Each (suc later) Filed →
      AtMost (nets_over split (suc later)) (nets_over whole (suc later)) later
  unfolding nets_over
  all_gained zero within months filed =
      omega (
        arith,
        (first_gained (λ m low high. months m low (omega arith)) (filed 1 (omega arith) (omega arith))).most,
        sum_is (pos 0) (net_in split 1),
        sum_is (pos 0) (net_in whole 1),
      )
  all_gained (suc n) within months filed =
      let year = suc (suc n) in
      omega (
        arith,
        (gained year (record { low = omega arith; high = within }) months (filed year (omega arith) (omega arith))).most,
        (all_gained n (omega arith) (λ m low high. months m low (omega arith)) (λ y low high. filed y low (omega arith))).most,
        sum_is (nets_over split (suc n)) (net_in split year),
        sum_is (nets_over whole (suc n)) (net_in whole year),
      )

  pub one_filing_years :
      (later : ℕ) → suc later ≤ last_year → Each (months_through (suc later)) Month → Each (suc later) Filed →
      nets_over split (suc later) ≤ℤ (nets_over whole (suc later) +ℤ pos later)
  one_filing_years later within months filed = shown (all_gained later within months filed)

-- Two filings: a book in which a line stands whole, and two that have a part of it each. What the others' lines and the operators enter adds up to the whole's.
pub record TwoFilings (whole first second : LineOf) (year : ℕ) : Type 0 where
  pub whole_placed : Placed whole.line
  pub first_placed : Placed first.line
  pub second_placed : Placed second.line
  pub others :
      baseline_of first.book year (but first.line all) + baseline_of second.book year (but second.line all) ≡
      baseline_of whole.book year (but whole.line all)
  pub operators : Divided (operator_of whole.book year) (operator_of first.book year) (operator_of second.book year)

module _ (whole first second : LineOf) (valid : Valid whole.book) (herd : SplitLine whole first second) where
  both_gained :
      (year : ℕ) → InPeriod year → Each (months_through year) (SplitMonth whole first second) → TwoFilings whole first second year →
      AtMost (net_in first.book year +ℤ net_in second.book year) (net_in whole.book year) 1
  unfolding figures_of
  both_gained year period months filings =
      let stated = lines_in_year whole first second herd valid filings.whole_placed.high year period months in
      nets_more (total_in first.book year) (total_in second.book year)
      (totals_more (baseline_of whole.book year all) (baseline_of first.book year all) (baseline_of second.book year all) most_ahead
      (operator_of whole.book year) (operator_of first.book year) (operator_of second.book year) filings.operators
      (omega (
        arith,
        filings.others,
        line_and_others whole.book year whole.line filings.whole_placed,
        line_and_others first.book year first.line filings.first_placed,
        line_and_others second.book year second.line filings.second_placed,
      )))
      (omega arith)

  -- In any year of the crediting period the two together are at most one tonne above the whole.
  pub two_filings :
      (year : ℕ) → InPeriod year → Each (months_through year) (SplitMonth whole first second) → TwoFilings whole first second year →
      (net_in first.book year +ℤ net_in second.book year) ≤ℤ (net_in whole.book year +ℤ pos 1)
  two_filings year period months filings = shown (both_gained year period months filings)

  both_all_gained :
      (years : ℕ) → years ≤ last_year → Each (months_through years) (SplitMonth whole first second) → Each years (TwoFilings whole first second) →
      AtMost (nets_over first.book years +ℤ nets_over second.book years) (nets_over whole.book years) years
  unfolding nets_over
  both_all_gained zero within months filings = omega arith
  both_all_gained (suc n) within months filings =
      let year = suc n in
      let a = nets_over first.book n in
      let b = nets_over second.book n in
      omega (
        arith,
        (both_gained year (record { low = omega arith; high = within }) months (filings year (omega arith) (omega arith))).most,
        (both_all_gained n (omega arith) (λ m low high. months m low (omega arith)) (λ y low high. filings y low (omega arith))).most,
        sum_is (net_in first.book year) (net_in second.book year),
        sum_is a b,
        sum_is a (net_in first.book year),
        sum_is b (net_in second.book year),
        sum_is (a +ℤ net_in first.book year) (b +ℤ net_in second.book year),
        sum_is (nets_over whole.book n) (net_in whole.book year),
      )

  -- So over the years from the first on, at most a tonne for each year.
  pub two_filings_years :
      (years : ℕ) → years ≤ last_year → Each (months_through years) (SplitMonth whole first second) → Each years (TwoFilings whole first second) →
      (nets_over first.book years +ℤ nets_over second.book years) ≤ℤ (nets_over whole.book years +ℤ pos years)
  two_filings_years years within months filings = shown (both_all_gained years within months filings)
