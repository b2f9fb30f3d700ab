-- The first year of 01's worked example on the definitions: 01 gives it no refusal, and its figures are those that 01 prints ("Figures to check").
-- Where device 1 destroyed nothing its tonnes are others. Assumes nothing.
use Prim.Native.Nat.{ℕ, zero, suc, ◌+◌, ◌≤◌}
use mathlib.Core.Bool.{Bool, true, false, cond}
use mathlib.Core.List.{List, [], ◌∷◌}
use mathlib.Core.Path.{◌≡◌, refl, ap, ◌∙◌}
use native.Mathlib.Omega.{arith}
use borrow.Author.Tests.{eqb-true}
use lib.Dec.{eqb, lit≤}
use lib.IntN.{pos, neg_ℤ}
use Rattle.std.specs.Prelude.{ℤ, Option}
use Rattle.laws.specs.Counting.{sum}
use Rattle.laws.proofs.Counting.{Each, sum_same}
use Rattle.units.specs.Grams.{solids, methane, co2e, b0_rule_of}
use Rattle.units.specs.declared.methane.Methane.{Methane}
use Rattle.units.specs.declared.solids.Solids.{Solids}
use Rattle.calendar.specs.Days.{months_in_year, leap_of, february_of, lengths_of, length_of, gone_of, days_of}
use Rattle.lagoon_factor.specs.Factor.{factor_of}
use Rattle.lagoon_month.specs.Month.{entered_of, outcome_of}
use Rattle.lagoon_run.specs.Run.{with_of, run_from, year_of}
use Rattle.lagoon_month.specs.declared.Month.{Month}
use Rattle.lagoon_run.specs.declared.Totals.{Totals}
use Rattle.record_table.specs.Table.{lines, ln}
use Rattle.record_table.specs.Slot.{slot_of}
use Rattle.book.specs.Book.{record_at, nothing as no_record}
use Rattle.book_slots.specs.Reads.{first_month_of, project_methane_of, baseline_co2_of, project_co2_of}
use Rattle.book_herd.specs.Herd.{line_of, drained_of}
use Rattle.book_herd.specs.declared.Line.{Line}
use Rattle.year_months.specs.Series.{first_year, amount_of, months_before, year_at, over_year, days_at, factor_by, factor_at}
use Rattle.year_credit.specs.Credit.{grams_of, destroyed_at, operator_of, total_of}
use Rattle.year_credit.specs.declared.Operator.{Operator}
use Rattle.year.specs.Figures.{figures_by, figures_of}
use Rattle.year_heads.specs.Heads.{head_at, heads_of}
use Rattle.year_lines.specs.Lines.{other_of, by_system, line_in, sums_over, all, sums_of, entered_by, entered_at, month_at}
use Rattle.year.specs.declared.Figures.{Figures}
use Rattle.year_sums.specs.declared.Sums.{Sums}
use Rattle.year_sums.specs.Sums.{anaerobic_of, nothing}
use Rattle.year_lines.proofs.SameMonths.{same_year}
use Rattle.print_years.proofs.Worked.{worked}
use Rattle.wrong_programs.proofs.Promise.{Answered}
use Rattle.wrong_programs.proofs.Records as Records
use Rattle.wrong_programs.proofs.Records.{line_record}
use Rattle.wrong_programs.proofs.WorkedBook.{made, Stands, made_stands}
use Rattle.wrong_programs.proofs.WorkedReads.{the_line, year_is, month_is, system_by, line_is, head_is, temperature_is, drained_is, project_is, first_is, none_is, complete_is, shares_are}

-- the same every month of a year
abbrev monthly : ℕ → ℕ
monthly figure = sum months_in_year (λ m. figure)

-- a month of the line, what the operator entered for a month, and the year's sums
abbrev month : Solids → ℕ → Bool → Month
month entered factor drained = record { entered = entered; factor = factor; drained = drained }

abbrev the_month : ℕ → Month
the_month m = month (entered_by (monthly 100) the_line (days_of 2011 1 m)) (factor_of (pos 302)) false

abbrev operator : ℕ → ℕ → ℕ → ℕ → Operator
operator project_methane baseline_co2 project_co2 destroyed =
    record { project_methane = co2e project_methane; baseline_co2 = co2e baseline_co2; project_co2 = co2e project_co2; destroyed = methane destroyed }

abbrev the_operator : Bool → Operator
the_operator destroyed = operator (monthly 1000000) (monthly 0) (monthly 500000) (monthly (Records.grams_of destroyed))

abbrev the_sums : Sums
the_sums = record { entered = solids 175200000; degraded = solids 175200000; removed = solids 0; carried = solids 0; baseline = co2e 600445440 }

line_sums : anaerobic_of (year_of the_month first_year) the_line.b0 ≡ the_sums
unfolding sum year_of run_from with_of outcome_of entered_of days_of gone_of length_of lengths_of february_of leap_of factor_of b0_rule_of
line_sums = refl

year_sums : sums_over (λ l. cond (eqb l 1) the_sums nothing) all lines ≡ the_sums
unfolding sums_over
year_sums = refl

-- the same lines and the same months have the same sums
same_sums : (one other : ℕ → Sums) (n : ℕ) → Each n (λ l. one l ≡ other l) → sums_over one all n ≡ sums_over other all n
unfolding sums_over
same_sums one other zero same = refl
same_sums one other (suc n) same = rw (same (suc n) (omega arith) (omega arith), same_sums one other n (λ l low high. same l low (omega arith)))

over_year_lem : (each : ℕ → ℕ) (figure : ℕ) → Each months_in_year (λ m. each m ≡ figure) → over_year first_year each ≡ monthly figure
over_year_lem each figure is =
    sum_same (λ m. each (months_before first_year + m)) (λ m. figure) months_in_year
    (λ m low high. let e : months_before first_year + m ≡ m = omega arith in ap each e ∙ is m low high)

same_operator : {a b c d w x y z : ℕ} → a ≡ w → b ≡ x → c ≡ y → d ≡ z → operator a b c d ≡ operator w x y z
same_operator p q r s = rw (p, q, r, s)

module _ (book : List ℕ) (destroyed : Bool) (s : Stands book destroyed) where
  days_are : (m : ℕ) → days_at book m ≡ days_of 2011 1 m
  unfolding days_at
  days_are m =
      ap (λ (y : Option ℕ). days_of (amount_of y) (amount_of (first_month_of book)) m) (year_is book destroyed s)
      ∙ ap (λ (y : Option ℕ). days_of 2011 (amount_of y) m) (month_is book destroyed s)

  heads_are : heads_of book first_year the_line.category ≡ monthly 100
  unfolding heads_of head_at
  heads_are = over_year_lem (head_at book the_line.category) 100 (λ m low high. ap amount_of (head_is book destroyed s m low high))

  module _ (m : ℕ) (low : 1 ≤ m) (high : m ≤ months_in_year) where
    entered_is : entered_at book 1 m ≡ (the_month m).entered
    unfolding entered_at
    entered_is =
        let year : year_at m ≡ first_year = omega arith in
        ap (λ (x : Line). entered_by (heads_of book (year_at m) x.category) x (days_at book m)) (line_is book destroyed s)
        ∙ ap (λ (y : ℕ). entered_by (heads_of book y the_line.category) the_line (days_at book m)) year
        ∙ ap (λ (n : ℕ). entered_by n the_line (days_at book m)) heads_are
        ∙ ap (entered_by (monthly 100) the_line) (days_are m)

    months_are : month_at book 1 m ≡ the_month m
    unfolding month_at factor_at
    months_are =
        ap (λ (e : Solids). month e (factor_at book m) (drained_of book 1 m)) entered_is
        ∙ ap (λ (t : Option ℤ). month (the_month m).entered (factor_by t) (drained_of book 1 m)) (temperature_is book destroyed s m low high)
        ∙ ap (month (the_month m).entered (factor_of (pos 302))) (drained_is book destroyed s m low high)

    destroyed_is : destroyed_at book m ≡ methane (Records.grams_of destroyed)
    unfolding destroyed_at sum
    destroyed_is =
        let first = ap amount_of (first_is book destroyed s m low high) in
        let second = ap amount_of (none_is book destroyed s m low high 2 (s.second_device m low high)) in
        let third = ap amount_of (none_is book destroyed s m low high 3 (s.third_device m low high)) in
        let fourth = ap amount_of (none_is book destroyed s m low high 4 (s.fourth_device m low high)) in
        ap methane (omega (arith, first, second, third, fourth))

  -- line 1, and a line that is not there
  first_line : line_in book first_year 1 ≡ the_sums
  unfolding line_in
  first_line =
      ap (λ (x : Option ℕ). by_system x (anaerobic_of (year_of (month_at book 1) first_year) (line_of book 1).b0) (other_of (heads_of book first_year (line_of book 1).category) (line_of book 1)))
      (system_by book destroyed s 1 true (s.line 1 (lit≤ tt) (lit≤ tt)))
      ∙ ap (λ (x : Line). anaerobic_of (year_of (month_at book 1) first_year) x.b0) (line_is book destroyed s)
      ∙ ap (λ (t : Totals). anaerobic_of t the_line.b0) (same_year (month_at book 1) the_month first_year (lit≤ tt) months_are)
      ∙ line_sums

  line_in_lem : (l : ℕ) (b : Bool) → eqb l 1 ≡ b → record_at book (slot_of ln (l ∷ [])) ≡ cond b line_record no_record → line_in book first_year l ≡ cond b the_sums nothing
  unfolding line_in
  line_in_lem l true e stands = ap (line_in book first_year) (eqb-true l 1 e) ∙ first_line
  line_in_lem l false e stands =
      ap (λ (x : Option ℕ). by_system x (anaerobic_of (year_of (month_at book l) first_year) (line_of book l).b0) (other_of (heads_of book first_year (line_of book l).category) (line_of book l)))
      (system_by book destroyed s l false stands)

  sums_are : sums_of book first_year all ≡ the_sums
  sums_are = same_sums (line_in book first_year) (λ l. cond (eqb l 1) the_sums nothing) lines (λ l low high. line_in_lem l (eqb l 1) refl (s.line l low high)) ∙ year_sums

  operators_are : operator_of book first_year ≡ the_operator destroyed
  operators_are =
      let project = project_is book destroyed s in
      same_operator
      (over_year_lem (λ m. (grams_of (project_methane_of book m)).0) 1000000 (λ m low high. ap (λ (x : Option ℕ). (grams_of x).0) (project m low high).0))
      (over_year_lem (λ m. (grams_of (baseline_co2_of book m)).0) 0 (λ m low high. ap (λ (x : Option ℕ). (grams_of x).0) (project m low high).1))
      (over_year_lem (λ m. (grams_of (project_co2_of book m)).0) 500000 (λ m low high. ap (λ (x : Option ℕ). (grams_of x).0) (project m low high).2))
      (over_year_lem (λ m. (destroyed_at book m).0) (Records.grams_of destroyed) (λ m low high. ap (λ (x : Methane). x.0) (destroyed_is m low high)))

  figures_are : figures_of book first_year ≡ figures_by the_sums (the_operator destroyed)
  unfolding figures_of
  figures_are = ap (λ (x : Sums). figures_by x (operator_of book first_year)) sums_are ∙ ap (figures_by the_sums) operators_are

pub answered : (destroyed : Bool) → Answered (made destroyed) first_year
answered destroyed =
    let s = made_stands destroyed in
    record {
      valid = s.valid;
      period = omega arith;
      complete = complete_is (made destroyed) destroyed s;
      shares = shares_are (made destroyed) destroyed s;
    }

pub worked_figures : figures_of (made true) first_year ≡ worked
unfolding sum total_of
worked_figures = figures_are (made true) true (made_stands true)

pub other_tonnes : (figures_of (made false) first_year).net ≡ neg_ℤ (pos 6)
unfolding sum total_of
other_tonnes = ap (λ (f : Figures). f.net) (figures_are (made false) false (made_stands false))
