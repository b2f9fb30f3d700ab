-- How large a year's figures can be, from the ranges of what they are made of: each product is at most that of the ranges' ends.
-- Assumes nothing.
use Prim.Native.Nat.{ℕ, zero, suc, ◌+◌, ◌*◌, ◌≤◌, ◌<◌, ◌^◌}
use mathlib.Core.Bool.{Bool, true, false, cond}
use mathlib.Core.List.{List}
use mathlib.Core.Path.{ap, ◌≡◌, ◌∙◌}
use native.Mathlib.Nat.{mul-le-mul, suc-mul}
use native.Mathlib.Omega.{arith}
use lib.Dec.{eqb}
use lib.ListN.{length}
use Rattle.units.specs.Grams.{potential, b0_rule_of}
use Rattle.units.specs.declared.solids.Solids.{Solids}
use Rattle.calendar.specs.Days.{months_in_year}
use Rattle.lagoon_run.proofs.Conserved.{conserved, entered_at_most}
use Rattle.lagoon_month.specs.Asks.{heads_most, entered_most, grams_most}
use Rattle.lagoon_month.proofs.Entry.{four}
use Rattle.lagoon_run.specs.Asks.{RunFits}
use Rattle.lagoon_factor.specs.Rule.{million}
use Rattle.lagoon_month.specs.Month.{empty_of, available_of}
use Rattle.lagoon_run.specs.Run.{run_from, run_of, after, year_of, no_month, months_of}
use Rattle.lagoon_month.specs.declared.Month.{Month}
use Rattle.lagoon_month.specs.declared.Standing.{Standing}
use Rattle.lagoon_run.specs.declared.Totals.{Totals}
use Rattle.record_table.specs.Table.{lines, months}
use Rattle.book.specs.Valid.{Valid}
use Rattle.book_herd.specs.Herd.{system_of, line_of}
use Rattle.book_herd.specs.declared.Line.{Line}
use Rattle.std.specs.Prelude.{Option, Some, None}
use Rattle.year_months.specs.Asks.{InPeriod, HoldsYear}
use Rattle.year_months.specs.Series.{months_before}
use Rattle.year_months.proofs.Arrays.{array_at}
use Rattle.year_heads.specs.Heads.{heads_of}
use Rattle.year_heads.proofs.Ranges.{heads_most_lem}
use Rattle.year_sums.specs.Asks.{all_grams}
use Rattle.year_sums.specs.Sums.{anaerobic_of}
use Rattle.year_lines.specs.Lines.{anaerobic, daily_of, days_in_year, converted_of, other_of, by_system, line_in, sums_over, all, month_at}
use Rattle.year_sums.specs.declared.Sums.{Sums}
use Rattle.year_lines.proofs.SameMonths.{same_run, standing_most}
use Rattle.year_lines.proofs.Ranges.{factor_most, line_ranged, entry_most}

-- the most that any figure of one line in a year can be
abbrev pub line_most : ℕ
line_most = 200000000000000

pub record Most (k : ℕ) (sums : Sums) : Type 0 where
  pub entered : sums.entered.0 ≤ k
  pub degraded : sums.degraded.0 ≤ k
  pub removed : sums.removed.0 ≤ k
  pub carried : sums.carried.0 ≤ k
  pub baseline : sums.baseline.0 ≤ k

b0_most : (degraded : Solids) (b0 : ℕ) → degraded.0 ≤ 12000000000000 → b0 ≤ 100 → (b0_rule_of degraded b0 potential).0 ≤ line_most
unfolding b0_rule_of
b0_most degraded b0 few small = omega (arith, mul-le-mul few small)

-- another line's products, one factor after the other
module _ (heads : ℕ) (line : Line) (ends : (heads ≤ heads_most) × (line.solids ≤ 2000) × (line.mass ≤ 20000) × (line.share ≤ 10000)) (few : line.conversion ≤ 10000) where
  pub daily_most : daily_of heads line * days_in_year ≤ 1460000000000
  daily_most = omega (arith, four ends)

  pub product_year : daily_of heads line * days_in_year * line.conversion ≤ 14600000000000000
  product_year = mul-le-mul daily_most few

  pub converted_most : (converted_of heads line).0 ≤ 1460000000000
  unfolding converted_of
  converted_most = omega (arith, product_year)

-- an anaerobic line's year
pub record YearMost (totals : Totals) : Type 0 where
  pub entered : totals.entered.0 ≤ 12000000000000
  pub degraded : totals.degraded.0 ≤ 12000000000000
  pub removed : totals.removed.0 ≤ 12000000000000
  pub carried : totals.standing.0.0 ≤ 12000000000000

module _ (book : List ℕ) (v : Valid book) (line : ℕ) (there : line ≤ lines) where
  month_factor : (m : ℕ) → (month_at book line m).factor ≤ million
  unfolding month_at
  month_factor m = factor_most book m

  month_entered : (m : ℕ) → m ≤ months → (month_at book line m).entered.0 ≤ entered_most
  unfolding month_at
  month_entered m within = entry_most book v line m there within

  pub year_most : (year : ℕ) → InPeriod year → YearMost (year_of (month_at book line) year)
  unfolding year_of
  year_most year period =
      let k = months_before year in
      let run = month_at book line in
      let standing = (run_of run k).standing in
      let kept = conserved empty_of run k (λ m low high. month_factor m) in
      let kept_on = conserved standing (after k run) 12 (λ m low high. month_factor (k + m)) in
      let came = entered_at_most empty_of run entered_most k (λ m low high. month_entered m (omega (arith, period.high))) in
      let came-on = entered_at_most standing (after k run) entered_most 12 (λ m low high. month_entered (k + m) (omega (arith, period.high))) in
      let high = period.high in
      record { entered = omega arith; degraded = omega arith; removed = omega arith; carried = omega arith }

  -- a month of the crediting period, after those before it, from an empty lagoon
  pub month_fits :
      (n : ℕ) {standing : Standing} {month : Month} → n < months → standing ≡ (run_of (month_at book line) n).standing → month ≡ month_at book line (n + 1) →
      (available_of standing month < grams_most) × (month.factor ≤ million)
  month_fits n inside stands is =
      let carried =
      standing_most empty_of (month_at book line) n (λ m low high. month_factor m) (λ m low high. month_entered m (omega (arith, inside))) in
      let came = month_entered (n + 1) (omega (arith, inside)) in rw (stands, is) (omega (arith, carried, came), month_factor (n + 1))

  -- the months of a year that the code makes from the book
  module _ (year : ℕ) (period : InPeriod year) {list : List Month} (held : HoldsYear Month no_month year (month_at book line) list)
      {from : Standing} (handed_on : from ≡ (run_of (month_at book line) (months_before year)).standing) where
    carried_most : from.0.0 ≤ months_before year * entered_most
    carried_most =
        rw handed_on
        (omega (
          arith,
          standing_most empty_of (month_at book line) (months_before year) (λ m low high. month_factor m)
              (λ m low high. month_entered m (omega (arith, period.high))),
        ))

    pub months_fit : RunFits from list
    months_fit =
        record {
          room = rw held.long (omega (arith, carried_most, period.high));
          entry = λ i below.
              let inside : i < months_in_year = omega (arith, held.long) in
              rw (array_at held i inside) (month_entered (months_before year + i + 1) (omega (arith, period.high)));
          factor = λ i below.
              let inside : i < months_in_year = omega (arith, held.long) in
              rw (array_at held i inside) (month_factor (months_before year + i + 1));
        }

    pub year_run : {totals : Totals} → totals ≡ run_from from (months_of list) (length list) → totals ≡ year_of (month_at book line) year
    unfolding year_of
    year_run is =
        is ∙ ap (run_from from (months_of list)) held.long ∙
        same_run from (months_of list) (after (months_before year) (month_at book line)) months_in_year held.each ∙
        ap (λ (s : Standing). run_from s (after (months_before year) (month_at book line)) months_in_year) handed_on

    pub degraded_fits : {totals : Totals} → totals ≡ run_from from (months_of list) (length list) → totals.degraded.0 < grams_most
    degraded_fits is = rw (year_run is) (omega (arith, (year_most year period).degraded))

by_most : (seen : Option ℕ) (lagoon other : Sums) → Most line_most lagoon → Most line_most other → Most line_most (by_system seen lagoon other)
by_most None lagoon other l o = record { entered = omega arith; degraded = omega arith; removed = omega arith; carried = omega arith; baseline = omega arith }
by_most (Some system) lagoon other l o = go (eqb system anaerobic)
  where
    go : (b : Bool) → Most line_most (cond b lagoon other)
    go true = l
    go false = o

module _ (book : List ℕ) (v : Valid book) (year : ℕ) (period : InPeriod year) where
  pub line_most_lem : (line : ℕ) → line ≤ lines → Most line_most (line_in book year line)
  unfolding line_in
  line_most_lem line there =
      let r = line_ranged book v line there in
      let y = year_most book v line there year period in
      let numbers = line_of book line in
      let heads = heads_of book year numbers.category in
      let few = heads_most_lem book v year period numbers.category r.category in
      let c = converted_most heads numbers (few, r.solids, r.mass, r.share) r.conversion in
      by_most (system_of book line) (anaerobic_of (year_of (month_at book line) year) numbers.b0) (other_of heads numbers)
      (record {
        entered = omega (arith, y.entered);
        degraded = omega (arith, y.degraded);
        removed = omega (arith, y.removed);
        carried = omega (arith, y.carried);
        baseline = b0_most (year_of (month_at book line) year).degraded numbers.b0 y.degraded r.b0;
      })
      (record {
        entered = omega arith;
        degraded = omega arith;
        removed = omega arith;
        carried = omega arith;
        baseline = b0_most (converted_of heads numbers) numbers.b0 (omega (arith, c)) r.b0;
      })

  pub sums_most_lem : (n : ℕ) → n ≤ lines → Most (n * line_most) (sums_over (line_in book year) all n)
  unfolding sums_over
  sums_most_lem zero h = record { entered = omega arith; degraded = omega arith; removed = omega arith; carried = omega arith; baseline = omega arith }
  sums_most_lem (suc n) h =
      let before = sums_most_lem n (omega arith) in
      let more = line_most_lem (suc n) h in
      let m = suc-mul n line_most in
      record {
        entered = omega (arith, before.entered, more.entered, m);
        degraded = omega (arith, before.degraded, more.degraded, m);
        removed = omega (arith, before.removed, more.removed, m);
        carried = omega (arith, before.carried, more.carried, m);
        baseline = omega (arith, before.baseline, more.baseline, m);
      }

  -- so the sums of the lines before one and its own have room together
  pub sums_fit : (n line : ℕ) → n ≤ lines → line ≤ lines → all_grams (sums_over (line_in book year) all n) + all_grams (line_in book year line) < 2 ^ 64
  sums_fit n line h there =
      let s = sums_most_lem n h in
      let own = line_most_lem line there in
      omega (
        arith,
        s.entered,
        s.degraded,
        s.removed,
        s.carried,
        s.baseline,
        own.entered,
        own.degraded,
        own.removed,
        own.carried,
        own.baseline,
      )
