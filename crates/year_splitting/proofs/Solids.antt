-- A herd on paper as one line, or as two whose entries are the whole's but for rounding: what that does to grams of solids. From the first month to any n the whole
-- enters and degrades no less than the two lines together. Over later months alone the two can be ahead: what rounding kept them from degrading still
-- stands, and degrades later.
-- Assumes nothing.
use Prim.Native.Nat.{ℕ, zero, suc, ◌+◌, ◌*◌, ◌-◌, ◌≤◌}
use mathlib.Core.Path.{◌≡◌, refl}
use native.Mathlib.Nat.{add-zero, le_dest}
use native.Mathlib.Omega.{arith}
use Rattle.laws.specs.Counting.{sum}
use Rattle.calendar.specs.Days.{months_in_year}
use Rattle.lagoon_factor.specs.Rule.{million}
use Rattle.lagoon_month.specs.declared.Month.{Month}
use Rattle.lagoon_month.specs.Month.{empty_of}
use Rattle.lagoon_run.specs.declared.Totals.{Totals}
use Rattle.lagoon_run.specs.Run.{with_of, run_from, run_of, after, year_of}
use Rattle.lagoon_run.proofs.Parts.{Through, SameLagoon, AddsUp, Demand3}
use Rattle.lagoon_run.proofs.Same.{at}
use Rattle.lagoon_run.proofs.Conserved.{ConservedFrom, conserved}
use Rattle.lagoon_run.proofs.Demand3.{Beside, beside, demand_3}
use Rattle.lagoon_run.proofs.Years.{joined}
use Rattle.year_splitting.proofs.More.{EntersMore, More, more_degrades}

-- in one month: of what two lines enter, each rounded down by itself, at most a gram is lost against the whole; they share its temperature and drain mark
pub record Split (whole first second : Month) : Type 0 where
  pub no_more : first.entered.0 + second.entered.0 ≤ whole.entered.0
  pub gram_less : whole.entered.0 ≤ first.entered.0 + second.entered.0 + 1
  pub first_same : SameLagoon first whole
  pub second_same : SameLagoon second whole

-- over months 1 to n: the whole enters and degrades no less than the two lines together, at most a gram a month more of the one and two of the other
pub record FromFirstMonth (whole first second : Totals) (n : ℕ) : Type 0 where
  pub entered : first.entered.0 + second.entered.0 ≤ whole.entered.0
  pub degraded : first.degraded.0 + second.degraded.0 ≤ whole.degraded.0
  pub entered_close : whole.entered.0 ≤ first.entered.0 + second.entered.0 + n
  pub degraded_close : whole.degraded.0 ≤ first.degraded.0 + second.degraded.0 + 2 * n

entered_close :
    (less more : ℕ → Month) (n : ℕ) → Through n (λ m. (more m).entered.0 ≤ (less m).entered.0 + 1) →
    (run_of more n).entered.0 ≤ (run_of less n).entered.0 + n
unfolding run_from with_of
entered_close less more zero each = omega arith
entered_close less more (suc n) each =
    omega
    (arith, each (suc n) (omega arith) (omega arith), entered_close less more n (λ m low high. each m low (omega arith)))

-- Over n months after the first k: the two lines can be ahead by a gram for each of those k, and behind by a gram for each month and one more for each of the n.
pub record AfterMonths (whole first second : Totals) (k n : ℕ) : Type 0 where
  pub gained : first.degraded.0 + second.degraded.0 ≤ whole.degraded.0 + k
  pub lost : whole.degraded.0 ≤ first.degraded.0 + second.degraded.0 + k + 2 * n

-- n months, after the first k
abbrev pub after_months : ℕ → (ℕ → Month) → ℕ → Totals
after_months k months n = run_from (run_of months k).standing (after k months) n

-- The whole is held against one into which just what the two lines enter is entered: demand 3 is about that one, and the whole has more.
module _ (whole first second : ℕ → Month) where
  abbrev exact : ℕ → Month
  exact m = at (whole m).factor (whole m).drained ((first m).entered.0 + (second m).entered.0)

  abbrev Splits : ℕ → Type 0
  Splits m = Split (whole m) (first m) (second m)

  adds : (m : ℕ) → Splits m → AddsUp (exact m) (first m) (second m)
  adds m now =
      record {
        entered = refl;
        first_same = record { factor = now.first_same.factor; drained = now.first_same.drained };
        second_same = record { factor = now.second_same.factor; drained = now.second_same.drained };
      }

  enters : (m : ℕ) → Splits m → EntersMore (exact m) (whole m)
  enters m now = record { entered = now.no_more; same = record { factor = refl; drained = refl } }

  -- the three runs from the first month on
  record Held (n : ℕ) : Type 0 where
    third : Demand3 (run_of exact n) (run_of first n) (run_of second n) n
    kept : Beside (run_of exact n) (run_of first n) (run_of second n) (0 + n)
    grows : More (run_of exact n) (run_of whole n)
    conserved_whole : ConservedFrom empty_of (run_of whole n)
    close : (run_of whole n).entered.0 ≤ (run_of exact n).entered.0 + n

  held : (n : ℕ) → Through n Splits → Through n (λ m. (whole m).factor ≤ million) → Held n
  held n split small =
      let sums : Through n (λ m. AddsUp (exact m) (first m) (second m)) = λ m low high. adds m (split m low high) in
      record {
        third = demand_3 exact first second n sums small;
        kept = beside exact first second empty_of empty_of empty_of 0 refl n sums small;
        grows = more_degrades exact whole empty_of empty_of (omega arith) n (λ m low high. enters m (split m low high)) small;
        conserved_whole = conserved empty_of whole n small;
        close = entered_close exact whole n (λ m low high. (split m low high).gram_less);
      }

  pub from_first_month :
      (n : ℕ) → Through n Splits → Through n (λ m. (whole m).factor ≤ million) → FromFirstMonth (run_of whole n) (run_of first n) (run_of second n) n
  from_first_month n split small =
      let h = held n split small in
      record {
        entered = omega (arith, h.kept.entered, h.grows.entered);
        degraded = omega (arith, h.third.never_below, h.grows.degraded);
        entered_close = omega (arith, h.kept.entered, h.close);
        degraded_close = omega (arith, h.third, h.kept.entered, h.grows, h.conserved_whole, h.close);
      }

  module _ (k n : ℕ) (split : Through (k + n) Splits) (small : Through (k + n) (λ m. (whole m).factor ≤ million)) where
    later : (m : ℕ) → 1 ≤ m → m ≤ n → Splits (k + m)
    later m low high = split (k + m) (omega arith) (omega arith)

    later_small : Through n (λ m. (whole (k + m)).factor ≤ million)
    later_small m low high = small (k + m) (omega arith) (omega arith)

    early : Held k
    early = held k (λ m low high. split m low (omega arith)) (λ m low high. small m low (omega arith))

    -- no less stands in the whole than in the other, and so no less degrades in any month
    no_less : (after_months k exact n).degraded.0 ≤ (after_months k whole n).degraded.0
    no_less =
        (more_degrades (after k exact) (after k whole) (run_of exact k).standing (run_of whole k).standing early.grows.carried n
        (λ m low high. enters (k + m) (later m low high)) later_small).degraded

    -- and more stands in the two lines together, so that they lose no more than the rounding of those n months
    gram_a_month : (after_months k exact n).degraded.0 ≤ (after_months k first n).degraded.0 + (after_months k second n).degraded.0 + n
    gram_a_month =
        let gap = le_dest early.kept.carried in
        omega (
          arith,
          beside (after k exact) (after k first) (after k second) (run_of exact k).standing (run_of first k).standing (run_of second k).standing gap.0
              (omega arith) n (λ m low high. adds (k + m) (later m low high)) later_small,
          conserved (run_of exact k).standing (after k exact) n later_small,
          conserved (run_of first k).standing (after k first) n (λ m low high. rw (later m low high).first_same.factor (later_small m low high)),
          conserved (run_of second k).standing (after k second) n (λ m low high. rw (later m low high).second_same.factor (later_small m low high)),
        )

    pub after_months_lem : AfterMonths (after_months k whole n) (after_months k first n) (after_months k second n) k n
    after_months_lem =
        let late = held (k + n) split small in
        let w = (joined empty_of whole k n).degraded in
        let e = (joined empty_of exact k n).degraded in
        let a = (joined empty_of first k n).degraded in
        let b = (joined empty_of second k n).degraded in
        record {
          gained = omega (arith, early.third.at_most_n_above, late.third.never_below, no_less);
          lost = omega (arith, late.third.whole_conserved, late.grows, late.conserved_whole, late.close, early.grows.degraded, gram_a_month);
        }

-- what degrades in so many years, after so many before them
abbrev pub degraded_over : (ℕ → Month) → ℕ → ℕ → ℕ
degraded_over months before years = sum years (λ y. (year_of months (before + y)).degraded.0)

years_joined :
    (months : ℕ → Month) (before years : ℕ) →
    (run_of months (months_in_year * before + months_in_year * years)).degraded.0 ≡ (run_of months (months_in_year * before)).degraded.0 + degraded_over months before years
unfolding sum year_of
years_joined months before zero = rw (add-zero (months_in_year * before)) (omega arith)
years_joined months before (suc n) =
    let year : months_in_year * (before + suc n - 1) ≡ months_in_year * before + months_in_year * n = omega arith in
    let through : months_in_year * before + months_in_year * suc n ≡ months_in_year * before + months_in_year * n + months_in_year = omega arith in
    rw (year, through)
    (omega (arith, years_joined months before n, (joined empty_of months (months_in_year * before + months_in_year * n) months_in_year).degraded))

-- Over so many years, after so many before them.
pub record YearsDegraded (whole first second before years : ℕ) : Type 0 where
  pub gained : first + second ≤ whole + months_in_year * before
  pub lost : whole ≤ first + second + months_in_year * (before + 2 * years)

pub years_degraded :
    (whole first second : ℕ → Month) (before years : ℕ) →
    Through (months_in_year * (before + years)) (λ m. Split (whole m) (first m) (second m)) →
    Through (months_in_year * (before + years)) (λ m. (whole m).factor ≤ million) →
    YearsDegraded (degraded_over whole before years) (degraded_over first before years) (degraded_over second before years) before years
years_degraded whole first second before years split small =
    let k = months_in_year * before in
    let n = months_in_year * years in
    let apart = after_months_lem whole first second k n (λ m low high. split m low (omega arith)) (λ m low high. small m low (omega arith)) in
    let w = years_joined whole before years in
    let a = years_joined first before years in
    let b = years_joined second before years in
    omega (
      arith,
      apart,
      (joined empty_of whole k n).degraded,
      (joined empty_of first k n).degraded,
      (joined empty_of second k n).degraded,
    )
