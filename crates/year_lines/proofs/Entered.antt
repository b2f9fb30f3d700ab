-- What a line enters in the months of a year, from what the code read: its numbers, the sum of the year's heads and the days. Assumes nothing.
use Prim.Native.Nat.{ℕ, ◌+◌, ◌≤◌, ◌<◌}
use mathlib.Core.Bool.{Bool}
use mathlib.Core.List.{List}
use mathlib.Core.Path.{refl, ap, sym, ◌≡◌, ◌∙◌}
use native.Mathlib.Decide.{dec_lt}
use native.Mathlib.Omega.{arith}
use lib.ListN.{get_or, get_or-eq_default}
use Rattle.calendar.specs.Days.{months_in_year}
use Rattle.units.specs.declared.solids.Solids.{Solids}
use Rattle.lagoon_month.specs.declared.Month.{Month}
use Rattle.book_herd.specs.Herd.{line_of, drained_of}
use Rattle.book_herd.specs.declared.Line.{Line}
use Rattle.year_months.specs.Asks.{HoldsYear}
use Rattle.year_months.specs.Series.{months_before, year_at, days_at, factor_at}
use Rattle.year_months.proofs.Arrays.{array_at}
use Rattle.year_months.proofs.Years.{own_year}
use Rattle.year_heads.specs.Heads.{heads_of}
use Rattle.year_lines.specs.Lines.{entered_by, entered_at, month_at}
use Rattle.year_lines.proofs.Ranges.{days_most}

-- the days of a book are a month's
pub days_held : (book : List ℕ) (year : ℕ) {days : List ℕ} → HoldsYear ℕ 0 year (days_at book) days → (i : ℕ) → get_or days i 0 ≤ 31
days_held book year {days} held i =
    elim (dec_lt i months_in_year) [
      | yes inside ↦ rw (array_at held i inside) (days_most book (months_before year + i + 1))
      | no past ↦ rw (get_or-eq_default days 0 {n = i} (omega (arith, held.long))) (omega arith)
    ]

-- a month of a line, from its parts
abbrev pub made : Solids → ℕ → Bool → Month
made entered factor drained = record { entered = entered; factor = factor; drained = drained }

module _ (book : List ℕ) (line year : ℕ) {before : ℕ} (begins : before ≡ months_before year) (passed : ℕ) (inside : passed < months_in_year) where
  abbrev here : ℕ
  here = before + passed + 1

  own : 1 ≤ year → year ≡ year_at here
  own some =
      let e : months_before year + (passed + 1) ≡ here = omega (arith, begins) in
      sym (own_year year (passed + 1) some (omega arith) (omega arith)) ∙ ap year_at e

  pub entry_is :
      1 ≤ year → {numbers : Line} {heads : ℕ} → numbers ≡ line_of book line → heads ≡ heads_of book year numbers.category → {days : List ℕ} →
      HoldsYear ℕ 0 year (days_at book) days → {entered : Solids} → entered ≡ entered_by heads numbers (get_or days passed 0) →
      entered ≡ entered_at book line here
  unfolding entered_at
  entry_is some {numbers} read summed has_days came =
      let days_are = array_at has_days passed inside ∙ ap (λ (b : ℕ). days_at book (b + passed + 1)) (sym begins) in
      rw (came, days_are)
      (ap (λ (h : ℕ). entered_by h numbers (days_at book here)) (summed ∙ ap (λ (y : ℕ). heads_of book y numbers.category) (own some)) ∙
      ap (λ (x : Line). entered_by (heads_of book (year_at here) x.category) x (days_at book here)) read)

  pub month_is :
      {factors : List ℕ} → HoldsYear ℕ 0 year (factor_at book) factors → {entered : Solids} {drained : Bool} → entered ≡ entered_at book line here →
      drained ≡ drained_of book line here → made entered (get_or factors passed 0) drained ≡ month_at book line here
  unfolding month_at
  month_is has_factors came drained_is =
      let factor_is = array_at has_factors passed inside ∙ ap (λ (b : ℕ). factor_at book (b + passed + 1)) (sym begins) in
      rw (came, factor_is, drained_is) refl
