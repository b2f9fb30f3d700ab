-- What a program promises (01, "What the contracts owe"). A program is any function whatever of what a public function is given, and it keeps the
-- promise where it answers as that function's contract says. Assumes nothing.
use Prim.Native.Nat.{ℕ, ◌<◌}
use mathlib.Core.List.{List}
use mathlib.Core.Path.{◌≡◌}
use lib.Ieee.{Float}
use lib.IntN.{ℤ}
use lib.ListN.{length}
use Rattle.std.specs.Prelude.{Result, Ok}
use Rattle.refusals.specs.declared.Refusal.{Refusal}
use Rattle.units.specs.declared.methane.Methane.{Methane}
use Rattle.tonnes.specs.Tonnes.{net_of}
use Rattle.lagoon_run.specs.Asks.{RunFits}
use Rattle.lagoon_run.specs.Run.{run_from, months_of}
use Rattle.lagoon_month.specs.declared.Month.{Month}
use Rattle.lagoon_month.specs.declared.Standing.{Standing}
use Rattle.lagoon_run.specs.declared.Totals.{Totals}
use Rattle.record_table.specs.Table.{categories}
use Rattle.book.specs.Book as Book
use Rattle.book.specs.Valid.{Valid}
use Rattle.meter_month.specs.Month.{month_of, feet_month_of}
use Rattle.year_months.specs.Asks.{InPeriod}
use Rattle.year_needs.specs.Complete.{complete_of}
use Rattle.year_shares.specs.Shares.{over_of}
use Rattle.year.specs.Answer as Year
use Rattle.year.specs.declared.Figures.{Figures}

-- posting: the answer, and the book afterwards
abbrev pub KeepsAnswers : (List ℕ → List ℕ → Result Unit Refusal) → Type 0
KeepsAnswers answer = (book r : List ℕ) → Valid book → answer book r ≡ Book.answer_of book r

abbrev pub KeepsBooks : (List ℕ → List ℕ → List ℕ) → Type 0
KeepsBooks after = (book r : List ℕ) → Valid book → after book r ≡ Book.book_after book r

-- the month of a meter in cubic metres, and of one in cubic feet
abbrev pub KeepsMeter : (List Float → List Float → List ℕ → ℕ → Result Methane Refusal) → Type 0
KeepsMeter month =
    (flows contents : List Float) (states : List ℕ) (efficiency : ℕ) → month flows contents states efficiency ≡ month_of flows contents states efficiency

abbrev pub KeepsFeetMeter : (List Float → List Float → List Float → List Float → List ℕ → ℕ → Result Methane Refusal) → Type 0
KeepsFeetMeter month =
    (flows contents temperatures pressures : List Float) (states : List ℕ) (efficiency : ℕ) →
    month flows contents temperatures pressures states efficiency ≡ feet_month_of flows contents temperatures pressures states efficiency

-- the year
abbrev pub KeepsYears : (List ℕ → ℕ → Result Figures Refusal) → Type 0
KeepsYears answer = (book : List ℕ) (year : ℕ) → Valid book → answer book year ≡ Year.answer_of book year

-- a total in tonnes
abbrev pub KeepsNet : (ℤ → ℤ) → Type 0
KeepsNet net = (total : ℤ) → net total ≡ net_of total

-- the months of a lagoon that a slice holds, from a standing, within what the function asks
abbrev pub KeepsRun : (Standing → List Month → Totals) → Type 0
KeepsRun run =
    (from : Standing) (months : List Month) → RunFits from months → run from months ≡ run_from from (months_of months) (length months)

-- a year that 01 gives no refusal: one of the period, with the records that it needs, and no category whose shares pass the whole
pub record Answered (book : List ℕ) (year : ℕ) : Type 0 where
  pub valid : Valid book
  pub period : InPeriod year
  pub complete : complete_of book year ≡ Ok tt
  pub shares : categories < over_of book
