-- A program that only refuses breaks the promise: of posting, of a meter month, and of a year. Assumes nothing.
use Prim.Native.Nat.{ℕ}
use mathlib.Core.Bool.{true}
use mathlib.Core.List.{List}
use mathlib.Core.Path.{◌∙◌, subst}
use lib.Ieee.{Float}
use Rattle.std.specs.Prelude.{Result, Ok, Err}
use Rattle.refusals.specs.declared.Refusal.{Refusal}
use Rattle.units.specs.declared.methane.Methane.{Methane}
use Rattle.book.specs.Book.{empty_book}
use Rattle.book.specs.Valid.{Valid}
use Rattle.book.proofs.Kept.{empty_valid}
use Rattle.meter_hour.specs.Hour.{whole_efficiency}
use Rattle.year_months.specs.Series.{first_year}
use Rattle.year.specs.declared.Figures.{Figures}
use Rattle.wrong_programs.proofs.Promise.{KeepsAnswers, KeepsMeter, KeepsFeetMeter, KeepsYears, Answered}
use Rattle.wrong_programs.proofs.Records.{year_record}
use Rattle.wrong_programs.proofs.Answers.{year_taken, silent, out, month_weighed, silent_out, feet_month_weighed, year_stated}
use Rattle.wrong_programs.proofs.WorkedBook.{made}
use Rattle.wrong_programs.proofs.WorkedYear.{answered}

-- an answer is a refusal
abbrev pub IsRefusal : {A : Type 0} → Result A Refusal → Type 0
IsRefusal (Ok answer) = ⊥
IsRefusal (Err refusal) = Unit {0}

-- every record posted is refused
pub refuses_records : (answer : List ℕ → List ℕ → Result Unit Refusal) → ((book r : List ℕ) → Valid book → IsRefusal (answer book r)) → KeepsAnswers answer → ⊥
refuses_records answer refuses keeps =
    subst IsRefusal (keeps empty_book year_record empty_valid ∙ year_taken) (refuses empty_book year_record empty_valid)

-- every month of a meter is refused, of one in cubic metres or of one in cubic feet
pub refuses_months :
    (month : List Float → List Float → List ℕ → ℕ → Result Methane Refusal) →
    ((flows contents : List Float) (states : List ℕ) (efficiency : ℕ) → IsRefusal (month flows contents states efficiency)) → KeepsMeter month → ⊥
refuses_months month refuses keeps =
    subst IsRefusal (keeps silent silent out whole_efficiency ∙ month_weighed) (refuses silent silent out whole_efficiency)

pub refuses_feet_months :
    (month : List Float → List Float → List Float → List Float → List ℕ → ℕ → Result Methane Refusal) →
    ((flows contents temperatures pressures : List Float) (states : List ℕ) (efficiency : ℕ) → IsRefusal (month flows contents temperatures pressures states efficiency)) →
    KeepsFeetMeter month → ⊥
refuses_feet_months month refuses keeps =
    subst IsRefusal (keeps silent silent silent silent silent_out whole_efficiency ∙ feet_month_weighed) (refuses silent silent silent silent silent_out whole_efficiency)

-- a year is refused that 01 gives no refusal; and every year is: there is such a year, the first of 01's worked example
pub refuses_a_year : (answer : List ℕ → ℕ → Result Figures Refusal) (book : List ℕ) (year : ℕ) → Answered book year → IsRefusal (answer book year) → KeepsYears answer → ⊥
refuses_a_year answer book year a refuses keeps = subst IsRefusal (keeps book year a.valid ∙ year_stated book year a) refuses

pub refuses_years : (answer : List ℕ → ℕ → Result Figures Refusal) → ((book : List ℕ) (year : ℕ) → Valid book → IsRefusal (answer book year)) → KeepsYears answer → ⊥
refuses_years answer refuses keeps =
    let a = answered true in
    refuses_a_year answer (made true) first_year a (refuses (made true) first_year a.valid) keeps
