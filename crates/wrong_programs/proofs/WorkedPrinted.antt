-- What is printed for the book of 01's worked example ("Figures to check"), whole: its first year is stated, and its second lacks month 13.
-- Assumes nothing.
use Prim.Native.Nat.{ℕ, zero, suc, ◌+◌, ◌≤◌, ◌<◌}
use mathlib.Core.Bool.{Bool, true, false, cond}
use mathlib.Core.List.{List, [], ◌∷◌}
use mathlib.Core.Path.{◌≡◌, refl, sym, ap, ◌∙◌}
use native.Mathlib.Omega.{arith}
use native.Mathlib.Nat.{zero-add, add-zero}
use borrow.Author.Tests.{le-ltb}
use lib.Dec.{lit≤}
use Rattle.laws.specs.Counting.{first_from}
use Rattle.laws.proofs.Counting.{found}
use Rattle.std.specs.Prelude.{Result, Ok, Err, Some, None}
use Rattle.refusals.specs.Refusal.{refusal}
use Rattle.refusals.specs.declared.Refusal.{Refusal}
use Rattle.refusals.specs.declared.Reason.TheVariants.{Lacking}
use Rattle.calendar.specs.Days.{months_in_year}
use Rattle.record_table.specs.Table.{tp}
use Rattle.number_bytes.specs.Number.{signed_of}
use Rattle.record_table.specs.Slot.{slot_of}
use Rattle.book_slots.specs.Field.{number_of}
use Rattle.book_slots.specs.Reads.{temperature_of}
use Rattle.book_theorems.proofs.Slotwise.{filled_held}
use Rattle.year_months.specs.Series.{first_year, filled, months_before, months_through}
use Rattle.year_needs.specs.Complete.{unmeasured, lacks, lacking_of, complete_of}
use Rattle.year.specs.Answer.{answer_of}
use Rattle.year.specs.declared.Figures.{Figures}
use Rattle.print_page.specs.Number.{word}
use Rattle.print_years.specs.Text.{answer_text, years_from, printed}
use Rattle.print_years.proofs.Worked.{worked, printed_whole}
use Rattle.wrong_programs.proofs.Answers.{year_stated}
use Rattle.wrong_programs.proofs.WorkedBook.{made, Stands, made_stands}
use Rattle.wrong_programs.proofs.WorkedReads.{year_is, temperature_is, counted, lined}
use Rattle.wrong_programs.proofs.WorkedYear.{answered, worked_figures}

-- a search goes on past k numbers that fail
past : (a k n : ℕ) (test : ℕ → Bool) → ((i : ℕ) → a ≤ i → i < a + k → test i ≡ false) → first_from a (k + n) test ≡ first_from (a + k) n test
unfolding first_from
past a zero n test fails = rw (zero-add n, add-zero a) refl
past a (suc k) n test fails =
    let more : suc k + n ≡ suc (k + n) = omega arith in
    let on : a + 1 + k ≡ a + suc k = omega arith in
    ap (λ (j : ℕ). first_from a j test) more
    ∙ ap (λ (b : Bool). cond b a (first_from (a + 1) (k + n) test)) (fails a (omega arith) (omega arith))
    ∙ past (a + 1) k n test (λ i low high. fails i (omega arith) (omega arith))
    ∙ ap (λ (i : ℕ). first_from i n test) on

abbrev second_year : ℕ
second_year = 2

module _ (book : List ℕ) (destroyed : Bool) (s : Stands book destroyed) where
  unmeasured_month : unmeasured (temperature_of book (suc months_in_year)) ≡ true
  unmeasured_month =
      ap (λ (b : Bool). unmeasured (cond b (Some (signed_of (number_of book tp (suc months_in_year ∷ []) 2))) None))
      (filled_held book (slot_of tp (suc months_in_year ∷ [])) s.month_after)

  month_lacks : lacks book second_year (suc months_in_year) ≡ true
  unfolding lacks
  month_lacks = rw unmeasured_month refl

  earlier_lack_nothing : (m : ℕ) → 1 ≤ m → m < 1 + months_in_year → lacks book second_year m ≡ false
  unfolding lacks
  earlier_lack_nothing m low high =
      rw (
        ap unmeasured (temperature_is book destroyed s m low (omega arith)),
        counted book destroyed s m low (omega arith),
        le-ltb (months_before second_year) m (omega arith),
      ) refl

  month_lacking : suc months_in_year ≡ lacking_of book second_year
  unfolding lacking_of
  month_lacking =
      found (months_through second_year) (suc months_in_year) (lacks book second_year)
      (past 1 months_in_year months_in_year (lacks book second_year) earlier_lack_nothing) (lit≤ tt) month_lacks

  second : answer_of book second_year ≡ Err (refusal Lacking (suc months_in_year))
  unfolding answer_of complete_of
  second = rw (ap filled (year_is book destroyed s), lined book destroyed s, sym month_lacking) refl

pub worked_printed :
    printed (made true)
    ≡ word "year 1\nentered 175200000 degraded 175200000 removed 0 carried 0\nbaseline 600445440 project 12000000 metered 504000000\nnet 498 credited 498\nrefused 8 at 13\n"
unfolding printed years_from
worked_printed =
    let first_is = year_stated (made true) first_year (answered true) ∙ ap Ok worked_figures in
    let second_is = second (made true) true (made_stands true) in
    ap (λ (a : Result Figures Refusal). answer_text 1 a (answer_text 2 (answer_of (made true) 2) later)) first_is
    ∙ ap (λ (a : Result Figures Refusal). answer_text 1 (Ok worked) (answer_text 2 a later)) second_is
    ∙ printed_whole later
  where
    later : List ℕ
    later = years_from (made true) 3 8
