-- The walk over the years: what is laid, and what the later years print, are together what is printed. Assumes nothing.
use mathlib.Core.Path.{◌≡◌, refl, sym, ap, ◌∙◌}
use mathlib.Core.List.{List, [], ◌++◌, append_assoc, append-nil}
use Prim.Native.Nat.{ℕ, suc, ◌+◌, ◌*◌, ◌-◌, ◌≤◌, ◌<◌}
use native.Mathlib.Omega.{arith}
use lib.ListN.{length}
use Rattle.refusals.specs.declared.Refusal.{Refusal}
use Rattle.year_months.specs.Series.{last_year}
use Rattle.year.specs.declared.Figures.{Figures}
use Rattle.std.specs.Prelude.{Result, Ok, Err}
use Rattle.year.specs.Answer.{answer_of}
use Rattle.print_page.specs.Page.{Lays}
use Rattle.print_refusal.specs.Text.{refusal_text}
use Rattle.print_page.proofs.Laying.{joined, laid_none}
use Rattle.print_year.specs.Text.{year_text}
use Rattle.print_years.specs.Text.{answer_text, years_from, printed}
use Rattle.print_years.specs.Page.{year_bytes}

-- the lines of a year and of those after it
unfoldable pub from : List ℕ → ℕ → List ℕ
from book year = years_from book year (suc last_year - year)

pub record Walked (book start : List ℕ) (year at : ℕ) (page : List ℕ) : Type 0 where
  pub first : 1 ≤ year
  pub last : year ≤ suc last_year
  pub room : at + year_bytes ≤ year * year_bytes
  pub text : List ℕ
  pub lays : Lays start 0 text at page
  pub rest : printed book ≡ text ++ from book year

pub begin : (book page : List ℕ) → Walked book page 1 0 page
unfolding from printed
begin book page =
    record { first = omega arith; last = omega arith; room = omega arith; text = []; lays = record { ends = refl; page = laid_none page }; rest = refl }

one_year : (book : List ℕ) (year : ℕ) → year ≤ last_year → from book year ≡ answer_text year (answer_of book year) (from book (year + 1))
unfolding from years_from
one_year book year h = let e : suc last_year - year ≡ suc (suc last_year - (year + 1)) = omega arith in ap (years_from book year) e

module _ {book start page : List ℕ} {year at : ℕ} (w : Walked book start year at page) (h : year ≤ last_year) {answer : Result Figures Refusal} (e : answer ≡ answer_of book year) where
  answered : printed book ≡ w.text ++ answer_text year answer (from book (year + 1))
  answered = w.rest ∙ ap (λ (t : List ℕ). w.text ++ t) (one_year book year h) ∙ ap (λ (a : Result Figures Refusal). w.text ++ answer_text year a (from book (year + 1))) (sym e)

  pub stated :
      {f : Figures} {end : ℕ} {after : List ℕ} → answer ≡ Ok f → Lays page at (year_text year f) end after → length (year_text year f) ≤ year_bytes →
      Walked book start (year + 1) end after
  unfolding answer_text
  stated {f} {end} {after} d x fits =
      record {
        first = omega arith;
        last = omega arith;
        room = omega (arith, w.room, x.ends);
        text = w.text ++ year_text year f;
        lays = joined w.lays x (omega arith);
        rest =
            answered ∙ ap (λ (a : Result Figures Refusal). w.text ++ answer_text year a (from book (year + 1))) d
            ∙ sym (append_assoc w.text (year_text year f) (from book (year + 1)));
      }

  pub refused :
      {refusal : Refusal} {end : ℕ} {after : List ℕ} → answer ≡ Err refusal → Lays page at (refusal_text refusal) end after →
      Lays start 0 (printed book) end after
  unfolding answer_text
  refused {refusal} {end} {after} d x =
      rw (answered ∙ ap (λ (a : Result Figures Refusal). w.text ++ answer_text year a (from book (year + 1))) d) (joined w.lays x (omega arith))

pub ended : {book start page : List ℕ} {year at : ℕ} → Walked book start year at page → last_year < year → Lays start 0 (printed book) at page
unfolding from years_from
ended {book} {start} {page} {year} {at} w h =
    let none : suc last_year - year ≡ 0 = omega arith in
    rw (w.rest ∙ ap (λ (n : ℕ). w.text ++ years_from book year n) none ∙ append-nil w.text) w.lays
