-- A program that gives the same tonnes breaks the promise: of net, and of the year. Assumes nothing.
use Prim.Native.Nat.{ℕ}
use mathlib.Core.Bool.{true, false}
use mathlib.Core.List.{List}
use mathlib.Core.Path.{◌≡◌, refl, sym, ap, ◌∙◌}
use native.Mathlib.Omega.{arith}
use lib.IntN.{ℤ, pos, neg_ℤ}
use Rattle.std.specs.Prelude.{Result, Ok}
use Rattle.refusals.specs.declared.Refusal.{Refusal}
use Rattle.tonnes.specs.Tonnes.{net_of}
use Rattle.book.specs.Valid.{Valid}
use Rattle.year_months.specs.Series.{first_year}
use Rattle.year.specs.Figures.{figures_of}
use Rattle.year.specs.declared.Figures.{Figures}
use Rattle.wrong_programs.proofs.Promise.{KeepsNet, KeepsYears, Answered}
use Rattle.wrong_programs.proofs.Answers.{year_stated}
use Rattle.wrong_programs.proofs.WorkedBook.{made}
use Rattle.wrong_programs.proofs.WorkedYear.{answered, worked_figures, other_tonnes}

-- every total gets the same tonnes: 500,000 and 500,001 grams have other ones
pub same_net : (net : ℤ → ℤ) (tonnes : ℤ) → ((total : ℤ) → net total ≡ tonnes) → KeepsNet net → ⊥
same_net net tonnes same keeps =
    let half : net_of (pos 500000) ≡ pos 0 = refl in
    let above_half : net_of (pos 500001) ≡ pos 1 = refl in
    let e : pos 0 ≡ pos 1 = sym half ∙ sym (keeps (pos 500000)) ∙ same (pos 500000) ∙ sym (same (pos 500001)) ∙ keeps (pos 500001) ∙ above_half in
    let z : ◌≡◌ {A = ℕ} 0 1 = cc in
    omega arith

-- every year that is stated gets the same tonnes
abbrev pub Same : (List ℕ → ℕ → Result Figures Refusal) → ℤ → Type 0
Same answer tonnes = (book : List ℕ) (year : ℕ) (figures : Figures) → Valid book → answer book year ≡ Ok figures → figures.net ≡ tonnes

-- two years that 01 gives no refusal, and whose tonnes differ, show it; and there are two: the first of 01's worked example has 498, and where device 1
-- destroyed nothing it has -6
pub same_as_another :
    (answer : List ℕ → ℕ → Result Figures Refusal) (tonnes : ℤ) → Same answer tonnes → (a b : List ℕ) (y z : ℕ) → Answered a y → Answered b z →
    ((figures_of a y).net ≡ (figures_of b z).net → ⊥) → KeepsYears answer → ⊥
same_as_another answer tonnes same a b y z p q differ keeps =
    differ
    (same a y (figures_of a y) p.valid (keeps a y p.valid ∙ year_stated a y p)
    ∙ sym (same b z (figures_of b z) q.valid (keeps b z q.valid ∙ year_stated b z q)))

pub same_years : (answer : List ℕ → ℕ → Result Figures Refusal) (tonnes : ℤ) → Same answer tonnes → KeepsYears answer → ⊥
same_years answer tonnes same =
    same_as_another answer tonnes same (made true) (made false) first_year first_year (answered true) (answered false)
    (λ e.
    let n : pos 498 ≡ neg_ℤ (pos 6) = sym (ap (λ (f : Figures). f.net) worked_figures) ∙ e ∙ other_tonnes in
    let z : ◌≡◌ {A = ℕ} 0 1 = cc in
    omega arith)
