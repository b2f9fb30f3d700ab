-- No two outcomes fit the contract of a public function. Assumes nothing.
use Prim.Native.Nat.{ℕ}
use mathlib.Core.Path.{◌≡◌}
use mathlib.Core.List.{List}
use Rattle.laws.proofs.Determined.{OneOutcome, one}
use Rattle.print_page.specs.Page.{Lays}
use Rattle.print_page.proofs.lay_figure.Reads as LayFigure
use Rattle.print_page.proofs.lay_word.Reads as LayWord
use Rattle.print_page.proofs.lay_signed.Reads as LaySigned

-- what is laid, and where, decides the page afterwards and the place after it
pub lays_one :
    {before text after after' : List ℕ} {at end end' : ℕ} → Lays before at text end after → Lays before at text end' after' →
    (end ≡ end') × (after ≡ after')
lays_one p q = (one p.ends q.ends, one p.page q.page)

pub lay_figure_one : OneOutcome LayFigure.Learnt (λ κ s. s.0.now)
lay_figure_one κ a x y s t = lays_one

pub lay_word_one : OneOutcome LayWord.Learnt (λ κ s. s.0.now)
lay_word_one κ a x y s t = lays_one

pub lay_signed_one : OneOutcome LaySigned.Learnt (λ κ s. s.0.now)
lay_signed_one κ a x y s t = lays_one
