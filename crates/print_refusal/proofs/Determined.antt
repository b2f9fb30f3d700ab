-- No two outcomes fit the contract of a public function. Assumes nothing.
use Rattle.laws.proofs.Determined.{OneOutcome}
use Rattle.print_page.proofs.Determined.{lays_one}
use Rattle.print_refusal.proofs.lay_refusal.Reads as LayRefusal
use Rattle.print_refusal.proofs.lay_numbered.Reads as LayNumbered

pub lay_refusal_one : OneOutcome LayRefusal.Learnt (λ κ s. s.0.now)
lay_refusal_one κ a x y s t = lays_one

pub lay_numbered_one : OneOutcome LayNumbered.Learnt (λ κ s. s.0.now)
lay_numbered_one κ a x y s t = lays_one
