-- No two outcomes fit the contract of a public function. Assumes nothing.
use Rattle.laws.proofs.Determined.{OneOutcome}
use Rattle.print_page.proofs.Determined.{lays_one}
use Rattle.month.proofs.text.lay_answer.Reads as LayAnswer

pub lay_answer_one : OneOutcome LayAnswer.Learnt (λ κ s. s.1.0.now)
lay_answer_one κ a x y s t = lays_one
