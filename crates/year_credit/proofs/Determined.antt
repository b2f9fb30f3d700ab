-- No two outcomes fit the contract of a public function. Assumes nothing.
use Rattle.laws.proofs.Determined.{OneAnswer, one}
use Rattle.year_credit.proofs.operator_of.Reads as OperatorOf
use Rattle.year_credit.proofs.total.Reads as Total
use Rattle.year_credit.proofs.Operator.metered.Reads as OperatorMetered

pub operator_of_one : OneAnswer OperatorOf.Learnt
operator_of_one κ a x y s t p q = one p.0 q.0

pub total_one : OneAnswer Total.Learnt
total_one κ a x y s t = one

pub operator_metered_one : OneAnswer OperatorMetered.Learnt
operator_metered_one κ a x y s t = one
