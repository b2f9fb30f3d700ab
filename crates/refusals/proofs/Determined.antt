-- No two outcomes fit the contract of a public function. Assumes nothing.
use Rattle.laws.proofs.Determined.{OneAnswer, one}
use Rattle.refusals.proofs.Reason.number.Reads as Number
use Rattle.refusals.proofs.Reason.at.Reads as At

pub number_one : OneAnswer Number.Learnt
number_one κ a x y s t = one

pub at_one : OneAnswer At.Learnt
at_one κ a x y s t = one
