-- No two outcomes fit the contract of a public function. Assumes nothing.
use Rattle.laws.proofs.Determined.{OneAnswer, one}
use Rattle.number_float.proofs.float_at.Reads as FloatAt

pub float_at_one : OneAnswer FloatAt.Learnt
float_at_one κ a x y s t = one
