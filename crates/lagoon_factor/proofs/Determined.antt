-- No two outcomes fit the contract of a public function. Assumes nothing.
use Rattle.laws.proofs.Determined.{OneAnswer, one}
use Rattle.lagoon_factor.proofs.factor.Reads as Factor

pub factor_one : OneAnswer Factor.Learnt
factor_one κ a x y s t = one
