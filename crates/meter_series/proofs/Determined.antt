-- No two outcomes fit the contract of a public function. Assumes nothing.
use Rattle.laws.proofs.Determined.{OneAnswer, one}
use Rattle.meter_series.proofs.at.Reads as At

pub at_one : OneAnswer At.Learnt
at_one κ a x y s t = one
