-- No two outcomes fit the contract of a public function. Assumes nothing.
use Rattle.laws.proofs.Determined.{OneAnswer, one}
use Rattle.meter_bytes.proofs.stated.Reads as Stated

pub stated_one : OneAnswer Stated.Learnt
stated_one κ a x y s t = one
