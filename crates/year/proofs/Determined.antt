-- No two outcomes fit the contract of a public function. Assumes nothing.
use Rattle.laws.proofs.Determined.{OneAnswer, one}
use Rattle.year.proofs.year.Reads as Year

pub year_one : OneAnswer Year.Learnt
year_one κ a x y s t = one
