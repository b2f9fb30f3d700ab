-- No two outcomes fit the contract of a public function. Assumes nothing.
use Rattle.laws.proofs.Determined.{OneAnswer, one}
use Rattle.year_needs.proofs.complete.Reads as Complete

pub complete_one : OneAnswer Complete.Learnt
complete_one κ a x y s t = one
