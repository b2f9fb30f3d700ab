-- No two outcomes fit the contract of a public function. Assumes nothing.
use Rattle.laws.proofs.Determined.{OneAnswer, one}
use Rattle.lagoon_run.proofs.run.Reads as Run

pub run_one : OneAnswer Run.Learnt
run_one κ a x y s t = one
