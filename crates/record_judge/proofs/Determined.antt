-- No two outcomes fit the contract of a public function. Assumes nothing.
use Rattle.laws.proofs.Determined.{OneAnswer, one}
use Rattle.record_judge.proofs.judge.Reads as Judge
use Rattle.record_judge.proofs.is_defaults.Reads as IsDefaults
use Rattle.record_judge.proofs.mark.Mark.of.Reads as MarkOf

pub judge_one : OneAnswer Judge.Learnt
judge_one κ a x y s t = one

pub is_defaults_one : OneAnswer IsDefaults.Learnt
is_defaults_one κ a x y s t = one

pub mark_of_one : OneAnswer MarkOf.Learnt
mark_of_one κ a x y s t = one
