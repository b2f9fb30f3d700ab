-- No two outcomes fit the contract of a public function. Assumes nothing.
use Rattle.laws.proofs.Determined.{OneAnswer, one}
use Rattle.record_fields.proofs.nonzero.Reads as Nonzero
use Rattle.record_fields.proofs.outside.Reads as Outside

pub nonzero_one : OneAnswer Nonzero.Learnt
nonzero_one κ a x y s t = one

pub outside_one : OneAnswer Outside.Learnt
outside_one κ a x y s t = one
