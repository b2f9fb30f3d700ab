-- No two outcomes fit the contract of a public function. Assumes nothing.
use Rattle.laws.proofs.Determined.{OneAnswer, one}
use Rattle.meter_state.proofs.is_out.Reads as IsOut
use Rattle.meter_state.proofs.has.Reads as Has
use Rattle.meter_state.proofs.reading_at.Reads as ReadingAt

pub is_out_one : OneAnswer IsOut.Learnt
is_out_one κ a x y s t = one

pub has_one : OneAnswer Has.Learnt
has_one κ a x y s t = one

pub reading_at_one : OneAnswer ReadingAt.Learnt
reading_at_one κ a x y s t = one
