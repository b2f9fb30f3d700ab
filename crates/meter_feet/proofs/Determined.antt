-- No two outcomes fit the contract of a public function. Assumes nothing.
use Rattle.laws.proofs.Determined.{OneAnswer, one}
use Rattle.meter_feet.proofs.recorded.Reads as Recorded
use Rattle.meter_feet.proofs.recorded_at.Reads as RecordedAt

pub recorded_one : OneAnswer Recorded.Learnt
recorded_one κ a x y s t = one

pub recorded_at_one : OneAnswer RecordedAt.Learnt
recorded_at_one κ a x y s t = one
