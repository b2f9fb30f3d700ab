-- No two outcomes fit the contract of a public function. Assumes nothing.
use Rattle.laws.proofs.Determined.{OneAnswer, one}
use Rattle.meter_hour.proofs.recorded_at.Reads as RecordedAt
use Rattle.meter_hour.proofs.hour_grams.Reads as HourGrams

pub recorded_at_one : OneAnswer RecordedAt.Learnt
recorded_at_one κ a x y s t = one

pub hour_grams_one : OneAnswer HourGrams.Learnt
hour_grams_one κ a x y s t = one
