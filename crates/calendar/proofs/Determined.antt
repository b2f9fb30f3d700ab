-- No two outcomes fit the contract of a public function. Assumes nothing.
use Rattle.laws.proofs.Determined.{OneAnswer, one}
use Rattle.calendar.proofs.days.Reads as Days

pub days_one : OneAnswer Days.Learnt
days_one κ a x y s t = one
