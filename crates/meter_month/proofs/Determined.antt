-- No two outcomes fit the contract of a public function. Assumes nothing.
use Rattle.laws.proofs.Determined.{OneAnswer, one}
use Rattle.meter_month.proofs.month.Reads as Month
use Rattle.meter_month.proofs.feet_month.Reads as FeetMonth

pub month_one : OneAnswer Month.Learnt
month_one κ a x y s t = one

pub feet_month_one : OneAnswer FeetMonth.Learnt
feet_month_one κ a x y s t = one
