-- No two outcomes fit the contract of a public function. Assumes nothing.
use Rattle.laws.proofs.Determined.{OneAnswer, one}
use Rattle.lagoon_month.proofs.entered.Reads as Entered
use Rattle.lagoon_month.proofs.Standing.empty.Reads as StandingEmpty
use Rattle.lagoon_month.proofs.Standing.carried.Reads as StandingCarried
use Rattle.lagoon_month.proofs.Standing.month.Reads as StandingMonth

pub entered_one : OneAnswer Entered.Learnt
entered_one κ a x y s t = one

pub standing_empty_one : OneAnswer StandingEmpty.Learnt
standing_empty_one κ a x y s t = one

pub standing_carried_one : OneAnswer StandingCarried.Learnt
standing_carried_one κ a x y s t = one

pub standing_month_one : OneAnswer StandingMonth.Learnt
standing_month_one κ a x y s t = one
