-- No two outcomes fit the contract of a public function. Assumes nothing.
use Rattle.laws.proofs.Determined.{OneAnswer, one}
use Rattle.year_shares.proofs.fit.Reads as Fit

pub fit_one : OneAnswer Fit.Learnt
fit_one κ a x y s t = one
