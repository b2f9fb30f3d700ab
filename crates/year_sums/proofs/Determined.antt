-- No two outcomes fit the contract of a public function. Assumes nothing.
use Rattle.laws.proofs.Determined.{OneAnswer, one}
use Rattle.year_sums.proofs.Sums.nothing.Reads as Nothing
use Rattle.year_sums.proofs.Sums.baseline_alone.Reads as BaselineAlone
use Rattle.year_sums.proofs.Sums.anaerobic.Reads as Anaerobic
use Rattle.year_sums.proofs.Sums.plus.Reads as Plus

pub nothing_one : OneAnswer Nothing.Learnt
nothing_one κ a x y s t = one

pub baseline_alone_one : OneAnswer BaselineAlone.Learnt
baseline_alone_one κ a x y s t = one

pub anaerobic_one : OneAnswer Anaerobic.Learnt
anaerobic_one κ a x y s t = one

pub plus_one : OneAnswer Plus.Learnt
plus_one κ a x y s t = one
