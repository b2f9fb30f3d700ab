-- No two outcomes fit the contract of a public function. Assumes nothing.
use Rattle.laws.proofs.Determined.{OneAnswer, one}
use Rattle.year_lines.proofs.sums_of.Reads as SumsOf

pub sums_of_one : OneAnswer SumsOf.Learnt
sums_of_one κ a x y s t p q = one p.0 q.0
