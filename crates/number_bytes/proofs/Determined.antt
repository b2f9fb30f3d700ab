-- No two outcomes fit the contract of a public function. Assumes nothing.
use Rattle.laws.proofs.Determined.{OneAnswer, one}
use Rattle.number_bytes.proofs.signed.Reads as Signed
use Rattle.number_bytes.proofs.number.Reads as Number

pub signed_one : OneAnswer Signed.Learnt
signed_one κ a x y s t = one

pub number_one : OneAnswer Number.Learnt
number_one κ a x y s t p q = one p.0 q.0
