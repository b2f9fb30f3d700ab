-- No two outcomes fit the contract of a public function. Assumes nothing.
use Rattle.laws.proofs.Determined.{OneAnswer, one}
use Rattle.tonnes.proofs.net.Reads as Net
use Rattle.tonnes.proofs.credited.Reads as Credited

pub net_one : OneAnswer Net.Learnt
net_one κ a x y s t = one

pub credited_one : OneAnswer Credited.Learnt
credited_one κ a x y s t = one
