-- No two outcomes fit the contract of a public function. `fill` tells the series that its array holds, which fixes the array.
-- Assumes nothing.
use lib.Seq.{ext_get_or}
use Rattle.std.specs.Prelude.{None}
use Rattle.laws.proofs.Determined.{OneAnswer, one}
use Rattle.meter_gaps.proofs.fill.Reads as Fill

pub fill_one : OneAnswer Fill.Learnt
fill_one κ a x y s t p q = ext_get_or None x y (one p.0 q.0) (λ h inside. one (p.1 h) (q.1 h))
