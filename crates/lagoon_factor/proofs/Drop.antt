-- The factor is not steady, nor does it rise throughout: it drops from 4.9 to 5.0 degrees. Assumes nothing.
use Prim.Native.Nat.{◌<◌}
use lib.Dec.{lit<}
use lib.IntN.{pos}
use Rattle.lagoon_factor.specs.Rule.{denominator, added, subtracted}
use Rattle.lagoon_factor.specs.Factor.{summed_of, ruled_of, factor_of}

pub drops : factor_of (pos 50) < factor_of (pos 49)
unfolding factor_of ruled_of summed_of denominator added subtracted
drops = lit< tt
