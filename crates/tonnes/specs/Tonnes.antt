-- From a signed total of grams of carbon dioxide equivalent to tonnes (01, "The year").
use Rattle.std.specs.Prelude.{ℕ}
use lib.{IntN.ℤ, IntN.pos, IntN.negsuc, IntN.◌+ℤ◌, Signed.shr_z}

-- net: the nearest tonne, an exact half to the lower number (house). `shr_z z m` is z / m rounded down.
abbrev pub net_of : ℤ → ℤ
net_of total = shr_z (total +ℤ pos 499999) 1000000

-- credited: net, or 0 where net is negative
abbrev pub credited_of : ℤ → ℕ
credited_of (pos tonnes) = tonnes
credited_of (negsuc tonnes) = 0
