-- A float as four bytes (01, "The meter month").
use Rattle.std.specs.Prelude.{ℕ, List}
use lib.{Ieee.Float, Ieee.binary32, Ieee.of_bits}
use Rattle.number_bytes.specs.Number.{number_at}

abbrev pub float_bytes : ℕ
float_bytes = 4

-- the float from a place on; every pattern that is no number gives the one float that is none
abbrev pub float_at : List ℕ → ℕ → Float
float_at bytes at = of_bits binary32 (number_at bytes at float_bytes)
