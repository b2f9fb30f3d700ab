-- What the meter's functions ask of the numbers of an hour, so that no product or sum passes 64 bits.
use Rattle.std.specs.Prelude.{ℕ}
use Rattle.meter_hour.specs.declared.Kind.{Kind, TheVariants.CubicMetres, TheVariants.CubicFeet}

-- the largest flow of an hour: 100,000 cubic metres, in litres; 400,000 cubic feet at 400 degrees and 10 atm, in hundredths of a standard
-- cubic foot
abbrev pub most_flow : Kind → ℕ
most_flow CubicMetres = 100000000
most_flow CubicFeet = 520000000

-- the largest content: 100 per cent, in hundredths
abbrev pub most_content : ℕ
most_content = 10000
