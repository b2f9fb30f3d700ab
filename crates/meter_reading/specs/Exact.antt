-- A reading by its exact value, None where it is turned down (01, "The meter month"; 02, (iii)). The kit's `fin s m e` is m * 2 ^ e, below zero where s is true, and 2 ^ e is the
-- fraction up e / down e.
use Rattle.std.specs.Prelude.{ℕ, ◌*◌, ◌/◌, Bool, true, false, cond, ◌&&◌, Option, Some, None}
use lib.{Dec.leb, Dec.eqb, Ieee.Float, Ieee.nan, Ieee.inf, Ieee.fin, Ieee.up, Ieee.down}

-- `factor` times the float's exact value, rounded down
unfoldable pub times_down : ℕ → Float → ℕ
times_down factor nan = 0
times_down factor (inf s) = 0
times_down factor (fin s m e) = factor * (m * up e) / down e

-- a number from `least` to `most`, and minus zero is 0 (01, "Refusal numbers", 11, says what is none)
unfoldable pub is_between : ℕ → ℕ → Float → Bool
is_between least most nan = false
is_between least most (inf s) = false
is_between least most (fin true m e) = eqb least 0 && eqb m 0
is_between least most (fin false m e) = leb (least * down e) (m * up e) && leb (m * up e) (most * down e)

-- a float from `least` to `most` is worth `factor` times its exact value, rounded down; any other is turned down
unfoldable pub scaled_of : ℕ → ℕ → ℕ → Float → Option ℕ
scaled_of factor least most x = cond (is_between least most x) (Some (times_down factor x)) None

-- a flow is from 0 to 100,000 cubic metres, and litres are a thousand times it
abbrev pub litres_of : Float → Option ℕ
litres_of flow = scaled_of 1000 0 100000 flow

-- a content is from 0 to 100 per cent, and is counted in hundredths of one
abbrev pub hundredths_of : Float → Option ℕ
hundredths_of content = scaled_of 100 0 100 content

-- a flow is from 0 to 400,000 cubic feet, and is counted in hundredths of one
abbrev pub cubic_feet_of : Float → Option ℕ
cubic_feet_of flow = scaled_of 100 0 400000 flow

-- a temperature is from 400 to 700 degrees Rankine, and is counted in hundredths of one
abbrev pub temperature_of : Float → Option ℕ
temperature_of degrees = scaled_of 100 400 700 degrees

-- a pressure is from 0 to 10 atm, and is counted in ten-thousandths of one
abbrev pub pressure_of : Float → Option ℕ
pressure_of atm = scaled_of 10000 0 10 atm
