-- The exact value at its edges, computed on the definitions: 01's figure of 60.1, the zeros, the two ends of a range, and what is turned down.
-- Assumes nothing.
use Rattle.std.proofs.Common.{◌≡◌, ℕ, Some, None, false, refl}
use lib.Ieee.{Float, binary32, round, of_bits}
use Rattle.meter_reading.specs.Exact.{times_down, is_between, scaled_of, litres_of, hundredths_of, cubic_feet_of, temperature_of, pressure_of}

-- the f32 nearest to n / d
abbrev nearest : ℕ → ℕ → Float
nearest n d = round binary32 false n d

abbrev pattern : ℕ → Float
pattern bits = of_bits binary32 bits

pub record Edges : Type 0 where
  pub figure : hundredths_of (nearest 601 10) ≡ Some 6009
  pub figure_pattern : hundredths_of (pattern 0x4270_6666) ≡ Some 6009
  pub zero : litres_of (pattern 0) ≡ Some 0
  pub minus_zero : litres_of (pattern 0x8000_0000) ≡ Some 0
  pub smallest : litres_of (pattern 1) ≡ Some 0
  pub below_zero : litres_of (pattern 0x8000_0001) ≡ None
  pub most_flow_lem : litres_of (nearest 100000 1) ≡ Some 100000000
  pub past_flow : litres_of (pattern 0x47c3_5001) ≡ None
  pub most_content_lem : hundredths_of (nearest 100 1) ≡ Some 10000
  pub past_content : hundredths_of (pattern 0x42c8_0001) ≡ None
  pub infinite : litres_of (pattern 0x7f80_0000) ≡ None
  pub minus_infinite : litres_of (pattern 0xff80_0000) ≡ None
  pub no_number : litres_of (pattern 0x7fc0_0000) ≡ None
  pub most_cubic_feet : cubic_feet_of (nearest 400000 1) ≡ Some 40000000
  pub past_cubic_feet : cubic_feet_of (pattern 0x48c3_5001) ≡ None
  pub below_least_temperature : temperature_of (pattern 0x43c7_ffff) ≡ None
  pub least_temperature : temperature_of (nearest 400 1) ≡ Some 40000
  pub temperature : temperature_of (nearest 51999 100) ≡ Some 51998
  pub most_temperature : temperature_of (nearest 700 1) ≡ Some 70000
  pub past_temperature : temperature_of (pattern 0x442f_0001) ≡ None
  pub temperature_minus_zero : temperature_of (pattern 0x8000_0000) ≡ None
  pub pressure_minus_zero : pressure_of (pattern 0x8000_0000) ≡ Some 0
  pub most_pressure : pressure_of (nearest 10 1) ≡ Some 100000
  pub past_pressure : pressure_of (pattern 0x4120_0001) ≡ None

pub edges : Edges
unfolding scaled_of is_between times_down round of_bits
edges =
    record {
      figure = refl;
      figure_pattern = refl;
      zero = refl;
      minus_zero = refl;
      smallest = refl;
      below_zero = refl;
      most_flow_lem = refl;
      past_flow = refl;
      most_content_lem = refl;
      past_content = refl;
      infinite = refl;
      minus_infinite = refl;
      no_number = refl;
      most_cubic_feet = refl;
      past_cubic_feet = refl;
      below_least_temperature = refl;
      least_temperature = refl;
      temperature = refl;
      most_temperature = refl;
      past_temperature = refl;
      temperature_minus_zero = refl;
      pressure_minus_zero = refl;
      most_pressure = refl;
      past_pressure = refl;
    }
