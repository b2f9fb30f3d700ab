-- An hour in cubic feet at its edges, computed on the definitions: the standard's own flow, the ends of each range and what lies past them, and what
-- each part of the state leaves out. Assumes nothing.
use mathlib.Core.Path.{◌≡◌, refl}
use mathlib.Core.Bool.{false}
use Prim.Native.Nat.{ℕ}
use lib.Ieee.{Float, nan, binary32, round, of_bits}
use Rattle.meter_reading.specs.Exact.{times_down, is_between, scaled_of}
use Rattle.std.specs.Prelude.{Option, Some, None}
use Rattle.meter_hour.specs.declared.Recorded.{Recorded}
use Rattle.meter_hour.specs.declared.Kind.TheVariants.{CubicFeet}
use Rattle.meter_hour.specs.Hour.{grams_in}
use Rattle.meter_feet.specs.Feet.{corrected_of, flow_in, content_in, recorded_of}
use Rattle.meter_feet.proofs.Looked.{hour}

-- the f32 nearest to n / d
abbrev nearest : ℕ → ℕ → Float
nearest n d = round binary32 false n d

abbrev pattern : ℕ → Float
pattern bits = of_bits binary32 bits

-- one with 100 cubic feet at 60 per cent, 520 degrees and 1 atm, of which one reading is another
abbrev with_flow : ℕ → Float → Option Recorded
with_flow state x = hour state x (nearest 60 1) (nearest 520 1) (nearest 1 1)

abbrev with_temperature : ℕ → Float → Option Recorded
with_temperature state x = hour state (nearest 100 1) (nearest 60 1) x (nearest 1 1)

abbrev with_pressure : ℕ → Float → Option Recorded
with_pressure state x = hour state (nearest 100 1) (nearest 60 1) (nearest 520 1) x

-- an hour that is taken, with these two
abbrev taken : Option ℕ → Option ℕ → Option Recorded
taken flow content = Some (record { flow = flow; content = content })

pub record Edges : Type 0 where
  pub standard : with_flow 0 (nearest 100 1) ≡ taken (Some 10000) (Some 6000)
  pub weighs : grams_in CubicFeet 10000 6000 ≡ 1152
  pub nearly_standard : hour 0 (nearest 400000 1) (nearest 60 1) (nearest 51999 100) (nearest 1 1) ≡ taken (Some 40001538) (Some 6000)
  pub two_and_a_half_atm : with_pressure 0 (nearest 25 10) ≡ taken (Some 25000) (Some 6000)
  pub warm : hour 0 (nearest 123456 100) (nearest 60 1) (nearest 53125 100) (nearest 10713 10000) ≡ taken (Some 129457) (Some 6000)
  pub largest : hour 4 (nearest 400000 1) (nearest 100 1) (nearest 400 1) (nearest 10 1) ≡ taken (Some 520000000) (Some 10000)
  pub past_flow : with_flow 0 (pattern 0x48c3_5001) ≡ None
  pub coldest : with_temperature 0 (nearest 400 1) ≡ taken (Some 13000) (Some 6000)
  pub colder : with_temperature 0 (pattern 0x43c7_ffff) ≡ None
  pub hottest : with_temperature 0 (nearest 700 1) ≡ taken (Some 7428) (Some 6000)
  pub hotter : with_temperature 0 (pattern 0x442f_0001) ≡ None
  pub no_pressure : with_pressure 0 (pattern 0x8000_0000) ≡ taken (Some 0) (Some 6000)
  pub past_pressure : with_pressure 0 (pattern 0x4120_0001) ≡ None
  pub below_pressure : with_pressure 0 (pattern 0x8000_0001) ≡ None
  pub no_flow : with_flow 1 nan ≡ taken None (Some 6000)
  pub no_flow_checked : with_temperature 1 nan ≡ None
  pub no_content : hour 2 (nearest 100 1) nan (nearest 520 1) (nearest 1 1) ≡ taken (Some 10000) None
  pub not_corrected : hour 8 nan (nearest 60 1) nan nan ≡ taken None (Some 6000)
  pub content_checked : hour 8 nan nan nan nan ≡ None
  pub nothing : hour 15 nan nan nan nan ≡ taken None None
  pub past_states : with_flow 16 (nearest 100 1) ≡ None

pub edges : Edges
unfolding recorded_of flow_in content_in corrected_of grams_in scaled_of is_between times_down round of_bits
edges =
    record {
      standard = refl;
      weighs = refl;
      nearly_standard = refl;
      two_and_a_half_atm = refl;
      warm = refl;
      largest = refl;
      past_flow = refl;
      coldest = refl;
      colder = refl;
      hottest = refl;
      hotter = refl;
      no_pressure = refl;
      past_pressure = refl;
      below_pressure = refl;
      no_flow = refl;
      no_flow_checked = refl;
      no_content = refl;
      not_corrected = refl;
      content_checked = refl;
      nothing = refl;
      past_states = refl;
    }
