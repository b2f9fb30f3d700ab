-- No number of an hour in cubic feet is large: a reading is at most its range's end, and a corrected flow at most what the ends give.
-- Assumes nothing.
use Prim.Native.Nat.{ℕ, ◌*◌, ◌≤◌}
use mathlib.Core.Bool.{Bool, true, false, cond}
use mathlib.Core.List.{List}
use mathlib.Core.Path.{◌≡◌, refl}
use native.Mathlib.Nat.{mul-le-mul, div-le_of_le-mul}
use native.Mathlib.Omega.{arith}
use lib.Dec.{ltb}
use lib.Ieee.{Float}
use lib.ListN.{get_or}
use Rattle.std.specs.Prelude.{Option, Some, None}
use Rattle.std.specs.Option.{option_flatten}
use Rattle.meter_reading.specs.Exact.{cubic_feet_of, temperature_of, pressure_of, hundredths_of}
use Rattle.meter_reading.proofs.Most.{scaled_within}
use Rattle.meter_state.specs.State.{has}
use Rattle.meter_series.specs.Series.{amount}
use Rattle.meter_hour.specs.declared.Kind.TheVariants.{CubicFeet}
use Rattle.meter_hour.specs.Hour.{both, flow_of, content_of}
use Rattle.meter_hour.specs.Room.{most_flow, most_content}
use Rattle.meter_hour.proofs.Sizes.{none_most, either_most, flow_most, content_most}
use Rattle.meter_feet.specs.declared.Sample.{Sample}
use Rattle.meter_feet.specs.Feet.{corrected_of, counting, flow_in, content_in, recorded_of, hour_at}

pub product_most : (flow pressure : ℕ) → flow ≤ 40000000 → pressure ≤ 100000 → flow * 52000 * pressure ≤ 208000000000000000
product_most flow pressure f p = mul-le-mul {n₁ = flow * 52000} {m₁ = pressure} {n₂ = 2080000000000} {m₂ = 100000} (omega arith) p

pub corrected_most :
    (flow temperature pressure : ℕ) → flow ≤ 40000000 → 40000 ≤ temperature → pressure ≤ 100000 →
    corrected_of flow temperature pressure ≤ most_flow CubicFeet
unfolding corrected_of
corrected_most flow temperature pressure f t p = div-le_of_le-mul (temperature * 10000) (omega (arith, product_most flow pressure f p))

picked_most : (b : Bool) (x y : Option (Option ℕ)) (k : ℕ) → amount (option_flatten x) ≤ k → amount (option_flatten y) ≤ k → amount (option_flatten (cond b x y)) ≤ k
picked_most true x y k p q = p
picked_most false x y k p q = q

counting_most :
    (m : Option ℕ) (counted : ℕ → Option (Option ℕ)) (k : ℕ) → ((n : ℕ) → m ≡ Some n → amount (option_flatten (counted n)) ≤ k) →
    amount (option_flatten (counting m counted)) ≤ k
counting_most (Some n) counted k h = h n refl
counting_most None counted k h = none_most k

some_most : (n k : ℕ) → n ≤ k → amount (Some n) ≤ k
some_most n k h = h

flow_in_most : (sample : Sample) (state : ℕ) → amount (option_flatten (flow_in sample state)) ≤ most_flow CubicFeet
unfolding flow_in
flow_in_most sample state =
    let most = most_flow CubicFeet in
    picked_most (has 8 state) (Some None) _ most (none_most most)
    (counting_most (temperature_of sample.temperature) _ most
    (λ t d. counting_most (pressure_of sample.pressure) _ most
    (λ p e. picked_most (has 1 state) (Some None) _ most (none_most most)
    (counting_most (cubic_feet_of sample.flow) _ most
    (λ f g. some_most (corrected_of f t p) most
    (corrected_most f t p (scaled_within 100 0 400000 sample.flow f g).1 (scaled_within 100 400 700 sample.temperature t d).0 (scaled_within 10000 0 10 sample.pressure p e).1))))))

content_in_most : (sample : Sample) (state : ℕ) → amount (option_flatten (content_in sample state)) ≤ most_content
unfolding content_in
content_in_most sample state =
    picked_most (has 2 state) (Some None) _ most_content (none_most most_content)
    (counting_most (hundredths_of sample.content) _ most_content
    (λ n e. some_most n most_content (scaled_within 100 0 100 sample.content n e).1))

module _ (sample : Sample) (state : ℕ) where
  pub flow_small : amount (flow_of (recorded_of sample state)) ≤ most_flow CubicFeet
  unfolding recorded_of
  flow_small =
      either_most flow_of refl (ltb 15 state) (both (flow_in sample state) (content_in sample state)) (most_flow CubicFeet)
      (flow_most (flow_in sample state) (content_in sample state) (most_flow CubicFeet) (flow_in_most sample state))

  pub content_small : amount (content_of (recorded_of sample state)) ≤ most_content
  unfolding recorded_of
  content_small =
      either_most content_of refl (ltb 15 state) (both (flow_in sample state) (content_in sample state)) most_content
      (content_most (flow_in sample state) (content_in sample state) most_content (content_in_most sample state))

module _ (flows contents temperatures pressures : List Float) (states : List ℕ) where
  pub flows_small : (h : ℕ) → amount (flow_of (hour_at flows contents temperatures pressures states h)) ≤ most_flow CubicFeet
  unfolding hour_at
  flows_small h = flow_small _ (get_or states h 11)

  pub contents_small : (h : ℕ) → amount (content_of (hour_at flows contents temperatures pressures states h)) ≤ most_content
  unfolding hour_at
  contents_small h = content_small _ (get_or states h 11)
