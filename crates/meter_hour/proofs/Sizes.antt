-- No number of a month is large: a reading is at most its range's end, an hour at most what that weighs.
-- Assumes nothing.
use Prim.Native.Nat.{ℕ, ◌*◌, ◌≤◌}
use mathlib.Core.Bool.{Bool, true, false, ◌||◌, cond}
use mathlib.Core.List.{List}
use mathlib.Core.Path.{◌≡◌, refl}
use native.Mathlib.Nat.{le_trans, mul-le-mul}
use native.Mathlib.Omega.{arith}
use lib.Dec.{ltb}
use lib.Ieee.{Float}
use Rattle.std.specs.Prelude.{Option, Some, None, option_map}
use Rattle.std.specs.Option.{option_flatten}
use Rattle.units.specs.Grams.{share_of}
use Rattle.meter_reading.specs.Exact.{litres_of, hundredths_of}
use Rattle.meter_reading.proofs.Most.{scaled_within}
use Rattle.meter_state.specs.State.{is_out, state_at, reading_at}
use Rattle.meter_state.specs.declared.Reading.{Reading, TheVariants.Both, TheVariants.NoFlow, TheVariants.NoContent, TheVariants.Neither}
use Rattle.meter_series.specs.Series.{amount, is_recorded}
use Rattle.meter_hour.specs.declared.Recorded.{Recorded}
use Rattle.meter_hour.specs.declared.Kind.{Kind}
use Rattle.meter_hour.specs.declared.Kind.TheVariants.{CubicMetres, CubicFeet}
use Rattle.meter_hour.specs.Hour.{both, recorded_of, hour_at, flow_of, content_of, grams_in, hour_of, whole_efficiency}
use Rattle.meter_hour.specs.Room.{most_flow, most_content}

pub none_most : (k : ℕ) → amount None ≤ k
none_most k = omega arith

-- a value is small where the number is that it is counted as
mapped_most : (count : Option ℕ) (k : ℕ) → ((n : ℕ) → count ≡ Some n → n ≤ k) → amount (option_flatten (option_map Some count)) ≤ k
mapped_most (Some n) k h = h n refl
mapped_most None k h = none_most k

litres_small : (flow : Float) → amount (option_flatten (option_map Some (litres_of flow))) ≤ 100000000
litres_small flow = mapped_most (litres_of flow) 100000000 (λ n e. (scaled_within 1000 0 100000 flow n e).1)

hundredths_small : (content : Float) → amount (option_flatten (option_map Some (hundredths_of content))) ≤ most_content
hundredths_small content = mapped_most (hundredths_of content) most_content (λ n e. (scaled_within 100 0 100 content n e).1)

pub flow_most : (flow content : Option (Option ℕ)) (k : ℕ) → amount (option_flatten flow) ≤ k → amount (flow_of (both flow content)) ≤ k
flow_most (Some flow) (Some content) k h = h
flow_most (Some flow) None k h = none_most k
flow_most None content k h = none_most k

pub content_most : (flow content : Option (Option ℕ)) (k : ℕ) → amount (option_flatten content) ≤ k → amount (content_of (both flow content)) ≤ k
content_most (Some flow) (Some content) k h = h
content_most (Some flow) None k h = none_most k
content_most None content k h = none_most k

-- where an hour with another state is refused
pub either_most :
    (part : Option Recorded → Option ℕ) → part None ≡ None → (t : Bool) (hour : Option Recorded) (k : ℕ) → amount (part hour) ≤ k → amount (part (cond t None hour)) ≤ k
either_most part none true hour k h = rw none (none_most k)
either_most part none false hour k h = h

flow_small : (reading : Reading) → amount (flow_of (recorded_of reading)) ≤ 100000000
unfolding recorded_of
flow_small (Both flow content) = flow_most (option_map Some (litres_of flow)) (option_map Some (hundredths_of content)) 100000000 (litres_small flow)
flow_small (NoFlow content) = flow_most (Some None) (option_map Some (hundredths_of content)) 100000000 (none_most 100000000)
flow_small (NoContent flow) = flow_most (option_map Some (litres_of flow)) (Some None) 100000000 (litres_small flow)
flow_small Neither = none_most 100000000

content_small : (reading : Reading) → amount (content_of (recorded_of reading)) ≤ most_content
unfolding recorded_of
content_small (Both flow content) = content_most (option_map Some (litres_of flow)) (option_map Some (hundredths_of content)) most_content (hundredths_small content)
content_small (NoFlow content) = content_most (Some None) (option_map Some (hundredths_of content)) most_content (hundredths_small content)
content_small (NoContent flow) = content_most (option_map Some (litres_of flow)) (Some None) most_content (none_most most_content)
content_small Neither = none_most most_content

module _ (flows contents : List Float) (states : List ℕ) where
  pub flows_small : (h : ℕ) → amount (flow_of (hour_at flows contents states h)) ≤ most_flow CubicMetres
  unfolding hour_at
  flows_small h =
      let reading = reading_at flows contents states h in
      either_most flow_of refl (ltb 7 (state_at states h)) (recorded_of reading) 100000000 (flow_small reading)

  pub contents_small : (h : ℕ) → amount (content_of (hour_at flows contents states h)) ≤ most_content
  unfolding hour_at
  contents_small h =
      let reading = reading_at flows contents states h in
      either_most content_of refl (ltb 7 (state_at states h)) (recorded_of reading) most_content (content_small reading)

-- what an hour can weigh
abbrev pub most_grams : ℕ
most_grams = 99861840

-- whatever the kind
pub flows_most : (k : Kind) → most_flow k ≤ 520000000
flows_most CubicMetres = omega arith
flows_most CubicFeet = omega arith

-- a flow times a content, whatever the kind
pub product_most : (k : Kind) (flow content : ℕ) → flow ≤ most_flow k → content ≤ most_content → flow * content ≤ 5200000000000
product_most k flow content f c = mul-le-mul {n₁ = flow} {m₁ = content} {n₂ = 520000000} {m₂ = 10000} (le_trans f (flows_most k)) c

pub grams_most_lem : (k : Kind) (flow content : ℕ) → flow ≤ most_flow k → content ≤ most_content → grams_in k flow content ≤ most_grams
unfolding grams_in
grams_most_lem CubicMetres flow content f c = omega (arith, mul-le-mul {n₁ = flow} {m₁ = content} {n₂ = 100000000} {m₂ = 10000} f c)
grams_most_lem CubicFeet flow content f c = omega (arith, product_most CubicFeet flow content f c)

pub share_most : (g e : ℕ) → g ≤ most_grams → e ≤ whole_efficiency → g * e ≤ 998618400000
share_most g e a b = omega (arith, mul-le-mul a b)

picked_most : (b : Bool) (x y m : ℕ) → x ≤ m → y ≤ m → cond b x y ≤ m
picked_most true x y m p q = p
picked_most false x y m p q = q

pub hour_most :
    (k : Kind) (e s : ℕ) (recorded filled : Recorded) →
    e ≤ whole_efficiency → amount filled.flow ≤ most_flow k → amount filled.content ≤ most_content → hour_of k e s recorded filled ≤ most_grams
unfolding hour_of
hour_most k e s recorded filled h a b =
    let grams = grams_in k (amount filled.flow) (amount filled.content) in
    picked_most (is_out s) 0 (cond (is_recorded recorded.flow || is_recorded recorded.content) (share_of grams e whole_efficiency) 0) most_grams (omega arith)
    (picked_most (is_recorded recorded.flow || is_recorded recorded.content) (share_of grams e whole_efficiency) 0 most_grams
    (omega (arith, share_most grams e (grams_most_lem k (amount filled.flow) (amount filled.content) a b) h)) (omega arith))
