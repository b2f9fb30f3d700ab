-- A month's grams: one more hour, and a bound.
-- Assumes nothing.
use Prim.Native.Nat.{ℕ, suc, ◌+◌, ◌-◌, ◌*◌, ◌^◌, ◌≤◌, ◌<◌}
use mathlib.Core.Path.{◌≡◌, sym}
use native.Mathlib.Numerals.{add-one}
use native.Mathlib.Omega.{arith}
use Rattle.laws.specs.Counting.{sum}
use Rattle.laws.proofs.Counting.{sum_none, sum_most}
use Rattle.std.specs.Prelude.{Option}
use Rattle.meter_series.specs.Series.{amount, most_hours}
use Rattle.meter_hour.specs.declared.{Kind.Kind, Recorded.Recorded}
use Rattle.meter_hour.specs.Hour.{hour_of, whole_efficiency}
use Rattle.meter_hour.specs.Room.{most_flow, most_content}
use Rattle.meter_hour.proofs.Sizes.{most_grams, hour_most}
use Rattle.meter_month.specs.Month.{both_at, grams_of}

module _ (k : Kind) (e : ℕ) (state : ℕ → ℕ) (f c flow content : ℕ → Option ℕ) where
  -- hour h by itself
  abbrev grams : ℕ → ℕ
  grams h = hour_of k e (state h) (both_at f c h) (both_at flow content h)

  pub grams_none : grams_of k e state f c flow content 0 ≡ 0
  unfolding grams_of
  grams_none = sym (sum_none (λ n. grams (n - 1)))

  pub grams_more : (n : ℕ) → grams_of k e state f c flow content (n + 1) ≡ grams_of k e state f c flow content n + grams n
  unfolding grams_of sum
  grams_more n =
      let one : n + 1 ≡ suc n = add-one n in
      let here : suc n - 1 ≡ n = omega arith in
      rw (one, here)

  module _ (whole : e ≤ whole_efficiency) (flows : (h : ℕ) → amount (flow h) ≤ most_flow k) (contents : (h : ℕ) → amount (content h) ≤ most_content) where
    pub grams_small : (n : ℕ) → grams_of k e state f c flow content n ≤ n * most_grams
    unfolding grams_of
    grams_small n =
        sum_most (λ i. grams (i - 1)) most_grams n
        (λ i low high. hour_most k e (state (i - 1)) (both_at f c (i - 1)) (both_at flow content (i - 1)) whole (flows (i - 1)) (contents (i - 1)))

    -- the total of the hours before one of a month, and what that hour weighs, fit together
    pub sum_fits :
        (hour hours s : ℕ) (recorded : Recorded) → hour < hours → hours ≤ most_hours →
        grams_of k e state f c flow content hour + hour_of k e s recorded (both_at flow content hour) < 2 ^ 64
    sum_fits hour hours s recorded inside month =
        omega (arith, grams_small hour, hour_most k e s recorded (both_at flow content hour) whole (flows hour) (contents hour))
