-- What grams of a baseline do to a year's net tonnes, in one filing and in two.
-- Assumes nothing.
use Prim.Native.Nat.{ℕ, ◌+◌, ◌*◌, ◌-◌, ◌/◌, ◌≤◌}
use mathlib.Core.Logic.{◌⊎◌, inl, inr}
use mathlib.Core.Path.{◌≡◌}
use native.Mathlib.Omega.{arith}
use native.Mathlib.Decide.{dec_le}
use lib.IntN.{ℤ, pos, negsuc, neg_ℤ, ◌+ℤ◌, ◌-ℤ◌}
use lib.Signed.{◌≤ℤ◌}
use borrow.Author.Tests.{le-leb, lt-leb}
use Rattle.units.specs.Grams.{co2e}
use Rattle.tonnes.specs.Tonnes.{net_of, credited_of}
use Rattle.tonnes.proofs.Nearest.{above, below, sum_is, negated, ordered, near}
use Rattle.year_credit.specs.Credit.{modelled_of, metered_of, lesser_of, reduction_of, total_of}
use Rattle.year_credit.specs.declared.Operator.{Operator}

-- t is at most u and so many more, by the two numbers of each
pub record AtMost (t u : ℤ) (more : ℕ) : Type 0 where
  pub most : above t + below u ≤ above u + more + below t

minus_is : (z : ℤ) (n : ℕ) → above (z -ℤ pos n) + below z + n ≡ below (z -ℤ pos n) + above z
minus_is z n = omega (arith, sum_is z (neg_ℤ (pos n)), negated n)

-- the lesser of two is at most each, and one of them is at most it
record Lesser (x y lesser : ℤ) : Type 0 where
  first : AtMost lesser x 0
  second : AtMost lesser y 0
  either : AtMost x lesser 0 ⊎ AtMost y lesser 0

lesser_is : (x y : ℤ) → Lesser x y (lesser_of x y)
lesser_is (pos a) (pos b) = go (dec_le a b)
  where
    go : Dec (a ≤ b) → Lesser (pos a) (pos b) (lesser_of (pos a) (pos b))
    go (yes l) = rw (le-leb a b l) (record { first = omega arith; second = omega arith; either = inl (omega arith) })
    go (no l) = rw (lt-leb a b (omega arith)) (record { first = omega arith; second = omega arith; either = inr (omega arith) })
lesser_is (pos a) (negsuc b) = record { first = omega arith; second = omega arith; either = inr (omega arith) }
lesser_is (negsuc a) (pos b) = record { first = omega arith; second = omega arith; either = inl (omega arith) }
lesser_is (negsuc a) (negsuc b) = go (dec_le b a)
  where
    go : Dec (b ≤ a) → Lesser (negsuc a) (negsuc b) (lesser_of (negsuc a) (negsuc b))
    go (yes l) = rw (le-leb b a l) (record { first = omega arith; second = omega arith; either = inl (omega arith) })
    go (no l) = rw (lt-leb b a (omega arith)) (record { first = omega arith; second = omega arith; either = inr (omega arith) })

-- a year's modelled figure, its reduction and its total
record Totalled (baseline : ℕ) (operator : Operator) (modelled reduction total : ℤ) : Type 0 where
  less_project : above modelled + operator.project_methane.0 ≡ below modelled + baseline
  lesser : Lesser modelled (pos (metered_of operator).0) reduction
  with_carbon : above total + below reduction + operator.project_co2.0 ≡ below total + above reduction + operator.baseline_co2.0

totalled :
    (baseline : ℕ) (operator : Operator) →
    Totalled baseline operator (modelled_of (co2e baseline) operator) (reduction_of (co2e baseline) operator) (total_of (co2e baseline) operator)
unfolding total_of
totalled baseline operator =
    let reduction = reduction_of (co2e baseline) operator in
    record {
      less_project = omega (arith, minus_is (pos baseline) operator.project_methane.0);
      lesser = lesser_is (modelled_of (co2e baseline) operator) (pos (metered_of operator).0);
      with_carbon = omega (arith, sum_is reduction (pos operator.baseline_co2.0), minus_is (reduction +ℤ pos operator.baseline_co2.0) operator.project_co2.0);
    }

-- One filing: by so many grams as its baseline is above another's, by so many at most is its total, the operator's entries being the same.
pub total_more :
    (one other more : ℕ) (operator : Operator) → other ≤ one + more →
    AtMost (total_of (co2e other) operator) (total_of (co2e one) operator) more
total_more one other more operator ahead =
    let o = totalled one operator in
    let t = totalled other operator in
    let first = t.lesser.first in
    let second = t.lesser.second in
    elim o.lesser.either [ inl h ↦ omega arith | inr h ↦ omega arith ]

-- what the operator of one filing enters is divided between two
pub record Divided (whole first second : Operator) : Type 0 where
  pub project_methane : first.project_methane.0 + second.project_methane.0 ≡ whole.project_methane.0
  pub baseline_co2 : first.baseline_co2.0 + second.baseline_co2.0 ≡ whole.baseline_co2.0
  pub project_co2 : first.project_co2.0 + second.project_co2.0 ≡ whole.project_co2.0
  pub destroyed : first.destroyed.0 + second.destroyed.0 ≡ whole.destroyed.0

-- Two filings: their totals together are at most so many grams above the whole's as their baselines are. Dividing the metered methane gains nothing, since
-- the lesser of two sums is never below the sum of the lesser ones.
pub totals_more :
    (whole first second more : ℕ) (operator operator-1 operator-2 : Operator) → Divided operator operator-1 operator-2 → first + second ≤ whole + more →
    AtMost (total_of (co2e first) operator-1 +ℤ total_of (co2e second) operator-2) (total_of (co2e whole) operator) more
totals_more whole first second more operator operator-1 operator-2 divided ahead =
    let w = totalled whole operator in
    let a = totalled first operator-1 in
    let b = totalled second operator-2 in
    let sum = sum_is (total_of (co2e first) operator-1) (total_of (co2e second) operator-2) in
    elim w.lesser.either [ inl h ↦ omega (arith, a.lesser.first, b.lesser.first) | inr h ↦ omega (arith, a.lesser.second, b.lesser.second) ]

-- Tonnes: a total above another by some grams has a net above the other's by at most as many tonnes, rounded up: none where there are none, and one up to
-- a million grams.
abbrev pub tonne : ℕ
tonne = 1000000

pub net_more : {t u : ℤ} {more : ℕ} → AtMost t u more → AtMost (net_of t) (net_of u) ((more + (tonne - 1)) / tonne)
net_more {t} {u} {more} ahead =
    let a = near t in
    let b = near u in
    omega arith

-- The nets of two totals that together are above a third by up to half a tonne: at most one tonne above its net.
pub nets_more : (t u : ℤ) {w : ℤ} {more : ℕ} → AtMost (t +ℤ u) w more → 2 * more ≤ tonne → AtMost (net_of t +ℤ net_of u) (net_of w) 1
nets_more t u {w} {more} ahead few =
    let a = near t in
    let b = near u in
    let c = near w in
    omega (arith, sum_is t u, sum_is (net_of t) (net_of u))

-- the same in the order of the integers, and of what is credited
pub shown : {t u : ℤ} {more : ℕ} → AtMost t u more → t ≤ℤ (u +ℤ pos more)
shown {t} {u} {more} ahead = ordered _ _ (omega (arith, sum_is u (pos more)))

pub credited_more : (t u : ℤ) {more : ℕ} → AtMost t u more → credited_of t ≤ credited_of u + more
credited_more (pos t) (pos u) ahead = omega arith
credited_more (pos t) (negsuc u) ahead = omega arith
credited_more (negsuc t) u ahead = omega arith
