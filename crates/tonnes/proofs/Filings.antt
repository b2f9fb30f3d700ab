-- Two separate filings against one filing of both: the two state at most one tonne more, and at most one less. The examples reach each of the two. Where
-- one filing is below 0 nothing bounds what the two are credited above the one, since credited tonnes are never below 0: the last theorem.
-- Assumes nothing.
use mathlib.Core.Path.{◌≡◌, refl}
use Prim.Native.Nat.{ℕ, ◌+◌, ◌*◌, ◌≤◌}
use native.Mathlib.Omega.{arith}
use lib.IntN.{ℤ, pos, negsuc, neg_ℤ, ◌+ℤ◌}
use lib.Signed.{◌≤ℤ◌}
use Rattle.tonnes.specs.Tonnes.{net_of, credited_of}
use Rattle.tonnes.proofs.Nearest.{above, below, sum_is, negated, ordered, Near, near}

pub two_filings :
    (a b : ℤ) →
    ((net_of a +ℤ net_of b) ≤ℤ (net_of (a +ℤ b) +ℤ pos 1)) × (net_of (a +ℤ b) ≤ℤ (net_of a +ℤ net_of b +ℤ pos 1))
two_filings a b =
    let s = sum_is a b in
    let n = sum_is (net_of a) (net_of b) in
    let m = sum_is (net_of a +ℤ net_of b) (pos 1) in
    let w = sum_is (net_of (a +ℤ b)) (pos 1) in
    let na = near a in
    let nb = near b in
    let nw = near (a +ℤ b) in
    (ordered _ _ (omega arith), ordered _ _ (omega arith))

-- twice 500,001 grams: a tonne each, and one tonne of both
pub one_more : net_of (pos 500001) +ℤ net_of (pos 500001) ≡ net_of (pos 500001 +ℤ pos 500001) +ℤ pos 1
one_more = refl

-- twice 500,000 grams: nothing each, and one tonne of both
pub one_less : net_of (pos 500000 +ℤ pos 500000) ≡ net_of (pos 500000) +ℤ net_of (pos 500000) +ℤ pos 1
one_less = refl

-- a total at or below 0 is credited nothing
none_credited : (t : ℤ) → above t ≤ below t → credited_of (net_of t) ≡ 0
none_credited t low = go (net_of t) (near t)
  where
    go : (n : ℤ) → Near t n → credited_of n ≡ 0
    go (pos n) is = omega arith
    go (negsuc n) is = refl

-- a filing of any number of tonnes below 0 and one of as many above: credited so many, and of both nothing
pub below_zero :
    (tonnes : ℕ) → let grams = pos (tonnes * 1000000) in
    (credited_of (net_of (neg_ℤ grams)) + credited_of (net_of grams) ≡ tonnes) × (credited_of (net_of (neg_ℤ grams +ℤ grams)) ≡ 0)
below_zero tonnes =
    let grams = tonnes * 1000000 in
    let minus = negated grams in
    let both = sum_is (neg_ℤ (pos grams)) (pos grams) in
    (omega (arith, none_credited (neg_ℤ (pos grams)) (omega arith)), none_credited (neg_ℤ (pos grams) +ℤ pos grams) (omega arith))
