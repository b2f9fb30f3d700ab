-- What `net_of` says, in the paper's words: the total lies above half a tonne below net, and at most half a tonne above it.
-- Assumes nothing.
use Prim.Native.Nat.{ℕ, zero, suc, ◌+◌, ◌*◌, ◌≤◌, ◌<◌}
use mathlib.Core.Path.{◌≡◌, refl}
use native.Mathlib.Omega.{arith}
use native.Mathlib.Decide.{dec_lt}
use lib.Dec.{le→leb}
use lib.IntN.{ℤ, pos, negsuc, neg_ℤ, ◌+ℤ◌, sub_ℕ}
use lib.Signed.{◌≤ℤ◌}
use borrow.Author.Tests.{lt-ltb, le-ltb}
use Rattle.tonnes.specs.Tonnes.{net_of}

-- z is above z less below z, and one of the two is 0: so that omega reads an integer as two numbers
abbrev pub above : ℤ → ℕ
above (pos n) = n
above (negsuc n) = 0

abbrev pub below : ℤ → ℕ
below (pos n) = 0
below (negsuc n) = suc n

less_is : (a b : ℕ) → above (sub_ℕ a b) + b ≡ below (sub_ℕ a b) + a
less_is a b = go (dec_lt a b)
  where
    go : Dec (a < b) → above (sub_ℕ a b) + b ≡ below (sub_ℕ a b) + a
    go (yes l) = rw (lt-ltb a b l) (omega arith)
    go (no l) = rw (le-ltb a b (omega arith)) (omega arith)

pub sum_is : (a b : ℤ) → above (a +ℤ b) + below a + below b ≡ below (a +ℤ b) + above a + above b
sum_is (pos a) (pos b) = omega arith
sum_is (pos a) (negsuc b) = omega (arith, less_is a (suc b))
sum_is (negsuc a) (pos b) = omega (arith, less_is b (suc a))
sum_is (negsuc a) (negsuc b) = omega arith

pub negated : (n : ℕ) → (above (neg_ℤ (pos n)) ≡ 0) × (below (neg_ℤ (pos n)) ≡ n)
negated zero = (refl, refl)
negated (suc n) = (refl, refl)

pub ordered : (a b : ℤ) → above a + below b ≤ above b + below a → a ≤ℤ b
ordered (pos a) (pos b) h = record { le = le→leb a b (omega arith) }
ordered (pos a) (negsuc b) h = absurd (omega arith)
ordered (negsuc a) (pos b) h = record { le = tt }
ordered (negsuc a) (negsuc b) h = record { le = le→leb b a (omega arith) }

-- the total t lies above net less half a tonne, and at most at net and half a tonne: both bounds, by the two numbers of each
pub record Near (t n : ℤ) : Type 0 where
  pub over : 1000000 * above n + below t < above t + 500000 + 1000000 * below n
  pub under : above t + 1000000 * below n ≤ 1000000 * above n + 500000 + below t

pub near : (t : ℤ) → Near t (net_of t)
near (pos a) = omega arith
near (negsuc a) = go (dec_lt 499999 (suc a))
  where
    go : Dec (499999 < suc a) → Near (negsuc a) (net_of (negsuc a))
    go (yes l) = rw (lt-ltb 499999 (suc a) l) (omega arith)
    go (no l) = rw (le-ltb 499999 (suc a) (omega arith)) (omega arith)
