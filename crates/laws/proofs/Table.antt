-- A table's rule, shown at each entry: one test is computed at every place below n, and `at` carries it to any one of them.
-- Assumes nothing.
use mathlib.Core.Path.{◌≡◌}
use mathlib.Core.Bool.{Bool, true, false, ◌&&◌}
use Prim.Native.Nat.{ℕ, zero, suc, ◌<◌}
use native.Mathlib.Omega.{arith}
use native.Mathlib.Decide.{dec_lt}
use lib.Dec.{T}

pub left : (a b : Bool) → T (a && b) → T a
left true b t = tt
left false b t = t

pub right : (a b : Bool) → T (a && b) → T b
right true b t = t
right false b t = absurd t

-- the test passes at each place below n
unfoldable pub each : (ℕ → Bool) → ℕ → Bool
each test zero = true
each test (suc n) = test n && each test n

pub at : (test : ℕ → Bool) (n : ℕ) → T (each test n) → (k : ℕ) → k < n → T (test k)
unfolding each
at test zero passed k below = absurd (omega arith)
at test (suc n) passed k below = go (dec_lt k n) (at test n (right (test n) (each test n) passed) k)
  where
    go : Dec (k < n) → (k < n → T (test k)) → T (test k)
    go (yes l) earlier = earlier l
    go (no l) earlier = let e : k ≡ n = omega arith in rw e (left (test n) (each test n) passed)
