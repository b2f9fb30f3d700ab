-- A number's digits are those of a tenth of it and its last, however many are asked for past its own; a u64 has at most twenty. Assumes nothing.
use mathlib.Core.Path.{◌≡◌, ap, ◌∙◌}
use mathlib.Core.Bool.{cond}
use mathlib.Core.List.{List, [], ◌∷◌, ◌++◌}
use Prim.Native.Nat.{ℕ, zero, suc, ◌+◌, ◌/◌, ◌%◌, ◌^◌, ◌≤◌, ◌<◌}
use native.Mathlib.Decide.{dec_lt}
use native.Mathlib.Nat.{pow-suc}
use native.Mathlib.Omega.{arith}
use borrow.Author.Tests.{lt-ltb, le-ltb}
use lib.Dec.{ltb}
use lib.ListN.{length, length-append}
use Rattle.print_page.specs.Number.{base, digit, last_digits, decimal}

same : (j k n : ℕ) → n < j → n < k → last_digits j n ≡ last_digits k n
unfolding last_digits
same zero k n h l = let z : ⊥ = omega arith in absurd z
same (suc j) zero n h l = let z : ⊥ = omega arith in absurd z
same (suc j) (suc k) n h l = go (dec_lt n base) (same j k (n / base))
  where
    go : Dec (n < base) → (n / base < j → n / base < k → last_digits j (n / base) ≡ last_digits k (n / base)) →
        cond (ltb n base) [] (last_digits j (n / base)) ++ (digit (n % base) ∷ []) ≡ cond (ltb n base) [] (last_digits k (n / base)) ++ (digit (n % base) ∷ [])
    go (yes s) fewer = rw (lt-ltb n base s)
    go (no s) fewer = ap (λ (x : List ℕ). cond (ltb n base) [] x ++ (digit (n % base) ∷ [])) (fewer (omega arith) (omega arith))

pub one_digit : (n : ℕ) → n < base → decimal n ≡ digit n ∷ []
unfolding decimal last_digits
one_digit n s = let e : n % base ≡ n = omega arith in rw (lt-ltb n base s, e)

pub more_digits : (n : ℕ) → base ≤ n → decimal n ≡ decimal (n / base) ++ (digit (n % base) ∷ [])
unfolding decimal last_digits
more_digits n m =
    rw (le-ltb n base m) (ap (λ (x : List ℕ). x ++ (digit (n % base) ∷ [])) (same n (suc (n / base)) (n / base) (omega arith) (omega arith)))

pub longer : (n : ℕ) → base ≤ n → length (decimal n) ≡ length (decimal (n / base)) + 1
longer n m = ap length (more_digits n m) ∙ length-append (decimal (n / base)) (digit (n % base) ∷ [])

pub at_most : (k n : ℕ) → n < base ^ suc k → length (decimal n) ≤ suc k
at_most zero n h = let e = ap length (one_digit n (omega arith)) in omega (arith, e)
at_most (suc k) n h = go (dec_lt n base) (at_most k (n / base))
  where
    go : Dec (n < base) → (n / base < base ^ suc k → length (decimal (n / base)) ≤ suc k) → length (decimal n) ≤ suc (suc k)
    go (yes s) fewer = omega (arith, ap length (one_digit n s))
    go (no s) fewer = omega (arith, longer n (omega arith), fewer (omega (arith, pow-suc base (suc k))))
