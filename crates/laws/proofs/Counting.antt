-- Loops that sum and loops that search, turn by turn: a sum takes one number more, and a search either stops at a number or passes it.
-- Assumes nothing.
use mathlib.Core.Path.{◌≡◌, refl, sym, ap, ◌∙◌}
use mathlib.Core.Bool.{Bool, true, false, cond}
use Prim.Native.Nat.{ℕ, zero, suc, ◌+◌, ◌*◌, ◌-◌, ◌≤◌, ◌<◌}
use native.Mathlib.Nat.{suc-mul, not-suc-le-zero}
use native.Mathlib.Omega.{arith}
use borrow.Author.Tests.{le-leb, lt-leb}
use Rattle.laws.specs.Counting.{sum, first_from, first, some}

-- in each of the numbers 1 to n
abbrev pub Each : ℕ → (ℕ → Type 0) → Type 0
Each n claim = (i : ℕ) → 1 ≤ i → i ≤ n → claim i

-- a loop that has come to i has the sum of the numbers before it
pub sum_none : (f : ℕ → ℕ) → 0 ≡ sum 0 f
unfolding sum
sum_none f = refl

pub sum_more : (f : ℕ → ℕ) (i : ℕ) {s v : ℕ} → 1 ≤ i → s ≡ sum (i - 1) f → v ≡ f i → s + v ≡ sum (i + 1 - 1) f
unfolding sum
sum_more f zero low is next = absurd (not-suc-le-zero low)
sum_more f (suc k) low is next =
    let earlier : suc k - 1 ≡ k = omega arith in
    let later : suc k + 1 - 1 ≡ suc k = omega arith in
    rw (later, is, next, earlier)

pub sum_most : (f : ℕ → ℕ) (most n : ℕ) → Each n (λ i. f i ≤ most) → sum n f ≤ n * most
unfolding sum
sum_most f most zero each = omega arith
sum_most f most (suc n) each =
    omega
    (arith, each (suc n) (omega arith) (omega arith), sum_most f most n (λ i low high. each i low (omega arith)), suc-mul n most)

pub sum_same : (f g : ℕ → ℕ) (n : ℕ) → Each n (λ i. f i ≡ g i) → sum n f ≡ sum n g
unfolding sum
sum_same f g zero each = refl
sum_same f g (suc n) each =
    rw (each (suc n) (omega arith) (omega arith), sum_same f g n (λ i low high. each i low (omega arith)))

pub sum_plus : (f g : ℕ → ℕ) (n : ℕ) → sum n f + sum n g ≡ sum n (λ i. f i + g i)
unfolding sum
sum_plus f g zero = refl
sum_plus f g (suc n) = omega (arith, sum_plus f g n)

-- a search up to an end that has come to i: it stops there, passes i, or has nothing left to look at
module _ (end i : ℕ) (test : ℕ → Bool) where
  step : i < end → first_from i (end - i) test ≡ cond (test i) i (first_from (i + 1) (end - (i + 1)) test)
  unfolding first_from
  step inside =
      let e : end - i ≡ suc (end - (i + 1)) = omega arith in
      ap (λ (k : ℕ). first_from i k test) e

  pub search_stops : i < end → test i ≡ true → first_from i (end - i) test ≡ i
  search_stops inside t = step inside ∙ ap (λ (b : Bool). cond b i (first_from (i + 1) (end - (i + 1)) test)) t

  pub search_passes : i < end → test i ≡ false → first_from i (end - i) test ≡ first_from (i + 1) (end - (i + 1)) test
  search_passes inside t = step inside ∙ ap (λ (b : Bool). cond b i (first_from (i + 1) (end - (i + 1)) test)) t

  pub search_ends : end ≤ i → first_from i (end - i) test ≡ i
  unfolding first_from
  search_ends past = let e : end - i ≡ 0 = omega arith in ap (λ (k : ℕ). first_from i k test) e

between : (a n : ℕ) (test : ℕ → Bool) → (a ≤ first_from a n test) × (first_from a n test ≤ a + n)
unfolding first_from
between a zero test = omega arith
between a (suc n) test = picked (test a) (let later = between (a + 1) n test in omega arith)
  where
    picked : (b : Bool) {x : ℕ} → (a ≤ x) × (x ≤ a + suc n) → (a ≤ cond b a x) × (cond b a x ≤ a + suc n)
    picked true later = omega arith
    picked false later = later

pub search_between : (end i : ℕ) (test : ℕ → Bool) → i ≤ end → (i ≤ first_from i (end - i) test) × (first_from i (end - i) test ≤ end)
search_between end i test inside = let f = between i (end - i) test in omega arith

-- a search from 1 to n that has come to i: what is left of it, from i on
module _ (n i : ℕ) (test : ℕ → Bool) where
  abbrev pub Reached : Type 0
  Reached = first n test ≡ first_from i (n + 1 - i) test

  module _ (reached : Reached) where
    pub found : i ≤ n → test i ≡ true → i ≡ first n test
    found inside t = sym (reached ∙ search_stops (n + 1) i test (omega arith) t)

    pub passed : i ≤ n → test i ≡ false → first n test ≡ first_from (i + 1) (n + 1 - (i + 1)) test
    passed inside t = reached ∙ search_passes (n + 1) i test (omega arith) t

    pub none : i ≡ n + 1 → n + 1 ≡ first n test
    none end = sym end ∙ sym (reached ∙ search_ends (n + 1) i test (omega arith))

pub begins : (n : ℕ) (test : ℕ → Bool) → first n test ≡ first_from 1 (n + 1 - 1) test
begins n test = let e : n ≡ n + 1 - 1 = omega arith in ap (λ (k : ℕ). first_from 1 k test) e

-- whether there is one: a search that stops has found it, and one that comes to the end has not
module _ (n i : ℕ) (test : ℕ → Bool) (reached : first n test ≡ first_from i (n + 1 - i) test) where
  pub one_found : i ≤ n → test i ≡ true → true ≡ some n test
  one_found inside t = sym (rw (← found n i test reached inside t) (le-leb _ _ inside))

  pub none_found : i ≡ n + 1 → false ≡ some n test
  none_found end = sym (rw (← none n i test reached end) (lt-leb (n + 1) n (omega arith)))

-- where none passes
pub first_past : (a n : ℕ) (test : ℕ → Bool) → ((i : ℕ) → a ≤ i → i < a + n → test i ≡ false) → first_from a n test ≡ a + n
unfolding first_from
first_past a zero test fails = omega arith
first_past a (suc n) test fails =
    let later = first_past (a + 1) n test (λ i low high. fails i (omega arith) (omega arith)) in
    rw (fails a (omega arith) (omega arith)) (omega arith)

pub none_passes : (n : ℕ) (test : ℕ → Bool) → Each n (λ i. test i ≡ false) → some n test ≡ false
none_passes n test fails = rw (first_past 1 n test (λ i low high. fails i low (omega arith))) (lt-leb (1 + n) n (omega arith))
