-- A search stops no later than at a number that passes, and at one that does, so that where it comes to the end none passes.
-- Assumes nothing.
use Prim.Native.Nat.{ℕ, zero, suc, ◌+◌, ◌-◌, ◌≤◌, ◌<◌}
use mathlib.Core.Bool.{Bool, true, false, cond}
use mathlib.Core.Path.{refl, sym, ap, ◌≡◌, ◌∙◌}
use native.Mathlib.Decide.{dec_lt}
use native.Mathlib.Omega.{arith}
use borrow.Author.Tests.{le-leb, leb-true, leb-false}
use lib.Dec.{leb}
use lib.ListN.{length}
use Rattle.std.specs.Prelude.{Option, Some, None, MatchOption}
use Rattle.std.specs.Bool.{MatchBool}
use Rattle.std.specs.List.{AllWithin, HoldsAt, range_with_len}
use Rattle.std.proofs.lemmas.List.FromFn.{length-range_with_len, get_or-range_with_len}
use Rattle.laws.proofs.Counting.{Each, begins, none_passes, search_between}
use Rattle.laws.specs.Counting.{first_from, first, some}

module _ (test : ℕ → Bool) where
  here_or_later : (a i later : ℕ) → a ≤ i → test i ≡ true → (a + 1 ≤ i → later ≤ i) → (b : Bool) → test a ≡ b → cond b a later ≤ i
  here_or_later a i later from passes rest true e = from
  here_or_later a i later from passes rest false e = go (dec_lt a i)
    where
      go : Dec (a < i) → later ≤ i
      go (yes l) = rest (omega arith)
      go (no l) =
          let same : a ≡ i = omega arith in
          let z : ◌≡◌ {A = Bool} true false = sym passes ∙ ap test (sym same) ∙ e in
          let n : ◌≡◌ {A = ℕ} 0 1 = cc in
          absurd (omega arith)

  pub no_later : (a n i : ℕ) → a ≤ i → i < a + n → test i ≡ true → first_from a n test ≤ i
  unfolding first_from
  no_later a zero i from to passes = absurd (omega arith)
  no_later a (suc n) i from to passes =
      here_or_later a i (first_from (a + 1) n test) from passes (λ l. no_later (a + 1) n i l (omega arith) passes) (test a) refl

  pub some_passes : (n i : ℕ) → 1 ≤ i → i ≤ n → test i ≡ true → true ≡ some n test
  some_passes n i low high passes = sym (le-leb (first n test) n (omega (arith, no_later 1 n i low (omega arith) passes)))

  by_test : (n i : ℕ) → (test i ≡ true → first n test ≤ i) → i ≤ n → n < first n test → (b : Bool) → test i ≡ b → b ≡ false
  by_test n i at high past true e = absurd (omega (arith, at e))
  by_test n i at high past false e = refl

  pub each_fails : (n : ℕ) → n < first n test → Each n (λ i. test i ≡ false)
  each_fails n past i low high = by_test n i (no_later 1 n i low (omega arith)) high past (test i) refl

  -- a search that stops before its end stops at a number that passes
  pub first_passes : (a n : ℕ) → first_from a n test < a + n → test (first_from a n test) ≡ true
  unfolding first_from
  first_passes a zero h = absurd (omega arith)
  first_passes a (suc n) h = go (test a) refl h (λ l. first_passes (a + 1) n (omega arith))
    where
      go :
          (b : Bool) {later : ℕ} → test a ≡ b → cond b a later < a + suc n → (later < a + suc n → test later ≡ true) → test (cond b a later) ≡ true
      go true e l rest = e
      go false e l rest = rest l

  -- where one of 1 to n passes, the first does
  pub record Found (n : ℕ) : Type 0 where
    pub at : ℕ
    pub low : 1 ≤ at
    pub high : at ≤ n
    pub passes : test at ≡ true

  pub found_one : (n : ℕ) → some n test ≡ true → Found n
  found_one n e =
      let stops = leb-true (first n test) n e in
      record {
        at = first n test;
        low = omega (arith, (search_between (n + 1) 1 test (omega arith)).0, begins n test);
        high = stops;
        passes = first_passes 1 n (omega (arith, stops));
      }

  -- a number more that does not pass
  by_some : (n : ℕ) → test (suc n) ≡ false → (b : Bool) → some n test ≡ b → b ≡ some (suc n) test
  by_some n fails true e = let one = found_one n e in some_passes (suc n) one.at one.low (omega (arith, one.high)) one.passes
  by_some n fails false e = sym (none_passes (suc n) test (λ i low high. go i low high (dec_lt i (suc n))))
    where
      go : (i : ℕ) → 1 ≤ i → i ≤ suc n → Dec (i < suc n) → test i ≡ false
      go i low high (yes before) = each_fails n (leb-false (first n test) n e) i low (omega arith)
      go i low high (no here) = let same : i ≡ suc n = omega arith in ap test same ∙ fails

  pub some_more : (n : ℕ) → test (suc n) ≡ false → some n test ≡ some (suc n) test
  some_more n fails = by_some n fails (some n test) refl

  -- where one passes and none before it does, it is the first
  first_here : (n i : ℕ) → 1 ≤ i → i ≤ n → test i ≡ true → ((k : ℕ) → 1 ≤ k → k < i → test k ≡ false) → first n test ≡ i
  first_here n i low high passes before = go (dec_lt (first n test) i)
    where
      go : Dec (first n test < i) → first n test ≡ i
      go (yes earlier) =
          let some_low : 1 ≤ first n test = omega (arith, (search_between (n + 1) 1 test (omega arith)).0, begins n test) in
          let z : ◌≡◌ {A = Bool} true false = sym (first_passes 1 n (omega arith)) ∙ before (first n test) some_low earlier in
          let e : ◌≡◌ {A = ℕ} 0 1 = cc in
          absurd (omega arith)
      go (no later) = omega (arith, no_later 1 n i low (omega arith) passes)

  -- what the library's `find` and `any` say of the numbers from 1 to n
  pub lowest_found :
      (n past : ℕ) (found : Option ℕ) → past ≡ n + 1 →
      MatchOption found ((k : ℕ) → 1 ≤ k → k < past → test k ≡ false)
      (λ i. (1 ≤ i) × (i < past) × (test i ≡ true) × ((k : ℕ) → 1 ≤ k → k < i → test k ≡ false)) →
      found ≡ cond (leb (first n test) n) (Some (first n test)) None
  lowest_found n past None end none = rw (none_passes n test (λ i low high. none i low (omega arith)))
  lowest_found n past (Some i) end this =
      rw (first_here n i this.0 (omega arith) this.2 this.3, le-leb i n (omega arith))

  pub any_found :
      (n : ℕ) (found : Bool) →
      MatchBool found
      ((k : ℕ) × (k < length (range_with_len 1 n)) × HoldsAt (λ i. test i ≡ true) (range_with_len 1 n) k)
      (AllWithin (λ i. test i ≡ false) (range_with_len 1 n) 0 (length (range_with_len 1 n))) →
      found ≡ some n test
  any_found n true this =
      let inside : this.0 < n = omega (arith, length-range_with_len 1 n) in
      some_passes n (1 + this.0) (omega arith) (omega arith) (ap test (sym (get_or-range_with_len 1 n this.0 0 inside)) ∙ this.2 0)
  any_found n false none =
      sym (none_passes n test (λ i low high.
      let there : 1 + (i - 1) ≡ i = omega arith in
      ap test (sym (get_or-range_with_len 1 n (i - 1) 0 (omega arith) ∙ there)) ∙ none (i - 1) 0 (omega arith) (omega (arith, length-range_with_len 1 n))))
