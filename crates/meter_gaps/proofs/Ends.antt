-- A run's end: the first hour that a search finds, or the month's end, is where the run of missing hours ends. Assumes nothing.
use mathlib.Core.Path.{◌≡◌, refl, sym, ap, ◌∙◌}
use mathlib.Core.Bool.{Bool, true, false}
use mathlib.Core.Logic.{◌≢◌}
use Prim.Native.Nat.{ℕ, zero, suc, ◌+◌, ◌-◌, ◌≤◌, ◌<◌}
use native.Mathlib.Omega.{arith}
use borrow.Author.Tests.{eqb-true, eqb-false}
use lib.Dec.{eqb}
use Rattle.std.specs.Prelude.{Option, None, Some}
use Rattle.std.specs.Option.{MatchOption, unwrap_or}
use Rattle.laws.specs.Counting.{first_from}
use Rattle.laws.proofs.Counting.{first_past}

module _ (test : ℕ → Bool) where
  stops : (a n j : ℕ) → a ≤ j → j < a + n → test j ≡ true → ((k : ℕ) → a ≤ k → k < j → test k ≡ false) → j ≡ first_from a n test
  unfolding first_from
  stops a zero j l m t before = let z : ⊥ = omega arith in absurd z
  stops a (suc n) j l m t before = go (eqb a j) refl (λ later. stops (a + 1) n j (omega (arith, later)) (omega arith) t (λ k p q. before k (omega arith) q))
    where
      go : (b : Bool) → eqb a j ≡ b → (a ≢ j → j ≡ first_from (a + 1) n test) → j ≡ first_from a (suc n) test
      go true e rest = let here : a ≡ j = eqb-true _ _ e in let t' : test a ≡ true = ap test here ∙ t in simp t' (sym here)
      go false e rest =
          let later = eqb-false _ _ e in
          simp (before a (omega arith) (omega (arith, later))) (rest later)

  -- what `find` over the hours from a up to an end tells, and the end where it finds none
  abbrev pub Found : ℕ → ℕ → Option ℕ → Type 0
  Found a end found =
      MatchOption found ((k : ℕ) → a ≤ k → k < end → test k ≡ false)
      (λ j. (a ≤ j) × (j < end) × (test j ≡ true) × ((k : ℕ) → a ≤ k → k < j → test k ≡ false))

  pub searched : (a end : ℕ) (found : Option ℕ) → a ≤ end → Found a end found → unwrap_or found end ≡ first_from a (end - a) test
  searched a end None inside f = let whole : a + (end - a) ≡ end = omega arith in sym whole ∙ sym (first_past a (end - a) test (λ k l m. f k l (omega (arith, whole))))
  searched a end (Some j) inside f = stops a (end - a) j f.0 (omega (arith, f.1)) f.2 f.3
