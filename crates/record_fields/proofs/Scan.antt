-- Bytes that must be 0: none is not, or the first that is not has only zeros before it. Assumes nothing.
use mathlib.Core.Path.{◌≡◌, refl, sym}
use mathlib.Core.Bool.{Bool, true, false}
use mathlib.Core.List.{List}
use mathlib.Core.Logic.{◌≢◌}
use Prim.Native.Nat.{ℕ, zero, suc, ◌+◌, ◌≤◌, ◌<◌}
use native.Mathlib.Omega.{arith}
use borrow.Author.Tests.{eq-eqb, ne_eqb, eqb-true, eqb-false}
use lib.Dec.{eqb}
use lib.ListN.{get_or}
use Rattle.std.specs.Prelude.{Option, None, Some}
use Rattle.std.specs.Option.{MatchOption}
use Rattle.record_fields.specs.Entry.{nonzero_at}

-- what `find` over a range tells of the bytes from an offset up to another
abbrev pub Found : List ℕ → ℕ → ℕ → Option ℕ → Type 0
Found r at end found =
    MatchOption found ((k : ℕ) → at ≤ k → k < end → get_or r k 0 ≡ 0)
    (λ i. (at ≤ i) × (i < end) × (get_or r i 0 ≢ 0) × ((k : ℕ) → at ≤ k → k < i → get_or r k 0 ≡ 0))

module _ (r : List ℕ) where
  none : (at n : ℕ) → ((k : ℕ) → at ≤ k → k < at + n → get_or r k 0 ≡ 0) → None ≡ nonzero_at r at n
  unfolding nonzero_at
  none at zero h = refl
  none at (suc n) h = simp (eq-eqb _ _ (h at (omega arith) (omega arith))) (none (at + 1) n (λ k l m. h k (omega arith) (omega arith)))

  some :
      (at n i : ℕ) → at ≤ i → i < at + n → (get_or r i 0 ≢ 0) → ((k : ℕ) → at ≤ k → k < i → get_or r k 0 ≡ 0) → Some i ≡ nonzero_at r at n
  unfolding nonzero_at
  some at zero i l m is before = let z : ⊥ = omega arith in absurd z
  some at (suc n) i l m is before = go (eqb at i) refl (λ later. some (at + 1) n i (omega (arith, later)) (omega arith) is (λ k s t. before k (omega arith) t))
    where
      go : (b : Bool) → eqb at i ≡ b → (at ≢ i → Some i ≡ nonzero_at r (at + 1) n) → Some i ≡ nonzero_at r at (suc n)
      go true e rest = let here : i ≡ at = sym (eqb-true _ _ e) in rw here (simp (ne_eqb (get_or r at 0) 0 (λ z. is (rw here z))))
      go false e rest =
          let later = eqb-false _ _ e in
          simp (eq-eqb _ _ (before at (omega arith) (omega (arith, later)))) (rest later)

  pub scanned : (at n : ℕ) (found : Option ℕ) → Found r at (at + n) found → found ≡ nonzero_at r at n
  scanned at n None f = none at n f
  scanned at n (Some i) f = some at n i f.0 f.1 f.2 f.3
