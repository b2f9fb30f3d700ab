-- A series as an array holds it: an array of nothing, an hour more, and two series that agree.
-- Assumes nothing.
use Rattle.std.proofs.Common.{◌≡◌, ℕ, zero, suc, ◌+◌, ◌≤◌, ◌<◌, List, Option, None, Bool, true, false, length, set, replicate, refl, ◌∙◌, arith}
use borrow.Author.Count.{below_more}
use borrow.Author.Tests.{ltb-true, ltb-false}
use lib.Dec.{ltb}
use lib.Seq.{get_or-set_same, get_or-set_other}
use Rattle.meter_series.specs.Series.{series}

module _ (l : List (Option ℕ)) (i : ℕ) (v : Option ℕ) where
  pub stored :
      (P : ℕ → Option ℕ) → i < length l → ((k : ℕ) → k < i → series l k ≡ P k) → v ≡ P i →
      (k : ℕ) → k < i + 1 → series (set l i v) k ≡ P k
  stored P b p q =
      below_more (λ (k : ℕ). series (set l i v) k ≡ P k) i (λ k h. get_or-set_other l i k v None (λ e. omega arith) ∙ p k h)
      (get_or-set_same l i v None b ∙ q)

  pub later : ((k : ℕ) → i ≤ k → series l k ≡ None) → (k : ℕ) → i + 1 ≤ k → series (set l i v) k ≡ None
  later p k h = get_or-set_other l i k v None (λ e. omega arith) ∙ p k (omega arith)

-- an array of nothing holds nothing
pub nothing : (n h : ℕ) → series (replicate n None) h ≡ None
nothing zero h = refl
nothing (suc n) zero = refl
nothing (suc n) (suc h) = nothing n h

by_test :
    (P Q : ℕ → Option ℕ) (n h : ℕ) (b : Bool) → ltb h n ≡ b →
    ((k : ℕ) → k < n → P k ≡ Q k) → ((k : ℕ) → n ≤ k → P k ≡ None) → ((k : ℕ) → n ≤ k → None ≡ Q k) → P h ≡ Q h
by_test P Q n h true e p q r = p h (ltb-true h n e)
by_test P Q n h false e p q r = q h (ltb-false h n e) ∙ r h (ltb-false h n e)

-- two series that agree in the month and have nothing past it agree
pub agree :
    (P Q : ℕ → Option ℕ) (n : ℕ) →
    ((k : ℕ) → k < n → P k ≡ Q k) → ((k : ℕ) → n ≤ k → P k ≡ None) → ((k : ℕ) → n ≤ k → None ≡ Q k) → (h : ℕ) → P h ≡ Q h
agree P Q n p q r h = by_test P Q n h (ltb h n) refl p q r
