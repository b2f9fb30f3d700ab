-- That no two outcomes fit a contract (01, "What the contracts owe"). It is said of what the contract tells a caller, a claim about
-- lifetimes, arguments, the answer and the arguments at the exit; each function has it as `Reads.Learnt`. Assumes nothing.
use mathlib.Core.Path.{◌≡◌, sym, ◌∙◌}

module _ {K : Type 0} {A X S : K → Type 0} (Learnt : (κ : K) → A κ → X κ → S κ → Type 0) where
  -- two answers that both fit are one
  abbrev pub OneAnswer : Type 0
  OneAnswer = (κ : K) (a : A κ) (x y : X κ) (s t : S κ) → Learnt κ a x s → Learnt κ a y t → x ≡ y

  -- and so is the lent memory afterwards, found among the arguments at the exit
  abbrev pub OneOutcome : {L : Type 0} → ((κ : K) → S κ → L) → Type 0
  OneOutcome lent = (κ : K) (a : A κ) (x y : X κ) (s t : S κ) → Learnt κ a x s → Learnt κ a y t → (x ≡ y) × (lent κ s ≡ lent κ t)

  -- where the outcome is told only in part, that part is one
  abbrev pub OneTold : {T : Type 0} → ((κ : K) → A κ → X κ → S κ → T) → Type 0
  OneTold told = (κ : K) (a : A κ) (x y : X κ) (s t : S κ) → Learnt κ a x s → Learnt κ a y t → told κ a x s ≡ told κ a y t

-- two values that are both what a definition gives are one
pub one : {B : Type 0} {x y given : B} → x ≡ given → y ≡ given → x ≡ y
one p q = p ∙ sym q

-- and two pairs of them
pub ones : {B C : Type 0} {x y given : B} {l m left : C} → (x ≡ given) × (l ≡ left) → (y ≡ given) × (m ≡ left) → (x ≡ y) × (l ≡ m)
ones p q = (one p.0 q.0, one p.1 q.1)
