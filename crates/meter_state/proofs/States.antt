-- What a state's lower part says of the hour's reading, and that the value past a list's end does not matter before it.
-- Assumes nothing.
use mathlib.Core.Path.{◌≡◌, refl, sym, ◌∙◌}
use mathlib.Core.List.{List, [], ◌∷◌}
use Prim.Native.Nat.{ℕ, zero, suc, ◌%◌, ◌<◌}
use native.Mathlib.Omega.{arith}
use borrow.Author.Tests.{ne_eqb}
use lib.Ieee.{Float}
use lib.ListN.{length, get_or}
use Rattle.meter_state.specs.declared.Reading.TheVariants.{Both, NoFlow, NoContent, Neither}
use Rattle.meter_state.specs.State.{reading_of}

pub before_end : (l : List ℕ) (i a b : ℕ) → i < length l → get_or l i a ≡ get_or l i b
before_end [] i a b h = absurd (omega arith)
before_end (x ∷ l) zero a b h = refl
before_end (x ∷ l) (suc i) a b h = before_end l i a b (omega arith)

module _ (state : ℕ) (flow content : Float) where
  pub both : state % 4 ≡ 0 → Both flow content ≡ reading_of state flow content
  unfolding reading_of
  both e = rw e

  pub no_flow : state % 4 ≡ 1 → NoFlow content ≡ reading_of state flow content
  unfolding reading_of
  no_flow e = rw e

  pub no_content : state % 4 ≡ 2 → NoContent flow ≡ reading_of state flow content
  unfolding reading_of
  no_content e = rw e

  pub neither : (state % 4 ≡ 0 → ⊥) → (state % 4 ≡ 1 → ⊥) → (state % 4 ≡ 2 → ⊥) → Neither ≡ reading_of state flow content
  unfolding reading_of
  neither a b c = simp (ne_eqb (state % 4) 0 a, ne_eqb (state % 4) 1 b, ne_eqb (state % 4) 2 c)

-- a missing value's bits change nothing
pub flow_ignored : (state : ℕ) (flow other content : Float) → state % 4 ≡ 1 → reading_of state flow content ≡ reading_of state other content
flow_ignored state flow other content e = sym (no_flow state flow content e) ∙ no_flow state other content e

pub content_ignored : (state : ℕ) (flow content other : Float) → state % 4 ≡ 2 → reading_of state flow content ≡ reading_of state flow other
content_ignored state flow content other e = sym (no_content state flow content e) ∙ no_content state flow other e

pub both_ignored : (state : ℕ) (flow content other another : Float) → state % 4 ≡ 3 → reading_of state flow content ≡ reading_of state other another
both_ignored state flow content other another e =
    sym (neither state flow content (λ z. omega arith) (λ z. omega arith) (λ z. omega arith))
    ∙ neither state other another (λ z. omega arith) (λ z. omega arith) (λ z. omega arith)
