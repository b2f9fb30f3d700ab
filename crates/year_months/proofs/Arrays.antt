-- An array is filled from its front, an entry a turn: what it held of a series it still holds, and one number more.
-- Assumes nothing.
use Prim.Native.Nat.{ℕ, ◌+◌, ◌-◌, ◌≤◌, ◌<◌}
use mathlib.Core.List.{List}
use mathlib.Core.Path.{refl, ap, subst, ◌≡◌, ◌∙◌}
use native.Mathlib.Decide.{dec_lt}
use native.Mathlib.Omega.{arith}
use lib.ListN.{length, get_or, set, length-set}
use lib.Seq.{get_or-set_same, get_or-set_other}
use Rattle.year_months.specs.Asks.{Holds}

module _ {A : Type 0} (none : A) (entries before : ℕ) (series : ℕ → A) (array : List A) where
  pub array_begins : length array ≡ entries → Holds A none entries before 0 series array
  array_begins long = record { long = long; each = λ m low high. absurd (omega arith) }

  module _ (passed : ℕ) (value : A) (inside : passed < entries) (next : value ≡ series (before + passed + 1)) (held : Holds A none entries before passed series array) where
    at : (m : ℕ) → 1 ≤ m → m ≤ passed + 1 → Dec (m - 1 < passed) → get_or (set array passed value) (m - 1) none ≡ series (before + m)
    at m low high (yes l) =
        get_or-set_other array passed (m - 1) value none (λ same. absurd (omega (arith, same))) ∙ held.each m low (omega arith)
    at m low high (no l) =
        let i : passed ≡ m - 1 = omega arith in
        let e : before + passed + 1 ≡ before + m = omega arith in
        subst (λ (k : ℕ). get_or (set array passed value) k none ≡ series (before + m)) i
        (get_or-set_same array passed value none (omega (arith, held.long)) ∙ next ∙ subst (λ (k : ℕ). series (before + passed + 1) ≡ series k) e refl)

    pub array_more : Holds A none entries before (passed + 1) series (set array passed value)
    array_more =
        record {
          long = length-set array passed value ∙ held.long;
          each = λ m low high. at m low high (dec_lt (m - 1) passed);
        }

-- one of its entries
module _ {A : Type 0} {none : A} {entries before n : ℕ} {series : ℕ → A} {array : List A} (held : Holds A none entries before n series array) where
  pub array_at : (passed : ℕ) → passed < n → get_or array passed none ≡ series (before + passed + 1)
  array_at passed below =
      let i : passed + 1 - 1 ≡ passed = omega arith in
      let e : before + (passed + 1) ≡ before + passed + 1 = omega arith in
      subst (λ (k : ℕ). get_or array k none ≡ series (before + passed + 1)) i (held.each (passed + 1) (omega arith) (omega arith) ∙ ap series e)
