-- The bytes of a key, read from the last to the first: what is found from one of them on is what is found from the next on, and its own. Assumes nothing.
use mathlib.Core.Path.{◌≡◌, ap, ◌∙◌}
use mathlib.Core.List.{List, [], ◌∷◌}
use Prim.Native.Nat.{ℕ, zero, suc, ◌+◌, ◌<◌}
use native.Mathlib.Nat.{le_of_suc-le-suc}
use native.Mathlib.Omega.{arith}
use lib.ListN.{length, get_or, drop}
use Rattle.std.specs.Prelude.{Option}
use Rattle.std.specs.Option.{option_or}
use Rattle.std.proofs.lemmas.List.{drop_more}
use Rattle.record_table.specs.Table.{from}
use Rattle.record_fields.specs.Entry.{outside_at}
use Rattle.record_judge.specs.Record.{key_in}
use Rattle.record_judge.specs.Keyed.{key_outside}

-- each is a byte, as those of the record are
pub key_small : (r : List ℕ) → ((i : ℕ) → get_or r i 0 < 256) → (at : ℕ) (highest : List ℕ) (k d : ℕ) → k < length (key_in at highest r) → get_or (key_in at highest r) k d < 256
unfolding key_in
key_small r each at [] k d h = let z : ⊥ = omega (arith, h) in absurd z
key_small r each at (high ∷ highest) zero d h = each at
key_small r each at (high ∷ highest) (suc k) d h = key_small r each (at + 1) highest k d (le_of_suc-le-suc h)

module _ (highest r : List ℕ) (i j : ℕ) (is : j + 1 ≡ i) (h : j < length highest) where
  next : 2 + j + 1 ≡ 2 + i
  next = omega (arith, is)

  pub outside_turn : (outside : Option ℕ) → key_outside (2 + j) (drop j highest) r outside ≡ option_or (outside_at r (2 + j) 1 (from 1 (get_or highest j 0))) (key_outside (2 + i) (drop i highest) r outside)
  unfolding key_outside
  outside_turn outside =
      ap (λ (most : List ℕ). key_outside (2 + j) most r outside) (drop_more highest j 0 h)
      ∙ ap (λ (at : ℕ). option_or (outside_at r (2 + j) 1 (from 1 (get_or highest j 0))) (key_outside at (drop (j + 1) highest) r outside)) next
      ∙ ap (λ (n : ℕ). option_or (outside_at r (2 + j) 1 (from 1 (get_or highest j 0))) (key_outside (2 + i) (drop n highest) r outside)) is

  pub key_turn : key_in (2 + j) (drop j highest) r ≡ get_or r (2 + j) 0 ∷ key_in (2 + i) (drop i highest) r
  unfolding key_in
  key_turn =
      ap (λ (most : List ℕ). key_in (2 + j) most r) (drop_more highest j 0 h)
      ∙ ap (λ (at : ℕ). get_or r (2 + j) 0 ∷ key_in at (drop (j + 1) highest) r) next
      ∙ ap (λ (n : ℕ). get_or r (2 + j) 0 ∷ key_in (2 + i) (drop n highest) r) is
