-- The categories that have a line: a loop over the lines sets their flags, and a month lacks a head count where a flagged category does.
-- Assumes nothing.
use Prim.Native.Nat.{ℕ, zero, suc, ◌+◌, ◌-◌, ◌≤◌}
use mathlib.Core.Bool.{Bool, true, false, ◌&&◌}
use mathlib.Core.List.{List}
use mathlib.Core.Path.{refl, sym, ap, ◌≡◌, ◌∙◌}
use native.Mathlib.Decide.{ℕ_discrete}
use native.Mathlib.Omega.{arith}
use borrow.Author.Tests.{eq-eqb, ne_eqb, eqb-true, leb-false}
use lib.Dec.{eqb}
use lib.ListN.{get_or, set, replicate, length-set, length-replicate}
use lib.Seq.{get_or-set_same, get_or-set_other}
use Rattle.laws.proofs.Counting.{none_passes}
use Rattle.laws.specs.Counting.{some}
use Rattle.record_table.specs.Table.{lines, categories}
use Rattle.book.specs.Valid.{Valid}
use Rattle.book_herd.specs.Herd.{category_of}
use Rattle.std.specs.Prelude.{Option, Some, None}
use Rattle.year_months.specs.Series.{amount_of}
use Rattle.year_needs.specs.Asks.{Lined}
use Rattle.year_needs.specs.Complete.{uncounted, headless}
use Rattle.year_needs.proofs.Passing.{found_one, some_more, some_passes, each_fails}
use Rattle.year_needs.proofs.Ranges.{category_least, category_most}

not_both : {A : Type 0} {flag : Bool} → flag ≡ false → flag ≡ true → A
not_both low high = let z : ◌≡◌ {A = Bool} false true = sym low ∙ high in let n : ◌≡◌ {A = ℕ} 0 1 = cc in absurd (omega arith)

no_flag : (n i : ℕ) → get_or (replicate n false) i false ≡ false
no_flag zero i = refl
no_flag (suc n) zero = refl
no_flag (suc n) (suc i) = no_flag n i

abbrev has : List ℕ → ℕ → ℕ → Bool
has book category line = eqb (amount_of (category_of book line)) category

pub lined_none : (book : List ℕ) → Lined book 0 (replicate (categories + 1) false)
lined_none book =
    record {
      long = length-replicate (categories + 1) false;
      each = λ category h. no_flag (categories + 1) category ∙ sym (none_passes 0 (has book category) (λ line low high. absurd (omega arith)));
    }

valued : (seen : Option ℕ) (category : ℕ) → 1 ≤ category → amount_of seen ≡ category → seen ≡ Some category
valued None category low e = absurd (omega arith)
valued (Some x) category low e = ap Some e

-- one line more: the flag of its category's number is set
module _ (book : List ℕ) (line : ℕ) {flags : List Bool} {number : ℕ} {seen : Option ℕ} (low : 1 ≤ line) (read : seen ≡ category_of book line)
    (is : number ≡ amount_of seen) (small : number ≤ categories) (lined : Lined book (line - 1) flags) where
  its : number ≡ amount_of (category_of book line)
  its = is ∙ ap amount_of read

  earlier : line ≡ suc (line - 1)
  earlier = omega arith

  later : suc (line - 1) ≡ line + 1 - 1
  later = omega arith

  flag : (category : ℕ) → category ≤ categories → Dec (category ≡ number) → get_or (set flags number true) category false ≡ some (line + 1 - 1) (has book category)
  flag category h (yes e) =
      rw e (get_or-set_same flags number true false (omega (arith, lined.long))) ∙
      some_passes (has book category) (line + 1 - 1) line low (omega arith) (eq-eqb _ _ (sym its ∙ sym e))
  flag category h (no e) =
      get_or-set_other flags number category true false e ∙ lined.each category h ∙
      some_more (has book category) (line - 1)
      (ap (has book category) (sym earlier) ∙ ne_eqb (amount_of (category_of book line)) category (λ same. e (sym (its ∙ same)))) ∙
      ap (λ (n : ℕ). some n (has book category)) later

  pub lined_more : Lined book (line + 1 - 1) (set flags number true)
  lined_more =
      record {
        long = length-set flags number true ∙ lined.long;
        each = λ category h. flag category h (ℕ_discrete category number);
      }

-- a month's head counts, by the flags
and_left : (a b : Bool) → (a && b) ≡ true → a ≡ true
and_left true b e = refl
and_left false b e = e

and_right : (a b : Bool) → (a && b) ≡ true → b ≡ true
and_right true b e = e
and_right false b e = not_both refl e

module _ (book : List ℕ) (m : ℕ) {flags : List Bool} (lined : Lined book lines flags) where
  headless_found :
      (category : ℕ) → 1 ≤ category → category ≤ categories → (get_or flags category false && uncounted book m (Some category)) ≡ true → true ≡ headless book m
  unfolding headless
  headless_found category low high both =
      let lacks = uncounted book m (Some category) in
      let flag = and_left (get_or flags category false) lacks both in
      let one = found_one (has book category) lines (sym (lined.each category high) ∙ flag) in
      let its = valued (category_of book one.at) category low (eqb-true _ _ one.passes) in
      some_passes (λ line. uncounted book m (category_of book line)) lines one.at one.low one.high
      (ap (uncounted book m) its ∙ and_right (get_or flags category false) lacks both)

  module _ (v : Valid book) (none : (k : ℕ) → 1 ≤ k → k ≤ categories → (get_or flags k false && uncounted book m (Some k)) ≡ false) where
    counted : (line : ℕ) → 1 ≤ line → line ≤ lines → (seen : Option ℕ) → category_of book line ≡ seen → uncounted book m seen ≡ false
    counted line low high None e = refl
    counted line low high (Some k) e =
        let most = category_most book v line k high e in
        let flag = lined.each k most ∙ sym (some_passes (has book k) lines line low high (eq-eqb _ _ (ap amount_of e))) in
        sym (ap (λ (b : Bool). b && uncounted book m (Some k)) flag) ∙ none k (category_least book v line k high e) most

    headless_none : false ≡ headless book m
    unfolding headless
    headless_none =
        sym (none_passes lines (λ line. uncounted book m (category_of book line)) (λ line low high. counted line low high (category_of book line) refl))

  -- so a month lacks a head count where a flagged category does
  pub headless_flagged : Valid book → some categories (λ category. get_or flags category false && uncounted book m (Some category)) ≡ headless book m
  headless_flagged v = go (some categories flagged) refl
    where
      flagged : ℕ → Bool
      flagged category = get_or flags category false && uncounted book m (Some category)

      go : (b : Bool) → some categories flagged ≡ b → b ≡ headless book m
      go true e = let one = found_one flagged categories e in headless_found one.at one.low one.high one.passes
      go false e = headless_none v (λ k low high. each_fails flagged categories (leb-false _ _ e) k low high)
