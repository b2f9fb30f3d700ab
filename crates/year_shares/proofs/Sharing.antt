-- The shares of the categories: a loop over the lines adds each line's share to the sum of its category.
-- Assumes nothing.
use Prim.Native.Nat.{ℕ, zero, suc, ◌+◌, ◌-◌, ◌≤◌, ◌<◌}
use mathlib.Core.Bool.{Bool, true, false, cond}
use mathlib.Core.List.{List}
use mathlib.Core.Path.{refl, sym, ap, subst, ◌≡◌, ◌∙◌}
use native.Mathlib.Decide.{ℕ_discrete}
use native.Mathlib.Omega.{arith}
use borrow.Author.Tests.{eq-eqb, ne_eqb, le-leb, lt-leb, le-ltb, lt-ltb}
use lib.Dec.{eqb, leb, ltb}
use lib.ListN.{length, take, drop, get_or, set, replicate, length-set, length-replicate, get_or-replicate}
use lib.Seq.{get_or-set_same, get_or-set_other}
use Rattle.std.specs.Prelude.{Option, Some, None, MatchOption, Result, Ok, Err, ⊤}
use Rattle.std.specs.List.{AllWithin, HoldsAt}
use Rattle.std.proofs.lemmas.Grind.{get_or_after_one}
use Rattle.std.proofs.lemmas.List.{take_all}
use Rattle.refusals.specs.Refusal.{refusal}
use Rattle.refusals.specs.declared.Refusal.{Refusal}
use Rattle.refusals.specs.declared.Reason.TheVariants.{OverShared}
use Rattle.laws.proofs.Counting.{sum_none, sum_more, sum_most, Reached, begins, found, passed, none}
use Rattle.laws.specs.Counting.{sum}
use Rattle.record_table.specs.Table.{lines, categories}
use Rattle.book.specs.Valid.{Valid}
use Rattle.book_herd.specs.Herd.{line_of}
use Rattle.book_herd.specs.declared.Line.{Line}
use Rattle.year_shares.specs.Asks.{Shared}
use Rattle.year_shares.specs.Shares.{whole_share, share_in, shares_of, over_of, fit_of}
use Rattle.year_shares.proofs.Ranges.{share_ranged}

module _ (book : List ℕ) where
  abbrev each : ℕ → ℕ → ℕ
  each category line = share_in category (line_of book line)

  pub shared_none : Shared book 0 (replicate (categories + 1) 0)
  shared_none =
      record {
        long = length-replicate {A = ℕ} (categories + 1) 0;
        each = λ category h. get_or-replicate {A = ℕ} (categories + 1) category 0 0 (omega arith) ∙ sum_none (each category);
      }

  module _ {sums : List ℕ} where
    module _ (line : ℕ) (low : 1 ≤ line) {numbers : Line} (read : numbers ≡ line_of book line) (small : numbers.category ≤ categories)
        (shared : Shared book (line - 1) sums) where
      abbrev own : ℕ
      own = numbers.category

      abbrev next : List ℕ
      next = set sums own (get_or sums own 0 + numbers.share)

      own_share : numbers.share ≡ each own line
      own_share =
          sym (ap (λ (b : Bool). cond b numbers.share 0) (eq-eqb own own (ap (λ (n : ℕ). n) (rw read)))) ∙ ap (share_in own) read

      no_share : (category : ℕ) → (category ≡ own → ⊥) → 0 ≡ each category line
      no_share category other =
          sym (ap (λ (b : Bool). cond b numbers.share 0) (ne_eqb own category (λ e. other (sym e)))) ∙ ap (share_in category) read

      at : (category : ℕ) → category ≤ categories → Dec (category ≡ own) → get_or next category 0 ≡ sum (line + 1 - 1) (each category)
      at category h (yes e) =
          rw e
          (get_or-set_same sums own (get_or sums own 0 + numbers.share) 0 (omega (arith, shared.long)) ∙
          sum_more (each own) line low (shared.each own small) own_share)
      at category h (no e) =
          let same : get_or sums category 0 ≡ get_or sums category 0 + 0 = omega arith in
          get_or-set_other sums own category (get_or sums own 0 + numbers.share) 0 e ∙ same ∙
          sum_more (each category) line low (shared.each category h) (no_share category e)

      pub shared_more : Shared book (line + 1 - 1) next
      shared_more =
          record {
            long = length-set sums own (get_or sums own 0 + numbers.share) ∙ shared.long;
            each = λ category h. at category h (ℕ_discrete category own);
          }

-- no sum passes that of the ranges' ends
share_most : (category : ℕ) (line : Line) → line.share ≤ 10000 → share_in category line ≤ 10000
share_most category line small = go (eqb line.category category)
  where
    go : (b : Bool) → cond b line.share 0 ≤ 10000
    go true = small
    go false = omega arith

pub shared_most :
    (book : List ℕ) (v : Valid book) (n : ℕ) {sums : List ℕ} → n ≤ lines → Shared book n sums → (category : ℕ) → category ≤ categories →
    get_or sums category 0 ≤ 320000
shared_most book v n within shared category h =
    omega (
      arith,
      shared.each category h,
      sum_most (λ line. share_in category (line_of book line)) 10000 n
          (λ line low high. share_most category (line_of book line) (share_ranged book v line (omega arith)).share),
    )

-- what the search comes to is the answer
abbrev answer : ℕ → Bool → Result ⊤ Refusal
answer over above = cond above (Err (refusal OverShared over)) (Ok tt)

module _ (book : List ℕ) (over : ℕ) (over-found : over ≡ over_of book) where
  by_over : answer over (leb over categories) ≡ fit_of book
  unfolding fit_of
  by_over = ap (λ (k : ℕ). answer k (leb k categories)) over-found

  pub over_is : over ≤ categories → answer over true ≡ fit_of book
  over_is h = sym (ap (answer over) (le-leb over categories h)) ∙ by_over

  pub fits_is : categories < over → answer over false ≡ fit_of book
  fits_is h = sym (ap (answer over) (lt-leb over categories h)) ∙ by_over

-- what the library's `position` says of the sums of the categories is what the search of the definition comes to
abbrev pub by_position : Option ℕ → Result ⊤ Refusal
by_position None = Ok tt
by_position (Some passed) = Err (refusal OverShared (passed + 1))

abbrev pub Within : ℕ → Type 0
Within share = share ≤ whole_share

abbrev pub Above : ℕ → Type 0
Above share = whole_share < share

module _ (book : List ℕ) {sums : List ℕ} (shared : Shared book lines sums) where
  abbrev over : ℕ → Bool
  over category = ltb whole_share (shares_of book category)

  abbrev its : List ℕ
  its = drop 1 sums

  its_long : length its ≡ categories
  its_long = grind (arith, shared.long)

  -- the slice from the second sum on has the others whole
  pub its_slice : take categories (drop 1 sums) ≡ its
  its_slice = take_all categories its (omega (arith, its_long))

  its_sum : (passed : ℕ) → passed < categories → get_or its passed 0 ≡ shares_of book (passed + 1)
  unfolding shares_of
  its_sum passed inside =
      let e : 1 + passed ≡ passed + 1 = omega arith in
      get_or_after_one sums passed 0 ∙ ap (λ (k : ℕ). get_or sums k 0) e ∙ shared.each (passed + 1) (omega arith)

  fits_there : (passed : ℕ) → passed < categories → Within (get_or its passed 0) → over (passed + 1) ≡ false
  fits_there passed inside fits = rw (← its_sum passed inside) (le-ltb _ _ fits)

  over_there : (passed : ℕ) → passed < categories → Above (get_or its passed 0) → over (passed + 1) ≡ true
  over_there passed inside above = rw (← its_sum passed inside) (lt-ltb _ _ above)

  reached : (n : ℕ) → n ≤ categories → ((i : ℕ) → i < n → Within (get_or its i 0)) → Reached categories (n + 1) over
  reached zero inside fit = begins categories over
  reached (suc n) inside fit =
      let e : n + 1 + 1 ≡ suc n + 1 = omega arith in
      subst (λ (i : ℕ). Reached categories i over) e
      (passed categories (n + 1) over (reached n (omega arith) (λ i low. fit i (omega arith))) (omega arith) (fits_there n (omega arith) (fit n (omega arith))))

  pub position_is :
      (position : Option ℕ) →
      MatchOption position (AllWithin Within its 0 (length its)) (λ i. (i < length its) × HoldsAt Above its i × AllWithin Within its 0 i) →
      by_position position ≡ fit_of book
  unfolding over_of
  position_is None fit =
      fits_is book (categories + 1)
      (none categories (categories + 1) over (reached categories (omega arith) (λ i low. fit i 0 (omega arith) (omega (arith, its_long)))) refl)
      (omega arith)
  position_is (Some i) this =
      let inside : i < categories = omega (arith, its_long) in
      over_is book (i + 1)
      (found categories (i + 1) over (reached i (omega arith) (λ k low. this.2 k 0 (omega arith) low)) (omega arith) (over_there i inside (this.1 0)))
      (omega arith)
