-- What is read of the book of 01's worked example ("Figures to check"): its first year has the records that it needs, and no shares pass the whole.
-- Assumes nothing.
use Prim.Native.Nat.{ℕ, suc, ◌-◌, ◌≤◌, ◌<◌}
use mathlib.Core.Bool.{Bool, true, false, cond, not}
use mathlib.Core.List.{List, [], ◌∷◌}
use mathlib.Core.Path.{◌≡◌, refl, sym, ap, ◌∙◌, subst}
use native.Mathlib.Omega.{arith}
use borrow.Author.Tests.{le-ltb, lt-ltb}
use lib.Dec.{T, eqb, leb, ltb, lit≤, leb→le}
use lib.IntN.{pos}
use Rattle.std.specs.Prelude.{Option, Some, None, Ok}
use Rattle.laws.specs.Counting.{sum}
use Rattle.laws.proofs.Counting.{sum_same, begins, one_found, none_passes, first_past}
use Rattle.laws.proofs.Table.{each, at}
use Rattle.calendar.specs.Days.{months_in_year}
use Rattle.record_table.specs.Table.{lines, categories, yr, ln, hd, tp, dr, pe, mt}
use Rattle.number_bytes.specs.Number.{number_at, signed_of}
use Rattle.record_table.specs.Slot.{slot_of}
use Rattle.book.specs.Book.{record_at, nothing}
use Rattle.book_slots.specs.Field.{number_of}
use Rattle.book_slots.specs.Reads.{first_year_of, first_month_of, temperature_of, project_methane_of, baseline_co2_of, project_co2_of, destroyed_of}
use Rattle.book_herd.specs.Herd.{system_of, category_of, line_of, head_of, drained_of}
use Rattle.book_herd.specs.declared.Line.{Line}
use Rattle.book_theorems.proofs.Slotwise.{filled_held, number_held, seen_held}
use Rattle.year_months.specs.Series.{first_year, filled, months_before}
use Rattle.year_needs.specs.Complete.{any_line, unmeasured, uncounted, headless, lacks, lacking_of, complete_of}
use Rattle.year_shares.specs.Shares.{whole_share, share_in, shares_of, over_of}
use Rattle.wrong_programs.proofs.Records.{line_record, grams_of, meter_record}
use Rattle.wrong_programs.proofs.WorkedBook.{Stands}

abbrev pub the_line : Line
the_line = record { system = 0; category = 1; solids = 1000; mass = 6000; share = 10000; b0 = 24; conversion = 0 }

abbrev no_line : Line
no_line = record { system = 0; category = 0; solids = 0; mass = 0; share = 0; b0 = 0; conversion = 0 }

-- a category's shares, one test
shares_fit : ℕ → Bool
shares_fit c = leb (sum lines (λ l. share_in (suc c) (cond (eqb l 1) the_line no_line))) whole_share

all_fit : T (each shares_fit categories)
unfolding shares_fit each sum
all_fit = tt

shares_most : (c : ℕ) → 1 ≤ c → c ≤ categories → sum lines (λ l. share_in c (cond (eqb l 1) the_line no_line)) ≤ whole_share
unfolding shares_fit
shares_most c low high =
    let e : suc (c - 1) ≡ c = omega arith in
    subst (λ (j : ℕ). sum lines (λ l. share_in j (cond (eqb l 1) the_line no_line)) ≤ whole_share) e (leb→le _ _ (at shares_fit categories all_fit (c - 1) (omega arith)))

module _ (book : List ℕ) (destroyed : Bool) (s : Stands book destroyed) where
  pub year_is : first_year_of book ≡ Some 2011
  unfolding number_at
  year_is = seen_held book (slot_of yr []) s.year 2 2 (lit≤ tt)

  pub month_is : first_month_of book ≡ Some 1
  unfolding number_at
  month_is = seen_held book (slot_of yr []) s.year 4 1 (lit≤ tt)

  module _ (l : ℕ) where
    line_by : (b : Bool) → record_at book (slot_of ln (l ∷ [])) ≡ cond b line_record nothing → line_of book l ≡ cond b the_line no_line
    unfolding number_at
    line_by true e =
        let number = number_held book (slot_of ln (l ∷ [])) e in
        rw (number 3 1 (lit≤ tt), number 4 1 (lit≤ tt), number 6 2 (lit≤ tt), number 8 2 (lit≤ tt), number 10 2 (lit≤ tt), number 12 1 (lit≤ tt), number 14 2 (lit≤ tt))
    line_by false e =
        let number = number_held book (slot_of ln (l ∷ [])) e in
        rw (number 3 1 (lit≤ tt), number 4 1 (lit≤ tt), number 6 2 (lit≤ tt), number 8 2 (lit≤ tt), number 10 2 (lit≤ tt), number 12 1 (lit≤ tt), number 14 2 (lit≤ tt))

    pub system_by : (b : Bool) → record_at book (slot_of ln (l ∷ [])) ≡ cond b line_record nothing → system_of book l ≡ cond b (Some 0) None
    unfolding number_at
    system_by true e = seen_held book (slot_of ln (l ∷ [])) e 3 1 (lit≤ tt)
    system_by false e = seen_held book (slot_of ln (l ∷ [])) e 3 1 (lit≤ tt)

    category_by : (b : Bool) → record_at book (slot_of ln (l ∷ [])) ≡ cond b line_record nothing → category_of book l ≡ cond b (Some 1) None
    unfolding number_at
    category_by true e = seen_held book (slot_of ln (l ∷ [])) e 4 1 (lit≤ tt)
    category_by false e = seen_held book (slot_of ln (l ∷ [])) e 4 1 (lit≤ tt)

  pub line_is : line_of book 1 ≡ the_line
  line_is = line_by 1 true (s.line 1 (lit≤ tt) (lit≤ tt))

  module _ (m : ℕ) (low : 1 ≤ m) (high : m ≤ months_in_year) where
    pub head_is : head_of book 1 m ≡ Some 100
    unfolding number_at
    head_is = seen_held book (slot_of hd (1 ∷ m ∷ [])) (s.head m low high) 4 4 (lit≤ tt)

    pub temperature_is : temperature_of book m ≡ Some (pos 302)
    unfolding number_at signed_of
    temperature_is =
        let stands = s.temperature m low high in
        ap (λ (b : Bool). cond b (Some (signed_of (number_of book tp (m ∷ []) 2))) None) (filled_held book (slot_of tp (m ∷ [])) stands)
        ∙ ap (λ (n : ℕ). Some (signed_of n)) (number_held book (slot_of tp (m ∷ [])) stands 4 2 (lit≤ tt))

    pub drained_is : drained_of book 1 m ≡ false
    drained_is = filled_held book (slot_of dr (1 ∷ m ∷ [])) (s.drain m low high)

    pub project_is : (project_methane_of book m ≡ Some 1000) × (baseline_co2_of book m ≡ Some 0) × (project_co2_of book m ≡ Some 500)
    unfolding number_at
    project_is =
        let seen = seen_held book (slot_of pe (m ∷ [])) (s.project m low high) in
        (seen 4 4 (lit≤ tt), seen 8 4 (lit≤ tt), seen 12 4 (lit≤ tt))

    grams_by_lem : (b : Bool) → record_at book (slot_of mt (m ∷ 1 ∷ [])) ≡ meter_record b m → destroyed_of book m 1 ≡ Some (grams_of b)
    unfolding number_at
    grams_by_lem true e = seen_held book (slot_of mt (m ∷ 1 ∷ [])) e 4 8 (lit≤ tt)
    grams_by_lem false e = seen_held book (slot_of mt (m ∷ 1 ∷ [])) e 4 8 (lit≤ tt)

    pub first_is : destroyed_of book m 1 ≡ Some (grams_of destroyed)
    first_is = grams_by_lem destroyed (s.first_device m low high)

    pub none_is : (d : ℕ) → record_at book (slot_of mt (m ∷ d ∷ [])) ≡ nothing → destroyed_of book m d ≡ None
    none_is d e = seen_held book (slot_of mt (m ∷ d ∷ [])) e 4 8 (lit≤ tt)

    -- month m lacks nothing
    counted_by : (l : ℕ) (b : Bool) → category_of book l ≡ cond b (Some 1) None → uncounted book m (category_of book l) ≡ false
    counted_by l true e = ap (uncounted book m) e ∙ ap (λ (h : Option ℕ). not (filled h)) head_is
    counted_by l false e = ap (uncounted book m) e

    pub counted : headless book m ≡ false
    unfolding headless
    counted =
        none_passes lines (λ l. uncounted book m (category_of book l))
        (λ l from to. counted_by l (eqb l 1) (category_by l (eqb l 1) (s.line l from to)))

    lacks_nothing : lacks book first_year m ≡ false
    unfolding lacks
    lacks_nothing = rw (ap unmeasured temperature_is, counted, lt-ltb (months_before first_year) m (omega arith), ap filled project_is.0) refl

  pub lined : any_line book ≡ true
  unfolding any_line
  lined =
      let test : ℕ → Bool = λ l. filled (category_of book l) in
      sym (one_found lines 1 test (begins lines test) (lit≤ tt) (ap filled (category_by 1 true (s.line 1 (lit≤ tt) (lit≤ tt)))))

  pub complete_is : complete_of book first_year ≡ Ok tt
  unfolding lacking_of complete_of
  complete_is =
      let past = first_past 1 months_in_year (lacks book first_year) (λ m low high. lacks_nothing m low (omega arith)) in
      rw (ap filled year_is, lined, past) refl

  shares_fit_lem : (c : ℕ) → 1 ≤ c → c ≤ categories → ltb whole_share (shares_of book c) ≡ false
  unfolding shares_of
  shares_fit_lem c low high =
      let same = sum_same (λ l. share_in c (line_of book l)) (λ l. share_in c (cond (eqb l 1) the_line no_line)) lines
      (λ l from to. ap (share_in c) (line_by l (eqb l 1) (s.line l from to))) in
      ap (ltb whole_share) same ∙ le-ltb _ _ (shares_most c low high)

  pub shares_are : categories < over_of book
  unfolding over_of
  shares_are = omega (arith, first_past 1 categories (λ c. ltb whole_share (shares_of book c)) (λ c low high. shares_fit_lem c low (omega arith)))
