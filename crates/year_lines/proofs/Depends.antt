-- A line's solids depend only on YR, its LN, its category's HD, TP and its own DR (01, "The lagoon month"): two books that have the same records there, for the
-- months through the year's end, have the same solids of the line, and so the same baseline of it, in that year. Of the heads each year's sum is enough (02, (ii)).
-- Assumes nothing.
use Prim.Native.Nat.{ℕ, ◌+◌, ◌*◌, ◌≤◌}
use mathlib.Core.Bool.{Bool, cond, not}
use mathlib.Core.List.{List, [], ◌∷◌}
use mathlib.Core.Path.{sym, ap, ◌≡◌, ◌∙◌}
use native.Mathlib.Nat.{add-zero}
use native.Mathlib.Omega.{arith}
use lib.Dec.{eqb, lit≤}
use lib.ListN.{get_or}
use Rattle.laws.proofs.Counting.{Each, sum_same}
use Rattle.units.specs.declared.solids.Solids.{Solids}
use Rattle.calendar.specs.Days.{months_in_year, days_of}
use Rattle.lagoon_run.specs.Run.{year_of}
use Rattle.lagoon_month.specs.declared.Month.{Month}
use Rattle.lagoon_run.specs.declared.Totals.{Totals}
use Rattle.record_table.specs.Table.{record_bytes, yr, ln, hd, tp, dr}
use Rattle.number_bytes.specs.Number.{number_at, signed_of}
use Rattle.record_table.specs.Slot.{slot_of}
use Rattle.book.proofs.Slot.{slot_byte}
use Rattle.book.specs.Book.{record_at, free}
use Rattle.book_slots.proofs.Within.{number_slot}
use Rattle.book_slots.specs.Field.{place_of, bytes_of, seen_at, number_of, seen_of, filled_of}
use Rattle.book_slots.specs.Reads.{first_year_of, first_month_of}
use Rattle.book_herd.specs.Herd.{system_of, line_of, drained_of}
use Rattle.book_herd.specs.declared.Line.{Line}
use Rattle.std.specs.Prelude.{Option, Some, None}
use Rattle.year_months.specs.Series.{amount_of, months_before, months_through, year_at, days_at, factor_by, factor_at}
use Rattle.year_months.proofs.Years.{no_later}
use Rattle.year_heads.specs.Heads.{head_at, heads_of}
use Rattle.year_sums.specs.Sums.{anaerobic_of}
use Rattle.year_lines.specs.Lines.{other_of, by_system, line_in, entered_by, entered_at, month_at}
use Rattle.year_lines.proofs.SameMonths.{same_year}

-- two books have the same record under a key of a row, or none
abbrev pub Same : List ℕ → List ℕ → ℕ → List ℕ → Type 0
Same one other row key = record_at one (slot_of row key) ≡ record_at other (slot_of row key)

module _ (one other : List ℕ) (row : ℕ) (key : List ℕ) (same : Same one other row key) where
  same_number : (n : ℕ) → place_of row n + bytes_of row n ≤ record_bytes → number_of one row key n ≡ number_of other row key n
  same_number n inside =
      sym (number_slot one (slot_of row key) (place_of row n) (bytes_of row n) inside) ∙
      ap (λ (r : List ℕ). number_at r (place_of row n) (bytes_of row n)) same ∙
      number_slot other (slot_of row key) (place_of row n) (bytes_of row n) inside

  first_byte : get_or one (slot_of row key * record_bytes) 0 ≡ get_or other (slot_of row key * record_bytes) 0
  first_byte =
      let k = slot_of row key in
      rw (add-zero (k * record_bytes)) at
      (sym (slot_byte one k 0 (lit≤ tt)) ∙ ap (λ (r : List ℕ). get_or r 0 0) same ∙ slot_byte other k 0 (lit≤ tt))

  same_filled : filled_of one row key ≡ filled_of other row key
  unfolding free
  same_filled = ap (λ (n : ℕ). not (eqb n 0)) first_byte

  same_seen : (n : ℕ) → place_of row n + bytes_of row n ≤ record_bytes → seen_of one row key n ≡ seen_of other row key n
  unfolding seen_at
  same_seen n inside =
      ap (λ (b : Bool). cond b (Some (number_of one row key n)) None) same_filled ∙
      ap (λ (x : ℕ). cond (filled_of other row key) (Some x) None) (same_number n inside)

abbrev month : Solids → ℕ → Bool → Month
month entered factor drained = record { entered = entered; factor = factor; drained = drained }

-- the records that a line's year depends on
pub record SameLine (one other : List ℕ) (line year : ℕ) : Type 0 where
  pub start : Same one other yr []
  pub numbers : Same one other ln (line ∷ [])
  pub heads : Each (months_through year) (λ m. Same one other hd ((line_of one line).category ∷ m ∷ []))
  pub temperatures : Each (months_through year) (λ m. Same one other tp (m ∷ []))
  pub drains : Each (months_through year) (λ m. Same one other dr (line ∷ m ∷ []))

-- of the heads only each year's sum counts, and not how it is spread over the year's months
pub record SameSums (one other : List ℕ) (line year : ℕ) : Type 0 where
  pub start : Same one other yr []
  pub numbers : Same one other ln (line ∷ [])
  pub heads : Each year (λ y. heads_of one y (line_of one line).category ≡ heads_of other y (line_of one line).category)
  pub temperatures : Each (months_through year) (λ m. Same one other tp (m ∷ []))
  pub drains : Each (months_through year) (λ m. Same one other dr (line ∷ m ∷ []))

module _ (one other : List ℕ) (line year : ℕ) (same : SameSums one other line year) where
  same_line : line_of one line ≡ line_of other line
  same_line =
      let number = same_number one other ln (line ∷ []) same.numbers in
      rw (
        number 1 (lit≤ tt),
        number 2 (lit≤ tt),
        number 4 (lit≤ tt),
        number 5 (lit≤ tt),
        number 6 (lit≤ tt),
        number 7 (lit≤ tt),
        number 9 (lit≤ tt),
      )

  same_days : (m : ℕ) → days_at one m ≡ days_at other m
  unfolding days_at
  same_days m =
      ap (λ (s : Option ℕ). days_of (amount_of s) (amount_of (first_month_of one)) m) (same_seen one other yr [] same.start 0 (lit≤ tt)) ∙
      ap (λ (s : Option ℕ). days_of (amount_of (first_year_of other)) (amount_of s) m) (same_seen one other yr [] same.start 1 (lit≤ tt))

  same_heads : (y : ℕ) → 1 ≤ y → y ≤ year → heads_of one y (line_of one line).category ≡ heads_of other y (line_of other line).category
  same_heads y some within = same.heads y some within ∙ ap (λ (x : Line). heads_of other y x.category) same_line

  module _ (m : ℕ) (low : 1 ≤ m) (high : m ≤ months_through year) where
    same_entered : entered_at one line m ≡ entered_at other line m
    unfolding entered_at
    same_entered =
        ap (λ (n : ℕ). entered_by n (line_of one line) (days_at one m)) (same_heads (year_at m) (omega arith) (no_later year m low high)) ∙
        ap (λ (x : Line). entered_by (heads_of other (year_at m) (line_of other line).category) x (days_at one m)) same_line ∙
        ap (λ (n : ℕ). entered_by (heads_of other (year_at m) (line_of other line).category) (line_of other line) n) (same_days m)

    same_factor : factor_at one m ≡ factor_at other m
    unfolding factor_at
    same_factor =
        ap (λ (b : Bool). factor_by (cond b (Some (signed_of (number_of one tp (m ∷ []) 2))) None))
        (same_filled one other tp (m ∷ []) (same.temperatures m low high)) ∙
        ap (λ (n : ℕ). factor_by (cond (filled_of other tp (m ∷ [])) (Some (signed_of n)) None))
        (same_number one other tp (m ∷ []) (same.temperatures m low high) 2 (lit≤ tt))

    same_month : month_at one line m ≡ month_at other line m
    unfolding month_at
    same_month =
        ap (λ (s : Solids). month s (factor_at one m) (drained_of one line m)) same_entered ∙
        ap (λ (n : ℕ). month (entered_at other line m) n (drained_of one line m)) same_factor ∙
        ap (month (entered_at other line m) (factor_at other m)) (same_filled one other dr (line ∷ m ∷ []) (same.drains m low high))

  -- the solids of the line in the year
  pub solids_by_sums : 1 ≤ year → year_of (month_at one line) year ≡ year_of (month_at other line) year
  solids_by_sums low = same_year (month_at one line) (month_at other line) year low same_month

  -- and its part in the year's sums, whatever its system
  pub line_by_sums : 1 ≤ year → line_in one year line ≡ line_in other year line
  unfolding line_in
  line_by_sums low =
      ap
      (λ (s : Option ℕ). by_system s (anaerobic_of (year_of (month_at one line) year) (line_of one line).b0) (other_of (heads_of one year
      (line_of one line).category) (line_of one line)))
      (same_seen one other ln (line ∷ []) same.numbers 1 (lit≤ tt)) ∙
      ap
      (λ (t : Totals). by_system (system_of other line) (anaerobic_of t (line_of one line).b0) (other_of (heads_of one year (line_of one line).category)
      (line_of one line)))
      (solids_by_sums low) ∙
      ap
      (λ (n : ℕ). by_system (system_of other line) (anaerobic_of (year_of (month_at other line) year) (line_of one line).b0) (other_of n (line_of one line)))
      (same_heads year low (omega arith)) ∙
      ap
      (λ (x : Line). by_system (system_of other line) (anaerobic_of (year_of (month_at other line) year) x.b0) (other_of (heads_of other year
      (line_of other line).category) x))
      same_line

-- the same heads, month by month, have the same sums: so a line's year depends on its own records alone
module _ (one other : List ℕ) (line year : ℕ) (same : SameLine one other line year) where
  same_head : (m : ℕ) → 1 ≤ m → m ≤ months_through year → head_at one (line_of one line).category m ≡ head_at other (line_of one line).category m
  unfolding head_at
  same_head m low high = ap amount_of (same_seen one other hd ((line_of one line).category ∷ m ∷ []) (same.heads m low high) 2 (lit≤ tt))

  same_sums : SameSums one other line year
  unfolding heads_of
  same_sums =
      record {
        start = same.start;
        numbers = same.numbers;
        heads = λ y some within. sum_same _ _ months_in_year (λ m low high. same_head (months_before y + m) (omega arith) (omega arith));
        temperatures = same.temperatures;
        drains = same.drains;
      }

  pub solids_depend : 1 ≤ year → year_of (month_at one line) year ≡ year_of (month_at other line) year
  solids_depend = solids_by_sums one other line year same_sums

  pub line_depends : 1 ≤ year → line_in one year line ≡ line_in other year line
  line_depends = line_by_sums one other line year same_sums
