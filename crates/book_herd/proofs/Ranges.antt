-- The range of each number of a line and of a head of a valid book, from the table. Assumes nothing.
use mathlib.Core.Bool.{Bool, true, false, cond}
use mathlib.Core.List.{List, [], ◌∷◌}
use mathlib.Core.Path.{◌≡◌}
use Prim.Native.Nat.{ℕ, ◌≤◌, ◌<◌}
use native.Mathlib.Omega.{arith}
use lib.Dec.{T, lit≤}
use lib.ListN.{length}
use Rattle.record_table.specs.Table.{lines, categories, months, entries_of, ln, hd}
use Rattle.book.specs.Valid.{Valid}
use Rattle.book_slots.specs.Field.{seen_at, number_of, seen_of, filled_of}
use Rattle.std.specs.Prelude.{Some, None}
use Rattle.book_slots.proofs.Ranges.{In, unsigned, entry_at, low, high, seen_in, most}
use Rattle.book_herd.specs.Herd.{system_of, line_of}
use Rattle.book_herd.specs.declared.Line.{Line}

-- where one field of a slot is read, every other has its own lowest value at least
least : (filled : Bool) (x other lowest most : ℕ) {seen : ℕ} → cond filled (Some other) None ≡ Some seen → In lowest most (cond filled (Some x) None) → lowest ≤ x
least true x other lowest most read inside = inside.0
least false x other lowest most read inside = let z : ◌≡◌ {A = ℕ} 0 1 = cc in absurd (omega arith)

module _ (book : List ℕ) (v : Valid book) where
  pub line_in_lem : (line : ℕ) → line ≤ lines → (n : ℕ) → n < length (entries_of ln) → T (unsigned (entry_at ln n)) → In (low ln n) (high ln n) (seen_of book ln (line ∷ []) n)
  line_in_lem line h n = seen_in book v ln (lit≤ tt) (line ∷ []) (omega arith, tt) n

  pub line_most_lem : (line : ℕ) → line ≤ lines → (n : ℕ) → n < length (entries_of ln) → T (unsigned (entry_at ln n)) → number_of book ln (line ∷ []) n ≤ high ln n
  line_most_lem line h n = most book v ln (lit≤ tt) (line ∷ []) (omega arith, tt) n

  pub head_in_lem : (category month : ℕ) → category ≤ categories → month ≤ months → (n : ℕ) → n < length (entries_of hd) → T (unsigned (entry_at hd n)) → In (low hd n) (high hd n) (seen_of book hd (category ∷ month ∷ []) n)
  head_in_lem category month h k n = seen_in book v hd (lit≤ tt) (category ∷ month ∷ []) (omega arith, (omega arith, tt)) n

  pub head_most : (category month : ℕ) → category ≤ categories → month ≤ months → (n : ℕ) → n < length (entries_of hd) → T (unsigned (entry_at hd n)) → number_of book hd (category ∷ month ∷ []) n ≤ high hd n
  head_most category month h k n = most book v hd (lit≤ tt) (category ∷ month ∷ []) (omega arith, (omega arith, tt)) n

  pub record LineIn (x : Line) : Type 0 where
    pub system : x.system ≤ high ln 1
    pub category : x.category ≤ high ln 2
    pub solids : x.solids ≤ high ln 4
    pub mass : x.mass ≤ high ln 5
    pub share : x.share ≤ high ln 6
    pub b0 : x.b0 ≤ high ln 7
    pub conversion : x.conversion ≤ high ln 9

  pub numbers_in : (line : ℕ) → line ≤ lines → LineIn (line_of book line)
  numbers_in line h =
      record {
        system = line_most_lem line h 1 (lit≤ tt) tt;
        category = line_most_lem line h 2 (lit≤ tt) tt;
        solids = line_most_lem line h 4 (lit≤ tt) tt;
        mass = line_most_lem line h 5 (lit≤ tt) tt;
        share = line_most_lem line h 6 (lit≤ tt) tt;
        b0 = line_most_lem line h 7 (lit≤ tt) tt;
        conversion = line_most_lem line h 9 (lit≤ tt) tt;
      }

  -- a line that stands in the book has a category
  pub category_some : (line : ℕ) {system : ℕ} → line ≤ lines → system_of book line ≡ Some system → 1 ≤ (line_of book line).category
  unfolding seen_at
  category_some line h read = least (filled_of book ln (line ∷ [])) (line_of book line).category (line_of book line).system (low ln 2) (high ln 2) read
      (line_in_lem line h 2 (lit≤ tt) tt)
