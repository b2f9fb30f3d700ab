-- What the year reads of the lines and the heads of a book (01, "The records"): LN, HD and DR. Lines, categories and months count from 1.
-- The last number of each read says which entry of its row in 01's table it is, counted from 0, the bytes of the key and the zero bytes too.
-- Assumes nothing.
use Rattle.std.specs.Prelude.{ℕ, Option}
use mathlib.Core.{Bool.Bool, List.List, List.[], List.◌∷◌}
use Rattle.record_table.specs.Table.{ln, hd, dr}
use Rattle.book_slots.specs.{Field.number_of, Field.seen_of, Field.filled_of}
use Rattle.book_herd.specs.declared.Line.{Line}

-- LN
abbrev pub system_of : List ℕ → ℕ → Option ℕ
system_of book line = seen_of book ln (line ∷ []) 1

abbrev pub category_of : List ℕ → ℕ → Option ℕ
category_of book line = seen_of book ln (line ∷ []) 2

-- all of a line's numbers at once, 0 where no LN stands
abbrev pub line_of : List ℕ → ℕ → Line
line_of book line =
    record {
      system = number_of book ln (line ∷ []) 1;
      category = number_of book ln (line ∷ []) 2;
      solids = number_of book ln (line ∷ []) 4;
      mass = number_of book ln (line ∷ []) 5;
      share = number_of book ln (line ∷ []) 6;
      b0 = number_of book ln (line ∷ []) 7;
      conversion = number_of book ln (line ∷ []) 9;
    }

-- HD
abbrev pub head_of : List ℕ → ℕ → ℕ → Option ℕ
head_of book category month = seen_of book hd (category ∷ month ∷ []) 2

-- DR
abbrev pub drained_of : List ℕ → ℕ → ℕ → Bool
drained_of book line month = filled_of book dr (line ∷ month ∷ [])
