-- The marks as the code names them: the table's rows in their order, and LD, which is none of them (02, (i)).
-- Assumes nothing.
use Rattle.std.specs.Prelude.{ℕ, List, [], ◌∷◌, slice_get, Option, Some}
use mathlib.Core.{Bool.cond}
use lib.{Dec.eqb}
use Rattle.record_table.specs.Table.{table}
use Rattle.record_judge.specs.Defaults.{defaults_letters}
use Rattle.record_judge.specs.Record.{row_in}
use Rattle.record_judge.specs.declared.mark.Mark.{Mark}
use Rattle.record_judge.specs.declared.mark.Mark.TheVariants.{Yr, Ln, Hd, Tp, Dr, Pe, Mt, Ld}

-- the marks of the rows, and the mark with two letters, read as a number
abbrev pub marks : List Mark
marks = Yr ∷ Ln ∷ Hd ∷ Tp ∷ Dr ∷ Pe ∷ Mt ∷ []

unfoldable pub mark_of : ℕ → Option Mark
mark_of letters = cond (eqb letters defaults_letters) (Some Ld) (slice_get marks (row_in letters table))
