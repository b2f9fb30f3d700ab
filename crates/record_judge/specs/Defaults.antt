-- LD, a defaults line (02, (i)): a line that names its livestock. It has LN's key, and entries of its own.
-- Assumes nothing.
use Prim.Native.{Nat.ℕ, Nat.◌+◌, Nat.◌*◌, Char.code}
use mathlib.Core.{Bool.Bool, List.List, List.[], List.◌∷◌, List.◌++◌, List.map}
use lib.{Dec.eqb, ListN.get_or}
use Rattle.number_bytes.specs.Number.{number_at}
use Rattle.record_table.specs.Table.{unless, Entry, zeros, field, u8, u16, categories, ln, highest_of, after_mark}
use Rattle.record_defaults.specs.{Tables.livestock_count, Tables.lowest_state, Tables.highest_state, StandsFor.livestock_at}

-- its letters, read as a number; and whether a record has them
abbrev pub defaults_letters : ℕ
defaults_letters = code "L" + 256 * code "D"

unfoldable pub is_defaults : List ℕ → Bool
is_defaults r = eqb (number_at r 0 after_mark) defaults_letters

-- What stands after them: the key's line, system and category as in LN; livestock; state, whose range goes by the livestock; share; and the conversion
-- factor, only 0 where the system, at offset 3, is 0.
abbrev pub defaults_entries : List ℕ → List Entry
defaults_entries r =
    map (u8 1) (highest_of ln)
    ++ u8 0 1
    ∷ u8 1 categories
    ∷ u8 1 livestock_count
    ∷ u8 (lowest_state (get_or r livestock_at 0)) (highest_state (get_or r livestock_at 0))
    ∷ zeros 1
    ∷ u16 0 10000
    ∷ field 2 (unless 3 10000)
    ∷ zeros 4
    ∷ []
