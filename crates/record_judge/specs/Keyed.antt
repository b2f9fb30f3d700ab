-- How the functions of the marks share what they do with a key, and a defaults line's with its livestock. It says nothing of what is refused: `judged`
-- does.
use Rattle.std.specs.Prelude.{ℕ, ◌+◌, List, [], ◌∷◌, get_or, Option, Result}
use Rattle.std.specs.Option.{option_or}
use Rattle.refusals.specs.declared.Refusal.{Refusal}
use Rattle.record_table.specs.{Table.from, Table.after_mark, Slot.index}
use Rattle.record_fields.specs.Entry.{outside_at}
use Rattle.record_defaults.specs.Tables.{livestock_count, lowest_state, highest_state}
use Rattle.record_defaults.specs.StandsFor.{livestock_at, state_at}
use Rattle.record_judge.specs.Record.{key_in, verdict}
use Rattle.record_judge.specs.declared.Change.{Change}

-- the key's bytes stand first: the offset of the first that is outside 1 to its highest value, or a later place
unfoldable pub key_outside : ℕ → List ℕ → List ℕ → Option ℕ → Option ℕ
key_outside at [] r later = later
key_outside at (high ∷ highest) r later = option_or (outside_at r at 1 (from 1 high)) (key_outside (at + 1) highest r later)

-- the verdict, by a mark's first slot, the highest value of each byte of its key, and the places found after the key
unfoldable pub keyed : ℕ → List ℕ → List ℕ → Option ℕ → Option ℕ → Result Change Refusal
keyed first highest r nonzero outside = verdict nonzero (key_outside after_mark highest r outside) (first + index highest (key_in after_mark highest r))

-- the livestock's offset where it is outside, the state's where that is, or a later place
unfoldable pub livestock_outside : List ℕ → Option ℕ → Option ℕ
livestock_outside r later =
    option_or (outside_at r livestock_at 1 (from 1 livestock_count))
    (option_or (outside_at r state_at 1 (from (lowest_state (get_or r livestock_at 0)) (highest_state (get_or r livestock_at 0)))) later)
