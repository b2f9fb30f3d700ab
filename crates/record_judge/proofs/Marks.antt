-- A record of sixteen bytes is judged by its own entries where it has the letters of LD, and else by the row that has its letters, or refused where none has
-- them. Assumes nothing.
use mathlib.Core.Path.{◌≡◌}
use mathlib.Core.Bool.{true, false, cond}
use mathlib.Core.List.{List}
use Prim.Native.Nat.{ℕ}
use borrow.Author.Tests.{eq-eqb, ne_eqb}
use lib.Dec.{ltb}
use lib.ListN.{length}
use Rattle.std.specs.Prelude.{Result, Err}
use Rattle.refusals.specs.Refusal.{refusal}
use Rattle.refusals.specs.declared.Refusal.{Refusal}
use Rattle.refusals.specs.declared.Reason.TheVariants.{NotSixteenBytes, UnknownMark}
use Rattle.record_table.specs.Table.{table, ln, record_bytes}
use Rattle.record_judge.specs.Defaults.{is_defaults, defaults_entries}
use Rattle.record_judge.specs.Record.{row_of, key_row, entries_for, judged_by, judged_as, judged}
use Rattle.record_judge.specs.declared.Change.{Change}

pub short : (r : List ℕ) → (length r ≡ record_bytes → ⊥) → judged r ≡ Err (refusal NotSixteenBytes 0)
unfolding judged
short r h = simp (ne_eqb _ _ h)

-- by the number of a row, or of none
abbrev pub by_row : ℕ → List ℕ → Result Change Refusal
by_row n r = cond (ltb n (length table)) (judged_as n r) (Err (refusal UnknownMark 0))

module _ (r : List ℕ) (long : length r ≡ record_bytes) where
  pub as_defaults : is_defaults r ≡ true → judged r ≡ judged_by (defaults_entries r) ln r
  unfolding judged key_row entries_for
  as_defaults d = simp (eq-eqb _ _ long, d)

  pub as_row : is_defaults r ≡ false → judged r ≡ by_row (row_of r) r
  unfolding judged judged_as key_row entries_for
  as_row d = simp (eq-eqb _ _ long, d)
