-- A defaults line whose fields are in their ranges names a livestock and a state of the tables, and the LN that it stands for is a record of LN's row that
-- is put into the slot of its line. Assumes nothing.
use mathlib.Core.Path.{◌≡◌, refl, sym, ap, subst}
use mathlib.Core.Bool.{true, false}
use mathlib.Core.List.{List}
use Prim.Native.Nat.{ℕ, ◌+◌, ◌*◌, ◌/◌, ◌%◌}
use native.Mathlib.Omega.{arith}
use borrow.Author.Tests.{eqb-true}
use Rattle.std.specs.Prelude.{Ok}
use lib.ListN.{length, get_or}
use Rattle.number_bytes.specs.Number.{number_at}
use Rattle.record_table.specs.Table.{Range, table, ln, entries_of, record_bytes, after_mark}
use Rattle.record_table.specs.Slot.{slot_of}
use Rattle.record_fields.specs.Entry.{in_range, nonzero_at}
use Rattle.record_defaults.specs.Tables.{mass_of, b0_of, solids_of, livestock_count, lowest_state, highest_state}
use Rattle.record_defaults.specs.StandsFor.{livestock_at, state_at, Named, stands_for}
use Rattle.record_judge.specs.Defaults.{defaults_letters, is_defaults, defaults_entries}
use Rattle.record_defaults.proofs.Inside.{line_range, solids_at, mass_at, b0_at, mass_inside, b0_inside, solids_inside}
use Rattle.record_judge.specs.Record.{nonzero_in, key_in, row_in, row_of, key_of, key_row, entries_for, verdict, judged}
use Rattle.record_judge.specs.declared.Change.TheVariants.{Put}
use Rattle.record_judge.proofs.Entries.{Ranged, none_outside, within_byte}

-- a number is made again by its two bytes, and by one
pub two_bytes : (n : ℕ) → n % 256 + 256 * (n / 256 + 256 * 0) ≡ n
two_bytes n = omega arith

pub one_byte : (n : ℕ) → n + 256 * 0 ≡ n
one_byte n = omega arith

pub line_long : (r : List ℕ) → length (stands_for r) ≡ record_bytes
unfolding stands_for
line_long r = refl

pub line_own : (r : List ℕ) → is_defaults (stands_for r) ≡ false
unfolding is_defaults number_at stands_for
line_own r = refl

-- no row of the table has the letters of LD
pub defaults_rowless : (r : List ℕ) → is_defaults r ≡ true → row_of r ≡ length table
unfolding is_defaults row_of row_in
defaults_rowless r d = ap (λ (letters : ℕ). row_in letters table) (eqb-true (number_at r 0 after_mark) defaults_letters d)

-- the LN has LN's row, and its key
pub line_row : (r : List ℕ) → row_of (stands_for r) ≡ ln
unfolding row_of row_in number_at stands_for
line_row r = refl

pub line_key : (r : List ℕ) → key_of ln (stands_for r) ≡ key_of ln r
unfolding key_of key_in stands_for
line_key r = refl

module _ (r : List ℕ) (g : Ranged after_mark (defaults_entries r) r) where
  pub named : Named r
  named = (within_byte r livestock_at 1 livestock_count g.1.1.1.0, within_byte r state_at (lowest_state (get_or r livestock_at 0)) (highest_state (get_or r livestock_at 0)) g.1.1.1.1.0)

  read : (range : Range) {m n : ℕ} → m ≡ n → in_range range (stands_for r) n ≡ true → in_range range (stands_for r) m ≡ true
  read range e = subst (λ (x : ℕ). in_range range (stands_for r) x ≡ true) (sym e)

  line_ranged : Ranged after_mark (entries_of ln) (stands_for r)
  unfolding number_at in_range stands_for
  line_ranged =
      let livestock = get_or r livestock_at 0 in
      let state = get_or r state_at 0 in
      let solids = read (line_range solids_at) (two_bytes (solids_of livestock state)) (solids_inside livestock state named.0 named.1 (stands_for r)) in
      let mass = read (line_range mass_at) (two_bytes (mass_of livestock)) (mass_inside livestock named.0 (stands_for r)) in
      let b0 = read (line_range b0_at) (one_byte (b0_of livestock)) (b0_inside livestock named.0 (stands_for r)) in
      let share = g.1.1.1.1.1.0 in
      let conversion = g.1.1.1.1.1.1.0 in
      (g.0, (g.1.0, (g.1.1.0, (solids, (mass, (share, (b0, (conversion, tt))))))))

  -- it has its letters and no byte that must be 0 and is not, and so it is put into the slot of its line
  pub line_judged : judged (stands_for r) ≡ Ok (Put (slot_of ln (key_of ln r)))
  unfolding judged key_row entries_for verdict row_of row_in number_at nonzero_in nonzero_at key_of key_in is_defaults stands_for
  line_judged = rw (none_outside after_mark (entries_of ln) (stands_for r) line_ranged)
