-- The values of the protocol's tables are inside 01's ranges, which are those of LN's row: one test over the whole of each table, and what it shows of a
-- livestock. Assumes nothing.
use mathlib.Core.Path.{◌≡◌, refl, subst}
use mathlib.Core.Bool.{Bool, true, false}
use mathlib.Core.List.{List, []}
use Prim.Native.Nat.{ℕ, ◌-◌, ◌≤◌, ◌<◌}
use native.Mathlib.Omega.{arith}
use lib.Dec.{T, eqb, ltb, eqb→eq, ltb→lt}
use lib.ListN.{length, get_or}
use Rattle.laws.proofs.Table.{each, at}
use Rattle.record_table.specs.Table.{Range, from, Entry, zeros, field, ln, entries_of}
use Rattle.record_fields.specs.Entry.{in_range}
use Rattle.record_defaults.specs.Tables.{masses, columns, solids, b0s, states, livestock_count, state_count}
use Rattle.record_defaults.specs.Tables.{mass_of, b0_of, by_state, solids_entry, solids_by, solids_of, goes_by_state, asks_state, Livestock, State}
use Rattle.record_defaults.specs.declared.SolidsEntry.{SolidsEntry}
use Rattle.record_defaults.specs.declared.SolidsEntry.TheVariants.{Own, Column}

-- the range of an entry of LN's row, and the entries that the tables fill, counted from the line as 0
abbrev range_in : Entry → Range
range_in (zeros n) = from 0 0
range_in (field wide range) = range

abbrev pub line_range : ℕ → Range
line_range n = range_in (get_or (entries_of ln) n (zeros 0))

abbrev pub solids_at : ℕ
solids_at = 4

abbrev pub mass_at : ℕ
mass_at = 5

abbrev pub b0_at : ℕ
b0_at = 7

shown : (b : Bool) → T b → b ≡ true
shown true t = refl
shown false t = absurd t

-- The tests go over whole tables: each has an entry for every livestock, or for every state and column, and no more.
four : ℕ → Bool
four n = eqb (length (get_or states n [])) columns

pub record Whole : Type 0 where
  pub each_mass : length masses ≡ livestock_count
  pub each_solids : length solids ≡ livestock_count
  pub each_b0 : length b0s ≡ livestock_count
  pub each_state : length states ≡ state_count
  pub each_column : (n : ℕ) → n < state_count → length (get_or states n []) ≡ columns

pub whole : Whole
unfolding each four masses solids b0s states
whole =
    record {
      each_mass = refl;
      each_solids = refl;
      each_b0 = refl;
      each_state = refl;
      each_column = λ n h. eqb→eq (length (get_or states n [])) columns (at four state_count tt n h);
    }

-- Table A.2
mass_test : ℕ → Bool
mass_test n = in_range (line_range mass_at) [] (get_or masses n 0)

pub mass_inside : (livestock : ℕ) → Livestock livestock → (r : List ℕ) → in_range (line_range mass_at) r (mass_of livestock) ≡ true
unfolding each mass_test in_range mass_of masses
mass_inside livestock h r = shown (mass_test (livestock - 1)) (at mass_test livestock_count tt (livestock - 1) (omega (arith, h.0, h.1)))

-- Table A.3: B0
b0_test : ℕ → Bool
b0_test n = in_range (line_range b0_at) [] (get_or b0s n 0)

pub b0_inside : (livestock : ℕ) → Livestock livestock → (r : List ℕ) → in_range (line_range b0_at) r (b0_of livestock) ≡ true
unfolding each b0_test in_range b0_of b0s
b0_inside livestock h r = shown (b0_test (livestock - 1)) (at b0_test livestock_count tt (livestock - 1) (omega (arith, h.0, h.1)))

-- Table A.5, each column of each state
state_test : ℕ → ℕ → Bool
state_test n column = in_range (line_range solids_at) [] (get_or (get_or states n []) column 0)

states_test : ℕ → Bool
states_test n = each (state_test n) columns

pub state_inside :
    (state column : ℕ) → 1 ≤ state → state ≤ state_count → column < columns → (r : List ℕ) → in_range (line_range solids_at) r (by_state state column) ≡ true
unfolding each states_test state_test in_range by_state states
state_inside state column low high l r =
    let row = at states_test state_count tt (state - 1) (omega (arith, low, high)) in
    shown (state_test (state - 1) column) (at (state_test (state - 1)) columns row column l)

-- Table A.3: solids of a livestock's own, or a column that Table A.5 has
entry_test : SolidsEntry → Bool
entry_test (Own own) = in_range (line_range solids_at) [] own
entry_test (Column column) = ltb column columns

solids_test : ℕ → Bool
solids_test n = entry_test (get_or solids n (Own 0))

entry_passes : (livestock : ℕ) → Livestock livestock → T (entry_test (solids_entry livestock))
unfolding each solids_test entry_test in_range solids_entry solids
entry_passes livestock h = at solids_test livestock_count tt (livestock - 1) (omega (arith, h.0, h.1))

pub column_below : (livestock : ℕ) → Livestock livestock → (column : ℕ) → solids_entry livestock ≡ Column column → column < columns
unfolding entry_test
column_below livestock h column e = ltb→lt column columns (subst (λ (entry : SolidsEntry). T (entry_test entry)) e (entry_passes livestock h))

-- a livestock whose solids go by state is asked for one of the states
pub asked : (livestock state : ℕ) → State livestock state → (column : ℕ) → solids_entry livestock ≡ Column column → (1 ≤ state) × (state ≤ state_count)
unfolding asks_state goes_by_state
asked livestock state s column e = rw e at s

-- so the solids of a livestock are inside
module _ (livestock state : ℕ) (h : Livestock livestock) (s : State livestock state) (r : List ℕ) where
  by_entry : (entry : SolidsEntry) → solids_entry livestock ≡ entry → in_range (line_range solids_at) r (solids_by entry state) ≡ true
  unfolding solids_by entry_test in_range
  by_entry (Own own) e = shown (in_range (line_range solids_at) [] own) (subst (λ (entry : SolidsEntry). T (entry_test entry)) e (entry_passes livestock h))
  by_entry (Column column) e =
      let is = asked livestock state s column e in
      state_inside state column is.0 is.1 (column_below livestock h column e) r

  pub solids_inside : in_range (line_range solids_at) r (solids_of livestock state) ≡ true
  unfolding solids_of
  solids_inside = by_entry (solids_entry livestock) refl
