-- LD, a defaults line (02, (i)): a line that names its livestock stands for an LN with the tables' values.
-- Assumes nothing.
use Prim.Native.{Nat.ℕ, Nat.◌/◌, Nat.◌%◌, Char.code}
use Rattle.std.specs.Prelude.{List, [], ◌∷◌, get_or}
use Rattle.record_defaults.specs.Tables.{mass_of, b0_of, solids_of, Livestock, State}

-- where the livestock and the state stand
abbrev pub livestock_at : ℕ
livestock_at = 5

abbrev pub state_at : ℕ
state_at = 6

-- the livestock and the state are those of the tables
abbrev pub Named : List ℕ → Type 0
Named r = Livestock (get_or r livestock_at 0) × State (get_or r livestock_at 0) (get_or r state_at 0)

-- the LN that it stands for: line, system, category, share and conversion factor as they came, table solids, mass and B0 from the tables
unfoldable pub stands_for : List ℕ → List ℕ
stands_for r =
    let at : ℕ → ℕ = λ offset. get_or r offset 0 in
    let solids = solids_of (at livestock_at) (at state_at) in
    let mass = mass_of (at livestock_at) in
    code "L" ∷ code "N" ∷ at 2 ∷ at 3 ∷ at 4 ∷ 0
    ∷ solids % 256 ∷ solids / 256 ∷ mass % 256 ∷ mass / 256
    ∷ at 8 ∷ at 9 ∷ b0_of (at livestock_at) ∷ 0 ∷ at 10 ∷ at 11 ∷ []
