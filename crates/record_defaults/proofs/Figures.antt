-- Figures on the definitions (02, (i)), each computed: dairy cows in California, nursery swine, grazing heifers in Nevada; and the LN that an LD of the
-- first stands for, byte by byte. Assumes nothing.
use mathlib.Core.Path.{◌≡◌, refl}
use mathlib.Core.List.{List, [], ◌∷◌}
use Prim.Native.Nat.{ℕ}
use Rattle.record_defaults.specs.Tables.{masses, solids, b0s, states, mass_of, b0_of, by_state, solids_entry, solids_by, solids_of}
use Rattle.record_defaults.specs.StandsFor.{stands_for}

-- rows of Table A.2, and of Table A.5
abbrev dairy_cow : ℕ
dairy_cow = 1

abbrev grazing_heifer : ℕ
grazing_heifer = 6

abbrev nursery_swine : ℕ
nursery_swine = 8

abbrev no_state : ℕ
no_state = 0

abbrev california : ℕ
california = 5

abbrev nevada : ℕ
nevada = 28

-- line 3, anaerobic, category 2, with all of the category's manure
abbrev named : List ℕ
named = 76 ∷ 68 ∷ 3 ∷ 0 ∷ 2 ∷ dairy_cow ∷ california ∷ 0 ∷ 16 ∷ 39 ∷ 0 ∷ 0 ∷ 0 ∷ 0 ∷ 0 ∷ 0 ∷ []

abbrev entered : List ℕ
entered = 76 ∷ 78 ∷ 3 ∷ 0 ∷ 2 ∷ 0 ∷ 130 ∷ 3 ∷ 152 ∷ 23 ∷ 16 ∷ 39 ∷ 24 ∷ 0 ∷ 0 ∷ 0 ∷ []

pub record Figures : Type 0 where
  pub cow_mass : mass_of dairy_cow ≡ 6040
  pub cow_solids : solids_of dairy_cow california ≡ 898
  pub cow_b0 : b0_of dairy_cow ≡ 24
  pub swine_mass : mass_of nursery_swine ≡ 125
  pub swine_solids : solids_of nursery_swine no_state ≡ 889
  pub swine_b0 : b0_of nursery_swine ≡ 48
  pub heifer_solids : solids_of grazing_heifer nevada ≡ 1050
  pub cow_line : stands_for named ≡ entered

pub figures : Figures
unfolding masses solids b0s states mass_of b0_of by_state solids_entry solids_by solids_of stands_for
figures =
    record {
      cow_mass = refl;
      cow_solids = refl;
      cow_b0 = refl;
      swine_mass = refl;
      swine_solids = refl;
      swine_b0 = refl;
      heifer_solids = refl;
      cow_line = refl;
    }
