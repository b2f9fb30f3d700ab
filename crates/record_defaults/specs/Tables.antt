-- The protocol's defaults (02, (i)): Tables A.2, A.3 and A.5 in LN's units, a livestock by its row of A.2 and a state by its row of A.5, both from 1.
-- Assumes nothing.
use Rattle.std.specs.Prelude.{ℕ, ◌-◌, ◌≤◌, ◌&&◌, leb, get_or, Option, None, Some}
use mathlib.Core.{Bool.Bool, Bool.true, Bool.false, Bool.cond, List.List, List.[], List.◌∷◌}
use Rattle.record_defaults.specs.declared.SolidsEntry.{SolidsEntry, TheVariants.Own, TheVariants.Column}

-- Table A.2: the typical average mass, in tenths of a kilogram
unfoldable pub masses : List ℕ
masses =
    6040 ∷ 6840 ∷ 4760 ∷  -- on feed: dairy cows, non-milking dairy cows, heifers
    7500 ∷ 1180 ∷ 4200 ∷ 5330 ∷  -- grazing: bulls, calves, heifers, cows
    125 ∷ 700 ∷ 1980 ∷ []  -- swine: nursery, grow/finish, breeding

-- the columns of Table A.5, from 0, and how many there are
abbrev pub dairy_cows : ℕ
dairy_cows = 0

abbrev pub heifers : ℕ
heifers = 1

abbrev pub heifers_grazing : ℕ
heifers_grazing = 2

abbrev pub cows_grazing : ℕ
cows_grazing = 3

abbrev pub columns : ℕ
columns = 4

-- Table A.3: the solids, in hundredths of a kilogram a day for 1,000 kg of animal, or the column of Table A.5 that the row is sent to; and the B0, in
-- hundredths
unfoldable pub solids : List SolidsEntry
solids =
    Column dairy_cows ∷ Own 556 ∷ Column heifers ∷
    Own 604 ∷ Own 641 ∷ Column heifers_grazing ∷ Column cows_grazing ∷
    Own 889 ∷ Own 536 ∷ Own 271 ∷ []

unfoldable pub b0s : List ℕ
b0s = 24 ∷ 24 ∷ 17 ∷ 17 ∷ 17 ∷ 17 ∷ 17 ∷ 48 ∷ 48 ∷ 35 ∷ []

-- Table A.5: the solids of each state, column by column
unfoldable pub states : List (List ℕ)
states =
    (802 ∷ 742 ∷ 782 ∷ 702 ∷ []) ∷  -- Alabama
    (818 ∷ 742 ∷ 1008 ∷ 902 ∷ []) ∷  -- Alaska
    (1055 ∷ 742 ∷ 1041 ∷ 902 ∷ []) ∷  -- Arizona
    (711 ∷ 822 ∷ 787 ∷ 700 ∷ []) ∷  -- Arkansas
    (898 ∷ 742 ∷ 792 ∷ 685 ∷ []) ∷  -- California
    (911 ∷ 742 ∷ 765 ∷ 646 ∷ []) ∷  -- Colorado
    (822 ∷ 670 ∷ 766 ∷ 690 ∷ []) ∷  -- Connecticut
    (760 ∷ 670 ∷ 789 ∷ 690 ∷ []) ∷  -- Delaware
    (840 ∷ 742 ∷ 777 ∷ 702 ∷ []) ∷  -- Florida
    (880 ∷ 742 ∷ 789 ∷ 702 ∷ []) ∷  -- Georgia
    (752 ∷ 742 ∷ 1030 ∷ 902 ∷ []) ∷  -- Hawaii
    (1034 ∷ 742 ∷ 1080 ∷ 902 ∷ []) ∷  -- Idaho
    (808 ∷ 742 ∷ 811 ∷ 691 ∷ []) ∷  -- Illinois
    (849 ∷ 742 ∷ 801 ∷ 691 ∷ []) ∷  -- Indiana
    (843 ∷ 742 ∷ 820 ∷ 691 ∷ []) ∷  -- Iowa
    (835 ∷ 742 ∷ 768 ∷ 646 ∷ []) ∷  -- Kansas
    (770 ∷ 742 ∷ 797 ∷ 702 ∷ []) ∷  -- Kentucky
    (688 ∷ 822 ∷ 775 ∷ 700 ∷ []) ∷  -- Louisiana
    (788 ∷ 670 ∷ 766 ∷ 690 ∷ []) ∷  -- Maine
    (794 ∷ 670 ∷ 785 ∷ 690 ∷ []) ∷  -- Maryland
    (769 ∷ 670 ∷ 778 ∷ 690 ∷ []) ∷  -- Massachusetts
    (905 ∷ 742 ∷ 795 ∷ 691 ∷ []) ∷  -- Michigan
    (813 ∷ 742 ∷ 805 ∷ 691 ∷ []) ∷  -- Minnesota
    (809 ∷ 742 ∷ 785 ∷ 702 ∷ []) ∷  -- Mississippi
    (721 ∷ 742 ∷ 788 ∷ 691 ∷ []) ∷  -- Missouri
    (805 ∷ 742 ∷ 721 ∷ 646 ∷ []) ∷  -- Montana
    (798 ∷ 742 ∷ 764 ∷ 646 ∷ []) ∷  -- Nebraska
    (975 ∷ 742 ∷ 1050 ∷ 902 ∷ []) ∷  -- Nevada
    (858 ∷ 670 ∷ 778 ∷ 690 ∷ []) ∷  -- New Hampshire
    (764 ∷ 670 ∷ 792 ∷ 690 ∷ []) ∷  -- New Jersey
    (1003 ∷ 742 ∷ 1064 ∷ 902 ∷ []) ∷  -- New Mexico
    (824 ∷ 670 ∷ 799 ∷ 690 ∷ []) ∷  -- New York
    (907 ∷ 742 ∷ 785 ∷ 702 ∷ []) ∷  -- North Carolina
    (729 ∷ 742 ∷ 740 ∷ 646 ∷ []) ∷  -- North Dakota
    (794 ∷ 742 ∷ 794 ∷ 691 ∷ []) ∷  -- Ohio
    (804 ∷ 822 ∷ 809 ∷ 700 ∷ []) ∷  -- Oklahoma
    (949 ∷ 742 ∷ 1061 ∷ 902 ∷ []) ∷  -- Oregon
    (827 ∷ 670 ∷ 803 ∷ 690 ∷ []) ∷  -- Pennsylvania
    (756 ∷ 670 ∷ 766 ∷ 690 ∷ []) ∷  -- Rhode Island
    (873 ∷ 742 ∷ 785 ∷ 702 ∷ []) ∷  -- South Carolina
    (824 ∷ 742 ∷ 750 ∷ 646 ∷ []) ∷  -- South Dakota
    (821 ∷ 742 ∷ 792 ∷ 702 ∷ []) ∷  -- Tennessee
    (919 ∷ 822 ∷ 820 ∷ 700 ∷ []) ∷  -- Texas
    (975 ∷ 742 ∷ 1058 ∷ 902 ∷ []) ∷  -- Utah
    (795 ∷ 670 ∷ 792 ∷ 690 ∷ []) ∷  -- Vermont
    (864 ∷ 742 ∷ 795 ∷ 702 ∷ []) ∷  -- Virginia
    (1054 ∷ 742 ∷ 1087 ∷ 902 ∷ []) ∷  -- Washington
    (729 ∷ 670 ∷ 782 ∷ 690 ∷ []) ∷  -- West Virginia
    (825 ∷ 742 ∷ 788 ∷ 691 ∷ []) ∷  -- Wisconsin
    (813 ∷ 742 ∷ 734 ∷ 646 ∷ []) ∷ []  -- Wyoming

-- how many livestock and states there are
abbrev pub livestock_count : ℕ
livestock_count = 10

abbrev pub state_count : ℕ
state_count = 50

-- the mass and the B0 of a livestock; the solids of a state, by column; and the solids of a livestock, in a state where they go by state
unfoldable pub mass_of : ℕ → ℕ
mass_of livestock = get_or masses (livestock - 1) 0

unfoldable pub b0_of : ℕ → ℕ
b0_of livestock = get_or b0s (livestock - 1) 0

unfoldable pub by_state : ℕ → ℕ → ℕ
by_state state column = get_or (get_or states (state - 1) []) column 0

unfoldable pub solids_entry : ℕ → SolidsEntry
solids_entry livestock = get_or solids (livestock - 1) (Own 0)

unfoldable pub solids_by : SolidsEntry → ℕ → ℕ
solids_by (Own own) state = own
solids_by (Column column) state = by_state state column

unfoldable pub solids_of : ℕ → ℕ → ℕ
solids_of livestock state = solids_by (solids_entry livestock) state

-- whether a livestock's solids go by state
unfoldable pub goes_by_state : SolidsEntry → Bool
goes_by_state (Own own) = false
goes_by_state (Column column) = true

unfoldable pub asks_state : ℕ → Bool
asks_state livestock = goes_by_state (solids_entry livestock)

-- a livestock that Table A.2 has
abbrev pub Livestock : ℕ → Type 0
Livestock livestock = (1 ≤ livestock) × (livestock ≤ livestock_count)

-- a number as the livestock of that row, if Table A.2 has it
unfoldable pub livestock_of : ℕ → Option ℕ
livestock_of n = cond (leb 1 n && leb n livestock_count) (Some n) None

-- the states that a livestock allows: a row of Table A.5 where its solids go by state, and 0 alone where not
abbrev pub lowest_state : ℕ → ℕ
lowest_state livestock = cond (asks_state livestock) 1 0

abbrev pub highest_state : ℕ → ℕ
highest_state livestock = cond (asks_state livestock) state_count 0

abbrev pub State : ℕ → ℕ → Type 0
State livestock state = (lowest_state livestock ≤ state) × (state ≤ highest_state livestock)
