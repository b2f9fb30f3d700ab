-- The records of 01's worked example ("Figures to check"), each by its mark and its fields. Assumes nothing.
use Prim.Native.Nat.{ℕ, zero, suc, ◌/◌, ◌%◌}
use mathlib.Core.Bool.{Bool, cond}
use mathlib.Core.List.{List, [], ◌∷◌, ◌++◌}
use lib.ListN.{get_or, replicate}
use Rattle.calendar.specs.Days.{months_in_year}
use Rattle.record_table.specs.Table.{table, no_row, yr, ln, hd, tp, pe, mt}

-- a number in so many bytes, the lowest first; zero bytes; and a row's mark before other bytes
abbrev bytes : ℕ → ℕ → List ℕ
bytes zero number = []
bytes (suc n) number = number % 256 ∷ bytes n (number / 256)

abbrev zeros : ℕ → List ℕ
zeros n = replicate n 0

abbrev marked : ℕ → List ℕ → List ℕ
marked row after = bytes 2 (get_or table row no_row).letters ++ after

-- the year 2011 and month 1
abbrev pub year_record : List ℕ
year_record = marked yr (bytes 2 2011 ++ (1 ∷ zeros 11))

-- line 1: anaerobic, category 1, table solids 1000, mass 6000, share 10,000, B0 24
abbrev pub line_record : List ℕ
line_record = marked ln (1 ∷ 0 ∷ 1 ∷ 0 ∷ (bytes 2 1000 ++ (bytes 2 6000 ++ (bytes 2 10000 ++ (24 ∷ zeros 3)))))

-- month m: 100 head of category 1; 30.2 degrees; 1000, 0 and 500 kilograms
abbrev pub head_record : ℕ → List ℕ
head_record m = marked hd (1 ∷ m ∷ (bytes 4 100 ++ zeros 8))

abbrev pub temperature_record : ℕ → List ℕ
temperature_record m = marked tp (m ∷ 0 ∷ (bytes 2 302 ++ zeros 10))

abbrev pub project_record : ℕ → List ℕ
project_record m = marked pe (m ∷ 0 ∷ (bytes 4 1000 ++ (bytes 4 0 ++ bytes 4 500)))

-- and device 1, which destroyed 2,000,000 grams as 01 has it, or none
abbrev pub grams_of : Bool → ℕ
grams_of destroyed = cond destroyed 2000000 0

abbrev pub meter_record : Bool → ℕ → List ℕ
meter_record destroyed m = marked mt (m ∷ 1 ∷ (bytes 8 (grams_of destroyed) ++ zeros 4))

-- the records of months 1 to n, and all of them
abbrev through_month : Bool → ℕ → List (List ℕ)
through_month destroyed zero = []
through_month destroyed (suc m) =
    through_month destroyed m ++ (head_record (suc m) ∷ temperature_record (suc m) ∷ project_record (suc m) ∷ meter_record destroyed (suc m) ∷ [])

abbrev pub records : Bool → List (List ℕ)
records destroyed = year_record ∷ line_record ∷ through_month destroyed months_in_year
