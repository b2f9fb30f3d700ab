-- No two outcomes fit the contract of a public function. Assumes nothing.
use Rattle.laws.proofs.Determined.{OneAnswer, one}
use Rattle.record_defaults.proofs.Livestock.asks_state.Reads as AsksState
use Rattle.record_defaults.proofs.Livestock.b0.Reads as B0
use Rattle.record_defaults.proofs.line.Reads as Line
use Rattle.record_defaults.proofs.Livestock.mass.Reads as Mass
use Rattle.record_defaults.proofs.Livestock.new.Reads as New
use Rattle.record_defaults.proofs.Livestock.table_solids.Reads as TableSolids

pub line_one : OneAnswer Line.Learnt
line_one κ a x y s t = one

pub mass_one : OneAnswer Mass.Learnt
mass_one κ a x y s t = one

pub b0_one : OneAnswer B0.Learnt
b0_one κ a x y s t = one

pub asks_state_one : OneAnswer AsksState.Learnt
asks_state_one κ a x y s t = one

pub table_solids_one : OneAnswer TableSolids.Learnt
table_solids_one κ a x y s t = one

pub new_one : OneAnswer New.Learnt
new_one κ a x y s t = one
