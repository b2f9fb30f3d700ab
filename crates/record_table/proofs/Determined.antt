-- No two outcomes fit the contract of a public function. Assumes nothing.
use Prim.Native.Nat.{ℕ}
use mir.Syntax.{w64}
use mir.Val.{Fits}
use Rattle.laws.proofs.Determined.{OneAnswer, one}
use Rattle.record_table.proofs.slot.Reads as Slot
use Rattle.record_table.proofs.year_slot.Reads as YearSlot
use Rattle.record_table.proofs.line_slot.Reads as LineSlot
use Rattle.record_table.proofs.head_slot.Reads as HeadSlot
use Rattle.record_table.proofs.temperature_slot.Reads as TemperatureSlot
use Rattle.record_table.proofs.drain_slot.Reads as DrainSlot
use Rattle.record_table.proofs.project_slot.Reads as ProjectSlot
use Rattle.record_table.proofs.meter_slot.Reads as MeterSlot

pub slot_one : (n : ℕ) (fits : Fits w64 n) → OneAnswer (Slot.Learnt n fits)
slot_one n fits κ a x y s t = one

pub year_slot_one : OneAnswer YearSlot.Learnt
year_slot_one κ a x y s t = one

pub line_slot_one : OneAnswer LineSlot.Learnt
line_slot_one κ a x y s t = one

pub head_slot_one : OneAnswer HeadSlot.Learnt
head_slot_one κ a x y s t = one

pub temperature_slot_one : OneAnswer TemperatureSlot.Learnt
temperature_slot_one κ a x y s t = one

pub drain_slot_one : OneAnswer DrainSlot.Learnt
drain_slot_one κ a x y s t = one

pub project_slot_one : OneAnswer ProjectSlot.Learnt
project_slot_one κ a x y s t = one

pub meter_slot_one : OneAnswer MeterSlot.Learnt
meter_slot_one κ a x y s t = one
