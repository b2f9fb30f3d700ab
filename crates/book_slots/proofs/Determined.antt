-- No two outcomes fit the contract of a public function. Assumes nothing.
use Rattle.laws.proofs.Determined.{OneAnswer, one}
use Rattle.book_slots.proofs.first_year.Reads as FirstYear
use Rattle.book_slots.proofs.first_month.Reads as FirstMonth
use Rattle.book_slots.proofs.temperature.Reads as Temperature
use Rattle.book_slots.proofs.project_methane.Reads as ProjectMethane
use Rattle.book_slots.proofs.baseline_co2.Reads as BaselineCo2
use Rattle.book_slots.proofs.project_co2.Reads as ProjectCo2
use Rattle.book_slots.proofs.destroyed.Reads as Destroyed
use Rattle.book_slots.proofs.read.Reads as Read
use Rattle.book_slots.proofs.filled.Reads as Filled
use Rattle.book_slots.proofs.field.Reads as Field

pub first_year_one : OneAnswer FirstYear.Learnt
first_year_one κ a x y s t = one

pub first_month_one : OneAnswer FirstMonth.Learnt
first_month_one κ a x y s t = one

pub temperature_one : OneAnswer Temperature.Learnt
temperature_one κ a x y s t = one

pub project_methane_one : OneAnswer ProjectMethane.Learnt
project_methane_one κ a x y s t = one

pub baseline_co2_one : OneAnswer BaselineCo2.Learnt
baseline_co2_one κ a x y s t = one

pub project_co2_one : OneAnswer ProjectCo2.Learnt
project_co2_one κ a x y s t = one

pub destroyed_one : OneAnswer Destroyed.Learnt
destroyed_one κ a x y s t = one

pub read_one : OneAnswer Read.Learnt
read_one κ a x y s t = one

pub filled_one : OneAnswer Filled.Learnt
filled_one κ a x y s t = one

pub field_one : OneAnswer Field.Learnt
field_one κ a x y s t = one
