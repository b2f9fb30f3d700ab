-- No two outcomes fit the contract of a public function. Assumes nothing.
use Rattle.laws.proofs.Determined.{OneAnswer, one}
use Rattle.meter_reading.proofs.litres.Reads as Litres
use Rattle.meter_reading.proofs.hundredths.Reads as Hundredths
use Rattle.meter_reading.proofs.cubic_feet.Reads as CubicFeet
use Rattle.meter_reading.proofs.temperature.Reads as Temperature
use Rattle.meter_reading.proofs.pressure.Reads as Pressure

pub litres_one : OneAnswer Litres.Learnt
litres_one κ a x y s t = one

pub hundredths_one : OneAnswer Hundredths.Learnt
hundredths_one κ a x y s t = one

pub cubic_feet_one : OneAnswer CubicFeet.Learnt
cubic_feet_one κ a x y s t = one

pub temperature_one : OneAnswer Temperature.Learnt
temperature_one κ a x y s t = one

pub pressure_one : OneAnswer Pressure.Learnt
pressure_one κ a x y s t = one
