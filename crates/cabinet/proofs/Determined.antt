-- No two outcomes fit the contract of a public function. Assumes nothing.
use Rattle.laws.proofs.Determined.{OneAnswer, OneOutcome, one, ones}
use Rattle.cabinet.proofs.cabinet_empty.Reads as CabinetEmpty
use Rattle.cabinet.proofs.cabinet_post.Reads as CabinetPost
use Rattle.cabinet.proofs.cabinet_year.Reads as CabinetYear
use Rattle.cabinet.proofs.cabinet_month.Reads as CabinetMonth
use Rattle.cabinet.proofs.cabinet_feet_month.Reads as CabinetFeetMonth
use Rattle.cabinet.proofs.cabinet_feet_hour.Reads as CabinetFeetHour
use Rattle.cabinet.proofs.cabinet_litres.Reads as CabinetLitres
use Rattle.cabinet.proofs.cabinet_hundredths.Reads as CabinetHundredths

pub cabinet_empty_one : OneOutcome CabinetEmpty.Learnt (λ κ s. s.0.now)
cabinet_empty_one κ a x y s t = ones

pub cabinet_post_one : OneOutcome CabinetPost.Learnt (λ κ s. s.0.now)
cabinet_post_one κ a x y s t = ones

pub cabinet_year_one : OneAnswer CabinetYear.Learnt
cabinet_year_one κ a x y s t = one

pub cabinet_month_one : OneAnswer CabinetMonth.Learnt
cabinet_month_one κ a x y s t = one

pub cabinet_feet_month_one : OneAnswer CabinetFeetMonth.Learnt
cabinet_feet_month_one κ a x y s t = one

pub cabinet_feet_hour_one : OneAnswer CabinetFeetHour.Learnt
cabinet_feet_hour_one κ a x y s t = one

pub cabinet_litres_one : OneAnswer CabinetLitres.Learnt
cabinet_litres_one κ a x y s t = one

pub cabinet_hundredths_one : OneAnswer CabinetHundredths.Learnt
cabinet_hundredths_one κ a x y s t = one
