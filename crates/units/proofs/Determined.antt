-- No two outcomes fit the contract of a public function. Assumes nothing.
use Rattle.laws.proofs.Determined.{OneAnswer, one}
use Rattle.units.proofs.co2e.Co2e.of_grams.Reads as Co2eOfGrams
use Rattle.units.proofs.co2e.Co2e.grams.Reads as Co2eGrams
use Rattle.units.proofs.co2e.Co2e.plus.Reads as Co2ePlus
use Rattle.units.proofs.methane.Methane.of_grams.Reads as MethaneOfGrams
use Rattle.units.proofs.methane.Methane.grams.Reads as MethaneGrams
use Rattle.units.proofs.methane.Methane.plus.Reads as MethanePlus
use Rattle.units.proofs.methane.Methane.share.Reads as MethaneShare
use Rattle.units.proofs.methane.Methane.warming.Reads as MethaneWarming
use Rattle.units.proofs.solids.Solids.of_grams.Reads as SolidsOfGrams
use Rattle.units.proofs.solids.Solids.grams.Reads as SolidsGrams
use Rattle.units.proofs.solids.Solids.plus.Reads as SolidsPlus
use Rattle.units.proofs.solids.Solids.less.Reads as SolidsLess
use Rattle.units.proofs.solids.Solids.share.Reads as SolidsShare
use Rattle.units.proofs.solids.Solids.b0_rule.Reads as SolidsB0Rule

pub co2e_of_grams_one : OneAnswer Co2eOfGrams.Learnt
co2e_of_grams_one κ a x y s t = one

pub co2e_grams_one : OneAnswer Co2eGrams.Learnt
co2e_grams_one κ a x y s t = one

pub co2e_plus_one : OneAnswer Co2ePlus.Learnt
co2e_plus_one κ a x y s t = one

pub methane_of_grams_one : OneAnswer MethaneOfGrams.Learnt
methane_of_grams_one κ a x y s t = one

pub methane_grams_one : OneAnswer MethaneGrams.Learnt
methane_grams_one κ a x y s t = one

pub methane_plus_one : OneAnswer MethanePlus.Learnt
methane_plus_one κ a x y s t = one

pub methane_share_one : OneAnswer MethaneShare.Learnt
methane_share_one κ a x y s t = one

pub methane_warming_one : OneAnswer MethaneWarming.Learnt
methane_warming_one κ a x y s t = one

pub solids_of_grams_one : OneAnswer SolidsOfGrams.Learnt
solids_of_grams_one κ a x y s t = one

pub solids_grams_one : OneAnswer SolidsGrams.Learnt
solids_grams_one κ a x y s t = one

pub solids_plus_one : OneAnswer SolidsPlus.Learnt
solids_plus_one κ a x y s t = one

pub solids_less_one : OneAnswer SolidsLess.Learnt
solids_less_one κ a x y s t = one

pub solids_share_one : OneAnswer SolidsShare.Learnt
solids_share_one κ a x y s t = one

pub solids_b0_rule_one : OneAnswer SolidsB0Rule.Learnt
solids_b0_rule_one κ a x y s t = one
