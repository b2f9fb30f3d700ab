-- No two outcomes fit the contract of a public function. Assumes nothing.
use Rattle.laws.proofs.Determined.{OneOutcome}
use Rattle.print_page.proofs.Determined.{lays_one}
use Rattle.print_years.proofs.lay_years.Reads as LayYears

pub lay_years_one : OneOutcome LayYears.Learnt (λ κ s. s.1.0.now)
lay_years_one κ a x y s t = lays_one
