-- No two outcomes fit the contract of a public function. Assumes nothing.
use Rattle.laws.proofs.Determined.{OneOutcome}
use Rattle.print_page.proofs.Determined.{lays_one}
use Rattle.print_year.proofs.lay_year.Reads as LayYear

pub lay_year_one : OneOutcome LayYear.Learnt (λ κ s. s.0.now)
lay_year_one κ a x y s t = lays_one
