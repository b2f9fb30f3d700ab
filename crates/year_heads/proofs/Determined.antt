-- No two outcomes fit the contract of a public function. Assumes nothing.
use Rattle.laws.proofs.Determined.{OneAnswer}
use Rattle.year_months.proofs.Determined.{same_array}
use Rattle.year_heads.proofs.by_category.Reads as ByCategory

pub by_category_one : OneAnswer ByCategory.Learnt
by_category_one κ a x y s t = same_array
