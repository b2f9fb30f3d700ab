-- `year_needs::LinedCategories::first_lacking` meets its contract: what `find` says of the months. Assumes nothing.
use mathlib.Core.Bool.{true, false}
use mathlib.Core.Path.{◌≡◌}
use borrow.Author.Rules.{rules}
use borrow.Author.Tests.{tests}
use native.Mathlib.Omega.{arith}
use Rattle.std.proofs.lemmas.Iterator.{first_from_Range}
use Rattle.year_months.specs.Series.{months_through}
use Rattle.year_needs.specs.Complete.{lacks, lacking_of, lacking_month}
use Rattle.year_needs.proofs.Passing.{lowest_found}
use Rattle.year_needs.proofs.LinedCategories.first_lacking.Goals as goal

pub returns : goal.returns
unfolding lacking_month lacking_of
returns c =
    let test = lacks c.args.self.now.book.now c.args.year in
    lowest_found test (months_through c.args.year) _ c.find.result (omega (arith, c.months_through-past.ensures.value))
    (first_from_Range _ _ _ c.find.result (λ month. test month ≡ true) (λ month. test month ≡ false) c.find.ensures.ran
    (λ x q k. search (rules, tests)) (λ x q k. search (rules, tests)))
