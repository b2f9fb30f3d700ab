-- `year_shares::fit` meets its contract: what `position` says of the sums of the categories. Assumes nothing.
use mathlib.Core.Path.{ap, sym, ◌∙◌}
use borrow.Author.Rules.{rules}
use borrow.Author.Tests.{tests}
use Rattle.std.proofs.lemmas.Iterator.{IsFirst-from_position, YieldsList-from_slice}
use Rattle.year_shares.proofs.Sharing.{Above, Within, by_position, its_slice, position_is}
use Rattle.year_shares.proofs.fit.Goals as goal

pub returns-in-Some : goal.returns-in-Some
returns-in-Some c =
    rw c.at.ensures
    (ap by_position (sym c.in-Some.is) ∙ position_is c.args.book.now c.shares-shares.ensures c.position.result
    (IsFirst-from_position _ _ c.position.result Above Within c.position.ensures.ran (YieldsList-from_slice _ (c.iter.ensures.rest ∙ its_slice c.args.book.now c.shares-shares.ensures))
    (λ x q k. search (rules, tests)) (λ x q k. search (rules, tests))))

pub returns-in-None : goal.returns-in-None
returns-in-None c =
    ap by_position (sym c.in-None.is) ∙ position_is c.args.book.now c.shares-shares.ensures c.position.result
    (IsFirst-from_position _ _ c.position.result Above Within c.position.ensures.ran (YieldsList-from_slice _ (c.iter.ensures.rest ∙ its_slice c.args.book.now c.shares-shares.ensures))
    (λ x q k. search (rules, tests)) (λ x q k. search (rules, tests)))
