-- `year_needs::any_line` meets its contract: what `any` says of the lines. Assumes nothing.
use Prim.Native.Nat.{◌+◌}
use mathlib.Core.Bool.{true, false}
use mathlib.Core.Path.{refl, ◌≡◌}
use borrow.Author.Rules.{rules}
use borrow.Author.Tests.{tests}
use Rattle.std.proofs.lemmas.Iterator.{cases_from_any, YieldsList-from_range}
use Rattle.record_table.specs.Table.{lines}
use Rattle.book_herd.specs.Herd.{category_of}
use Rattle.year_months.specs.Series.{filled}
use Rattle.year_needs.specs.Complete.{any_line}
use Rattle.year_needs.proofs.Passing.{any_found}
use Rattle.year_needs.proofs.any_line.Goals as goal

pub returns : goal.returns
unfolding any_line
returns c =
    let book = c.args.book.now in
    any_found (λ line. filled (category_of book line)) lines c.any.result
    (cases_from_any _ _ _ (λ line. filled (category_of book line) ≡ true) (λ line. filled (category_of book line) ≡ false) c.any.ensures.ran
    (YieldsList-from_range 1 (lines + 1) lines refl refl) (λ x q k. search (rules, tests)) (λ x q k. search (rules, tests)))
