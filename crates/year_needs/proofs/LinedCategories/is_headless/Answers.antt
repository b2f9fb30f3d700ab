-- `year_needs::LinedCategories::is_headless` meets its contract: what `any` says of the categories, and the flags of the lines. Assumes nothing.
use Prim.Native.Nat.{ℕ, ◌+◌}
use mathlib.Core.Bool.{Bool, true, false, ◌&&◌}
use mathlib.Core.Path.{refl, ◌≡◌, ◌∙◌}
use borrow.Author.Rules.{rules}
use borrow.Author.Tests.{tests}
use lib.ListN.{get_or}
use Rattle.std.specs.Prelude.{Some}
use Rattle.std.proofs.lemmas.Iterator.{cases_from_any, YieldsList-from_range}
use Rattle.record_table.specs.Table.{categories}
use Rattle.year_needs.specs.Complete.{uncounted}
use Rattle.year_needs.proofs.Lined.{headless_flagged}
use Rattle.year_needs.proofs.Passing.{any_found}
use Rattle.year_needs.proofs.LinedCategories.is_headless.Goals as goal

pub returns : goal.returns
returns c =
    let flagged : ℕ → Bool = λ category. get_or c.args.self.now.flags category false && uncounted c.args.self.now.book.now c.args.month (Some category) in
    any_found flagged categories c.any.result
    (cases_from_any _ _ _ (λ category. flagged category ≡ true) (λ category. flagged category ≡ false) c.any.ensures.ran
    (YieldsList-from_range 1 (categories + 1) categories refl refl) (λ x q k. search (rules, tests)) (λ x q k. search (rules, tests))) ∙
    headless_flagged c.args.self.now.book.now c.args.month c.args.self.now.lined c.known.ensures
