-- `record_fields::nonzero` meets its contract: what `find` tells of the range is what a scan of it finds. Assumes nothing.
use mathlib.Core.Path.{◌≡◌}
use Rattle.std.proofs.Common.{get_or, arith, rules, tests}
use Rattle.std.proofs.lemmas.Iterator.{first_from_Range}
use Rattle.std.proofs.lemmas.List.{get_or_read}
use Rattle.record_fields.proofs.Scan.{scanned}
use Rattle.record_fields.proofs.nonzero.Goals as goal

pub returns : goal.returns
returns c =
    let r = c.args.posted.now in
    scanned r c.args.zeros.at c.args.zeros.wide c.find.result (
    first_from_Range _ _ _ _ (λ i. get_or r i 0 ≡ 0 → ⊥) (λ i. get_or r i 0 ≡ 0) c.find.ensures.ran
    (λ x q k. grind (arith, tests, get_or_read))
    (λ x q k. (search rules, grind (arith, tests, get_or_read))))
