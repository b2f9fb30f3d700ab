-- `meter_gaps::end_from` meets its contract: what `find` tells of the hours is what a search of them finds. Assumes nothing.
use mathlib.Core.Bool.{true, false}
use mathlib.Core.Path.{◌≡◌}
use Rattle.std.proofs.Common.{arith, rules, tests, ◌∙◌}
use Rattle.std.proofs.lemmas.Iterator.{first_from_Range}
use Rattle.std.proofs.lemmas.List.{get_or_read}
use Rattle.meter_series.specs.Series.{is_recorded, series}
use Rattle.meter_gaps.proofs.Ends.{searched}
use Rattle.meter_gaps.proofs.Month.end_from.Goals as goal

pub returns : goal.returns
returns c =
    let s = series c.args.self.now.hours.now in
    c.unwrap_or.ensures ∙ searched (λ j. is_recorded (s j)) c.args.start _ c.find.result c.requires (
    first_from_Range _ _ _ _ (λ i. is_recorded (s i) ≡ true) (λ i. is_recorded (s i) ≡ false) c.find.ensures.ran
    (λ x q k. grind (arith, tests, get_or_read))
    (λ x q k. (search rules, grind (arith, tests, get_or_read))))
