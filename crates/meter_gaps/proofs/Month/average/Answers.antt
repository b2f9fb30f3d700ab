-- `meter_gaps::Month::average` meets its contract: the sum of both sides fits.
-- Assumes nothing.
use Rattle.std.proofs.Common.{sym, ◌∙◌, arith, rules}
use Rattle.meter_series.specs.Series.{series, most_amount, AtMost}
use Rattle.meter_gaps.proofs.Sizes.{sum_most}
use Rattle.meter_gaps.proofs.Month.average.Goals as goal

pub overflow_add-result : goal.overflow_add-result
overflow_add-result c =
    let at_most : AtMost most_amount c.args.self.now.hours.now = search rules in
    let most = sum_most (series c.args.self.now.hours.now) most_amount at_most in
    omega (
      arith,
      most _ _ _ (sym c.total.ensures ∙ c.in_ok-before.was),
      most _ _ _ (sym c.total-2.ensures ∙ c.in_ok-after.was),
    )
