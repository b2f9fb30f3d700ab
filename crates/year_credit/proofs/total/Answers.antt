-- `year_credit::total` meets its contract: every figure on the way is small.
-- Assumes nothing.
use mathlib.Core.Path.{ap, ◌∙◌, ◌≡◌}
use native.Mathlib.Omega.{arith}
use lib.IntN.{pos}
use Rattle.units.specs.declared.co2e.Co2e.{Co2e}
use Rattle.year_credit.specs.Credit.{metered_of, modelled_of, reduction_of}
use Rattle.year_credit.proofs.Signs.{lesser_is, minus_size, read_back, total_read}
use Rattle.year_credit.proofs.total.Goals as goal

pub returns : goal.returns
returns c =
    let baseline = c.args.baseline in
    let operator = c.args.operator in
    let fits = c.requires.operator_fits in
    let reduced : c.lesser-reduction.result ≡ reduction_of baseline operator =
    lesser_is c.modelled.result c.signed.result (modelled_of baseline operator) (pos (metered_of operator).0)
    (read_back (modelled_of baseline operator) c.modelled.ensures
    (omega (arith, minus_size (pos baseline.0) operator.project_methane.0, c.requires.baseline_fits, fits.project_methane)))
    (read_back (pos (metered_of operator).0) (c.signed.ensures ∙ ap (λ (m : Co2e). pos m.0) c.metered.ensures) (omega (arith, fits.metered)))
    c.lesser-reduction.ensures in
    total_read baseline operator c.requires.baseline_fits fits reduced c.signed-2.ensures c.signed-3.ensures
