-- `meter_month::destroyed` meets its contract: the two arrays hold the filled series, whose numbers are no larger than those recorded.
-- Assumes nothing.
use Rattle.std.proofs.Common.{◌≡◌, ℕ, Option, length, ap, ◌∙◌}
use mathlib.Core.Path.{fun_ext}
use Rattle.meter_series.specs.Series.{series}
use Rattle.meter_gaps.specs.Filling.{filled}
use Rattle.meter_gaps.proofs.Sizes.{filled_most}
use Rattle.meter_hour.specs.Room.{most_flow, most_content}
use Rattle.meter_month.specs.Month.{destroyed_of}
use Rattle.meter_month.proofs.destroyed.Goals as goal

pub sum-requires-clause-at_most : goal.sum-requires-clause-at_most
sum-requires-clause-at_most c =
    let flows = c.args.recorded.now.flows.now in
    let contents = c.args.recorded.now.contents.now in (
      (λ h. rw (c.fill-flows.ensures.by_index h) (filled_most (series flows) (most_flow c.args.kind) c.requires.at_most.0 (length flows) h)),
      (λ h. rw (c.fill-contents.ensures.by_index h) (filled_most (series contents) most_content c.requires.at_most.1 (length contents) h)),
    )

pub returns : goal.returns
unfolding destroyed_of
returns c =
    let r = c.args.recorded.now in
    let n = length c.args.states.now in
    let same : (s filling : ℕ → Option ℕ) (m : ℕ) → m ≡ n → ((h : ℕ) → filling h ≡ filled s m h) → filling ≡ filled s n =
    λ s filling m e p. fun_ext p ∙ ap (filled s) e in
    c.sum.ensures
    ∙ rw (
      same (series r.flows.now) (series c.fill-flows.result) (length r.flows.now) c.requires.as_long.0.0 c.fill-flows.ensures.by_index,
      same (series r.contents.now) (series c.fill-contents.result) (length r.contents.now) c.requires.as_long.0.1 c.fill-contents.ensures.by_index,
    )
