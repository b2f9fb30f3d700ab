-- `meter_month::of_meter` meets its contract: each return knows the refusals that were not given before it, and the two arrays, cut at the month's
-- end, are the series that it recorded.
-- Assumes nothing.
use Rattle.std.proofs.Common.{◌≡◌, ℕ, ◌≤◌, List, Option, None, Ok, length, take, refl, sym, ◌∙◌, subst, arith}
use Rattle.std.proofs.lemmas.Result.{err_from_is_err_and}
use borrow.Author.Tests.{le-ltb, ltb-false}
use Rattle.meter_series.specs.Series.{series, amount, most_hours, AtMost}
use Rattle.meter_hour.specs.declared.Recorded.{Recorded}
use Rattle.meter_hour.specs.Hour.{flow_of, content_of, whole_efficiency}
use Rattle.meter_month.specs.declared.meter.Meter.{Meter}
use Rattle.meter_month.specs.Month.{recorded, first_refused, metered_of, hours_of}
use Rattle.meter_month.specs.Asks.{Holds, passing_of}
use Rattle.meter_month.specs.Meters.{IsMonth, states_of, hour_in}
use Rattle.meter_month.proofs.EachKind.{neither, past, lists_fit, states_most, flows_small, contents_small}
use Rattle.meter_month.proofs.Readings.{cut}
use Rattle.meter_month.proofs.Passing.{all_pass, month_refused}
use Rattle.meter_month.proofs.of_meter.Goals as goal

-- two arrays that hold what each hour recorded, cut at the month's end
module _ (meter : Meter) where
  abbrev hours : ℕ
  hours = length (states_of meter)

  all_passed : {u : Unit {0}} → Ok u ≡ passing_of (hour_in meter) hours → hours ≤ first_refused (hour_in meter) hours
  all_passed {u} e = ltb-false (first_refused (hour_in meter) hours) hours (all_pass (hour_in meter) hours u e)

  series_is :
      (part : Option Recorded → Option ℕ) → part neither ≡ None → (cells : List (Option ℕ)) → length cells ≡ most_hours → IsMonth meter →
      hours ≤ first_refused (hour_in meter) hours → Holds cells (first_refused (hour_in meter) hours) (recorded part (hour_in meter)) →
      series (take hours cells) ≡ recorded part (hour_in meter)
  series_is part none cells long fits all held =
      cut part (hour_in meter) hours none (past meter) cells (omega (arith, long, states_most meter fits)) (λ h b. held h (omega (arith, b, all)))

  at_most :
      (part : Option Recorded → Option ℕ) (m : ℕ) → ((h : ℕ) → amount (part (hour_in meter h)) ≤ m) →
      (cells : List (Option ℕ)) → series cells ≡ recorded part (hour_in meter) → AtMost m cells
  at_most part m small cells e h = subst (λ (s : ℕ → Option ℕ). amount (s h) ≤ m) (sym e) (small h)

pub returns-in_err-record_hours : goal.returns-in_err-record_hours
unfolding hours_of
returns-in_err-record_hours c =
    let meter = c.args.meter.now in
    let given = err_from_is_err_and c.from_residual.result c.from_residual.ensures.1 in
    rw (given.1, given.2, sym c.is_month.ensures ∙ c.if-not-is_month.false, le-ltb whole_efficiency c.args.efficiency (omega arith))
    (month_refused (hour_in meter) (hours meter) c.in_err-record_hours.field-0.0 _ (sym c.in_err-record_hours.was ∙ c.record_hours.ensures.passes))

pub destroyed-requires-clause-at_most : goal.destroyed-requires-clause-at_most
destroyed-requires-clause-at_most c =
    let meter = c.args.meter.now in
    let r = c.record_hours in
    let fits = lists_fit meter (sym c.is_month.ensures ∙ c.if-not-is_month.false) in
    let all = all_passed meter (sym c.in_ok-record_hours.was ∙ r.ensures.passes) in
    rw (c.states-states.ensures, c.kind.ensures) (
      at_most meter flow_of _ (flows_small meter) _ (series_is meter flow_of refl r.new.flows (omega arith) fits all r.ensures.flows_recorded),
      at_most meter content_of _ (contents_small meter) _ (series_is meter content_of refl r.new.contents (omega arith) fits all r.ensures.contents_recorded),
    )

pub returns : goal.returns
unfolding hours_of metered_of
returns c =
    let meter = c.args.meter.now in
    let r = c.record_hours in
    let is_one = sym c.is_month.ensures ∙ c.if-not-is_month.false in
    let fits = lists_fit meter is_one in
    let passed = sym c.in_ok-record_hours.was ∙ r.ensures.passes in
    let all = all_passed meter passed in
    rw (
      is_one,
      le-ltb whole_efficiency c.args.efficiency (omega arith),
      all_pass (hour_in meter) (hours meter) c.in_ok-record_hours.field-0 passed,
      c.destroyed.ensures,
      c.states-states.ensures,
      c.kind.ensures,
      series_is meter flow_of refl r.new.flows (omega arith) fits all r.ensures.flows_recorded,
      series_is meter content_of refl r.new.contents (omega arith) fits all r.ensures.contents_recorded,
    )
