-- Answers that are no refusals: a record that the empty book takes, a month that is weighed, and each year that 01 gives no refusal.
-- Assumes nothing.
use Prim.Native.Nat.{ℕ}
use mathlib.Core.Bool.{Bool, cond}
use mathlib.Core.List.{List}
use mathlib.Core.Path.{◌≡◌, refl, ap, ◌∙◌}
use borrow.Author.Tests.{le-ltb, lt-leb}
use lib.Ieee.{Float, nan}
use lib.ListN.{replicate}
use Rattle.std.specs.Prelude.{Ok, Err}
use Rattle.refusals.specs.Refusal.{refusal}
use Rattle.refusals.specs.declared.Reason.TheVariants.{AlreadyFilled}
use Rattle.units.specs.Grams.{methane}
use Rattle.number_bytes.specs.Number.{number_at}
use Rattle.record_table.specs.Table.{categories}
use Rattle.record_table.specs.Slot.{count, index, total, slot_of}
use Rattle.record_fields.specs.Entry.{in_range, outside_at, nonzero_at}
use Rattle.record_judge.specs.Defaults.{is_defaults}
use Rattle.record_judge.specs.Record.{nonzero_in, outside_in, key_in, row_in, row_of, key_of, verdict, key_row, entries_for, judged}
use Rattle.record_judge.specs.declared.Change.TheVariants.{Put}
use Rattle.record_judge.proofs.Keys.{put_below}
use Rattle.book.specs.Book as Book
use Rattle.book.specs.Book.{answer_by, empty_book, taken}
use Rattle.book.proofs.Free.{empty_free}
use Rattle.book.proofs.Kept.{empty_slot}
use Rattle.meter_state.specs.State.{reading_of}
use Rattle.laws.specs.Counting.{first_from}
use Rattle.meter_hour.specs.Hour.{recorded_of, hour_at, whole_efficiency}
use Rattle.meter_hour.specs.declared.Kind.TheVariants.{CubicMetres, CubicFeet}
use Rattle.meter_feet.specs.Feet as Feet
use Rattle.meter_feet.specs.Feet.{flow_in, content_in, hour_at as feet_hour_at}
use Rattle.meter_month.specs.Month.{metered_of, hours_of, month_of, feet_month_of}
use Rattle.year_months.specs.Series.{first_year, last_year}
use Rattle.year_shares.specs.Shares.{over_of}
use Rattle.year.specs.Answer as Year
use Rattle.year.specs.Figures.{figures_of}
use Rattle.year.proofs.Never.{never}
use Rattle.wrong_programs.proofs.Promise.{Answered}
use Rattle.wrong_programs.proofs.Records.{year_record}

year_judged : judged year_record ≡ Ok (Put 0)
unfolding judged key_row entries_for is_defaults verdict row_of row_in key_of key_in nonzero_in nonzero_at outside_in outside_at in_range number_at slot_of total index count
year_judged = refl

pub year_taken : Book.answer_of empty_book year_record ≡ taken
unfolding Book.answer_of answer_by
year_taken =
    let h = put_below year_record 0 year_judged in
    ap (answer_by empty_book) year_judged ∙ ap (λ (b : Bool). cond b taken (Err (refusal AlreadyFilled 0))) (empty_free empty_book 0 (empty_slot 0 h))

-- 28 days of hours without readings, the device out in each
abbrev pub hours : ℕ
hours = 672

abbrev pub silent : List Float
silent = replicate hours nan

abbrev pub out : List ℕ
out = replicate hours 7

pub month_weighed :
    month_of silent silent out whole_efficiency
    ≡ Ok (methane (metered_of CubicMetres whole_efficiency out (hour_at silent silent out)))
unfolding month_of hours_of hour_at recorded_of reading_of first_from
month_weighed = refl

-- in cubic feet 8 is added where temperature or pressure is missing
abbrev pub silent_out : List ℕ
silent_out = replicate hours 15

pub feet_month_weighed :
    feet_month_of silent silent silent silent silent_out whole_efficiency
    ≡ Ok (methane (metered_of CubicFeet whole_efficiency silent_out (feet_hour_at silent silent silent silent silent_out)))
unfolding feet_month_of hours_of feet_hour_at Feet.recorded_of flow_in content_in first_from
feet_month_weighed = refl

pub year_stated : (book : List ℕ) (year : ℕ) → Answered book year → Year.answer_of book year ≡ Ok (figures_of book year)
unfolding Year.answer_of Year.whole_year
year_stated book year a =
    rw (
      le-ltb year first_year a.period.low,
      le-ltb last_year year a.period.high,
      a.complete,
      lt-leb (over_of book) categories a.shares,
      never book a.valid year a.period,
    ) refl
