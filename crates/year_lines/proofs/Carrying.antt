-- What each line hands on from one year to the next: a year's months end where all the months through it do, and the lines are renewed one by one.
-- Assumes nothing.
use Prim.Native.Nat.{ℕ, suc, ◌+◌, ◌-◌, ◌≤◌, ◌<◌}
use mathlib.Core.List.{List}
use mathlib.Core.Path.{refl, sym, ap, subst, ◌≡◌, ◌∙◌}
use native.Mathlib.Decide.{dec_le}
use native.Mathlib.Nat.{add-zero}
use native.Mathlib.Omega.{arith}
use lib.ListN.{length, get_or, set, replicate, length-set, length-replicate, get_or-replicate}
use lib.Seq.{get_or-set_same, get_or-set_other}
use Rattle.lagoon_run.proofs.Years.{joined}
use Rattle.lagoon_month.specs.Month.{empty_of, outcome_of}
use Rattle.lagoon_run.specs.Run.{run_from, run_of, with_of, year_of}
use Rattle.lagoon_month.specs.declared.Month.{Month}
use Rattle.lagoon_month.specs.declared.Outcome.{Outcome}
use Rattle.lagoon_month.specs.declared.Standing.{Standing}
use Rattle.lagoon_run.specs.declared.Totals.{Totals}
use Rattle.record_table.specs.Table.{lines}
use Rattle.calendar.specs.Days.{months_in_year}
use Rattle.std.specs.Prelude.{Some}
use Rattle.book_herd.specs.Herd.{system_of}
use Rattle.year_months.specs.Series.{months_before, months_through}
use Rattle.year_lines.specs.Asks.{Handed, Standings}
use Rattle.year_lines.specs.Lines.{anaerobic, month_at}

-- before the first month nothing stands
pub none_handed : (book : List ℕ) {empty : Standing} → empty ≡ empty_of → Standings book 0 (replicate lines empty)
unfolding run_from
none_handed book {empty} is =
    record {
      long = length-replicate {A = Standing} lines empty;
      each = λ line low high a. get_or-replicate {A = Standing} lines (line - 1) empty empty_of (omega arith) ∙ is;
    }

-- what a year's months hand on is what all months through it do
pub year_handed : (book : List ℕ) (line year : ℕ) {totals : Totals} → 1 ≤ year → totals ≡ year_of (month_at book line) year → Handed book year line totals.standing
unfolding year_of
year_handed book line year low is = λ a.
    let e : months_before year + months_in_year ≡ months_through year = omega arith in
    ap (λ (t : Totals). t.standing) is ∙ sym (subst (λ (n : ℕ). (run_of (month_at book line) n).standing ≡ (year_of (month_at book line) year).standing) e
    (joined empty_of (month_at book line) (months_before year) months_in_year).standing)

-- what an anaerobic line hands on, month by month: so many months on, the standing is theirs
module _ (book : List ℕ) (line : ℕ) where
  abbrev pub Stands : ℕ → Standing → Type 0
  Stands n standing = standing ≡ (run_of (month_at book line) n).standing

  pub begun : (year : ℕ) {from : Standing} → system_of book line ≡ Some anaerobic → Handed book (year - 1) line from → Stands (months_before year + 0) from
  begun year there handed = rw (add-zero (months_before year)) (handed there)

  pub month_more :
      (before passed : ℕ) {standing : Standing} {month : Month} {outcome : Outcome} → Stands (before + passed) standing →
      month ≡ month_at book line (before + passed + 1) → outcome ≡ outcome_of standing month → Stands (before + (passed + 1)) outcome.next
  unfolding run_from with_of
  month_more before passed stands month_is outcome_is =
      let more : before + (passed + 1) ≡ suc (before + passed) = omega arith in
      let next : before + passed + 1 ≡ suc (before + passed) = omega arith in rw (more, outcome_is, month_is, next, stands) refl

  pub ended : (year passed : ℕ) {standing : Standing} → 1 ≤ year → passed ≡ months_in_year → Stands (months_before year + passed) standing → Handed book year line standing
  ended year passed low end stands = λ there. let e : months_through year ≡ months_before year + passed = omega (arith, low, end) in rw e stands

-- a walk over the lines that has passed some: those are renewed, and the others are as the year before left them
pub record Renewed (book : List ℕ) (year passed : ℕ) (standings : List Standing) : Type 0 where
  pub long : length standings ≡ lines
  pub done : (line : ℕ) → 1 ≤ line → line ≤ passed → Handed book year line (get_or standings (line - 1) empty_of)
  pub left : (line : ℕ) → passed < line → line ≤ lines → Handed book (year - 1) line (get_or standings (line - 1) empty_of)

module _ (book : List ℕ) (year : ℕ) {standings : List Standing} where
  pub renewed_none : Standings book (year - 1) standings → Renewed book year 0 standings
  renewed_none before =
      record { long = before.long; done = λ line low high. absurd (omega arith); left = λ line low high. before.each line (omega arith) high }

  pub renewed_all : {passed : ℕ} → passed ≡ lines → Renewed book year passed standings → Standings book year standings
  renewed_all end renewed = record { long = renewed.long; each = λ line low high. renewed.done line low (omega arith) }

  module _ (passed : ℕ) {next : Standing} (inside : passed < lines) (is : Handed book year (passed + 1) next) (renewed : Renewed book year passed standings) where
    done_more : (line : ℕ) → 1 ≤ line → line ≤ passed + 1 → Dec (line ≤ passed) → Handed book year line (get_or (set standings passed next) (line - 1) empty_of)
    done_more line low high (yes before) = λ a.
        get_or-set_other standings passed (line - 1) next empty_of (λ same. absurd (omega (arith, same))) ∙ renewed.done line low before a
    done_more line low high (no here) =
        let own : line ≡ passed + 1 = omega arith in
        let at : line - 1 ≡ passed = omega arith in
        rw (at, own) (λ a. get_or-set_same standings passed next empty_of (omega (arith, renewed.long)) ∙ is a)

    pub renewed_more : Renewed book year (passed + 1) (set standings passed next)
    renewed_more =
        record {
          long = length-set standings passed next ∙ renewed.long;
          done = λ line low high. done_more line low high (dec_le line passed);
          left = λ line low high a.
              get_or-set_other standings passed (line - 1) next empty_of (λ same. absurd (omega (arith, same))) ∙ renewed.left line (omega arith) high a;
        }
