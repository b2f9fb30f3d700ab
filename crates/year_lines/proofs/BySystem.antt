-- A line's sums by its system, from what the code read, and the sums of one line more.
-- Assumes nothing.
use Prim.Native.Nat.{ℕ, ◌+◌}
use mathlib.Core.Bool.{Bool, cond}
use mathlib.Core.List.{List}
use mathlib.Core.Path.{sym, ap, ◌≡◌, ◌∙◌}
use native.Mathlib.Numerals.{add-one}
use borrow.Author.Tests.{eq-eqb, ne_eqb}
use Rattle.lagoon_run.specs.Run.{year_of}
use Rattle.lagoon_run.specs.declared.Totals.{Totals}
use Rattle.book_herd.specs.Herd.{system_of, line_of}
use Rattle.book_herd.specs.declared.Line.{Line}
use Rattle.std.specs.Prelude.{Option, Some, None}
use Rattle.year_lines.specs.Lines.{anaerobic, other_of, by_system, line_in, sums_over, all, month_at}
use Rattle.year_heads.specs.Heads.{heads_of}
use Rattle.year_sums.specs.Sums.{anaerobic_of, nothing, plus}
use Rattle.year_sums.specs.declared.Sums.{Sums}

module _ (book : List ℕ) (year line : ℕ) {seen : Option ℕ} (read : seen ≡ system_of book line) where
  abbrev lagoon : Sums
  lagoon = anaerobic_of (year_of (month_at book line) year) (line_of book line).b0

  abbrev other : Sums
  other = other_of (heads_of book year (line_of book line).category) (line_of book line)

  by : {other-seen : Option ℕ} → seen ≡ other-seen → by_system other-seen lagoon other ≡ line_in book year line
  unfolding line_in
  by e = ap (λ (s : Option ℕ). by_system s lagoon other) (sym e ∙ read)

  pub absent_is : {sums : Sums} → seen ≡ None → sums ≡ nothing → sums ≡ line_in book year line
  absent_is e is = is ∙ by e

  module _ {system : ℕ} (value : seen ≡ Some system) {numbers : Line} (Line-read : numbers ≡ line_of book line) where
    pub anaerobic_is :
        {totals : Totals} {sums : Sums} → system ≡ anaerobic → totals ≡ year_of (month_at book line) year → sums ≡ anaerobic_of totals numbers.b0 →
        sums ≡ line_in book year line
    anaerobic_is z run is =
        is ∙ rw (run, Line-read) (sym (ap (λ (b : Bool). cond b lagoon other) (eq-eqb system anaerobic z))) ∙ by value

    pub other_is :
        {heads : ℕ} {sums : Sums} → (system ≡ anaerobic → ⊥) → heads ≡ heads_of book year numbers.category → sums ≡ other_of heads numbers →
        sums ≡ line_in book year line
    other_is z sum is =
        is ∙ rw (sum, Line-read) (sym (ap (λ (b : Bool). cond b lagoon other) (ne_eqb system anaerobic z))) ∙ by value

pub one_line_more :
    (each : ℕ → Sums) (passed : ℕ) {sums one next : Sums} → sums ≡ sums_over each all passed → one ≡ each (passed + 1) → next ≡ plus sums one →
    next ≡ sums_over each all (passed + 1)
unfolding sums_over
one_line_more each passed is read more = rw (more, is, read, add-one passed)
