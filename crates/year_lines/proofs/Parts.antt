-- Demand 3 over books: a line of one book, modelled whole, and two lines, of the same or of two other books, whose entries add up to its own each month, at the
-- same temperatures and drain marks. The months are those that the year's definitions read; n is any number of them.
-- Assumes nothing.
use Prim.Native.Nat.{ℕ, ◌+◌}
use mathlib.Core.List.{List}
use mathlib.Core.Path.{ap, ◌≡◌}
use Rattle.laws.proofs.Counting.{Each}
use Rattle.lagoon_run.proofs.Demand3.{demand_3}
use Rattle.lagoon_run.proofs.Parts.{Demand3, AddsUp}
use Rattle.lagoon_run.specs.Run.{run_of}
use Rattle.book_slots.specs.Reads.{temperature_of}
use Rattle.book_herd.specs.Herd.{drained_of}
use Rattle.year_months.specs.Series.{factor_by, factor_at}
use Rattle.year_lines.specs.Lines.{entered_at, month_at}
use Rattle.year_lines.proofs.Ranges.{factor_most}

-- a line of a book
pub record LineOf : Type 0 where
  pub book : List ℕ
  pub line : ℕ

-- in month m the parts' entries add up to the whole's, at its temperature and its drain mark
pub record PartHerds (whole first second : LineOf) (m : ℕ) : Type 0 where
  pub entered : (entered_at first.book first.line m).0 + (entered_at second.book second.line m).0 ≡ (entered_at whole.book whole.line m).0
  pub first_temperature : temperature_of first.book m ≡ temperature_of whole.book m
  pub second_temperature : temperature_of second.book m ≡ temperature_of whole.book m
  pub first_drained : drained_of first.book first.line m ≡ drained_of whole.book whole.line m
  pub second_drained : drained_of second.book second.line m ≡ drained_of whole.book whole.line m

module _ (whole first second : LineOf) where
  adds_up : (m : ℕ) → PartHerds whole first second m →
      AddsUp (month_at whole.book whole.line m) (month_at first.book first.line m) (month_at second.book second.line m)
  unfolding month_at factor_at
  adds_up m parts =
      record {
        entered = parts.entered;
        first_same = record { factor = ap factor_by parts.first_temperature; drained = parts.first_drained };
        second_same = record { factor = ap factor_by parts.second_temperature; drained = parts.second_drained };
      }

  pub book_demand_3 :
      (n : ℕ) → Each n (PartHerds whole first second) →
      Demand3 (run_of (month_at whole.book whole.line) n) (run_of (month_at first.book first.line) n) (run_of (month_at second.book
      second.line) n) n
  unfolding month_at
  book_demand_3 n parts =
      demand_3 (month_at whole.book whole.line) (month_at first.book first.line) (month_at second.book second.line) n
      (λ m low high. adds_up m (parts m low high)) (λ m low high. factor_most whole.book m)
