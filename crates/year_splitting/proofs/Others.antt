-- What the lines of a book state in a year is what one of them states and what the others do.
-- Assumes nothing.
use Prim.Native.Nat.{ℕ, zero, suc, ◌+◌, ◌≤◌, ◌<◌}
use mathlib.Core.Bool.{Bool, true, false, not, ◌&&◌}
use mathlib.Core.List.{List}
use mathlib.Core.Path.{◌≡◌, refl, sym, ap}
use native.Mathlib.Omega.{arith}
use native.Mathlib.Decide.{dec_lt}
use lib.Dec.{eqb}
use borrow.Author.Tests.{eq-eqb, ne_eqb}
use Rattle.record_table.specs.Table.{lines}
use Rattle.year_sums.specs.declared.Sums.{Sums}
use Rattle.year_lines.specs.Lines.{line_in, sums_over, all, sums_of}
use Rattle.year_lines.proofs.Parts.{LineOf}
use Rattle.year_splitting.proofs.Lines.{baseline_in}

-- the chosen lines but one
abbrev pub but : ℕ → (ℕ → Bool) → ℕ → Bool
but line chosen other = chosen other && not (eqb other line)

and_true : (b : Bool) → (b && true) ≡ b
and_true true = refl
and_true false = refl

module _ (each : ℕ → Sums) (chosen : ℕ → Bool) (line : ℕ) where
  abbrev sum_to : ℕ → (ℕ → Bool) → ℕ
  sum_to n picked = (sums_over each picked n).baseline.0

  not_there : (n : ℕ) → n < line → sum_to n (but line chosen) ≡ sum_to n chosen
  unfolding sums_over
  not_there zero below = refl
  not_there (suc n) below =
      rw (ne_eqb (suc n) line (λ e. omega arith), and_true (chosen (suc n)), not_there n (omega arith))

  taken_out : (n : ℕ) → chosen line ≡ true → 1 ≤ line → line ≤ n → sum_to n chosen ≡ (each line).baseline.0 + sum_to n (but line chosen)
  unfolding sums_over
  taken_out zero picked low high = absurd (omega arith)
  taken_out (suc n) picked low high =
      elim (dec_lt n line) [
        | yes below ↦ let here : suc n ≡ line = omega arith in rw (eq-eqb (suc n) line here, here, picked) (omega (arith, not_there n below))
        | no past ↦
            rw (ne_eqb (suc n) line (λ e. omega arith), and_true (chosen (suc n))) (omega (arith, taken_out n picked low (omega arith)))
      ]

-- what the chosen lines of a book state in a year, together
abbrev pub baseline_of : List ℕ → ℕ → (ℕ → Bool) → ℕ
baseline_of book year chosen = (sums_of book year chosen).baseline.0

pub record Placed (line : ℕ) : Type 0 where
  pub low : 1 ≤ line
  pub high : line ≤ lines

abbrev pub line_at : List ℕ → ℕ → LineOf
line_at book line = record { book = book; line = line }

pub line_and_others : (book : List ℕ) (year line : ℕ) → Placed line → baseline_of book year all ≡ baseline_in (line_at book line) year + baseline_of book year (but line all)
line_and_others book year line placed = taken_out (line_in book year) all line lines refl placed.low placed.high

pub two_and_others :
    (book : List ℕ) (year first second : ℕ) → Placed first → Placed second → (first ≡ second → ⊥) →
    baseline_of book year all ≡
    baseline_in (line_at book first) year + baseline_in (line_at book second) year + baseline_of book year (but second (but first all))
two_and_others book year first second first_placed second_placed two =
    let one = line_and_others book year first first_placed in
    let left : but first all second ≡ true = ap not (ne_eqb second first (λ e. two (sym e))) in
    omega (arith, taken_out (line_in book year) (but first all) second lines left second_placed.low second_placed.high)
