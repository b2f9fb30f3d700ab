-- A program that models the first month and repeats it breaks the promise of the lagoon's months, whether it repeats what the first month is given,
-- or the figures that the first month has. Each theorem speaks of the months as the public function takes them, in a slice, from a standing.
-- Assumes nothing.
use Prim.Native.Nat.{ℕ, zero, suc, ◌*◌, ◌≤◌}
use mathlib.Core.Bool.{false}
use mathlib.Core.List.{List, [], ◌∷◌, map}
use mathlib.Core.Path.{◌≡◌, sym, ap, ◌∙◌}
use native.Mathlib.Omega.{arith}
use lib.ListN.{length, get_or, replicate}
use Rattle.units.specs.Grams.{solids}
use Rattle.lagoon_run.specs.Asks.{RunFits}
use Rattle.lagoon_month.specs.Month.{empty_of, outcome_of}
use Rattle.lagoon_run.specs.Run.{with_of, run_from, no_month}
use Rattle.lagoon_month.specs.declared.Month.{Month}
use Rattle.lagoon_month.specs.declared.Standing.{Standing}
use Rattle.lagoon_run.specs.declared.Totals.{Totals}
use Rattle.wrong_programs.proofs.Promise.{KeepsRun}

-- a program over the months that a slice holds, from a standing
abbrev Program : Type 0
Program = Standing → List Month → Totals

-- a month that is not drained
abbrev month : ℕ → ℕ → Month
month grams factor = record { entered = solids grams; factor = factor; drained = false }

-- small months are within what the function asks: two of them, and one
two_at_most :
    (part : Month → ℕ) (a b : Month) (most : ℕ) → part a ≤ most → part b ≤ most → part no_month ≤ most → (i : ℕ) →
    part (get_or (a ∷ b ∷ []) i no_month) ≤ most
two_at_most part a b most p q r zero = p
two_at_most part a b most p q r (suc zero) = q
two_at_most part a b most p q r (suc (suc i)) = r

two_fit : (first second factor : ℕ) → first ≤ 4 → second ≤ 4 → factor ≤ 500000 → RunFits empty_of (month first factor ∷ month second factor ∷ [])
two_fit first second factor a b f =
    record {
      room = omega arith;
      entry = λ i h. two_at_most (λ m. m.entered.0) (month first factor) (month second factor) _ (omega arith) (omega arith) (omega arith) i;
      factor = λ i h. two_at_most (λ m. m.factor) (month first factor) (month second factor) _ (omega arith) (omega arith) (omega arith) i;
    }

one_at_most : (part : Month → ℕ) (a : Month) (most : ℕ) → part a ≤ most → part no_month ≤ most → (i : ℕ) → part (get_or (a ∷ []) i no_month) ≤ most
one_at_most part a most p q zero = p
one_at_most part a most p q (suc i) = q

one_fits : RunFits empty_of (month 4 500000 ∷ [])
one_fits =
    record {
      room = omega arith;
      entry = λ i h. one_at_most (λ m. m.entered.0) (month 4 500000) _ (omega arith) (omega arith) i;
      factor = λ i h. one_at_most (λ m. m.factor) (month 4 500000) _ (omega arith) (omega arith) i;
    }

-- 1 and then 2 grams enter, or 1 and 1: a program that gives both the same answer breaks the promise
entries_differ :
    (run : Program) → KeepsRun run → run empty_of (month 1 0 ∷ month 2 0 ∷ []) ≡ run empty_of (month 1 0 ∷ month 1 0 ∷ []) → ⊥
unfolding outcome_of with_of run_from
entries_differ run keeps same =
    let unlike = keeps empty_of (month 1 0 ∷ month 2 0 ∷ []) (two_fit 1 2 0 (omega arith) (omega arith) (omega arith)) in
    let like = keeps empty_of (month 1 0 ∷ month 1 0 ∷ []) (two_fit 1 1 0 (omega arith) (omega arith) (omega arith)) in
    let entered : ◌≡◌ {A = ℕ} 3 2 = ap (λ (t : Totals). t.entered.0) (sym unlike ∙ same ∙ like) in
    omega arith

-- each month is given all that the first one is: what enters, its factor and its drain mark
pub repeats_first_month :
    (run : Program) →
    ((from : Standing) (first : Month) (later : List Month) → run from (first ∷ later) ≡ run from (replicate (suc (length later)) first)) →
    KeepsRun run → ⊥
repeats_first_month run repeats keeps = entries_differ run keeps (repeats empty_of (month 1 0) (month 2 0 ∷ []))

-- each month enters what the first one does, and has its own factor and drain mark
abbrev pub entering : Month → Month → Month
entering first own = record { entered = first.entered; factor = own.factor; drained = own.drained }

pub repeats_first_entry :
    (run : Program) →
    ((from : Standing) (first : Month) (later : List Month) → run from (first ∷ later) ≡ run from (map (entering first) (first ∷ later))) →
    KeepsRun run → ⊥
repeats_first_entry run repeats keeps = entries_differ run keeps (repeats empty_of (month 1 0) (month 2 0 ∷ []))

-- n months degrade n times what the first one does: of two like months, the second starts from what the first left standing, and degrades 3 grams
-- where the first degrades 2
pub repeats_first_figures :
    (run : Program) →
    ((from : Standing) (first : Month) (later : List Month) →
    (run from (first ∷ later)).degraded.0 ≡ suc (length later) * (run from (first ∷ [])).degraded.0) → KeepsRun run → ⊥
unfolding outcome_of with_of run_from
repeats_first_figures run repeats keeps =
    let two = keeps empty_of (month 4 500000 ∷ month 4 500000 ∷ []) (two_fit 4 4 500000 (omega arith) (omega arith) (omega arith)) in
    let one = keeps empty_of (month 4 500000 ∷ []) one_fits in
    let degraded : ◌≡◌ {A = ℕ} 5 4 =
    ap (λ (t : Totals). t.degraded.0) (sym two) ∙ repeats empty_of (month 4 500000) (month 4 500000 ∷ []) ∙
    ap (λ (t : Totals). 2 * t.degraded.0) one in
    omega arith
