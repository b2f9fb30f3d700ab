-- A walk over the hours of a series, which has passed some: the array holds the series, of which the hours passed are filled.
-- Assumes nothing.
use Rattle.std.specs.Prelude.{Option, None, List, ◌++◌}
use Prim.Native.Nat.{ℕ, zero, suc, ◌+◌, ◌≤◌, ◌<◌}
use mathlib.Core.Path.{◌≡◌, refl, sym, ◌∙◌}
use mathlib.Core.List.{[], ◌∷◌}
use mathlib.Core.Bool.{true, false, true≢false}
use native.Mathlib.Omega.{arith}
use borrow.Author.Count.{below_none, below_more}
use lib.ListN.{length, drop, set, replicate, length-set, length-append, length-drop, length-replicate, get_or-eq_default}
use lib.Seq.{get_or-drop, get_or-set_other}
use Rattle.meter_series.specs.Series.{series, is_recorded, most_hours}
use Rattle.meter_series.proofs.Arrays.{nothing, stored, agree}
use Rattle.meter_gaps.specs.Filling.{fill_from, start_of, filled}
use Rattle.meter_gaps.proofs.Filled.{filled_missing, filled_recorded, filled_past}
use Rattle.meter_gaps.proofs.Stepping.{start_kept}

pub record Walked (recorded out : List (Option ℕ)) (hour : ℕ) (filling : Option ℕ) : Type 0 where
  pub room : length out ≡ most_hours
  pub known : start_of (series recorded) hour < hour → filling ≡ fill_from (series recorded) (length recorded) (start_of (series recorded) hour)
  pub passed : (k : ℕ) → k < hour → series out k ≡ filled (series recorded) (length recorded) k
  pub ahead : (k : ℕ) → hour ≤ k → series out k ≡ series recorded k

-- a series before nothing
before_nothing : (list rest : List (Option ℕ)) → ((k : ℕ) → series rest k ≡ None) → (k : ℕ) → series (list ++ rest) k ≡ series list k
before_nothing [] rest none k = none k
before_nothing (x ∷ list) rest none zero = refl
before_nothing (x ∷ list) rest none (suc k) = before_nothing list rest none k

module _ (recorded : List (Option ℕ)) where
  pub walk_begun :
      (laid : List (Option ℕ)) → laid ≡ recorded → length recorded ≤ most_hours →
      Walked recorded (laid ++ drop (length recorded) (replicate most_hours None)) 0 None
  walk_begun laid is short =
      rw is
      (record {
        room = simp (length-append, length-drop, length-replicate) (omega arith);
        known = λ l. absurd (omega arith);
        passed = below_none _;
        ahead = λ k l. before_nothing recorded _ (λ j. get_or-drop (length recorded) (replicate most_hours None) j None ∙ nothing most_hours (length recorded + j)) k;
      })

  module _ (out : List (Option ℕ)) (hour : ℕ) (filling : Option ℕ) (inside : hour < length recorded) (walked : Walked recorded out hour filling) where
    -- an hour that is missing is filled
    pub walk_filled :
        (next : Option ℕ) → length recorded ≤ most_hours → is_recorded (series recorded hour) ≡ false →
        next ≡ fill_from (series recorded) (length recorded) (start_of (series recorded) hour) → Walked recorded (set out hour next) (hour + 1) next
    walk_filled next short missing fills =
        record {
          room = length-set out hour next ∙ walked.room;
          known = start_kept (series recorded) hour (λ (a : ℕ). next ≡ fill_from (series recorded) (length recorded) a) (λ l. fills);
          passed = stored out hour next (filled (series recorded) (length recorded)) (omega (arith, walked.room)) walked.passed
              (filled_missing (series recorded) (length recorded) hour next missing fills inside);
          ahead = λ k l. get_or-set_other out hour k next None (λ e. omega arith) ∙ walked.ahead k (omega arith);
        }

    -- one that is recorded stays
    pub walk_passed : is_recorded (series recorded hour) ≡ true → Walked recorded out (hour + 1) filling
    walk_passed there =
        record {
          room = walked.room;
          known = start_kept (series recorded) hour (λ (a : ℕ). filling ≡ fill_from (series recorded) (length recorded) a) (λ missing. absurd (no missing));
          passed = below_more (λ (k : ℕ). series out k ≡ filled (series recorded) (length recorded) k) hour walked.passed
              (walked.ahead hour (omega arith) ∙ filled_recorded (series recorded) (length recorded) hour there inside);
          ahead = λ k l. walked.ahead k (omega arith);
        }
      where
        no : is_recorded (series recorded hour) ≡ false → ⊥
        no missing = true≢false (sym there ∙ missing)

  pub walk_ended :
      (out : List (Option ℕ)) (hour : ℕ) (filling : Option ℕ) → hour ≡ length recorded → Walked recorded out hour filling →
      (h : ℕ) → series out h ≡ filled (series recorded) (length recorded) h
  walk_ended out hour filling end walked =
      agree (series out) (filled (series recorded) (length recorded)) (length recorded) (λ k l. walked.passed k (omega (arith, end)))
      (λ k l. walked.ahead k (omega (arith, end)) ∙ get_or-eq_default recorded None l) (λ k l. filled_past (series recorded) (length recorded) k l)
