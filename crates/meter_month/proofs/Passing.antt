-- The search for the first hour that is refused, as the code answers it: where it stops that hour is refused, and where it ends all pass.
-- Assumes nothing.
use Rattle.std.proofs.Common.{◌≡◌, ℕ, ◌<◌, Bool, true, false, cond, List, Option, Result, Ok, Err, refl, arith}
use borrow.Author.Tests.{lt-ltb, le-ltb}
use lib.Dec.{ltb}
use Rattle.units.specs.declared.methane.Methane.{Methane}
use Rattle.refusals.specs.Refusal.{refusal}
use Rattle.refusals.specs.declared.{Refusal.Refusal, Reason.TheVariants.BadHour}
use Rattle.meter_hour.specs.declared.Recorded.{Recorded}
use Rattle.meter_month.specs.Month.{first_refused}
use Rattle.meter_month.specs.Asks.{Holds, passing_of}

module _ (hour : ℕ → Option Recorded) (n : ℕ) where
  pub refused_at : (h : ℕ) → h < n → first_refused hour n ≡ h → Err (refusal BadHour h) ≡ passing_of hour n
  refused_at h inside e = rw (e, lt-ltb h n inside)

  pub none_refused : first_refused hour n ≡ n → Ok tt ≡ passing_of hour n
  none_refused e = rw (e, le-ltb n n (omega arith))

-- a series that holds the hours passed holds those before the first that is refused
pub held_up_to : (cells : List (Option ℕ)) (s : ℕ → Option ℕ) {h first : ℕ} → first ≡ h → Holds cells h s → Holds cells first s
held_up_to cells s e held k b = held k (omega arith)

-- what follows of a month from each of the two
either_passes :
    (b : Bool) (x : Refusal) (u : Unit {0}) → ◌≡◌ {A = Result (Unit {0}) Refusal} (Ok u) (cond b (Err x) (Ok tt)) → b ≡ false
either_passes true x u e = grind arith
either_passes false x u e = refl

either_refused :
    (b : Bool) (x y : Refusal) (stated : Result Methane Refusal) →
    ◌≡◌ {A = Result (Unit {0}) Refusal} (Err y) (cond b (Err x) (Ok tt)) → Err y ≡ cond b (Err x) stated
either_refused true x y stated e = grind arith
either_refused false x y stated e = grind arith

module _ (hour : ℕ → Option Recorded) (n : ℕ) where
  pub all_pass : (u : Unit {0}) → Ok u ≡ passing_of hour n → ltb (first_refused hour n) n ≡ false
  all_pass u e = either_passes (ltb (first_refused hour n) n) (refusal BadHour (first_refused hour n)) u e

  pub month_refused :
      (y : Refusal) (stated : Result Methane Refusal) → Err y ≡ passing_of hour n →
      Err y ≡ cond (ltb (first_refused hour n) n) (Err (refusal BadHour (first_refused hour n))) stated
  month_refused y stated e = either_refused (ltb (first_refused hour n) n) (refusal BadHour (first_refused hour n)) y stated e
