-- The hours of a month: there are no more than those of the longest, and lists that are as long as a month are as long as its states.
-- Assumes nothing.
use Prim.Native.Nat.{ℕ, ◌≤◌}
use mathlib.Core.Bool.{Bool, true, false, ◌&&◌, ◌||◌, false≢true}
use mathlib.Core.Path.{◌≡◌, refl}
use native.Mathlib.Omega.{arith}
use borrow.Author.Tests.{eqb-true}
use lib.Dec.{eqb}
use Rattle.meter_series.specs.Series.{most_hours}
use Rattle.meter_month.specs.Month.{is_month, are_hours, are_feet_hours}
use Rattle.meter_month.specs.Asks.{AsLong, AllAsLong}

or_most : (a b : Bool) {n : ℕ} → (a ≡ true → n ≤ most_hours) → (b ≡ true → n ≤ most_hours) → (a || b) ≡ true → n ≤ most_hours
or_most true b p q e = p refl
or_most false b p q e = q e

eq_most : (n m : ℕ) → m ≤ most_hours → eqb n m ≡ true → n ≤ most_hours
eq_most n m l e = omega (arith, eqb-true n m e)

month_most : (n : ℕ) → is_month n ≡ true → n ≤ most_hours
month_most n e =
    or_most (eqb n 672 || eqb n 696 || eqb n 720) (eqb n 744)
    (or_most (eqb n 672 || eqb n 696) (eqb n 720)
    (or_most (eqb n 672) (eqb n 696) (eq_most n 672 (omega arith)) (eq_most n 696 (omega arith))) (eq_most n 720 (omega arith)))
    (eq_most n 744 (omega arith)) e

and_l : (a b : Bool) → (a && b) ≡ true → a ≡ true
and_l true b e = refl
and_l false b e = absurd (false≢true e)

and_r : (a b : Bool) → (a && b) ≡ true → b ≡ true
and_r true b e = e
and_r false b e = absurd (false≢true e)

pub as_long : (f c n : ℕ) → are_hours f c n ≡ true → AsLong f c n
as_long f c n e =
    let both = and_l (eqb f n && eqb c n) (is_month n) e in (
      eqb-true f n (and_l (eqb f n) (eqb c n) both),
      eqb-true c n (and_r (eqb f n) (eqb c n) both),
      month_most n (and_r (eqb f n && eqb c n) (is_month n) e),
    )

pub all_as_long : (f c t p n : ℕ) → are_feet_hours f c t p n ≡ true → AllAsLong f c t p n
all_as_long f c t p n e =
    (as_long f c n (and_l (are_hours f c n) (are_hours t p n) e), as_long t p n (and_r (are_hours f c n) (are_hours t p n) e))
