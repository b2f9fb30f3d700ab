-- The list of a year's lengths, told by the names of the months: the list is what the telling gives at its twelve places.
-- Assumes nothing.
use mathlib.Core.Path.{◌≡◌, refl, ◌∙◌, ap}
use mathlib.Core.Bool.{cond, ◌||◌}
use mathlib.Core.List.{List, [], ◌∷◌}
use Prim.Native.Nat.{ℕ, zero, suc, ◌+◌, ◌-◌, ◌≤◌, ◌<◌}
use native.Mathlib.Omega.{arith}
use lib.Dec.{eqb}
use lib.ListN.{get_or}
use Rattle.calendar.specs.Days.{months_in_year, february_of, lengths_of, length_of}

-- what a function gives at 0, 1, .. to below n
listed : (ℕ → ℕ) → ℕ → List ℕ
listed f zero = []
listed f (suc n) = f 0 ∷ listed (λ k. f (suc k)) n

at_listed : (f : ℕ → ℕ) (n k : ℕ) → k < n → get_or (listed f n) k 0 ≡ f k
unfolding listed
at_listed f zero k below = absurd (omega arith)
at_listed f (suc n) zero below = refl
at_listed f (suc n) (suc k) below = at_listed (λ k. f (suc k)) n k (omega arith)

-- February has its own length; April, June, September and November have 30 days, and the others 31
unfoldable pub told : ℕ → ℕ → ℕ
told year month =
    cond (eqb month 2) (february_of year) (cond (eqb month 4 || eqb month 6 || eqb month 9 || eqb month 11) 30 31)

all_told : (year : ℕ) → lengths_of year ≡ listed (λ k. told year (k + 1)) months_in_year
unfolding lengths_of listed told
all_told year = refl

pub is_told : (year month : ℕ) → 1 ≤ month → month ≤ months_in_year → length_of year month ≡ told year month
unfolding length_of
is_told year month from to =
    let e : month - 1 + 1 ≡ month = omega arith in
    rw all_told (at_listed (λ k. told year (k + 1)) months_in_year (month - 1) (omega arith) ∙ ap (told year) e)
