-- The promises are the contracts' own: what the contract of each of these public functions tells its caller is the equation that the promise asks.
-- Assumes nothing.
use mathlib.Core.Path.{◌≡◌}
use lib.ListN.{length}
use Rattle.tonnes.specs.Tonnes.{net_of}
use Rattle.tonnes.proofs.net.Reads as Net
use Rattle.lagoon_run.specs.Run.{run_from, months_of}
use Rattle.lagoon_run.proofs.run.Reads as Run
use Rattle.book.specs.Book as Book
use Rattle.book.proofs.post.Reads as Post
use Rattle.meter_month.specs.Month.{month_of, feet_month_of}
use Rattle.meter_month.proofs.month.Reads as Month
use Rattle.meter_month.proofs.feet_month.Reads as FeetMonth
use Rattle.year.specs.Answer as Year
use Rattle.year.proofs.year.Reads as YearReads

-- told of lifetimes, arguments, the answer and the arguments at the exit
module _ {K : Type 0} {A X S : K → Type 0} (Learnt : (κ : K) → A κ → X κ → S κ → Type 0) where
  abbrev pub Tells : ((κ : K) → A κ → X κ → S κ → Type 0) → Type 0
  Tells claim = (κ : K) (a : A κ) (x : X κ) (s : S κ) → Learnt κ a x s → claim κ a x s

pub post_tells : Tells Post.Learnt (λ κ a x s. (x ≡ Book.answer_of a.0.now a.1.0.now) × (s.0.now ≡ Book.book_after a.0.now a.1.0.now))
post_tells κ a x s told = told

pub month_tells : Tells Month.Learnt (λ κ a x s. x ≡ month_of a.0.now a.1.0.now a.1.1.0.now a.1.1.1.0)
month_tells κ a x s told = told

pub feet_month_tells :
    Tells FeetMonth.Learnt
    (λ κ a x s. x ≡ feet_month_of a.0.now a.1.0.now a.1.1.0.now a.1.1.1.0.now a.1.1.1.1.0.now a.1.1.1.1.1.0)
feet_month_tells κ a x s told = told

pub year_tells : Tells YearReads.Learnt (λ κ a x s. x ≡ Year.answer_of a.0.now a.1.0)
year_tells κ a x s told = told

pub net_tells : Tells Net.Learnt (λ κ a x s. x ≡ net_of a.0)
net_tells κ a x s told = told

pub run_tells :
    Tells Run.Learnt
    (λ κ a x s. x ≡ run_from a.0 (months_of a.1.0.now) (length a.1.0.now))
run_tells κ a x s told = told
