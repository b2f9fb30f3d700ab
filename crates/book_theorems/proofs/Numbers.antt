-- Whatever the book and whatever the record, posting refuses for a reason of its list (01, "Refusal numbers"). Assumes nothing.
use mathlib.Core.Path.{◌≡◌, refl, subst}
use mathlib.Core.List.{List, Memᴰ}
use Prim.Native.Nat.{ℕ}
use Rattle.std.specs.Prelude.{Result, Ok, Err}
use Rattle.laws.proofs.Picking.{either}
use Rattle.refusals.specs.Refusal.{posting_order}
use Rattle.refusals.specs.declared.Refusal.{Refusal}
use Rattle.record_judge.specs.Record.{judged}
use Rattle.record_judge.specs.declared.Change.{Change}
use Rattle.record_judge.specs.declared.Change.TheVariants.{Put, Empty}
use Rattle.record_judge.proofs.Taken.{numbered}
use Rattle.book.specs.Book.{free, answer_by, answer_of}

-- an answer whose reason, if it is a refusal, is on the list
Listed : Result Unit Refusal → Type 0
Listed (Ok unit) = Unit {0}
Listed (Err x) = Memᴰ x.reason posting_order

by : (book r : List ℕ) (found : Result Change Refusal) → judged r ≡ found → Listed (answer_by book found)
unfolding Listed answer_by
by book r (Err x) e = numbered r x e
by book r (Ok (Put k)) e = either Listed (free book k) tt (Memᴰ.tail (Memᴰ.tail (Memᴰ.tail (Memᴰ.tail (Memᴰ.head refl)))))
by book r (Ok (Empty k)) e = tt

pub number_listed : (book r : List ℕ) (x : Refusal) → answer_of book r ≡ Err x → Memᴰ x.reason posting_order
unfolding Listed answer_of
number_listed book r x e = subst Listed e (by book r (judged r) refl)
