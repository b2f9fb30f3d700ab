-- What is so of a record that a book takes: it is no refused one, it is whole, and a slot into which it puts its bytes was free. Assumes nothing.
use mathlib.Core.Path.{◌≡◌, refl}
use mathlib.Core.Bool.{Bool, true, false, cond}
use mathlib.Core.List.{List}
use Prim.Native.Nat.{ℕ}
use native.Mathlib.Omega.{arith}
use lib.ListN.{length}
use Rattle.std.specs.Prelude.{Result, Ok, Err}
use Rattle.refusals.specs.Refusal.{refusal}
use Rattle.refusals.specs.declared.Reason.TheVariants.{AlreadyFilled}
use Rattle.refusals.specs.declared.Refusal.{Refusal}
use Rattle.record_table.specs.Table.{record_bytes}
use Rattle.record_judge.specs.Record.{judged}
use Rattle.record_judge.specs.declared.Change.{Change}
use Rattle.record_judge.specs.declared.Change.TheVariants.{Put, Empty}
use Rattle.record_judge.proofs.Taken.{put_long, never_empties}
use Rattle.book.specs.Book.{free, answer_by, answer_of, taken}

pub not_taken : {x : Refusal} {X : Type 0} → Err x ≡ taken → X
not_taken e = let z : ◌≡◌ {A = ℕ} 0 1 = cc in absurd (omega arith)

pub was_free : (book : List ℕ) (k : ℕ) → answer_by book (Ok (Put k)) ≡ taken → free book k ≡ true
unfolding answer_by
was_free book k = go (free book k)
  where
    go : (b : Bool) → cond b taken (Err (refusal AlreadyFilled 0)) ≡ taken → b ≡ true
    go true t = refl
    go false t = not_taken t

whole_by : (book r : List ℕ) (found : Result Change Refusal) → judged r ≡ found → answer_by book found ≡ taken → length r ≡ record_bytes
unfolding answer_by
whole_by book r (Err x) e t = not_taken t
whole_by book r (Ok (Put k)) e t = put_long r k e
whole_by book r (Ok (Empty k)) e t = absurd (never_empties r k e)

pub whole : (book r : List ℕ) → answer_of book r ≡ taken → length r ≡ record_bytes
unfolding answer_of
whole book r t = whole_by book r (judged r) refl t
