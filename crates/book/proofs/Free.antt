-- Whether a slot is free goes by what stands in it alone. Assumes nothing.
use mathlib.Core.Path.{◌≡◌, sym, ap, ◌∙◌}
use mathlib.Core.Bool.{true}
use mathlib.Core.List.{List}
use Prim.Native.Nat.{ℕ, ◌*◌}
use native.Mathlib.Nat.{add-zero}
use native.Mathlib.Omega.{arith}
use borrow.Author.Tests.{eq-eqb}
use lib.Dec.{eqb}
use lib.ListN.{get_or}
use Rattle.record_table.specs.Table.{record_bytes}
use Rattle.book.specs.Book.{record_at, free, nothing}
use Rattle.book.proofs.Slot.{slot_byte}

pub first_byte : (book : List ℕ) (k : ℕ) → get_or (record_at book k) 0 0 ≡ get_or book (k * record_bytes) 0
first_byte book k = slot_byte book k 0 (omega arith) ∙ ap (λ (i : ℕ). get_or book i 0) (add-zero (k * record_bytes))

pub empty_free : (book : List ℕ) (k : ℕ) → record_at book k ≡ nothing → free book k ≡ true
unfolding free
empty_free book k e = eq-eqb _ _ (sym (first_byte book k) ∙ ap (λ (l : List ℕ). get_or l 0 0) e)

pub free_same : (a b : List ℕ) (k : ℕ) → record_at a k ≡ record_at b k → free a k ≡ free b k
unfolding free
free_same a b k e = ap (λ (x : ℕ). eqb x 0) (sym (first_byte a k) ∙ ap (λ (l : List ℕ). get_or l 0 0) e ∙ first_byte b k)
