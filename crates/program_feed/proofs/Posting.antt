-- Records posted in two parts come to what they come to in one, and a refusal ends them. Assumes nothing.
use mathlib.Core.Path.{◌≡◌, refl, ap, ◌∙◌}
use mathlib.Core.List.{List, ◌++◌}
use Prim.Native.Nat.{ℕ, zero, suc, ◌+◌, ◌/◌, ◌%◌}
use native.Mathlib.Omega.{arith}
use lib.ListN.{length}
use Rattle.std.specs.Prelude.{Result, Ok, Err}
use Rattle.refusals.specs.declared.Refusal.{Refusal}
use Rattle.record_table.specs.Table.{record_bytes}
use Rattle.book.specs.Run.{records_from, records_of, onward, answer_all, book_all}
use Rattle.book.proofs.Blocks.{blocks, book_both, answer_both}

module _ (book : List ℕ) (rs ss : List (List ℕ)) where
  by :
      (p : Result Unit Refusal) → answer_all book rs ≡ p →
      (answer_all book (rs ++ ss) ≡ onward p (answer_all (book_all book rs) ss) p) × (book_all book (rs ++ ss) ≡ onward p (book_all (book_all book rs) ss) (book_all book rs))
  by p t = (
    answer_both book rs ss ∙ ap (λ (q : Result Unit Refusal). onward q (answer_all (book_all book rs) ss) q) t,
    book_both book rs ss ∙ ap (λ (q : Result Unit Refusal). onward q (book_all (book_all book rs) ss) (book_all book rs)) t,
  )

  pub after : answer_all book rs ≡ Ok tt → (answer_all book (rs ++ ss) ≡ answer_all (book_all book rs) ss) × (book_all book (rs ++ ss) ≡ book_all (book_all book rs) ss)
  after = by (Ok tt)

  -- nothing after a refusal counts
  pub stays : (x : Refusal) → answer_all book rs ≡ Err x → (answer_all book (rs ++ ss) ≡ Err x) × (book_all book (rs ++ ss) ≡ book_all book rs)
  stays x = by (Err x)

-- the records of two runs of bytes, the first of which ends with a whole record
pub parts : (a b : List ℕ) → length a % record_bytes ≡ 0 → records_of (a ++ b) ≡ records_of a ++ records_of b
parts a b whole = blocks a b (length a / record_bytes) (omega arith)

pub many : (bytes : List ℕ) (k n : ℕ) → length (records_from bytes k n) ≡ n
unfolding records_from
many bytes k zero = refl
many bytes k (suc n) = ap suc (many bytes (k + 1) n)
