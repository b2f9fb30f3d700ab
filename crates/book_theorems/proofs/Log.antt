-- The log that a cabinet keeps: of the records that were posted to a book, those that were taken, in the order in which they came. Posted to the same book
-- again, each of them is taken, and they make the book that all the records made. Assumes nothing.
use Prim.Native.Nat.{ℕ}
use mathlib.Core.List.{List, [], ◌∷◌}
use mathlib.Core.Path.{◌≡◌, refl, sym, ap, ◌∙◌}
use Rattle.std.specs.Prelude.{Result, Ok, Err}
use Rattle.refusals.specs.declared.Refusal.{Refusal}
use Rattle.book.specs.Book.{answer_of, book_after, taken}
use Rattle.book.specs.Run.{onward, answer_all, book_all}
use Rattle.book_theorems.specs.Each.{book_each}
use Rattle.book_theorems.proofs.Own.{refused_same}

-- a record that is taken is appended to the log, and one that is refused is not
abbrev pub appended : Result Unit Refusal → List ℕ → List (List ℕ) → List (List ℕ)
appended (Ok unit) r log = r ∷ log
appended (Err x) r log = log

unfoldable pub log_of : List ℕ → List (List ℕ) → List (List ℕ)
log_of book [] = []
log_of book (r ∷ rs) = appended (answer_of book r) r (log_of (book_after book r) rs)

-- what posting a log, record by record until one is refused, comes to
pub record Replayed (book : List ℕ) (rs : List (List ℕ)) : Type 0 where
  pub all_taken : answer_all book (log_of book rs) ≡ taken
  pub same_book : book_all book (log_of book rs) ≡ book_each book rs

module _ (book r : List ℕ) (rs : List (List ℕ)) (later : Replayed (book_after book r) rs) where
  replayed_by : (answer : Result Unit Refusal) → answer_of book r ≡ answer →
      (answer_all book (appended answer r (log_of (book_after book r) rs)) ≡ taken) × (book_all book (appended answer r (log_of (book_after book r) rs)) ≡ book_each (book_after book r) rs)
  unfolding answer_all book_all
  replayed_by (Ok unit) t = (
    ap (λ (a : Result Unit Refusal). onward a (answer_all (book_after book r) (log_of (book_after book r) rs)) a) t ∙ later.all_taken,
    ap (λ (a : Result Unit Refusal). onward a (book_all (book_after book r) (log_of (book_after book r) rs)) (book_after book r)) t ∙ later.same_book,
  )
  replayed_by (Err x) refused =
      let same = refused_same book r x refused in (
        ap (λ (b : List ℕ). answer_all b (log_of (book_after book r) rs)) (sym same) ∙ later.all_taken,
        ap (λ (b : List ℕ). book_all b (log_of (book_after book r) rs)) (sym same) ∙ later.same_book,
      )

pub replayed : (book : List ℕ) (rs : List (List ℕ)) → Replayed book rs
unfolding log_of answer_all book_all book_each
replayed book [] = record { all_taken = refl; same_book = refl }
replayed book (r ∷ rs) =
    let both = replayed_by book r rs (replayed (book_after book r) rs) (answer_of book r) refl in
    record { all_taken = both.0; same_book = both.1 }
