-- A run of bytes posted record by record: posting what is still to come makes what posting all of it makes. Assumes nothing.
use mathlib.Core.Path.{◌≡◌, refl, sym, ap, ◌∙◌}
use mathlib.Core.List.{List, [], ◌∷◌, ◌++◌, append-nil}
use Prim.Native.Nat.{ℕ, ◌+◌, ◌*◌, ◌-◌, ◌/◌, ◌≤◌, ◌<◌, min}
use native.Mathlib.Omega.{arith}
use lib.ListN.{length, length-append}
use lib.Seq.{take_all}
use Rattle.std.specs.Prelude.{Result, Err}
use Rattle.refusals.specs.declared.Refusal.{Refusal}
use Rattle.record_table.specs.Table.{record_bytes}
use Rattle.book.specs.Book.{record_at, taken, answer_of, book_after}
use Rattle.book.specs.Valid.{Valid}
use Rattle.book.specs.Run.{records_from, records_of, onward, answer_all, book_all}
use Rattle.book.proofs.Blocks.{blocks}
use Rattle.book.proofs.Kept.{kept}

-- sixteen bytes, or fewer at a run's end, are one record
pub alone : (r : List ℕ) → 0 < length r → length r ≤ record_bytes → records_of r ≡ r ∷ []
unfolding records_of records_from record_at
alone r some most =
    let one : (length r + (record_bytes - 1)) / record_bytes ≡ 1 = omega arith in
    ap (records_from r 0) one ∙ ap (λ (x : List ℕ). x ∷ []) (take_all record_bytes r most)

next : (r rest : List ℕ) → length r ≡ min record_bytes (length (r ++ rest)) → 0 < length (r ++ rest) → records_of (r ++ rest) ≡ r ∷ records_of rest
unfolding records_of records_from
next r [] l some = ap records_of (append-nil r) ∙ alone r (omega (arith, length-append r [])) (omega arith)
next r (b ∷ rest) l some =
    let long : length r ≡ 1 * record_bytes = omega (arith, length-append r (b ∷ rest)) in
    blocks r (b ∷ rest) 1 long ∙ ap (λ (rs : List (List ℕ)). rs ++ records_of (b ∷ rest)) (alone r (omega arith) (omega arith))

nothing_left : (rest : List ℕ) → length rest ≡ 0 → rest ≡ []
nothing_left [] z = refl
nothing_left (b ∷ rest) z = let no : ⊥ = omega arith in absurd no

pub record Going (start run book rest : List ℕ) : Type 0 where
  pub valid : Valid book
  pub answer : answer_all start (records_of run) ≡ answer_all book (records_of rest)
  pub after : book_all start (records_of run) ≡ book_all book (records_of rest)

module _ {first run book rest : List ℕ} (g : Going first run book rest) where
  module _ (r more : List ℕ) (cut : rest ≡ r ++ more) (long : length r ≡ min record_bytes (length rest)) (some : 0 < length rest) where
    parts : records_of rest ≡ r ∷ records_of more
    parts = ap records_of cut ∙ next r more (long ∙ ap (λ (l : List ℕ). min record_bytes (length l)) cut) (omega (arith, ap length cut))

    posted : (p : Result Unit Refusal) → answer_of book r ≡ p →
        (answer_all first (records_of run) ≡ onward p (answer_all (book_after book r) (records_of more)) p)
        × (book_all first (records_of run) ≡ onward p (book_all (book_after book r) (records_of more)) (book_after book r))
    unfolding answer_all book_all
    posted p t = (
      g.answer ∙ ap (answer_all book) parts ∙ ap (λ (q : Result Unit Refusal). onward q (answer_all (book_after book r) (records_of more)) q) t,
      g.after ∙ ap (book_all book) parts ∙ ap (λ (q : Result Unit Refusal). onward q (book_all (book_after book r) (records_of more)) (book_after book r)) t,
    )

    pub onwards : {after : List ℕ} → answer_of book r ≡ taken → after ≡ book_after book r → Going first run after more
    onwards t a =
        rw a (record { valid = kept book r g.valid; answer = (posted taken t).0; after = (posted taken t).1 })

    pub stopped :
        (x : Refusal) → answer_of book r ≡ Err x →
        (Err x ≡ answer_all first (records_of run)) × (book_after book r ≡ book_all first (records_of run))
    stopped x t = (sym (posted (Err x) t).0, sym (posted (Err x) t).1)

  pub ended : length rest ≡ 0 → (taken ≡ answer_all first (records_of run)) × (book ≡ book_all first (records_of run))
  unfolding records_of records_from answer_all book_all
  ended z =
      let none : records_of rest ≡ [] = ap records_of (nothing_left rest z) in
      (sym (g.answer ∙ ap (answer_all book) none), sym (g.after ∙ ap (book_all book) none))
