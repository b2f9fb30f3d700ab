-- A run of bytes may be posted in blocks: where the first ends with a whole record, what is left of it to do is the second's. Assumes nothing.
use Rattle.std.specs.Prelude.{Result, Ok, Err}
use Rattle.refusals.specs.declared.Refusal.{Refusal}
use mathlib.Core.Path.{◌≡◌, refl, sym, ap, ◌∙◌}
use mathlib.Core.List.{List, [], ◌∷◌, ◌++◌}
use Prim.Native.Nat.{ℕ, zero, suc, ◌+◌, ◌*◌, ◌-◌, ◌/◌, ◌≤◌}
use native.Mathlib.Omega.{arith}
use lib.ListN.{length, take, drop, length-append, length-drop}
use lib.Seq.{take-append-le, drop-append-le, drop_at, drop-drop}
use Rattle.record_table.specs.Table.{record_bytes}
use Rattle.book.specs.Book.{record_at, answer_of, book_after}
use Rattle.book.specs.Run.{records_from, records_of, onward, answer_all, book_all}

-- the records of two blocks are those of the first, then those of the second
in_first : (a b : List ℕ) (k : ℕ) → k * record_bytes + record_bytes ≤ length a → record_at (a ++ b) k ≡ record_at a k
unfolding record_at
in_first a b k h =
    let l : record_bytes ≤ length (drop (k * record_bytes) a) = simp length-drop (omega arith) in
    let s : k * record_bytes ≤ length a = omega arith in
    ap (take record_bytes) (drop-append-le (k * record_bytes) a b s) ∙ take-append-le record_bytes (drop (k * record_bytes) a) b l

in_second : (a b : List ℕ) (n k : ℕ) → length a ≡ n * record_bytes → record_at (a ++ b) (n + k) ≡ record_at b k
unfolding record_at
in_second a b n k l =
    let e : (n + k) * record_bytes ≡ n * record_bytes + k * record_bytes = omega arith in
    ap (λ (p : ℕ). take record_bytes (drop p (a ++ b))) e
    ∙ ap (take record_bytes) (sym (drop-drop (k * record_bytes) (n * record_bytes) (a ++ b)) ∙ ap (drop (k * record_bytes)) (drop_at a b (n * record_bytes) l))

from_second : (a b : List ℕ) (n k m : ℕ) → length a ≡ n * record_bytes → records_from (a ++ b) (n + k) m ≡ records_from b k m
unfolding records_from
from_second a b n k zero l = refl
from_second a b n k (suc m) l =
    let e : n + k + 1 ≡ n + (k + 1) = omega arith in
    let first = in_second a b n k l in
    let later = ap (λ (j : ℕ). records_from (a ++ b) j m) e ∙ from_second a b n (k + 1) m l in
    cc

both : (a b : List ℕ) (n : ℕ) → length a ≡ n * record_bytes → (m : ℕ) (k j : ℕ) → k + j ≡ n → records_from (a ++ b) k (j + m) ≡ records_from a k j ++ records_from b 0 m
unfolding records_from
both a b n l m k zero e =
    let z : zero + m ≡ m = omega arith in
    let s : k ≡ n + 0 = omega arith in
    ap (records_from (a ++ b) k) z ∙ ap (λ (i : ℕ). records_from (a ++ b) i m) s ∙ from_second a b n 0 m l
both a b n l m k (suc j) e =
    let s : suc j + m ≡ suc (j + m) = omega arith in
    let first = in_first a b k (omega arith) in
    let later = both a b n l m (k + 1) j (omega arith) in
    ap (records_from (a ++ b) k) s ∙ cc

pub blocks : (a b : List ℕ) (n : ℕ) → length a ≡ n * record_bytes → records_of (a ++ b) ≡ records_of a ++ records_of b
unfolding records_of
blocks a b n l =
    let c : (length a + (record_bytes - 1)) / record_bytes ≡ n = omega arith in
    let m = (length b + (record_bytes - 1)) / record_bytes in
    let t : (length (a ++ b) + (record_bytes - 1)) / record_bytes ≡ n + m = omega (arith, length-append a b) in
    ap (records_from (a ++ b) 0) t ∙ both a b n l m 0 n (omega arith) ∙ ap (λ (k : ℕ). records_from a 0 k ++ records_from b 0 m) (sym c)

-- posting the one, and then, if nothing was refused, the other, is posting both: one law over what is asked of them, the book or the answer
by :
    {A : Type 0} (asked : List ℕ → List (List ℕ) → A) (stop : A) (p : Result Unit Refusal) (after : List ℕ) (rs ss : List (List ℕ)) →
    asked after (rs ++ ss) ≡ onward (answer_all after rs) (asked (book_all after rs) ss) (asked after rs) →
    onward p (asked after (rs ++ ss)) stop ≡ onward (onward p (answer_all after rs) p) (asked (onward p (book_all after rs) after) ss) (onward p (asked after rs) stop)
by asked stop (Ok unit) after rs ss later = later
by asked stop (Err x) after rs ss later = refl

pub book_both : (book : List ℕ) (rs ss : List (List ℕ)) → book_all book (rs ++ ss) ≡ onward (answer_all book rs) (book_all (book_all book rs) ss) (book_all book rs)
unfolding answer_all book_all
book_both book [] ss = refl
book_both book (r ∷ rs) ss = by book_all (book_after book r) (answer_of book r) (book_after book r) rs ss (book_both (book_after book r) rs ss)

pub answer_both : (book : List ℕ) (rs ss : List (List ℕ)) → answer_all book (rs ++ ss) ≡ onward (answer_all book rs) (answer_all (book_all book rs) ss) (answer_all book rs)
unfolding answer_all book_all
answer_both book [] ss = refl
answer_both book (r ∷ rs) ss = by answer_all (answer_of book r) (answer_of book r) (book_after book r) rs ss (answer_both (book_after book r) rs ss)
