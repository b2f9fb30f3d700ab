-- The program's rules, on all that it prints: what is laid is the output of the input that came; a refusal is the output, whatever follows it; and a
-- shorter last record is refused 1 (01, "Figures to check"). Assumes nothing.
use mathlib.Core.Path.{◌≡◌, sym, ap, ◌∙◌, subst}
use mathlib.Core.List.{List, [], ◌∷◌, ◌++◌}
use Prim.Native.Nat.{ℕ, ◌%◌, ◌≤◌, ◌<◌}
use native.Mathlib.Omega.{arith}
use lib.ListN.{length}
use Rattle.std.specs.Prelude.{Result, Ok, Err}
use Rattle.std.specs.declared.io.Error.{Error}
use Rattle.refusals.specs.Refusal.{refusal}
use Rattle.refusals.specs.declared.Reason.TheVariants.{NotSixteenBytes}
use Rattle.refusals.specs.declared.Refusal.{Refusal}
use Rattle.record_table.specs.Table.{record_bytes}
use Rattle.record_judge.specs.declared.Change.{Change}
use Rattle.record_judge.proofs.Marks.{short}
use Rattle.book.specs.Book.{empty_book, taken, answer_by, answer_of}
use Rattle.book.specs.Run.{records_of, onward, answer_all, book_all}
use Rattle.book.proofs.Runs.{alone}
use Rattle.print_refusal.specs.Text.{refusal_text}
use Rattle.program_feed.specs.declared.Stop.{Stop}
use Rattle.program_feed.specs.declared.Stop.TheVariants.{Refused, Failed}
use Rattle.program_feed.specs.Input.{book_of, ending_by, ending_of, Comes as FeedComes, unread as feed_unread, read as feed_read}
use Rattle.program_feed.proofs.Posting.{after, stays, parts}
use Rattle.print_page.specs.Page.{Lays}
use Rattle.print_page.proofs.Laying.{within}
use Rattle.years.specs.Output.{ending_text, output}
use Rattle.years.specs.Input.{Comes, unread, read}

-- no read failed
abbrev Whole : Result Unit Stop → Type 0
Whole (Ok unit) = Unit
Whole (Err (Refused refusal)) = Unit
Whole (Err (Failed error)) = ⊥

-- what is printed for an ending and a book is then the output of the input that they came of
record Printed (text : List ℕ) : Type 0 where
  pub input : List ℕ
  pub is : text ≡ output input

came : {start book : List ℕ} {ending : Result Unit Stop} → start ≡ empty_book → FeedComes start ending book → Whole ending → Printed (ending_text ending book)
unfolding output
came s (feed_unread input b) whole = absurd whole
came {start} {book} {ending} s (feed_read input e b) whole =
    record {
      input = input;
      is =
          ap (λ (x : Result Unit Stop). ending_text x book) e ∙ ap (ending_text (ending_of start input)) b
          ∙ ap (λ (l : List ℕ). ending_text (ending_of l input) (book_of l input)) s;
    }

pub laid :
    {start book page later : List ℕ} {ending known : Result Unit Stop} {end : ℕ} → start ≡ empty_book → FeedComes start ending book → ending ≡ known → Whole known →
    Lays page 0 (ending_text known book) end later → Comes page (Ok end) later
laid {book = book} {page} {later} {ending} {known} {end} s f k whole l =
    let o = came s f (subst Whole (sym k) whole) in
    read o.input (subst (λ (t : List ℕ). Lays page 0 t end later) (ap (λ (x : Result Unit Stop). ending_text x book) (sym k) ∙ o.is) l)

-- what is laid ends within the page
end_of : Result ℕ Error → ℕ
end_of (Ok end) = end
end_of (Err error) = 0

ends : {page later : List ℕ} {outcome : Result ℕ Error} → Comes page outcome later → end_of outcome ≤ length later
unfolding end_of
ends (unread b) = omega arith
ends (read input l) = within l

pub ends_within : {page later : List ℕ} {outcome : Result ℕ Error} (end : ℕ) → Comes page outcome later → outcome ≡ Ok end → end ≤ length later
unfolding end_of
ends_within {page} {later} end f e = subst (λ (x : Result ℕ Error). end_of x ≤ length later) e (ends f)

refused_by : (input : List ℕ) (x : Refusal) → answer_all empty_book (records_of input) ≡ Err x → output input ≡ refusal_text x
unfolding output ending_of ending_text
refused_by input x e = ap (λ (p : Result Unit Refusal). ending_text (ending_by p) (book_of empty_book input)) e

-- a refusal among whole records
pub nothing_after :
    (input more : List ℕ) → length input % record_bytes ≡ 0 → (x : Refusal) → answer_all empty_book (records_of input) ≡ Err x →
    output (input ++ more) ≡ refusal_text x
nothing_after input more whole x e =
    refused_by (input ++ more) x (ap (answer_all empty_book) (parts input more whole) ∙ (stays empty_book (records_of input) (records_of more) x e).0)

-- a last record of fewer than sixteen bytes, after records that are all taken
module _ (last : List ℕ) (some : 0 < length last) (less : length last < record_bytes) where
  abbrev cut : Refusal
  cut = refusal NotSixteenBytes 0

  turned_down : (book : List ℕ) → answer_all book (last ∷ []) ≡ Err cut
  unfolding answer_all answer_of answer_by
  turned_down book = ap (λ (j : Result Change Refusal). onward (answer_by book j) taken (answer_by book j)) (short last (λ e. omega arith))

  pub short_refused : (input : List ℕ) → length input % record_bytes ≡ 0 → answer_all empty_book (records_of input) ≡ taken → output (input ++ last) ≡ refusal_text cut
  short_refused input whole all =
      refused_by (input ++ last) cut
      (ap (answer_all empty_book) (parts input last whole) ∙ (after empty_book (records_of input) (records_of last) all).0
      ∙ ap (answer_all (book_all empty_book (records_of input))) (alone last some (omega arith)) ∙ turned_down (book_all empty_book (records_of input)))
