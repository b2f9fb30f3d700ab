-- What is posted is the input, record by record: what the reads gave, one after the other, is what is posted and the bytes that are held. Assumes nothing.
use mathlib.Core.Path.{◌≡◌, refl, sym, ap, ◌∙◌}
use mathlib.Core.List.{List, [], ◌++◌, append_assoc}
use Prim.Native.Nat.{ℕ, ◌+◌, ◌*◌, ◌-◌, ◌/◌, ◌%◌, ◌≤◌, ◌<◌}
use native.Mathlib.Omega.{arith}
use lib.ListN.{length, take, drop, length-append}
use lib.Seq.{length-take-le, take-add}
use Rattle.std.specs.Prelude.{Result, Ok, Err}
use Rattle.std.specs.declared.io.Error.{Error}
use Rattle.refusals.specs.declared.Refusal.{Refusal}
use Rattle.record_table.specs.Table.{record_bytes}
use Rattle.book.proofs.Kept.{kept_all}
use Rattle.book.specs.Run.{records_from, records_of, answer_all, book_all}
use Rattle.book.specs.Valid.{Valid}
use Rattle.program_feed.specs.Blocks.{whole_bytes, whole_records, posted_of, carried, block_by, fed_by}
use Rattle.program_feed.specs.Input.{book_of, ending_by, ending_of, Comes, unread, read}
use Rattle.program_feed.specs.declared.Stop.{Stop}
use Rattle.program_feed.specs.declared.Stop.TheVariants.{Refused, Failed}
use Rattle.program_feed.proofs.Carrying.{held}
use Rattle.program_feed.proofs.Posting.{after, stays, many, parts}
use Rattle.program_feed.proofs.Slots.{free_slots, fills_all}

pub record Reading (start book block : List ℕ) (cut : ℕ) : Type 0 where
  pub from : Valid start
  pub input : List ℕ
  pub posted : List ℕ
  pub is : input ≡ posted ++ take cut block
  pub whole : length posted % record_bytes ≡ 0
  pub taken : answer_all start (records_of posted) ≡ Ok tt
  pub made : book ≡ book_all start (records_of posted)
  pub short : cut < record_bytes

pub begin : (start block : List ℕ) → Valid start → Reading start start block 0
unfolding records_of records_from answer_all book_all
begin start block v = record { from = v; input = []; posted = []; is = refl; whole = refl; taken = refl; made = refl; short = omega arith }

pub valid : {start book block : List ℕ} {cut : ℕ} → Reading start book block cut → Valid book
valid {start} w = rw w.made (kept_all start (records_of w.posted) w.from)

-- what is posted when a read fails
pub unread_after : {start book block : List ℕ} {cut : ℕ} → Reading start book block cut → (error : Error) → Comes start (Err (Failed error)) book
unfolding book_of
unread_after w error = unread w.posted w.made

-- how many bytes can still come
unfoldable pub left : List ℕ → ℕ → ℕ
left book cut = record_bytes * free_slots book + (record_bytes - cut)

-- what a block comes to tells what posting it answered
holds : (p : Result Unit Refusal) (filled n : ℕ) → fed_by p filled ≡ Ok n → (p ≡ Ok tt) × (n ≡ filled - whole_bytes filled)
holds (Ok unit) filled n e = (refl, cc)
holds (Err x) filled n e = let z : ◌≡◌ {A = ℕ} 0 1 = cc in absurd (omega arith)

stops : (p : Result Unit Refusal) (filled : ℕ) (x : Refusal) → fed_by p filled ≡ Err x → p ≡ Err x
stops (Ok unit) filled x e = let z : ◌≡◌ {A = ℕ} 0 1 = cc in absurd (omega arith)
stops (Err y) filled x e = cc

-- more bytes posted after those that are
module _ {start book block : List ℕ} {cut : ℕ} (w : Reading start book block cut) (more : List ℕ) where
  answers : answer_all start (records_of (w.posted ++ more)) ≡ answer_all book (records_of more)
  answers =
      ap (answer_all start) (parts w.posted more w.whole) ∙ (after start (records_of w.posted) (records_of more) w.taken).0
      ∙ ap (λ (b : List ℕ). answer_all b (records_of more)) (sym w.made)

  makes : book_all start (records_of (w.posted ++ more)) ≡ book_all book (records_of more)
  makes =
      ap (book_all start) (parts w.posted more w.whole) ∙ (after start (records_of w.posted) (records_of more) w.taken).1
      ∙ ap (λ (b : List ℕ). book_all b (records_of more)) (sym w.made)

module _ {start book block : List ℕ} {cut : ℕ} (w : Reading start book block cut) (now : List ℕ) (kept : take cut now ≡ take cut block) where
  -- at the input's end
  pub ended :
      {ending : Result Unit Stop} {last : List ℕ} → ending ≡ ending_by (answer_all book (records_of (take cut now))) → last ≡ book_all book (records_of (take cut now)) →
      Comes start ending last
  unfolding ending_of book_of
  ended {ending} {last} e b =
      let i : w.input ≡ w.posted ++ take cut now = w.is ∙ ap (λ (l : List ℕ). w.posted ++ l) (sym kept) in
      read w.input (e ∙ sym (ap (λ (l : List ℕ). ending_by (answer_all start (records_of l))) i ∙ ap ending_by (answers w (take cut now))))
      (b ∙ sym (ap (λ (l : List ℕ). book_all start (records_of l)) i ∙ makes w (take cut now)))

  module _ (count : ℕ) (room : cut + count ≤ length now) where
    -- the input with what the read gave
    longer : List ℕ
    longer = w.input ++ take count (drop cut now)

    records : List ℕ
    records = take (whole_bytes (cut + count)) now

    rest : List ℕ
    rest = take (cut + count - whole_bytes (cut + count)) (drop (whole_bytes (cut + count)) now)

    longer_is : longer ≡ w.posted ++ records ++ rest
    unfolding longer records rest
    longer_is =
        let sum : cut + count ≡ whole_bytes (cut + count) + (cut + count - whole_bytes (cut + count)) = omega arith in
        ap (λ (l : List ℕ). l ++ take count (drop cut now)) (w.is ∙ ap (λ (l : List ℕ). w.posted ++ l) (sym kept))
        ∙ append_assoc w.posted (take cut now) (take count (drop cut now))
        ∙ ap (λ (l : List ℕ). w.posted ++ l) (sym (take-add cut count now) ∙ ap (λ (n : ℕ). take n now) sum ∙ take-add (whole_bytes (cut + count)) (cut + count - whole_bytes (cut + count)) now)
        ∙ sym (append_assoc w.posted (take (whole_bytes (cut + count)) now) (take (cut + count - whole_bytes (cut + count)) (drop (whole_bytes (cut + count)) now)))

    records_whole : length (w.posted ++ records) % record_bytes ≡ 0
    unfolding records
    records_whole =
        let l = length-take-le (whole_bytes (cut + count)) now (omega arith) in
        omega (arith, length-append w.posted (take (whole_bytes (cut + count)) now), l, w.whole)

    module _ {book' : List ℕ} (b : book' ≡ book_all book (whole_records now (cut + count))) where
      pub next :
          {block' : List ℕ} → posted_of book now (cut + count) ≡ Ok tt → block' ≡ carried now (whole_bytes (cut + count)) (cut + count) →
          Reading start book' block' (cut + count - whole_bytes (cut + count))
      unfolding whole_records records rest
      next {block'} t c =
          record {
            from = w.from;
            input = longer;
            posted = w.posted ++ records;
            is = longer_is ∙ ap (λ (l : List ℕ). w.posted ++ records ++ l) (sym (held now (whole_bytes (cut + count)) (cut + count) room) ∙ ap (take (cut + count - whole_bytes (cut + count))) (sym c));
            whole = records_whole;
            taken = answers w records ∙ t;
            made = b ∙ sym (makes w records);
            short = omega arith;
          }

      pub refused : {x : Refusal} → posted_of book now (cut + count) ≡ Err x → Comes start (Err (Refused x)) book'
      unfolding whole_records records ending_of book_of
      refused {x} t =
          let both = ap records_of longer_is ∙ parts (w.posted ++ records) rest records_whole in
          let s = stays start (records_of (w.posted ++ records)) (records_of rest) x (answers w records ∙ t) in
          read longer (sym (ap ending_by (ap (answer_all start) both ∙ s.0))) (b ∙ sym (ap (book_all start) both ∙ s.1 ∙ makes w records))

      pub fewer : 0 < count → posted_of book now (cut + count) ≡ Ok tt → left book' (cut + count - whole_bytes (cut + count)) < left book cut
      unfolding whole_records left records_of
      fewer some t =
          let l = length-take-le (whole_bytes (cut + count)) now (omega arith) in
          let n = many (take (whole_bytes (cut + count)) now) 0 ((length (take (whole_bytes (cut + count)) now) + (record_bytes - 1)) / record_bytes) in
          let f = fills_all book (records_of (take (whole_bytes (cut + count)) now)) (valid w) t in
          omega (arith, w.short, l, n, f, ap free_slots b)

    -- what posting the block says
    module _ {book' block' : List ℕ} {fed : Result ℕ Refusal} (f : fed ≡ fed_by (posted_of book now (cut + count)) (cut + count))
        (b : book' ≡ book_all book (whole_records now (cut + count)))
        (c : block' ≡ block_by (posted_of book now (cut + count)) now (cut + count)) where
      pub onwards : {n : ℕ} → 0 < count → fed ≡ Ok n → Reading start book' block' n × (left book' n < left book cut)
      onwards {n} some e =
          let h = holds (posted_of book now (cut + count)) (cut + count) n (sym f ∙ e) in
          rw h.1
          (next b h.0 (c ∙ ap (λ (p : Result Unit Refusal). block_by p now (cut + count)) h.0), fewer b some h.0)

      pub stopped : {x : Refusal} → fed ≡ Err x → Comes start (Err (Refused x)) book'
      stopped {x} e = refused b (stops (posted_of book now (cut + count)) (cut + count) x (sym f ∙ e))
