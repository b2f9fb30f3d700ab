-- No two outcomes fit the contract of a public function. Assumes nothing.
use mathlib.Core.Path.{refl}
use Rattle.laws.proofs.Determined.{OneAnswer, OneOutcome, one, ones}
use Rattle.book.proofs.empty.Reads as Empty
use Rattle.book.proofs.post.Reads as Post
use Rattle.book.proofs.post_all.Reads as PostAll
use Rattle.book.proofs.read.Book.of.Reads as BookOf
use Rattle.book.proofs.read.Book.known.Reads as BookKnown

pub empty_one : OneOutcome Empty.Learnt (λ κ s. s.0.now)
empty_one κ a x y s t p q = (refl, one p q)

pub post_one : OneOutcome Post.Learnt (λ κ s. s.0.now)
post_one κ a x y s t = ones

pub post_all_one : OneOutcome PostAll.Learnt (λ κ s. s.0.now)
post_all_one κ a x y s t = ones

pub book_of_one : OneAnswer BookOf.Learnt
book_of_one κ a x y s t = one

pub book_known_one : OneAnswer BookKnown.Learnt
book_known_one κ a x y s t p q = refl
