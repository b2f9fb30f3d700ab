-- No two outcomes fit the contract of a public function. Assumes nothing.
use Rattle.laws.proofs.Determined.{OneAnswer, one}
use Rattle.book_herd.proofs.system.Reads as System
use Rattle.book_herd.proofs.category.Reads as Category
use Rattle.book_herd.proofs.line_at.Reads as LineAt
use Rattle.book_herd.proofs.head.Reads as Head
use Rattle.book_herd.proofs.drained.Reads as Drained

pub system_one : OneAnswer System.Learnt
system_one κ a x y s t = one

pub category_one : OneAnswer Category.Learnt
category_one κ a x y s t = one

pub line_at_one : OneAnswer LineAt.Learnt
line_at_one κ a x y s t = one

pub head_one : OneAnswer Head.Learnt
head_one κ a x y s t = one

pub drained_one : OneAnswer Drained.Learnt
drained_one κ a x y s t = one
