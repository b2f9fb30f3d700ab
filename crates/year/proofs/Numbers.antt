-- Whatever the book and the year, a year is refused by a reason of its list (01, "Refusal numbers"). Assumes nothing.
use Prim.Native.Nat.{ℕ}
use mathlib.Core.Bool.{not, ◌||◌}
use mathlib.Core.List.{List, Memᴰ}
use mathlib.Core.Path.{◌≡◌, refl, subst}
use lib.Dec.{ltb, leb}
use Rattle.laws.proofs.Picking.{either}
use Rattle.std.specs.Prelude.{Result, Ok, Err, ⊤}
use Rattle.refusals.specs.Refusal.{year_order}
use Rattle.refusals.specs.declared.Refusal.{Refusal}
use Rattle.refusals.specs.declared.Reason.TheVariants.{Lacking}
use Rattle.record_table.specs.Table.{categories}
use Rattle.book_slots.specs.Reads.{first_year_of}
use Rattle.year_months.specs.Series.{first_year, last_year, filled, months_through}
use Rattle.year_needs.specs.Complete.{any_line, lacking_of, complete_of}
use Rattle.year_shares.specs.Shares.{over_of}
use Rattle.year.specs.Answer.{passes, whole_year, by_complete, answer_of}
use Rattle.year.specs.declared.Figures.{Figures}

abbrev Listed : Result Figures Refusal → Type 0
Listed (Ok figures) = Unit {0}
Listed (Err refusal) = Memᴰ refusal.reason year_order

-- what a year lacks is refused by the reason for it
abbrev pub Lacks : Result ⊤ Refusal → Type 0
Lacks (Ok complete) = Unit {0}
Lacks (Err refusal) = refusal.reason ≡ Lacking

module _ (book : List ℕ) (year : ℕ) where
  pub complete_lacks : Lacks (complete_of book year)
  unfolding complete_of
  complete_lacks =
      either Lacks (not (filled (first_year_of book)) || not (any_line book)) refl
      (either Lacks (leb (lacking_of book year) (months_through year)) refl tt)

  found_listed : (found : Result ⊤ Refusal) → Lacks found → Listed (by_complete book year found)
  unfolding whole_year
  found_listed (Err refusal) lacks = Memᴰ.tail (Memᴰ.head lacks)
  found_listed (Ok complete) lacks =
      either Listed (leb (over_of book) categories) (Memᴰ.tail (Memᴰ.tail (Memᴰ.head refl)))
      (either Listed (passes book year) (Memᴰ.tail (Memᴰ.tail (Memᴰ.tail (Memᴰ.head refl)))) tt)

  pub number_listed : (refusal : Refusal) → answer_of book year ≡ Err refusal → Memᴰ refusal.reason year_order
  unfolding answer_of
  number_listed refusal e =
      subst Listed e
      (either Listed (ltb year first_year || ltb last_year year) (Memᴰ.head refl) (found_listed (complete_of book year) complete_lacks))
