-- Which input comes is the reader's, and the contract leaves it open. The contract tells that the ending and the book are what some input's records make of the
-- book before (`Comes`), so that they differ with the input alone; what is one for every input and every reader is how long the book is. Assumes nothing.
use denote.Param.Laws.{Laws}
use denote.RattleType.{RattleType}
use lib.ListN.{length}
use mir.Syntax.{Dict}
use Rattle.std.specs.declared.io.traits.Read.{Ghosts}
use Rattle.laws.proofs.Determined.{OneTold, one}
use Rattle.program_feed.proofs.post_input.Reads as PostInput

module _ (R : RattleType) (laws : Laws R) (ghosts : Ghosts R.Denot) (methods : Dict) where
  pub post_input_one : OneTold (PostInput.Learnt R laws ghosts methods) (λ κ a x s. length s.1.0.now)
  post_input_one κ a x y s t p q = one p.1.size q.1.size
