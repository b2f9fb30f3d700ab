-- What a read gives is the reader's, and the contract leaves it open. What the contract tells of it is one, whatever the reader: the bytes that were held before
-- stay. A program's status is one. Assumes nothing.
use denote.Param.Laws.{Laws}
use denote.RattleType.{RattleType}
use lib.ListN.{take}
use mir.Syntax.{Dict}
use Rattle.std.specs.declared.io.traits.Read.{Ghosts}
use Rattle.laws.proofs.Determined.{OneAnswer, OneTold, one}
use Rattle.program_input.proofs.ended.Reads as Ended
use Rattle.program_input.proofs.read_more.Reads as ReadMore

pub ended_one : OneAnswer Ended.Learnt
ended_one κ a x y s t = one

module _ (R : RattleType) (laws : Laws R) (ghosts : Ghosts R.Denot) (methods : Dict) where
  pub read_more_one : OneTold (ReadMore.Learnt R laws ghosts methods) (λ κ a x s. take a.1.1.0 s.1.0.now)
  read_more_one κ a x y s t p q = one p.1 q.1
