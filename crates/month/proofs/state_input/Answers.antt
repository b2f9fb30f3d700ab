-- Where what was read fills the buffer it is longer than the longest month, so that nothing after it counts. Assumes nothing.
use Rattle.std.proofs.Common.{◌≡◌, ℕ, ◌<◌, List, Result, Ok, sym, ◌∙◌, arith}
use Rattle.std.proofs.lemmas.Result.{err_from_is_err_and}
use Rattle.units.specs.declared.methane.Methane.{Methane}
use Rattle.refusals.specs.declared.Refusal.{Refusal}
use Rattle.meter_bytes.specs.Format.{longest_bytes, stated_of}
use Rattle.meter_bytes.proofs.Long.{nothing_after}
use Rattle.month.specs.Input.{Comes, unread, read}
use Rattle.month.proofs.state_input.Goals as goal

came : (buffer : ℕ) (input : List ℕ) {answer : Result Methane Refusal} → longest_bytes < buffer → answer ≡ stated_of input → Comes buffer (Ok answer)
came buffer input longer e = read input e (λ full more. e ∙ sym (nothing_after input more (omega arith)))

pub returns-in_err-count : goal.returns-in_err-count
returns-in_err-count g c = let given = err_from_is_err_and c.from_residual.result c.from_residual.ensures.1 in rw given.1 unread

pub returns : goal.returns
returns g c = came _ _ c.requires c.stated.ensures
