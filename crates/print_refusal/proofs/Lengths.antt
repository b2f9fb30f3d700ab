-- How long the text of a refusal is. Assumes nothing.
use mathlib.Core.Path.{◌≡◌}
use Prim.Native.Nat.{ℕ, ◌+◌, ◌^◌, ◌≤◌, ◌<◌}
use mathlib.Core.List.{◌++◌}
use native.Mathlib.Omega.{arith}
use lib.ListN.{length, length-append}
use Rattle.refusals.specs.Refusal.{number_of}
use Rattle.refusals.proofs.Bounds.{number_bound}
use Rattle.refusals.specs.declared.Refusal.{Refusal}
use Rattle.print_page.specs.Number.{decimal, word}
use Rattle.print_page.specs.Text.{figure}
use Rattle.print_page.proofs.Digits.{at_most}
use Rattle.print_page.proofs.Lengths.{wide}
use Rattle.print_refusal.specs.Text.{refusal_text}

pub numbered_length :
    (number place : ℕ) → length (figure "refused " number ++ figure " at " place ++ word "\n") ≡ 13 + length (decimal number) + length (decimal place)
numbered_length number place = simp length-append (omega arith)

module _ (refusal : Refusal) where
  pub refusal_length : length (refusal_text refusal) ≡ 13 + length (decimal (number_of refusal.reason)) + length (decimal refusal.place)
  unfolding refusal_text
  refusal_length = numbered_length (number_of refusal.reason) refusal.place

  -- two digits hold a reason's number
  pub refusal_most : refusal.place < 2 ^ 64 → length (refusal_text refusal) ≤ 35
  refusal_most place = omega (arith, refusal_length, at_most 1 (number_of refusal.reason) (number_bound refusal.reason), wide refusal.place place)
