-- The bytes before a month's flows, of either kind: an input with fewer is refused.
-- Assumes nothing.
use Prim.Native.Nat.{ℕ, ◌+◌, ◌<◌}
use mathlib.Core.Path.{◌≡◌, refl, ◌∙◌}
use mathlib.Core.List.{List}
use native.Mathlib.Omega.{arith}
use borrow.Author.Tests.{ne_eqb, lt-leb}
use lib.ListN.{length}
use Rattle.refusals.specs.Refusal.{refusal}
use Rattle.refusals.specs.declared.Reason.TheVariants.{NoMonth}
use Rattle.std.specs.Prelude.{Err}
use Rattle.meter_hour.specs.declared.Kind.{Kind, TheVariants.CubicMetres, TheVariants.CubicFeet}
use Rattle.meter_bytes.specs.declared.Counts.{Counts}
use Rattle.meter_bytes.specs.Format.{header_bytes, value_at, whole_of, counted_of, stated_of}
use Rattle.meter_bytes.specs.Asks.{counts_of}

-- the month of a kind, by the counts of its header
pub counted_is :
    (kind : Kind) (input : List ℕ) {n : Counts} → n ≡ counts_of kind input →
    whole_of kind input n.flows n.contents n.temperatures n.pressures n.states ≡ counted_of kind input
counted_is CubicMetres input said = rw said
counted_is CubicFeet input said = rw said

whole_short :
    (kind : Kind) (input : List ℕ) (f c t p s : ℕ) → length input < header_bytes kind → Err (refusal NoMonth 0) ≡ whole_of kind input f c t p s
unfolding whole_of
whole_short kind input f c t p s short = rw (ne_eqb (length input) (value_at kind (f + c + t + p) + s) (λ e. omega arith))

pub short_none : (kind : Kind) (input : List ℕ) → length input < header_bytes kind → Err (refusal NoMonth 0) ≡ counted_of kind input
short_none kind input short =
    let n = counts_of kind input in whole_short kind input n.flows n.contents n.temperatures n.pressures n.states short ∙ counted_is kind input refl

-- an input too short for a mark is shorter than any header
pub no_mark : (input : List ℕ) → length input < 2 → Err (refusal NoMonth 0) ≡ stated_of input
unfolding stated_of
no_mark input short = rw (lt-leb 2 (length input) short) (short_none CubicMetres input (omega arith))
