-- The sign decides which of the two texts the number has, and `unsigned_abs` gives its digits. Assumes nothing.
use mathlib.Core.Path.{◌≡◌, ap, ◌∙◌, subst}
use mathlib.Core.Bool.{Bool}
use Prim.Native.Nat.{ℕ}
use native.Mathlib.Omega.{arith}
use lib.IntN.{ℤ, pos, nat_abs}
use lib.ListN.{length}
use lib.Signed.{lt_z}
use mir.Facts.{to_z-of_z}
use mir.Syntax.{w64}
use mir.Val.{to_z, of_z, SFits}
use Rattle.print_page.specs.Number.{decimal}
use Rattle.print_page.proofs.Laying.{joined}
use Rattle.print_page.proofs.Minus.{minus_text, plain_text}
use Rattle.print_page.proofs.lay_signed.Goals as goal

-- a number is what its bits say, in its sign and in its size
sign : {z : ℤ} {below : Bool} → SFits w64 z → lt_z (to_z w64 (of_z w64 z)) (pos 0) ≡ below → lt_z z (pos 0) ≡ below
sign {z} {below} f t = subst (λ (x : ℤ). lt_z x (pos 0) ≡ below) (to_z-of_z f) t

sized : {z : ℤ} {n : ℕ} → SFits w64 z → n ≡ nat_abs (to_z w64 (of_z w64 z)) → n ≡ nat_abs z
sized f e = e ∙ ap nat_abs (to_z-of_z f)

pub lay_word-minus-requires : goal.lay_word-minus-requires
lay_word-minus-requires c = omega (arith, ap length (minus_text c.args.number (sign c.ranges.number c.if-number-lt0.true)))

pub lay_decimal-requires : goal.lay_decimal-requires
lay_decimal-requires c =
    omega
    (arith, ap length (minus_text c.args.number (sign c.ranges.number c.if-number-lt0.true)), ap (λ (n : ℕ). length (decimal n)) (sized c.ranges.number c.unsigned_abs.ensures.value))

pub returns-then-number-lt0 : goal.returns-then-number-lt0
returns-then-number-lt0 c =
    rw (minus_text c.args.number (sign c.ranges.number c.if-number-lt0.true))
    (joined c.lay_word-minus.ensures (rw (sized c.ranges.number c.unsigned_abs.ensures.value) at c.lay_decimal.ensures) (omega arith))

pub lay_decimal-requires-2 : goal.lay_decimal-requires-2
lay_decimal-requires-2 c =
    omega
    (arith, ap length (plain_text c.args.number (sign c.ranges.number c.if-number-lt0.false)), ap (λ (n : ℕ). length (decimal n)) (sized c.ranges.number c.unsigned_abs-2.ensures.value))

pub returns : goal.returns
returns c =
    rw (plain_text c.args.number (sign c.ranges.number c.if-number-lt0.false)) (rw (sized c.ranges.number c.unsigned_abs-2.ensures.value) at c.lay_decimal-2.ensures)
