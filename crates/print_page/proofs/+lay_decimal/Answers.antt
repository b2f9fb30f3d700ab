-- The digits of a tenth are laid, and the last after them. Assumes nothing.
use mathlib.Core.Path.{ap}
use native.Mathlib.Omega.{arith}
use lib.ListN.{length}
use Rattle.print_page.proofs.Digits.{one_digit, more_digits, longer}
use Rattle.print_page.proofs.Laying.{joined}
use Rattle.print_page.proofs.+lay_decimal.Goals as goal

pub lay_digit-requires : goal.lay_digit-requires
lay_digit-requires t c =
    (c.if-number-lt-BASE.true, omega (arith, c.requires, ap length (one_digit c.args.number c.if-number-lt-BASE.true)))

pub returns-then-number-lt-BASE : goal.returns-then-number-lt-BASE
returns-then-number-lt-BASE t c = rw (one_digit c.args.number c.if-number-lt-BASE.true) c.lay_digit.ensures

pub lay_decimal-last-requires : goal.lay_decimal-last-requires
lay_decimal-last-requires t c = (omega arith, omega (arith, longer c.args.number c.if-number-lt-BASE.false))

pub lay_digit-requires-2 : goal.lay_digit-requires-2
lay_digit-requires-2 t c = (omega arith, omega (arith, longer c.args.number c.if-number-lt-BASE.false))

pub returns : goal.returns
returns t c =
    rw (more_digits c.args.number c.if-number-lt-BASE.false)
    (joined c.lay_decimal-last.ensures c.lay_digit-2.ensures (omega arith))
