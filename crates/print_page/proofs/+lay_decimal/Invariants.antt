-- The measure is the number itself. Assumes nothing.
use Rattle.print_page.proofs.+lay_decimal.Given as goal

abbrev pub decreases-lay_decimal : goal.decreases-lay_decimal
decreases-lay_decimal l = l.number
