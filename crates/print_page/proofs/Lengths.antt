-- How long a figure's text is: no figure of a u64 has more than twenty digits. Assumes nothing.
use Prim.Native.Nat.{ℕ, suc, ◌^◌, ◌≤◌, ◌<◌}
use native.Mathlib.Omega.{arith}
use lib.IntN.{ℤ, pos, negsuc}
use lib.ListN.{length}
use mir.Syntax.{w64}
use mir.Val.{SFits}
use Rattle.print_page.specs.Number.{decimal, signed}
use Rattle.print_page.proofs.Digits.{at_most}

-- twenty digits hold a u64, and nineteen after a minus sign an i64
pub wide : (n : ℕ) → n < 2 ^ 64 → length (decimal n) ≤ 20
wide n h = at_most 19 n (omega arith)

pub wide_signed : (z : ℤ) → SFits w64 z → length (signed z) ≤ 20
unfolding signed
wide_signed (pos n) f = let h = f.sfits in wide n (omega arith)
wide_signed (negsuc n) f = let h = f.sfits in omega (arith, at_most 18 (suc n) (omega arith))
