-- `meter_reading::floor` meets its contract: `proofs/Cutting.antt` says what the shifted digits are.
-- Assumes nothing.
use Rattle.std.proofs.Common.{◌≡◌, ◌^◌, true, T}
use lib.Ieee.{Float, binary64, le, of_bits, to_bits}
use Rattle.std.proofs.num.Truncating.{at_least_one, under_one}
use Rattle.meter_reading.specs.Exact.{is_between}
use Rattle.meter_reading.proofs.Cutting.{Cut, cut, none}
use Rattle.meter_reading.proofs.floor.Goals as goal

over : (x : Float) → T (is_between 0 (2 ^ 52) x) → le (of_bits binary64 0x3ff0_0000_0000_0000) x ≡ true → Cut x (to_bits binary64 x)
over x range least = cut x range (at_least_one x least)

pub overflow_sub-result : goal.overflow_sub-result
overflow_sub-result c = (over c.args.x c.requires c.if-x.true).1

pub overflow_shr-result : goal.overflow_shr-result
overflow_shr-result c = (over c.args.x c.requires c.if-x.true).2

pub returns-then-x : goal.returns-then-x
returns-then-x c = (over c.args.x c.requires c.if-x.true).3

pub returns-else-x : goal.returns-else-x
returns-else-x c = none c.args.x c.requires (under_one c.args.x c.if-x.false)
