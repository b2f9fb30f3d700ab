-- That two digits hold a reason's number. Assumes nothing.
use Prim.Native.Nat.{◌<◌}
use native.Mathlib.Omega.{arith}
use Rattle.refusals.specs.Refusal.{number_of}
use Rattle.refusals.specs.declared.Reason.{Reason}
use Rattle.refusals.specs.declared.Reason.TheVariants.{NotSixteenBytes, UnknownMark, NotZero, OutOfRange, AlreadyFilled, OverShared, Lacking, NoSuchYear, NoMonth, BadHour, SumTooLarge}

pub number_bound : (reason : Reason) → number_of reason < 100
number_bound NotSixteenBytes = omega arith
number_bound UnknownMark = omega arith
number_bound NotZero = omega arith
number_bound OutOfRange = omega arith
number_bound AlreadyFilled = omega arith
number_bound OverShared = omega arith
number_bound Lacking = omega arith
number_bound NoSuchYear = omega arith
number_bound NoMonth = omega arith
number_bound BadHour = omega arith
number_bound SumTooLarge = omega arith
