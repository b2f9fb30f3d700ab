-- `meter_bytes::floats::Floats::read` meets its contract. The loop's invariant: the floats passed are those of the input.
-- Assumes nothing.
use Rattle.std.proofs.Common.{◌≡◌, ℕ, ◌+◌, ◌*◌, ◌<◌, length, get_or}
use lib.Ieee.{nan}
use Rattle.number_float.specs.Float.{float_at}
use Rattle.meter_bytes.proofs.floats.Floats.read.Given as goal

abbrev pub invariant-loop-passed : goal.invariant-loop-passed
invariant-loop-passed l =
    record {
      sized : length l.float-items ≡ l.count;
      as_read : (k : ℕ) → k < l.passed → get_or l.float-items k nan ≡ float_at l.input (l.at + 4 * k);
    }
