-- Past the last hour nothing is recorded, and nothing is refused.
-- Assumes nothing.
use Prim.Native.Nat.{ℕ, ◌≤◌}
use mathlib.Core.List.{List}
use mathlib.Core.Path.{◌≡◌, refl}
use lib.Ieee.{Float}
use lib.ListN.{length, get_or-eq_default}
use Rattle.std.specs.Prelude.{Some, None}
use Rattle.meter_feet.specs.declared.Sample.{Sample}
use Rattle.meter_feet.specs.Feet.{flow_in, content_in, recorded_of, hour_at}

neither : (sample : Sample) → recorded_of sample 11 ≡ Some (record { flow = None; content = None })
unfolding recorded_of flow_in content_in
neither sample = refl

pub past : (flows contents temperatures pressures : List Float) (states : List ℕ) (h : ℕ) → length states ≤ h → hour_at flows contents temperatures pressures states h ≡ Some (record { flow = None; content = None })
unfolding hour_at
past flows contents temperatures pressures states h l = rw (get_or-eq_default states 11 l) (neither _)
