-- An hour's reading, by its state (01, "The meter month").
use Rattle.std.specs.Prelude.{ℕ, ◌/◌, ◌%◌}
use mathlib.Core.{Bool.Bool, Bool.cond, List.List}
use lib.{Dec.eqb, Ieee.Float, Ieee.nan, ListN.get_or}
use Rattle.meter_state.specs.declared.Reading.{Reading, TheVariants.Both, TheVariants.NoFlow, TheVariants.NoContent, TheVariants.Neither}

-- state 0: both present; 1: no flow; 2: no content; 3: neither. The 4 that is added when the device was out changes nothing here, and a
-- missing value's bits are ignored.
unfoldable pub reading_of : ℕ → Float → Float → Reading
reading_of state flow content =
    cond (eqb (state % 4) 0) (Both flow content)
    (cond (eqb (state % 4) 1) (NoFlow content)
    (cond (eqb (state % 4) 2) (NoContent flow) Neither))

-- a part, 1, 2, 4 or 8, was added to the state
abbrev pub has : ℕ → ℕ → Bool
has part state = eqb (state / part % 2) 1

-- 4 is added when the device was out
abbrev pub is_out : ℕ → Bool
is_out state = has 4 state

-- hour h's state, h from 0; past the last hour neither value is there
abbrev pub state_at : List ℕ → ℕ → ℕ
state_at states h = get_or states h 3

abbrev pub reading_at : List Float → List Float → List ℕ → ℕ → Reading
reading_at flows contents states h = reading_of (state_at states h) (get_or flows h nan) (get_or contents h nan)
