-- A meter month as bytes, of any length. In order: the mark, CM for cubic metres or CF for cubic feet, the efficiency, and the counts of flows,
-- contents, in cubic feet of temperatures and pressures too, and of states, two bytes each, the lower first; then these values in that order, four
-- bytes each, a state one.
use Rattle.std.specs.Prelude.{ℕ, zero, suc, ◌+◌, ◌*◌, Bool, not, ◌&&◌, ◌||◌, cond, List, [], ◌∷◌, Result, Err}
use Prim.Native.Char.{code}
use lib.{Dec.eqb, Dec.leb, Ieee.Float, ListN.length, ListN.get_or, ListN.drop}
use Rattle.number_bytes.specs.Number.{number_at}
use Rattle.units.specs.declared.methane.Methane.{Methane}
use Rattle.refusals.specs.Refusal.{refusal}
use Rattle.refusals.specs.declared.{Refusal.Refusal, Reason.TheVariants.UnknownMark, Reason.TheVariants.NoMonth}
use Rattle.number_float.specs.Float.{float_bytes, float_at}
use Rattle.meter_series.specs.Series.{most_hours}
use Rattle.meter_hour.specs.declared.Kind.{Kind, TheVariants.CubicMetres, TheVariants.CubicFeet}
use Rattle.meter_month.specs.Month.{month_of, feet_month_of}

-- the bytes before the flows: the mark, the efficiency, and three counts or five
abbrev pub header_bytes : Kind → ℕ
header_bytes CubicMetres = 10
header_bytes CubicFeet = 14

-- the bytes of the longest month of all: for each of its hours four floats and a state
abbrev pub longest_bytes : ℕ
longest_bytes = header_bytes CubicFeet + (4 * float_bytes + 1) * most_hours

-- the input has this mark: C, and then the kind's letter
abbrev pub is_mark : ℕ → List ℕ → Bool
is_mark letter input = leb 2 (length input) && eqb (get_or input 0 0) (code "C") && eqb (get_or input 1 0) letter

-- the input has a mark, and it is neither CM nor CF
abbrev pub is_other_mark : List ℕ → Bool
is_other_mark input = leb 2 (length input) && not (is_mark (code "M") input || is_mark (code "F") input)

-- the counts stand after the mark and the efficiency; the first of them is count 0
abbrev pub count_at : List ℕ → ℕ → ℕ
count_at input i = number_at input (4 + 2 * i) 2

-- `count` floats, from `at` on
unfoldable pub floats_at : List ℕ → ℕ → ℕ → List Float
floats_at input at zero = []
floats_at input at (suc count) = float_at input at ∷ floats_at input (at + float_bytes) count

-- the month of a kind of meter: one in cubic metres has no temperatures and no pressures
unfoldable pub month_in : Kind → List Float → List Float → List Float → List Float → List ℕ → ℕ → Result Methane Refusal
month_in CubicMetres flows contents temperatures pressures states efficiency = month_of flows contents states efficiency
month_in CubicFeet flows contents temperatures pressures states efficiency = feet_month_of flows contents temperatures pressures states efficiency

-- where the value stands that so many floats come before
abbrev pub value_at : Kind → ℕ → ℕ
value_at kind floats = header_bytes kind + float_bytes * floats

-- the month of an input with this number of flows, contents, temperatures and pressures; the rest are states
unfoldable pub lent_of : Kind → List ℕ → ℕ → ℕ → ℕ → ℕ → Result Methane Refusal
lent_of kind input f c t p =
    month_in kind (floats_at input (value_at kind 0) f) (floats_at input (value_at kind f) c)
    (floats_at input (value_at kind (f + c)) t) (floats_at input (value_at kind (f + c + t)) p)
    (drop (value_at kind (f + c + t + p)) input) (number_at input 2 2)

-- an input that is shorter or longer than these counts of floats and of states say is refused 10, since no such month was lent
unfoldable pub whole_of : Kind → List ℕ → ℕ → ℕ → ℕ → ℕ → ℕ → Result Methane Refusal
whole_of kind input f c t p s =
    cond (eqb (length input) (value_at kind (f + c + t + p) + s)) (lent_of kind input f c t p) (Err (refusal NoMonth 0))

-- the counts of each kind
abbrev pub counted_of : Kind → List ℕ → Result Methane Refusal
counted_of CubicMetres input = whole_of CubicMetres input (count_at input 0) (count_at input 1) 0 0 (count_at input 2)
counted_of CubicFeet input = whole_of CubicFeet input (count_at input 0) (count_at input 1) (count_at input 2) (count_at input 3) (count_at input 4)

-- another mark is refused 2; an input without a mark is shorter than any month, and refused 10
unfoldable pub stated_of : List ℕ → Result Methane Refusal
stated_of input =
    cond (is_other_mark input) (Err (refusal UnknownMark 0))
    (cond (is_mark (code "F") input) (counted_of CubicFeet input) (counted_of CubicMetres input))
