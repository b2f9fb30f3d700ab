-- Whatever is lent, a meter month is refused for a reason of its list (01, "Refusal numbers"). Assumes nothing.
use Prim.Native.Nat.{ℕ}
use mathlib.Core.Bool.{not}
use mathlib.Core.List.{List, Memᴰ}
use mathlib.Core.Path.{◌≡◌, refl, subst}
use lib.{Dec.ltb, Ieee.Float, ListN.length}
use Rattle.laws.proofs.Picking.{either}
use Rattle.std.specs.Prelude.{Option, Result, Ok, Err}
use Rattle.units.specs.declared.methane.Methane.{Methane}
use Rattle.refusals.specs.Refusal.{month_order}
use Rattle.refusals.specs.declared.Refusal.{Refusal}
use Rattle.meter_hour.specs.declared.{Recorded.Recorded, Kind.Kind, Kind.TheVariants.CubicMetres, Kind.TheVariants.CubicFeet}
use Rattle.meter_hour.specs.Hour.{hour_at, whole_efficiency}
use Rattle.meter_feet.specs.Feet.{hour_at as feet_hour_at}
use Rattle.meter_month.specs.Month.{are_hours, are_feet_hours, first_refused, hours_of, month_of, feet_month_of}

abbrev Listed : Result Methane Refusal → Type 0
Listed (Ok methane) = Unit {0}
Listed (Err refusal) = Memᴰ refusal.reason month_order

hours_listed : (kind : Kind) (efficiency : ℕ) (states : List ℕ) (hour : ℕ → Option Recorded) → Listed (hours_of kind efficiency states hour)
unfolding hours_of
hours_listed kind efficiency states hour =
    either Listed (ltb whole_efficiency efficiency) (Memᴰ.tail (Memᴰ.head refl))
    (either Listed (ltb (first_refused hour (length states)) (length states)) (Memᴰ.tail (Memᴰ.tail (Memᴰ.head refl))) tt)

pub number_listed :
    (flows contents : List Float) (states : List ℕ) (efficiency : ℕ) (refusal : Refusal) →
    month_of flows contents states efficiency ≡ Err refusal → Memᴰ refusal.reason month_order
unfolding month_of
number_listed flows contents states efficiency refusal e =
    subst Listed e
    (either Listed (not (are_hours (length flows) (length contents) (length states))) (Memᴰ.head refl)
    (hours_listed CubicMetres efficiency states (hour_at flows contents states)))

pub feet_number_listed :
    (flows contents temperatures pressures : List Float) (states : List ℕ) (efficiency : ℕ) (refusal : Refusal) →
    feet_month_of flows contents temperatures pressures states efficiency ≡ Err refusal → Memᴰ refusal.reason month_order
unfolding feet_month_of
feet_number_listed flows contents temperatures pressures states efficiency refusal e =
    subst Listed e
    (either Listed (not (are_feet_hours (length flows) (length contents) (length temperatures) (length pressures) (length states))) (Memᴰ.head refl)
    (hours_listed CubicFeet efficiency states (feet_hour_at flows contents temperatures pressures states)))
