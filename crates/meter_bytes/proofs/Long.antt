-- Lists that are not as long as a month's states are refused, and so is an input that is longer than the longest month, whatever its bytes after the
-- mark: it is read no further than that.
-- Assumes nothing.
use Prim.Native.{Nat.ℕ, Nat.◌+◌, Nat.◌-◌, Nat.◌<◌, Char.code}
use mathlib.Core.Path.{◌≡◌, refl, ap, sym, ◌∙◌}
use mathlib.Core.Bool.{Bool, true, false, ◌&&◌, cond}
use mathlib.Core.List.{List, ◌++◌}
use native.Mathlib.Omega.{arith}
use borrow.Author.Tests.{eqb-true, le-leb}
use lib.Dec.{eqb, leb}
use lib.Ieee.{Float}
use lib.ListN.{length, drop, length-append, length-drop, get_or-append}
use Rattle.number_bytes.specs.Number.{number_at}
use Rattle.refusals.specs.Refusal.{refusal}
use Rattle.refusals.specs.declared.{Refusal.Refusal, Reason.TheVariants.UnknownMark, Reason.TheVariants.NoMonth}
use Rattle.std.specs.Prelude.{Result, Err}
use Rattle.units.specs.declared.methane.Methane.{Methane}
use Rattle.meter_series.specs.Series.{most_hours}
use Rattle.meter_hour.specs.declared.Kind.{Kind, TheVariants.CubicMetres, TheVariants.CubicFeet}
use Rattle.meter_month.specs.Month.{are_hours, are_feet_hours, month_of, feet_month_of}
use Rattle.meter_month.specs.Asks.{AsLong, AllAsLong}
use Rattle.meter_month.proofs.Hours.{as_long, all_as_long}
use Rattle.meter_bytes.specs.Format.{longest_bytes, is_mark, is_other_mark, count_at, floats_at, month_in, value_at, lent_of, whole_of, counted_of, stated_of}
use Rattle.meter_bytes.specs.Asks.{Has}
use Rattle.meter_bytes.proofs.EachFloat.{floats_length}

abbrev not_lent : Result Methane Refusal
not_lent = Err (refusal NoMonth 0)

-- as many values of each list that a kind has as states, and no more than a month has hours
abbrev Long : Kind → ℕ → ℕ → ℕ → ℕ → ℕ → Type 0
Long CubicMetres f c t p n = AsLong f c n
Long CubicFeet f c t p n = AllAsLong f c t p n

not_true : (b : Bool) → (b ≡ true → ⊥) → b ≡ false
not_true true h = absurd (h refl)
not_true false h = refl

no_month_lem :
    (kind : Kind) (flows contents temperatures pressures : List Float) (states : List ℕ) (efficiency : ℕ) →
    (Long kind (length flows) (length contents) (length temperatures) (length pressures) (length states) → ⊥) →
    month_in kind flows contents temperatures pressures states efficiency ≡ not_lent
unfolding month_in month_of feet_month_of
no_month_lem CubicMetres F C T P S e h =
    rw (not_true (are_hours (length F) (length C) (length S)) (λ z. h (as_long (length F) (length C) (length S) z)))
no_month_lem CubicFeet F C T P S e h =
    rw (not_true (are_feet_hours (length F) (length C) (length T) (length P) (length S)) (λ z. h (all_as_long (length F) (length C) (length T) (length P) (length S) z)))

module _ (kind : Kind) (input : List ℕ) (f c t p : ℕ) where
  -- the states that are left
  abbrev left : ℕ
  left = length input - value_at kind (f + c + t + p)

  lent_none : (Long kind f c t p left → ⊥) → lent_of kind input f c t p ≡ not_lent
  unfolding lent_of
  lent_none h =
      no_month_lem kind (floats_at input (value_at kind 0) f) (floats_at input (value_at kind f) c) (floats_at input (value_at kind (f + c)) t) (floats_at input (value_at kind (f + c + t)) p)
      (drop (value_at kind (f + c + t + p)) input) (number_at input 2 2)
      (rw (
        floats_length input (value_at kind 0) f,
        floats_length input (value_at kind f) c,
        floats_length input (value_at kind (f + c)) t,
        floats_length input (value_at kind (f + c + t)) p,
        length-drop (value_at kind (f + c + t + p)) input,
      ) h)

fit : (a b n : ℕ) → AsLong a b n → (leb a most_hours && leb b most_hours) ≡ false → ⊥
fit a b n h e =
    let x : leb a most_hours ≡ true = le-leb a most_hours (omega (arith, h.0, h.2)) in
    let y : leb b most_hours ≡ true = le-leb b most_hours (omega (arith, h.1, h.2)) in
    let z : ◌≡◌ {A = Bool} true false = sym (rw (x, y)) ∙ e in
    let w : ◌≡◌ {A = ℕ} 0 1 = cc in absurd (omega arith)

-- more flows or contents than a month has hours, and more temperatures or pressures
pub readings_none : (kind : Kind) (input : List ℕ) (f c t p : ℕ) → (leb f most_hours && leb c most_hours) ≡ false → lent_of kind input f c t p ≡ not_lent
readings_none CubicMetres input f c t p e = lent_none CubicMetres input f c t p (λ h. fit f c (left CubicMetres input f c t p) h e)
readings_none CubicFeet input f c t p e = lent_none CubicFeet input f c t p (λ h. fit f c (left CubicFeet input f c t p) h.0 e)

pub others_none :
    (kind : Kind) (input : List ℕ) (f c t p : ℕ) → Has kind t p → (leb t most_hours && leb p most_hours) ≡ false → lent_of kind input f c t p ≡ not_lent
others_none CubicMetres input f c t p has e = absurd (fit t p 0 (has.0, has.1, omega arith) e)
others_none CubicFeet input f c t p has e = lent_none CubicFeet input f c t p (λ h. fit t p (left CubicFeet input f c t p) h.1 e)

too_long : (kind : Kind) (length f c t p s : ℕ) → Has kind t p → longest_bytes < length → length ≡ value_at kind (f + c + t + p) + s → Long kind f c t p (length - value_at kind (f + c + t + p)) → ⊥
too_long CubicMetres length f c t p s has long whole h = omega (arith, has.0, has.1, h.0, h.1, h.2)
too_long CubicFeet length f c t p s has long whole h = omega (arith, h.0.0, h.0.1, h.0.2, h.1.0, h.1.1)

picked : (b : Bool) (a : Result Methane Refusal) → (b ≡ true → a ≡ not_lent) → cond b a not_lent ≡ not_lent
picked true a h = h refl
picked false a h = refl

whole_none : (kind : Kind) (input : List ℕ) (f c t p s : ℕ) → Has kind t p → longest_bytes < length input → whole_of kind input f c t p s ≡ not_lent
unfolding whole_of
whole_none kind input f c t p s has long =
    let said = value_at kind (f + c + t + p) + s in
    picked (eqb (length input) said) (lent_of kind input f c t p)
    (λ e. lent_none kind input f c t p (too_long kind (length input) f c t p s has long (eqb-true (length input) said e)))

counted_none : (kind : Kind) (input : List ℕ) → longest_bytes < length input → counted_of kind input ≡ not_lent
counted_none CubicMetres input long = whole_none CubicMetres input (count_at input 0) (count_at input 1) 0 0 (count_at input 2) (refl, refl) long
counted_none CubicFeet input long = whole_none CubicFeet input (count_at input 0) (count_at input 1) (count_at input 2) (count_at input 3) (count_at input 4) tt long

either_none : (b : Bool) {x y : Result Methane Refusal} → x ≡ not_lent → y ≡ not_lent → cond b x y ≡ not_lent
either_none true p q = p
either_none false p q = q

long_refused : (input : List ℕ) → longest_bytes < length input → stated_of input ≡ cond (is_other_mark input) (Err (refusal UnknownMark 0)) not_lent
unfolding stated_of
long_refused input long =
    ap (cond (is_other_mark input) (Err (refusal UnknownMark 0)))
    (either_none (is_mark (code "F") input) (counted_none CubicFeet input long) (counted_none CubicMetres input long))

module _ (input more : List ℕ) (long : longest_bytes < length input) where
  longer : longest_bytes < length (input ++ more)
  longer = omega (arith, length-append input more)

  same_mark : is_other_mark (input ++ more) ≡ is_other_mark input
  same_mark =
      rw (
        get_or-append input more 0 0 (omega arith),
        get_or-append input more 0 1 (omega arith),
        le-leb 2 (length input) (omega arith),
        le-leb 2 (length (input ++ more)) (omega (arith, longer)),
      )

  -- what follows such an input changes nothing
  pub nothing_after : stated_of (input ++ more) ≡ stated_of input
  nothing_after =
      long_refused (input ++ more) longer ∙ ap (λ (b : Bool). cond b (Err (refusal UnknownMark 0)) not_lent) same_mark ∙ sym (long_refused input long)
