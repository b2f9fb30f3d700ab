-- What `filled` is inside the month and past its end.
-- Assumes nothing.
use Rattle.std.specs.Prelude.{Option, Some, None}
use Prim.Native.Nat.{ℕ, ◌≤◌, ◌<◌}
use mathlib.Core.Path.{◌≡◌, refl, sym, ◌∙◌}
use mathlib.Core.Bool.{true, false, true≢false}
use borrow.Author.Tests.{lt-ltb, le-ltb}
use Rattle.meter_series.specs.Series.{is_recorded}
use Rattle.meter_gaps.specs.Filling.{start_of, fill_from, or_else, filled}

or_known : (v f g : Option ℕ) → (is_recorded v ≡ false → f ≡ g) → or_else v f ≡ or_else v g
or_known (Some x) f g known = refl
or_known None f g known = known refl

-- what an hour has where it is recorded, and where it is missing
or_recorded : (v f : Option ℕ) → is_recorded v ≡ true → v ≡ or_else v f
or_recorded (Some x) f there = refl
or_recorded None f there = absurd (true≢false (sym there))

or_missing : (v f : Option ℕ) → is_recorded v ≡ false → f ≡ or_else v f
or_missing (Some x) f missing = absurd (true≢false missing)
or_missing None f missing = refl

module _ (s : ℕ → Option ℕ) (n h : ℕ) where
  pub filled_here : (f : Option ℕ) → (is_recorded (s h) ≡ false → f ≡ fill_from s n (start_of s h)) → h < n → or_else (s h) f ≡ filled s n h
  unfolding filled
  filled_here f known l = rw (lt-ltb h n l) (or_known (s h) f (fill_from s n (start_of s h)) known)

  pub filled_recorded : is_recorded (s h) ≡ true → h < n → s h ≡ filled s n h
  filled_recorded there l =
      or_recorded (s h) None there ∙ filled_here None (λ missing. absurd (true≢false (sym there ∙ missing))) l

  pub filled_missing : (f : Option ℕ) → is_recorded (s h) ≡ false → f ≡ fill_from s n (start_of s h) → h < n → f ≡ filled s n h
  filled_missing f missing fills l = or_missing (s h) f missing ∙ filled_here f (λ m. fills) l

  pub filled_past : n ≤ h → None ≡ filled s n h
  unfolding filled
  filled_past l = rw (le-ltb h n l)
