-- What a float between two whole numbers says of its parts, and what of its parts says that it is.
-- Assumes nothing.
use Rattle.std.proofs.Common.{◌≡◌, ℕ, ◌*◌, ◌≤◌, true, false, T, eqb, leb, ℤ, le→leb, eqb→eq, leb→le}
use lib.Ieee.{fin, up, down}
use lib.Ieee.Fits.{and_i, and_l, and_r, eq→eqb}
use Rattle.meter_reading.specs.Exact.{is_between}

module _ (a b m : ℕ) (e : ℤ) where
  pub inside : a * down e ≤ m * up e → m * up e ≤ b * down e → T (is_between a b (fin false m e))
  unfolding is_between
  inside l h = and_i (leb (a * down e) (m * up e)) (leb (m * up e) (b * down e)) (le→leb (a * down e) (m * up e) l) (le→leb (m * up e) (b * down e) h)

  pub low : T (is_between a b (fin false m e)) → a * down e ≤ m * up e
  unfolding is_between
  low u = leb→le (a * down e) (m * up e) (and_l (leb (a * down e) (m * up e)) (leb (m * up e) (b * down e)) u)

  pub high : T (is_between a b (fin false m e)) → m * up e ≤ b * down e
  unfolding is_between
  high u = leb→le (m * up e) (b * down e) (and_r (leb (a * down e) (m * up e)) (leb (m * up e) (b * down e)) u)

  -- below zero there is minus zero alone
  pub zero_inside : a ≡ 0 → m ≡ 0 → T (is_between a b (fin true m e))
  unfolding is_between
  zero_inside l z = and_i (eqb a 0) (eqb m 0) (eq→eqb l) (eq→eqb z)

  pub zero_low : T (is_between a b (fin true m e)) → a ≡ 0
  unfolding is_between
  zero_low u = eqb→eq a 0 (and_l (eqb a 0) (eqb m 0) u)

  pub is_zero : T (is_between a b (fin true m e)) → m ≡ 0
  unfolding is_between
  is_zero u = eqb→eq m 0 (and_r (eqb a 0) (eqb m 0) u)
