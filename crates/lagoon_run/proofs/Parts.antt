-- Demand 3: one herd against two part herds of the same system, at the same temperatures and drain marks. What is claimed; the theorem is `demand_3` of
-- Demand3.antt.
-- Assumes nothing.
use Prim.Native.Nat.{ℕ, ◌+◌, ◌≤◌}
use mathlib.Core.Path.{◌≡◌}
use Rattle.lagoon_month.specs.declared.Month.{Month}
use Rattle.lagoon_run.specs.declared.Totals.{Totals}

-- in each of the months 1 to n
abbrev pub Through : ℕ → (ℕ → Type 0) → Type 0
Through n claim = (m : ℕ) → 1 ≤ m → m ≤ n → claim m

-- the same temperature and drain mark
pub record SameLagoon (one other : Month) : Type 0 where
  pub factor : one.factor ≡ other.factor
  pub drained : one.drained ≡ other.drained

-- the entries of two parts add up to the whole's
pub record AddsUp (whole first second : Month) : Type 0 where
  pub entered : first.entered.0 + second.entered.0 ≡ whole.entered.0
  pub first_same : SameLagoon first whole
  pub second_same : SameLagoon second whole

-- entered = degraded + removed + carried
abbrev pub Conserved : Totals → Type 0
Conserved totals = totals.entered.0 ≡ totals.degraded.0 + totals.removed.0 + totals.standing.0.0

-- what demand 3 says of the whole's totals and the parts', after n months
pub record Demand3 (whole first second : Totals) (n : ℕ) : Type 0 where
  pub whole_conserved : Conserved whole
  pub first_conserved : Conserved first
  pub second_conserved : Conserved second
  pub never_below : first.degraded.0 + second.degraded.0 ≤ whole.degraded.0
  pub at_most_n_above : whole.degraded.0 ≤ first.degraded.0 + second.degraded.0 + n
