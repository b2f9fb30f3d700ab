-- That `year_bytes` hold a year's lines, or a refusal in their place. Assumes nothing.
use Prim.Native.Nat.{ℕ, ◌^◌, ◌≤◌, ◌<◌}
use native.Mathlib.Omega.{arith}
use lib.ListN.{length}
use Rattle.refusals.specs.declared.Refusal.{Refusal}
use Rattle.year.specs.declared.Figures.{Figures}
use mir.Syntax.{w64}
use mir.Val.{SFits}
use Rattle.print_refusal.specs.Text.{refusal_text}
use Rattle.print_page.proofs.Lengths.{wide, wide_signed}
use Rattle.print_refusal.proofs.Lengths.{refusal_most}
use Rattle.print_year.specs.Text.{year_text}
use Rattle.print_year.proofs.Lengths.{year_length, solids_length, grams_length, tonnes_length, lines_length}
use Rattle.print_years.specs.Page.{year_bytes}

pub refusal_fits : (refusal : Refusal) → refusal.place < 2 ^ 64 → length (refusal_text refusal) ≤ year_bytes
refusal_fits refusal place = omega (arith, refusal_most refusal place)

-- the figures as code holds them
pub record Held (f : Figures) : Type 0 where
  pub entered : f.entered.0 < 2 ^ 64
  pub degraded : f.degraded.0 < 2 ^ 64
  pub removed : f.removed.0 < 2 ^ 64
  pub carried : f.carried.0 < 2 ^ 64
  pub baseline : f.baseline.0 < 2 ^ 64
  pub project_methane : f.project_methane.0 < 2 ^ 64
  pub metered : f.metered.0 < 2 ^ 64
  pub net : SFits w64 f.net
  pub credited : f.credited < 2 ^ 64

pub year_fits : (year : ℕ) (f : Figures) → year < 2 ^ 64 → Held f → length (year_text year f) ≤ year_bytes
year_fits year f y h =
    omega (
      arith,
      lines_length year f,
      year_length year,
      wide year y,
      solids_length f,
      wide f.entered.0 h.entered,
      wide f.degraded.0 h.degraded,
      wide f.removed.0 h.removed,
      wide f.carried.0 h.carried,
      grams_length f,
      wide f.baseline.0 h.baseline,
      wide f.project_methane.0 h.project_methane,
      wide f.metered.0 h.metered,
      tonnes_length f,
      wide_signed f.net h.net,
      wide f.credited h.credited,
    )
