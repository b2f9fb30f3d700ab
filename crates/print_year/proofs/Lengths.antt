-- How long a year's lines are, and that a place from which a text has room is in the page. Assumes nothing.
use mathlib.Core.Path.{◌≡◌}
use Prim.Native.Nat.{ℕ, ◌+◌, ◌≤◌}
use native.Mathlib.Omega.{arith}
use lib.ListN.{length, length-append}
use Rattle.year.specs.declared.Figures.{Figures}
use Rattle.print_page.specs.Number.{decimal, signed}
use Rattle.print_year.specs.Text.{heading_text, solids_text, grams_text, tonnes_text, year_text}

pub year_length : (year : ℕ) → length (heading_text year) ≡ 6 + length (decimal year)
unfolding heading_text
year_length year = simp length-append (omega arith)

pub solids_length :
    (f : Figures) → length (solids_text f)
    ≡ 37 + length (decimal f.entered.0) + length (decimal f.degraded.0) + length (decimal f.removed.0) + length (decimal f.carried.0)
unfolding solids_text
solids_length f = simp length-append (omega arith)

pub grams_length :
    (f : Figures) → length (grams_text f)
    ≡ 28 + length (decimal f.baseline.0) + length (decimal f.project_methane.0) + length (decimal f.metered.0)
unfolding grams_text
grams_length f = simp length-append (omega arith)

pub tonnes_length : (f : Figures) → length (tonnes_text f) ≡ 15 + length (signed f.net) + length (decimal f.credited)
unfolding tonnes_text
tonnes_length f = simp length-append (omega arith)

pub lines_length : (year : ℕ) (f : Figures) → length (year_text year f) ≡ length (heading_text year) + length (solids_text f) + length (grams_text f) + length (tonnes_text f)
unfolding year_text
lines_length year f = simp length-append (omega arith)

pub begins : (at size : ℕ) {bytes : ℕ} → at + size ≤ bytes → at ≤ bytes
begins at size room = omega arith
