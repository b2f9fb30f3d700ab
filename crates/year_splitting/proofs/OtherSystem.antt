-- Lines of another system than a lagoon (Equation 5.4): each year is worked out by itself, and two lines that divide a line's manure never state more than it.
-- Assumes nothing.
use Prim.Native.Nat.{ℕ, ◌+◌, ◌*◌, ◌≤◌}
use mathlib.Core.List.{List}
use mathlib.Core.Path.{◌≡◌, refl, ap, ◌∙◌}
use native.Mathlib.Nat.{add-mul, mul-le-mul_right}
use native.Mathlib.Omega.{arith}
use lib.Signed.{◌≤ℤ◌}
use Rattle.tonnes.proofs.Nearest.{ordered}
use Rattle.units.specs.Grams.{density, potential, b0_rule_of}
use Rattle.units.specs.declared.solids.Solids.{Solids}
use Rattle.std.specs.Prelude.{Some}
use Rattle.book_herd.specs.Herd.{system_of}
use Rattle.year_lines.specs.Lines.{anaerobic, daily_of, days_in_year, converted_of}
use Rattle.year_lines.proofs.Parts.{LineOf}
use Rattle.year_lines.proofs.BySystem.{other_is}
use Rattle.year_splitting.proofs.Lines.{numbers_of, heads_in, ManureDivided, SameKind, share_first, baseline_in}
use Rattle.year_splitting.proofs.Others.{line_at}
use Rattle.year_splitting.proofs.Filings.{OneFiling, net_in, net_within, differ}

abbrev daily_in : LineOf → ℕ → ℕ
daily_in line year = daily_of (heads_in line year) (numbers_of line)

abbrev converted_in : LineOf → ℕ → Solids
converted_in line year = converted_of (heads_in line year) (numbers_of line)

-- a line of the same kind of animal in a system of the same conversion factor
pub record SameSystem (part whole : LineOf) : Type 0 where
  pub kind : SameKind part whole
  pub conversion : (numbers_of part).conversion ≡ (numbers_of whole).conversion

-- two lines that divide a line's manure of a year between them
pub record SplitYear (whole first second : LineOf) (year : ℕ) : Type 0 where
  pub system : ℕ
  pub there : system_of whole.book whole.line ≡ Some system
  pub no_lagoon : system ≡ anaerobic → ⊥
  pub first_system : SameSystem first whole
  pub second_system : SameSystem second whole
  pub divided : ManureDivided whole first second year

baseline_is :
    (line : LineOf) (year system : ℕ) → system_of line.book line.line ≡ Some system → (system ≡ anaerobic → ⊥) →
    (b0_rule_of (converted_in line year) (numbers_of line).b0 potential).0 ≡ baseline_in line year
baseline_is line year system there no_lagoon =
    ap (λ s. s.baseline.0) (other_is line.book year line.line refl there refl no_lagoon refl refl)

-- of each rounding down: two parts by themselves leave no more than the whole
rule_no_more :
    (whole first second : Solids) {b0 b0-1 b0-2 : ℕ} → b0-1 ≡ b0 → b0-2 ≡ b0 → first.0 + second.0 ≤ whole.0 →
    (b0_rule_of first b0-1 potential).0 + (b0_rule_of second b0-2 potential).0 ≤ (b0_rule_of whole b0 potential).0
unfolding b0_rule_of
rule_no_more whole first second {b0 = b0} same-1 same-2 less =
    rw (same-1, same-2) (omega (arith, simp add-mul at (mul-le-mul_right (density * potential) (mul-le-mul_right b0 less))))

module _ (whole first second : LineOf) (year : ℕ) (split : SplitYear whole first second year) where
  daily_no_more : daily_in first year + daily_in second year ≤ daily_in whole year
  daily_no_more =
      let a = split.first_system.kind in
      let b = split.second_system.kind in
      rw (
        a.solids,
        a.mass,
        b.solids,
        b.mass,
        share_first (heads_in whole year) (numbers_of whole).solids (numbers_of whole).mass (numbers_of whole).share,
        share_first (heads_in first year) (numbers_of whole).solids (numbers_of whole).mass (numbers_of first).share,
        share_first (heads_in second year) (numbers_of whole).solids (numbers_of whole).mass (numbers_of second).share,
        ← split.divided,
      )
      (simp add-mul (omega arith))

  converted_no_more :
      (converted_in first year).0 + (converted_in second year).0 ≤
      (converted_in whole year).0
  unfolding converted_of
  converted_no_more =
      let year-no-more :
      daily_in first year * days_in_year + daily_in second year * days_in_year ≤
      daily_in whole year * days_in_year = omega (arith, daily_no_more) in
      rw (split.first_system.conversion, split.second_system.conversion)
      (omega (arith, simp add-mul at (mul-le-mul_right (numbers_of whole).conversion year-no-more)))

  pub never_ahead : baseline_in first year + baseline_in second year ≤ baseline_in whole year
  never_ahead =
      let a = split.first_system.kind in
      let b = split.second_system.kind in
      omega (
        arith,
        baseline_is whole year split.system split.there split.no_lagoon,
        baseline_is first year split.system (a.system ∙ split.there) split.no_lagoon,
        baseline_is second year split.system (b.system ∙ split.there) split.no_lagoon,
        rule_no_more (converted_in whole year) (converted_in first year) (converted_in second year) a.b0 b.b0 converted_no_more,
      )

-- So in one filing two such lines never have a tonne more, in any year.
pub no_tonne_more :
    (whole split : List ℕ) (line first second year : ℕ) → SplitYear (line_at whole line) (line_at split first) (line_at split second) year →
    OneFiling whole split line first second year → net_in split year ≤ℤ net_in whole year
no_tonne_more whole split line first second year lines filing =
    let less = never_ahead (line_at whole line) (line_at split first) (line_at split second) year lines in
    let grams = differ whole split line first second year filing in
    ordered _ _ (omega (arith, (net_within whole split year 0 filing.operator (omega arith)).most))
