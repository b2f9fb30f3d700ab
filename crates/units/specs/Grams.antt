-- Grams of volatile solids, of methane and of carbon dioxide equivalent are three units (01, "The lagoon month"). Two rules alone lead from one
-- to another: the B0 rule and the potential (01, "The year").
use Rattle.std.specs.Prelude.{ℕ, ◌*◌, ◌/◌}
use Rattle.units.specs.declared.{solids.Solids.Solids, methane.Methane.Methane, co2e.Co2e.Co2e}

abbrev pub solids : ℕ → Solids
solids grams = record { 0 = grams }

abbrev pub methane : ℕ → Methane
methane grams = record { 0 = grams }

abbrev pub co2e : ℕ → Co2e
co2e grams = record { 0 = grams }

-- parts / whole of some grams, rounded down
abbrev pub share_of : ℕ → ℕ → ℕ → ℕ
share_of grams parts whole = grams * parts / whole

-- methane's warming potential: how many times as much a gram of it warms the air as a gram of carbon dioxide (5.3, 5.10)
abbrev pub potential : ℕ
potential = 21

-- a cubic metre of methane weighs 0.68 kg (5.3), in hundredths; times the potential it is 01's 14.28
abbrev pub density : ℕ
density = 68

-- the B0 rule, B0 in hundredths: one division, rounded down
unfoldable pub b0_rule_of : Solids → ℕ → ℕ → Co2e
b0_rule_of degraded b0 warming = co2e (degraded.0 * b0 * (density * warming) / 10000)

-- the potential
abbrev pub warming_of : Methane → ℕ → Co2e
warming_of destroyed warming = co2e (warming * destroyed.0)
