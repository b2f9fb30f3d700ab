-- What the functions of this crate ask of each other.
use Rattle.std.specs.Prelude.{ℕ, ◌<◌, ◌^◌, ◌≡◌, List}
use Rattle.meter_hour.specs.declared.Kind.{Kind, TheVariants.CubicMetres, TheVariants.CubicFeet}
use Rattle.meter_bytes.specs.declared.Counts.{Counts}
use Rattle.meter_bytes.specs.Format.{count_at}

-- a month in cubic metres has no temperatures and no pressures
abbrev pub Has : Kind → ℕ → ℕ → Type 0
Has CubicMetres temperatures pressures = (temperatures ≡ 0) × (pressures ≡ 0)
Has CubicFeet temperatures pressures = Unit {0}

-- a count of two bytes
abbrev pub Count : ℕ → Type 0
Count n = n < 2 ^ 16

-- the counts of a kind's header, as `counted_of` takes them
abbrev pub counts_of : Kind → List ℕ → Counts
counts_of CubicMetres input = record { flows = count_at input 0; contents = count_at input 1; temperatures = 0; pressures = 0; states = count_at input 2 }
counts_of CubicFeet input =
    record { flows = count_at input 0; contents = count_at input 1; temperatures = count_at input 2; pressures = count_at input 3; states = count_at input 4 }
