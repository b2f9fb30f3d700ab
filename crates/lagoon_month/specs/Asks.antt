-- What the functions ask of their callers, so that no product or sum passes 64 bits. They say nothing of what the figures are.
use Rattle.std.specs.Prelude.{ℕ, ◌^◌}

-- the most that the twelve heads of a year can sum to
abbrev pub heads_most : ℕ
heads_most = 1200000

-- the most that a month can enter within 01's ranges
abbrev pub entered_most : ℕ
entered_most = 99200000000

-- what the 120 months of the crediting period can enter stays below it
abbrev pub grams_most : ℕ
grams_most = 2 ^ 44
