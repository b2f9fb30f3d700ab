-- What every program prints (01, "Figures to check"): lines of words with figures after them. Assumes nothing.
use Prim.Native.{Nat.ℕ, String.String}
use Rattle.std.specs.Prelude.{List, ◌++◌}
use Rattle.print_page.specs.Number.{word, decimal}

-- a word and the figure after it
abbrev pub figure : String → ℕ → List ℕ
figure name n = word name ++ decimal n
