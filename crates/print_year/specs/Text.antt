-- The four lines of a stated year (01, "Figures to check"): each ends with a newline. Assumes nothing.
use Rattle.std.specs.Prelude.{ℕ, List, ◌++◌}
use Rattle.year.specs.declared.Figures.{Figures}
use Rattle.print_page.specs.{Number.word, Number.signed, Text.figure}

-- line one: the year's number
unfoldable pub heading_text : ℕ → List ℕ
heading_text year = figure "year " year ++ word "\n"

-- line two: grams of volatile solids, over the anaerobic lines
unfoldable pub solids_text : Figures → List ℕ
solids_text figures =
    figure "entered " figures.entered.0 ++ figure " degraded " figures.degraded.0
    ++ figure " removed " figures.removed.0 ++ figure " carried " figures.carried.0 ++ word "\n"

-- line three: grams of carbon dioxide equivalent
unfoldable pub grams_text : Figures → List ℕ
grams_text figures = figure "baseline " figures.baseline.0 ++ figure " project " figures.project_methane.0 ++ figure " metered " figures.metered.0 ++ word "\n"

-- line four: tonnes
unfoldable pub tonnes_text : Figures → List ℕ
tonnes_text figures = word "net " ++ signed figures.net ++ figure " credited " figures.credited ++ word "\n"

-- the four lines of a stated year
unfoldable pub year_text : ℕ → Figures → List ℕ
year_text year figures = heading_text year ++ solids_text figures ++ grams_text figures ++ tonnes_text figures
