-- What a C caller is handed for each answer: 01's number and place beside the figures. Number 0 says that nothing was refused; a refusal
-- gives number and place, and no figures (01, "Refusal numbers").
use Rattle.std.specs.Prelude.{ℕ, Option, Some, None, Result, Ok, Err}
use mathlib.Core.{Bool.Bool, Bool.true, Bool.false, Bool.cond, List.List}
use lib.{Dec.eqb, IntN.pos, ListN.length}
use Rattle.book.specs.Book.{book_bytes, empty_book}
use Rattle.refusals.specs.Refusal.{number_of}
use Rattle.refusals.specs.declared.Refusal.{Refusal}
use Rattle.units.specs.Grams.{solids, co2e}
use Rattle.units.specs.declared.methane.Methane.{Methane}
use Rattle.year.specs.declared.Figures.{Figures}
use Rattle.meter_series.specs.Series.{is_recorded, amount}
use Rattle.meter_hour.specs.declared.Recorded.{Recorded}
use Rattle.cabinet.specs.declared.{CabinetPosted.CabinetPosted, CabinetYear.CabinetYear, CabinetMonth.CabinetMonth, CabinetFeetHour.CabinetFeetHour, CabinetReading.CabinetReading}

-- lent memory of a book's size
abbrev pub sized : List ℕ → Bool
sized memory = eqb (length memory) book_bytes

-- which is made an empty book; any other is left as it is
abbrev pub emptied : List ℕ → List ℕ
emptied memory = cond (sized memory) empty_book memory

abbrev pub posted_of : Result Unit Refusal → CabinetPosted
posted_of (Ok taken) = record { number = 0; place = 0 }
posted_of (Err refusal) = record { number = number_of refusal.reason; place = refusal.place }

-- a year: number and place beside its figures
abbrev pub year_by : ℕ → ℕ → Figures → CabinetYear
year_by number place figures =
    record {
      number = number;
      place = place;
      entered = figures.entered.0;
      degraded = figures.degraded.0;
      removed = figures.removed.0;
      carried = figures.carried.0;
      baseline = figures.baseline.0;
      project_methane = figures.project_methane.0;
      metered = figures.metered.0;
      net = figures.net;
      credited = figures.credited;
    }

-- no figures: all are 0
abbrev pub no_figures : Figures
no_figures = record { entered = solids 0; degraded = solids 0; removed = solids 0; carried = solids 0; baseline = co2e 0; project_methane = co2e 0; metered = co2e 0; net = pos 0; credited = 0 }

abbrev pub year_of : Result Figures Refusal → CabinetYear
year_of (Ok figures) = year_by 0 0 figures
year_of (Err refusal) = year_by (number_of refusal.reason) refusal.place no_figures

abbrev pub month_of : Result Methane Refusal → CabinetMonth
month_of (Ok methane) = record { number = 0; place = 0; destroyed = methane.0 }
month_of (Err refusal) = record { number = number_of refusal.reason; place = refusal.place; destroyed = 0 }

-- one hour in cubic feet has no number of its own: where it is not taken, its month gives refusal 11. A value that is missing is said to be, and counts 0.
abbrev pub feet_hour_of : Option Recorded → CabinetFeetHour
feet_hour_of (Some recorded) =
    record { taken = true; has_flow = is_recorded recorded.flow; has_content = is_recorded recorded.content; flow = amount recorded.flow; content = amount recorded.content }
feet_hour_of None = record { taken = false; has_flow = false; has_content = false; flow = 0; content = 0 }

-- one reading has no number of its own: a month gives refusal 11 for it, at its hour
abbrev pub reading_of : Option ℕ → CabinetReading
reading_of (Some whole) = record { taken = true; whole = whole }
reading_of None = record { taken = false; whole = 0 }
