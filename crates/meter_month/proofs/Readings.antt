-- An array that holds what a month recorded, cut at the month's end, is the series of it, since past that end nothing is recorded.
-- Assumes nothing.
use Rattle.std.proofs.Common.{◌≡◌, ℕ, ◌≤◌, List, Option, None, length, take, ap, sym, ◌∙◌}
use mathlib.Core.Path.{fun_ext}
use lib.ListN.{get_or-eq_default}
use lib.Seq.{get_or-take, length-take-le}
use Rattle.meter_series.specs.Series.{series}
use Rattle.meter_series.proofs.Arrays.{agree}
use Rattle.meter_hour.specs.declared.Recorded.{Recorded}
use Rattle.meter_month.specs.Month.{recorded}
use Rattle.meter_month.specs.Asks.{Holds}
use Rattle.meter_month.proofs.EachKind.{neither}

pub cut :
    (part : Option Recorded → Option ℕ) (hour : ℕ → Option Recorded) (n : ℕ) →
    part neither ≡ None → ((h : ℕ) → n ≤ h → hour h ≡ neither) →
    (l : List (Option ℕ)) → n ≤ length l → Holds l n (recorded part hour) → series (take n l) ≡ recorded part hour
cut part hour n none past l long holds =
    fun_ext
    (agree (series (take n l)) (recorded part hour) n
    (λ h b. get_or-take n l h None b ∙ holds h b)
    (λ h b. get_or-eq_default (take n l) None (rw (length-take-le n l long) b))
    (λ h b. sym (ap part (past h b) ∙ none)))
