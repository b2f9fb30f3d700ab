-- The refusals (01, "Refusal numbers"): the number of each reason, and the reasons for which a request is refused, in the order in which it looks for
-- them. Assumes nothing.
use Rattle.std.specs.Prelude.{ℕ, List, [], ◌∷◌}
use Rattle.refusals.specs.declared.Reason.{Reason}
use Rattle.refusals.specs.declared.Reason.TheVariants.{NotSixteenBytes, UnknownMark, NotZero, OutOfRange, AlreadyFilled, OverShared, Lacking, NoSuchYear, NoMonth, BadHour, SumTooLarge}
use Rattle.refusals.specs.declared.Refusal.{Refusal}

-- the table's number of each
abbrev pub number_of : Reason → ℕ
-- a posted record is not sixteen bytes
number_of NotSixteenBytes = 1
-- letters that are no mark
number_of UnknownMark = 2
-- a zero byte that is not 0
number_of NotZero = 3
-- a field outside its range, or an efficiency above the whole
number_of OutOfRange = 4
-- the key is already filled
number_of AlreadyFilled = 5
-- the shares of one category sum above the whole
number_of OverShared = 7
-- the year lacks a record that it needs
number_of Lacking = 8
-- a year outside the crediting period
number_of NoSuchYear = 9
-- hours that are no month's, or lists that differ in length
number_of NoMonth = 10
-- an hour whose state or reading is bad
number_of BadHour = 11
-- a sum passes 2^63
number_of SumTooLarge = 12

-- a reason and its place
abbrev pub refusal : Reason → ℕ → Refusal
refusal reason place = record { reason = reason; place = place }

-- what posting a record looks for, in this order; what a year does; and what a meter month does
abbrev pub posting_order : List Reason
posting_order = NotSixteenBytes ∷ UnknownMark ∷ NotZero ∷ OutOfRange ∷ AlreadyFilled ∷ []

abbrev pub year_order : List Reason
year_order = NoSuchYear ∷ Lacking ∷ OverShared ∷ SumTooLarge ∷ []

abbrev pub month_order : List Reason
month_order = NoMonth ∷ OutOfRange ∷ BadHour ∷ []
