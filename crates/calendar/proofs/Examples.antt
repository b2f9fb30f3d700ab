-- Some months of real calendars, computed. Assumes nothing.
use mathlib.Core.Path.{◌≡◌, refl}
use mathlib.Core.Bool.{false}
use Rattle.calendar.specs.Days.{leap_of, february_of, lengths_of, length_of, gone_of, days_of}

pub examples :
    -- January and February 2011, and February 2012, the fourteenth month from January 2011
    (days_of 2011 1 1 ≡ 31)
    × (days_of 2011 1 2 ≡ 28)
    × (days_of 2011 1 14 ≡ 29)
    -- the first month itself: February 2012, and February 2000, which 400 divides
    × (days_of 2012 2 1 ≡ 29)
    × (days_of 2000 2 1 ≡ 29)
    -- the last month that can be asked for, November 2099
    × (days_of 2089 12 120 ≡ 30)
    -- 4 and 100 divide 2100, and 400 does not
    × (leap_of 2100 ≡ false)
unfolding leap_of february_of lengths_of length_of gone_of days_of
examples = (refl, refl, refl, refl, refl, refl, refl)
