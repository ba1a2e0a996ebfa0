-- Texts of dates, words in them, and near misses.
use Rattle.std.proofs.Common.{◌≡◌, ℕ, Some, None, [], refl, ℤ, pos, neg_ℤ, arith, rules}
use Rattle.std.specs.Prelude.{codes}
use Rattle.jiff_core.specs.Calendar.{IsCivilDate, days_from_civil, day_count, days_of_years, days_of_months, weekday_number}
use Rattle.mail_dates.specs.declared.date_time.DateTime.{DateTime}
use Rattle.mail_dates.specs.declared.part.DatePart.TheVariants as P
use Rattle.mail_dates.specs.DateTexts.{IsDateText}
use Rattle.mail_dates.specs.Pieces.{goes_on}
use Rattle.mail_dates.specs.Words.{number_in, two_digits, day_of, year_of, is_named, month_of, weekday_of, mark_of}
use Rattle.mail_dates.specs.Zones.{offset_of, numeric_of, hours_west, named_of, zone_of}
use Rattle.mail_dates.specs.Reading.{next_state, after_gap, cut, piece, reads, after_name, day_from, second_from, time_from, parts_from}
use Rattle.mail_dates.specs.Parts.{part_text, part_named}
use Rattle.mail_dates.proofs.ReadingLaws.{read_is, unread_is, only_text}

abbrev date : ℕ → ℕ → ℕ → ℕ → ℕ → ℕ → ℤ → DateTime
date y m d h mi s z = record { year = y; month = m; day = d; hour = h; minute = mi; second = s; zone = z }

-- each name of a zone, and those that are UTC
zone_names : (zone_of (codes "EST") ≡ Some (neg_ℤ (pos 300))) × ((zone_of (codes "edt") ≡ Some (neg_ℤ (pos 240)))
    × ((zone_of (codes "CST") ≡ Some (neg_ℤ (pos 360))) × ((zone_of (codes "Cdt") ≡ Some (neg_ℤ (pos 300)))
    × ((zone_of (codes "MST") ≡ Some (neg_ℤ (pos 420))) × ((zone_of (codes "MDT") ≡ Some (neg_ℤ (pos 360)))
    × ((zone_of (codes "PST") ≡ Some (neg_ℤ (pos 480))) × ((zone_of (codes "PDT") ≡ Some (neg_ℤ (pos 420)))
    × ((zone_of (codes "UT") ≡ Some (pos 0)) × ((zone_of (codes "GMT") ≡ Some (pos 0)) × ((zone_of (codes "A") ≡ Some (pos 0)) × (zone_of (codes "CEST") ≡ Some (pos 0))))))))))))
unfolding zone_of named_of hours_west is_named
zone_names = (refl, (refl, (refl, (refl, (refl, (refl, (refl, (refl, (refl, (refl, (refl, refl)))))))))))

-- numbers of zones, east and west, and what is none
zone_numbers : (zone_of (codes "+0200") ≡ Some (pos 120)) × ((zone_of (codes "-0330") ≡ Some (neg_ℤ (pos 210))) × ((zone_of (codes "-0000") ≡ Some (pos 0))
    × ((zone_of (codes "+2359") ≡ Some (pos 1439)) × ((zone_of (codes "+2400") ≡ None) × ((zone_of (codes "+0060") ≡ None)
    × ((zone_of (codes "+200") ≡ None) × (numeric_of (codes "GMT") ≡ None)))))))
unfolding zone_of numeric_of offset_of two_digits number_in
zone_numbers = (refl, (refl, (refl, (refl, (refl, (refl, (refl, refl)))))))

-- years of two digits, of three and of more
years : (year_of (codes "00") ≡ Some 2000) × ((year_of (codes "49") ≡ Some 2049) × ((year_of (codes "50") ≡ Some 1950) × ((year_of (codes "99") ≡ Some 1999)
    × ((year_of (codes "126") ≡ Some 2026) × ((year_of (codes "2026") ≡ Some 2026) × ((year_of (codes "02026") ≡ Some 2026) × ((year_of (codes "10000") ≡ None) × (year_of (codes "7") ≡ None))))))))
unfolding year_of number_in
years = (refl, (refl, (refl, (refl, (refl, (refl, (refl, (refl, refl))))))))

-- names of months and days, in any case, and not one letter more
names : (month_of (codes "jAN") ≡ Some 1) × ((month_of (codes "Dec") ≡ Some 12) × ((month_of (codes "Sept") ≡ None) × ((weekday_of (codes "SUN") ≡ Some 0) × (weekday_of (codes "Sunday") ≡ None))))
unfolding month_of weekday_of is_named
names = (refl, (refl, (refl, (refl, refl))))

-- 29 February was in 2000 and not in 1900, and there is no 30th
leap_days : IsCivilDate (pos 2000) 2 29 × ((IsCivilDate (pos 1900) 2 29 → ⊥) × (IsCivilDate (pos 2000) 2 30 → ⊥))
leap_days = (search rules, ((λ is. omega (arith, is.2.1)), (λ is. omega (arith, is.2.1))))

-- RFC 5322, A.1.1
first_read : parts_from (codes "Fri, 21 Nov 1997 09:55:06 -0600") ≡ Some (date 1997 11 21 9 55 6 (neg_ℤ (pos 360)), [])
unfolding goes_on number_in two_digits day_of year_of is_named month_of weekday_of mark_of offset_of numeric_of hours_west named_of zone_of next_state after_gap cut piece reads after_name day_from second_from time_from parts_from
first_read = refl

first_example : IsDateText (codes "Fri, 21 Nov 1997 09:55:06 -0600") (date 1997 11 21 9 55 6 (neg_ℤ (pos 360)))
first_example = read_is (codes "Fri, 21 Nov 1997 09:55:06 -0600") (date 1997 11 21 9 55 6 (neg_ℤ (pos 360))) first_read (search rules)

-- RFC 5322, A.6.2: an obsolete form; comments, one in another; and another day's name
obsolete : (parts_from (codes "21 Nov 97 09:55:06 GMT") ≡ Some (date 1997 11 21 9 55 6 (pos 0), []))
    × ((parts_from (codes "21(a (b) c)Nov 1997 09:55 ut (d)") ≡ Some (date 1997 11 21 9 55 0 (pos 0), codes " (d)"))
    × (parts_from (codes "Mon, 21 Nov 1997 09:55 -0600") ≡ Some (date 1997 11 21 9 55 0 (neg_ℤ (pos 360)), [])))
unfolding goes_on number_in two_digits day_of year_of is_named month_of weekday_of mark_of offset_of numeric_of hours_west named_of zone_of next_state after_gap cut piece reads after_name day_from second_from time_from parts_from
obsolete = (refl, (refl, refl))

-- a comment that isn't closed, an hour of one digit, a year and an hour that run together, a zone of five digits: no dates
unread : (parts_from (codes "21 Nov (a (b) 1997 09:55 GMT") ≡ None) × ((parts_from (codes "21 Nov 1997 9:55 GMT") ≡ None)
    × ((parts_from (codes "21 Nov 199709:55 GMT") ≡ None) × (parts_from (codes "21 Nov 1997 09:55 +00000") ≡ None)))
unfolding goes_on number_in two_digits day_of year_of is_named month_of weekday_of mark_of offset_of numeric_of hours_west named_of zone_of next_state after_gap cut piece reads after_name day_from second_from time_from parts_from
unread = (refl, (refl, (refl, refl)))

no_date : (other : DateTime) → IsDateText (codes "21 Nov (a (b) 1997 09:55 GMT") other → ⊥
no_date other is = unread_is (codes "21 Nov (a (b) 1997 09:55 GMT") other unread.0 is

-- 30 February is no date
february_read : parts_from (codes "30 Feb 2000 09:55 GMT") ≡ Some (date 2000 2 30 9 55 0 (pos 0), [])
unfolding goes_on number_in two_digits day_of year_of is_named month_of weekday_of mark_of offset_of numeric_of hours_west named_of zone_of next_state after_gap cut piece reads after_name day_from second_from time_from parts_from
february_read = refl

no_february : (other : DateTime) → IsDateText (codes "30 Feb 2000 09:55 GMT") other → ⊥
no_february other is = leap_days.1.1 (only_text (codes "30 Feb 2000 09:55 GMT") (date 2000 2 30 9 55 0 (pos 0)) [] other february_read is).1.1

-- the parts of 5 October 2026, a Monday
parts : (part_text P.Date (date 2026 10 5 1 2 60 (pos 0)) ≡ codes "2026-10-05") × ((part_text P.Iso8601 (date 2026 10 5 1 2 60 (pos 0)) ≡ codes "2026-10-05T01:02:60Z")
    × ((part_text P.Iso8601 (date 2026 10 5 1 2 3 (neg_ℤ (pos 210))) ≡ codes "2026-10-05T01:02:03-03:30") × ((part_text P.Zone (date 2026 10 5 1 2 3 (neg_ℤ (pos 210))) ≡ codes "-0330")
    × ((part_text P.Std11 (date 2026 10 5 1 2 3 (pos 120)) ≡ codes "Mon, 05 Oct 2026 01:02:03 +0200") × ((part_text P.Weekday (date 2026 10 4 1 2 3 (pos 120)) ≡ codes "0")
    × ((part_named (codes "ISO8601") ≡ Some P.Iso8601) × (part_named (codes "iso") ≡ None)))))))
unfolding part_text part_named is_named days_from_civil day_count days_of_years days_of_months weekday_number
parts = (refl, (refl, (refl, (refl, (refl, (refl, (refl, refl)))))))

-- 17 November 1858 is day 0 of the Modified Julian Days
first_julian : days_from_civil (pos 1858) 11 17 ≡ neg_ℤ (pos 40587)
unfolding days_from_civil day_count days_of_years days_of_months
first_julian = refl
