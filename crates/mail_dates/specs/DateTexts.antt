-- The texts of dates (RFC 5322, 3.3: date-time, with the obsolete forms of 4.3).
use Rattle.std.specs.Prelude.{◌≡◌, ℕ, ◌⊎◌, Option, Some, List, [], pos}
use Rattle.jiff_core.specs.Calendar.{IsCivilDate}
use Rattle.mail_dates.specs.declared.date_time.DateTime.{DateTime}
use Rattle.mail_dates.specs.Pieces.{IsDatePiece}
use Rattle.mail_dates.specs.Words.{day_of, month_of, year_of, weekday_of, two_digits, mark_of}
use Rattle.mail_dates.specs.Zones.{zone_of}

-- the first piece of the text means this value, and the rest follows it
pub record ReadsPiece {A : Type 0} (means : List ℕ → Option A) (text : List ℕ) (value : A) (rest : List ℕ) : Type 0 where
  pub word : List ℕ
  pub cut : IsDatePiece text word rest
  pub is : means word ≡ Some value

-- day-name ","
pub record IsDayName (text rest : List ℕ) : Type 0 where
  pub weekday : ℕ
  pub after : List ℕ
  pub name : ReadsPiece weekday_of text weekday after
  pub comma : ReadsPiece (mark_of 44) after 44 rest

-- day month year
pub record IsDate (text : List ℕ) (year month day : ℕ) (rest : List ℕ) : Type 0 where
  pub after_day : List ℕ
  pub after_month : List ℕ
  pub day_is : ReadsPiece day_of text day after_day
  pub month_is : ReadsPiece month_of after_day month after_month
  pub year_is : ReadsPiece year_of after_month year rest

-- ":" second
pub record IsSecond (text : List ℕ) (second : ℕ) (rest : List ℕ) : Type 0 where
  pub after : List ℕ
  pub colon : ReadsPiece (mark_of 58) text 58 after
  pub second_is : ReadsPiece (two_digits 60) after second rest

-- hour ":" minute, and a second or 0
pub record IsTime (text : List ℕ) (hour minute second : ℕ) (rest : List ℕ) : Type 0 where
  pub after_hour : List ℕ
  pub after_colon : List ℕ
  pub after_minute : List ℕ
  pub hour_is : ReadsPiece (two_digits 23) text hour after_hour
  pub colon : ReadsPiece (mark_of 58) after_hour 58 after_colon
  pub minute_is : ReadsPiece (two_digits 59) after_colon minute after_minute
  pub seconds : ((second ≡ 0) × (rest ≡ after_minute)) ⊎ IsSecond after_minute second rest

-- [ day-name "," ] date time zone, and nothing else
pub record IsDateText (text : List ℕ) (date : DateTime) : Type 0 where
  pub start : List ℕ
  pub after_date : List ℕ
  pub after_time : List ℕ
  pub after_zone : List ℕ
  pub day_name : (start ≡ text) ⊎ IsDayName text start
  pub date_is : IsDate start date.year date.month date.day after_date
  pub time_is : IsTime after_date date.hour date.minute date.second after_time
  pub zone_is : ReadsPiece zone_of after_time date.zone after_zone
  pub over : IsDatePiece after_zone [] []
  pub civil : IsCivilDate (pos date.year) date.month date.day
