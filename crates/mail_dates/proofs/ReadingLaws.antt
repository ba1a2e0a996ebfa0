-- The texts of dates are those that are read so.
use Rattle.std.proofs.Common.{◌≡◌, ℕ, ◌≤◌, ◌==◌, ◌&&◌, ◌⊎◌, Bool, true, false, Option, Some, None, List, [], ◌∷◌, suc, length, nat_le, refl, ap, sym, ◌∙◌, subst, inl, inr, arith, ℤ, pos}
use Rattle.std.specs.Option.{option_map}
use Rattle.std.proofs.lemmas.Bool.{eqb-true}
use Rattle.std.proofs.lemmas.Bool.Decides.{nat_tests}
use Rattle.std.specs.Char.{eq_ignore_ascii_case}
use Rattle.octets.proofs.Lists.{some_is, some_pair, fork}
use Rattle.mail_dates.proofs.WordLemmas.{map_some, then_some, two_within, year_within, zone_within}
use Rattle.mail_dates.specs.declared.reading.Day.{Day}
use Rattle.mail_dates.specs.declared.reading.Time.{Time}
use Rattle.mail_dates.specs.declared.date_time.DateTime.{DateTime}
use Rattle.mail_dates.specs.Pieces.{IsDatePiece}
use Rattle.mail_dates.specs.Words.{day_of, month_of, year_of, weekday_of, two_digits, mark_of, is_named}
use Rattle.mail_dates.specs.Zones.{zone_of, numeric_of}
use Rattle.jiff_core.specs.Calendar.{IsCivilDate}
use Rattle.mail_dates.specs.DateTimes.{IsDateTime}
use Rattle.mail_dates.specs.DateTexts.{ReadsPiece, IsDayName, IsDate, IsSecond, IsTime, IsDateText}
use Rattle.mail_dates.specs.Reading.{piece, after_gap, cut, reads, name_then, after_name, day_from, colon_then, second_from, time_from, date_time_of, parts_from}
use Rattle.mail_dates.proofs.PieceLaws.{piece_is, piece_again}

-- what a piece means is read
pub reads_again : {A : Type 0} (means : List ℕ → Option A) (text : List ℕ) (value : A) (rest : List ℕ) → ReadsPiece means text value rest → reads means text ≡ Some (value, rest)
unfolding reads
reads_again means text value rest is = rw (piece_again text is.word rest is.cut, is.is) refl

pub reads_is : {A : Type 0} (means : List ℕ → Option A) (text : List ℕ) (value : A) (rest : List ℕ) → reads means text ≡ Some (value, rest) → ReadsPiece means text value rest
unfolding reads
reads_is means text value rest found =
    let one = then_some (λ p. option_map (λ v. (v, p.1)) (means p.0)) (piece text) (value, rest) found in
    let two = map_some (λ v. (v, one.0.1)) (means one.0.0) (value, rest) one.1.1 in
    let after : one.0.1 ≡ rest = ap (λ r. r.1) two.1.1 in
    record {
      word = one.0.0;
      cut = subst (λ (r : List ℕ). IsDatePiece text one.0.0 r) after (piece_is text one.0.0 one.0.1 one.1.0);
      is = two.1.0 ∙ ap (λ r. Some r.0) two.1.1;
    }

and_false : (b : Bool) → (b && false) ≡ false
and_false true = refl
and_false false = refl

short_none : (p q r : ℕ) → is_named [] (p ∷ (q ∷ (r ∷ []))) ≡ false
unfolding is_named
short_none p q r = refl

short_one : (a p q r : ℕ) → is_named (a ∷ []) (p ∷ (q ∷ (r ∷ []))) ≡ false
unfolding is_named
short_one a p q r = and_false _

short_two : (a b p q r : ℕ) → is_named (a ∷ (b ∷ [])) (p ∷ (q ∷ (r ∷ []))) ≡ false
unfolding is_named
short_two a b p q r = rw (and_false (eq_ignore_ascii_case b q)) (and_false _)

long : (more : List ℕ) → nat_le (suc (suc (suc (length more)))) 2 ≡ false
long more = grind (arith, nat_tests)

-- a day's number is no day's name
number_no_name : (word : List ℕ) (day : ℕ) → day_of word ≡ Some day → weekday_of word ≡ None
unfolding weekday_of day_of
number_no_name [] day is = simp (short_none) refl
number_no_name (a ∷ []) day is = simp (short_one) refl
number_no_name (a ∷ (b ∷ [])) day is = simp (short_two) refl
number_no_name (a ∷ (b ∷ (c ∷ more))) day is = let none : None ≡ Some day = rw (long more) at is in absurd (cc)

-- a zone is no colon
zone_no_colon : (word : List ℕ) (zone : ℤ) → zone_of word ≡ Some zone → mark_of 58 word ≡ None
unfolding mark_of zone_of numeric_of
zone_no_colon [] zone is = refl
zone_no_colon (octet ∷ []) zone is = elim (fork (octet == 58) (Some 58) None (mark_of 58 (octet ∷ [])) refl) [
  | inl p ↦
      let e : octet ≡ 58 = eqb-true octet 58 p.0 in
      let there : zone_of (58 ∷ []) ≡ Some zone = subst (λ (o : ℕ). zone_of (o ∷ []) ≡ Some zone) e is in
      absurd (cc)
  | inr p ↦ sym p.1
]
zone_no_colon (octet ∷ (next ∷ more)) zone is = refl

none_read : {A B : Type 0} (means : List ℕ → Option A) (other : List ℕ → Option B) (text : List ℕ) (value : A) (rest : List ℕ) → ReadsPiece means text value rest
    → ((word : List ℕ) → means word ≡ Some value → other word ≡ None) → reads other text ≡ None
unfolding reads
none_read means other text value rest is never = rw (piece_again text is.word rest is.cut, never is.word is.is) refl

name_again : (text start : List ℕ) (year month day : ℕ) (rest : List ℕ) → (start ≡ text) ⊎ IsDayName text start → IsDate start year month day rest → after_name text ≡ Some start
unfolding after_name
name_again text start year month day rest (inl same) date =
    let here : ReadsPiece day_of text day date.after_day = subst (λ (t : List ℕ). ReadsPiece day_of t day date.after_day) same date.day_is in
    rw (none_read day_of weekday_of text day date.after_day here (λ w e. number_no_name w day e)) (ap Some (sym same))
name_again text start year month day rest (inr name) date =
    rw (reads_again weekday_of text name.weekday name.after name.name) (rw (reads_again (mark_of 44) name.after 44 start name.comma) refl)

mark_value : (mark : ℕ) (word : List ℕ) (value : ℕ) → mark_of mark word ≡ Some value → value ≡ mark
unfolding mark_of
mark_value mark [] value is = absurd (cc)
mark_value mark (octet ∷ []) value is = elim (fork (octet == mark) (Some mark) None (Some value) is) [ inl p ↦ sym (some_is mark value p.1) | inr p ↦ absurd (cc) ]
mark_value mark (octet ∷ (next ∷ more)) value is = absurd (cc)

-- a mark that is read is that mark
mark_is : (mark : ℕ) (text : List ℕ) (value : ℕ) (found rest : List ℕ) → reads (mark_of mark) text ≡ Some (value, found) → found ≡ rest → ReadsPiece (mark_of mark) text mark rest
mark_is mark text value found rest is same =
    let here = reads_is (mark_of mark) text value found is in
    record {
      word = here.word;
      cut = subst (λ (r : List ℕ). IsDatePiece text here.word r) same here.cut;
      is = here.is ∙ ap Some (mark_value mark here.word value here.is);
    }

name_from : (text start : List ℕ) (found : Option (ℕ × List ℕ)) → reads weekday_of text ≡ found → name_then text found ≡ Some start → (start ≡ text) ⊎ IsDayName text start
name_from text start None none is = inl (sym (some_is text start is))
name_from text start (Some name) some is =
    let comma = map_some (λ r. r.1) (reads (mark_of 44) name.1) start is in
    inr (record {
      weekday = name.0;
      after = name.1;
      name = reads_is weekday_of text name.0 name.1 some;
      comma = mark_is 44 name.1 comma.0.0 comma.0.1 start comma.1.0 comma.1.1;
    })

name_is : (text start : List ℕ) → after_name text ≡ Some start → (start ≡ text) ⊎ IsDayName text start
unfolding after_name
name_is text start found = name_from text start (reads weekday_of text) refl found

day_again : (text : List ℕ) (year month day : ℕ) (rest : List ℕ) → IsDate text year month day rest → day_from text ≡ Some (record { year = year; month = month; day = day }, rest)
unfolding day_from
day_again text year month day rest is =
    rw (reads_again day_of text day is.after_day is.day_is) (rw (reads_again month_of is.after_day month is.after_month is.month_is) (rw (reads_again year_of is.after_month year rest is.year_is) refl))

day_of_parts : (text : List ℕ) (day : Day) (rest : List ℕ) (d : ℕ) (ds : List ℕ) (m : ℕ) (ms : List ℕ) (y : ℕ) (ys : List ℕ)
    → reads day_of text ≡ Some (d, ds) → reads month_of ds ≡ Some (m, ms) → reads year_of ms ≡ Some (y, ys)
    → (let made : Day × List ℕ = (record { year = y; month = m; day = d }, ys) in made ≡ (day, rest)) → IsDate text day.year day.month day.day rest
day_of_parts text day rest d ds m ms y ys a b c made =
    subst (λ (p : Day × List ℕ). IsDate text p.0.year p.0.month p.0.day p.1) made
    (record { after_day = ds; after_month = ms; day_is = reads_is day_of text d ds a; month_is = reads_is month_of ds m ms b; year_is = reads_is year_of ms y ys c })

day_is : (text : List ℕ) (day : Day) (rest : List ℕ) → day_from text ≡ Some (day, rest) → IsDate text day.year day.month day.day rest
unfolding day_from
day_is text day rest found =
    let d = then_some _ (reads day_of text) (day, rest) found in
    let m = then_some _ (reads month_of d.0.1) (day, rest) d.1.1 in
    let y = map_some _ (reads year_of m.0.1) (day, rest) m.1.1 in
    day_of_parts text day rest d.0.0 d.0.1 m.0.0 m.0.1 y.0.0 y.0.1 d.1.0 m.1.0 y.1.0 y.1.1

second_again : (text : List ℕ) (second : ℕ) (rest : List ℕ) (zone : ℤ) (end : List ℕ) → ((second ≡ 0) × (rest ≡ text)) ⊎ IsSecond text second rest → ReadsPiece zone_of rest zone end
    → second_from text ≡ Some (second, rest)
unfolding second_from
second_again text second rest zone end (inl none) is =
    let here : ReadsPiece zone_of text zone end = subst (λ (t : List ℕ). ReadsPiece zone_of t zone end) none.1 is in
    rw (none_read zone_of (mark_of 58) text zone end here (λ w e. zone_no_colon w zone e), none.0, none.1) refl
second_again text second rest zone end (inr some) is =
    rw (reads_again (mark_of 58) text 58 some.after some.colon) (reads_again (two_digits 60) some.after second rest some.second_is)

second_then : (text : List ℕ) (second : ℕ) (rest : List ℕ) (found : Option (ℕ × List ℕ)) → reads (mark_of 58) text ≡ found → colon_then text found ≡ Some (second, rest)
    → ((second ≡ 0) × (rest ≡ text)) ⊎ IsSecond text second rest
second_then text second rest None none is =
    let both = some_pair (0, text) (second, rest) is in inl (sym both.0, sym both.1)
second_then text second rest (Some colon) some is =
    inr (record {
      after = colon.1;
      colon = mark_is 58 text colon.0 colon.1 colon.1 some refl;
      second_is = reads_is (two_digits 60) colon.1 second rest is;
    })

second_is : (text : List ℕ) (second : ℕ) (rest : List ℕ) → second_from text ≡ Some (second, rest) → ((second ≡ 0) × (rest ≡ text)) ⊎ IsSecond text second rest
unfolding second_from
second_is text second rest found = second_then text second rest (reads (mark_of 58) text) refl found

time_again : (text : List ℕ) (hour minute second : ℕ) (rest : List ℕ) (zone : ℤ) (end : List ℕ) → IsTime text hour minute second rest → ReadsPiece zone_of rest zone end
    → time_from text ≡ Some (record { hour = hour; minute = minute; second = second }, rest)
unfolding time_from
time_again text hour minute second rest zone end is there =
    rw (reads_again (two_digits 23) text hour is.after_hour is.hour_is)
    (rw (reads_again (mark_of 58) is.after_hour 58 is.after_colon is.colon)
    (rw (reads_again (two_digits 59) is.after_colon minute is.after_minute is.minute_is)
    (rw (second_again is.after_minute second rest zone end is.seconds there) refl)))

time_of_parts : (text : List ℕ) (time : Time) (rest : List ℕ) (h : ℕ) (hs : List ℕ) (c : ℕ) (cs : List ℕ) (m : ℕ) (ms : List ℕ) (s : ℕ) (ss : List ℕ)
    → reads (two_digits 23) text ≡ Some (h, hs) → reads (mark_of 58) hs ≡ Some (c, cs) → reads (two_digits 59) cs ≡ Some (m, ms) → second_from ms ≡ Some (s, ss)
    → (let made : Time × List ℕ = (record { hour = h; minute = m; second = s }, ss) in made ≡ (time, rest)) → IsTime text time.hour time.minute time.second rest
time_of_parts text time rest h hs c cs m ms s ss a b d e made =
    subst (λ (p : Time × List ℕ). IsTime text p.0.hour p.0.minute p.0.second p.1) made
    (record {
      after_hour = hs;
      after_colon = cs;
      after_minute = ms;
      hour_is = reads_is (two_digits 23) text h hs a;
      colon = mark_is 58 hs c cs cs b refl;
      minute_is = reads_is (two_digits 59) cs m ms d;
      seconds = second_is ms s ss e;
    })

time_is : (text : List ℕ) (time : Time) (rest : List ℕ) → time_from text ≡ Some (time, rest) → IsTime text time.hour time.minute time.second rest
unfolding time_from
time_is text time rest found =
    let h = then_some _ (reads (two_digits 23) text) (time, rest) found in
    let c = then_some _ (reads (mark_of 58) h.0.1) (time, rest) h.1.1 in
    let m = then_some _ (reads (two_digits 59) c.0.1) (time, rest) c.1.1 in
    let s = map_some _ (second_from m.0.1) (time, rest) m.1.1 in
    time_of_parts text time rest h.0.0 h.0.1 c.0.0 c.0.1 m.0.0 m.0.1 s.0.0 s.0.1 h.1.0 c.1.0 m.1.0 s.1.0 s.1.1

-- a date's text but for its end, whether or not the day exists
pub record IsParts (text : List ℕ) (date : DateTime) (rest : List ℕ) : Type 0 where
  pub start : List ℕ
  pub after_date : List ℕ
  pub after_time : List ℕ
  pub day_name : (start ≡ text) ⊎ IsDayName text start
  pub date_is : IsDate start date.year date.month date.day after_date
  pub time_is : IsTime after_date date.hour date.minute date.second after_time
  pub zone_is : ReadsPiece zone_of after_time date.zone rest

pub parts_again : (text : List ℕ) (date : DateTime) → (is : IsDateText text date) → parts_from text ≡ Some (date, is.after_zone)
unfolding parts_from
parts_again text date is =
    rw (name_again text is.start date.year date.month date.day is.after_date is.day_name is.date_is)
    (rw (day_again is.start date.year date.month date.day is.after_date is.date_is)
    (rw (time_again is.after_date date.hour date.minute date.second is.after_time date.zone is.after_zone is.time_is is.zone_is)
    (rw (reads_again zone_of is.after_time date.zone is.after_zone is.zone_is) refl)))

parts_of : (text : List ℕ) (date : DateTime) (rest start : List ℕ) (day : Day) (ds : List ℕ) (time : Time) (ts : List ℕ) (zone : ℤ) (zs : List ℕ)
    → after_name text ≡ Some start → day_from start ≡ Some (day, ds) → time_from ds ≡ Some (time, ts) → reads zone_of ts ≡ Some (zone, zs)
    → (let made : DateTime × List ℕ = (date_time_of day time zone, zs) in made ≡ (date, rest)) → IsParts text date rest
parts_of text date rest start day ds time ts zone zs a b c d made =
    subst (λ (p : DateTime × List ℕ). IsParts text p.0 p.1) made
    (record {
      start = start;
      after_date = ds;
      after_time = ts;
      day_name = name_is text start a;
      date_is = day_is start day ds b;
      time_is = time_is ds time ts c;
      zone_is = reads_is zone_of ts zone zs d;
    })

pub parts_is : (text : List ℕ) (date : DateTime) (rest : List ℕ) → parts_from text ≡ Some (date, rest) → IsParts text date rest
unfolding parts_from
parts_is text date rest found =
    let n = then_some _ (after_name text) (date, rest) found in
    let d = then_some _ (day_from n.0) (date, rest) n.1.1 in
    let t = then_some _ (time_from d.0.1) (date, rest) d.1.1 in
    let z = map_some _ (reads zone_of t.0.1) (date, rest) t.1.1 in
    parts_of text date rest n.0 d.0.0 d.0.1 t.0.0 t.0.1 z.0.0 z.0.1 n.1.0 d.1.0 t.1.0 z.1.0 z.1.1

-- a year is within its limits
pub year_fits : (text : List ℕ) (date : DateTime) (rest : List ℕ) → IsParts text date rest → date.year ≤ 9999
year_fits text date rest is = year_within date.year is.date_is.year_is.word is.date_is.year_is.is

second_fits : (text : List ℕ) (second : ℕ) (rest : List ℕ) → ((second ≡ 0) × (rest ≡ text)) ⊎ IsSecond text second rest → second ≤ 60
second_fits text second rest (inl none) = omega (arith, none.0)
second_fits text second rest (inr some) = two_within 60 second some.second_is.word some.second_is.is

-- what a text reads as is a date and time
pub text_valid : (text : List ℕ) (date : DateTime) → IsDateText text date → IsDateTime date
text_valid text date is =
    let hours = two_within 23 date.hour is.time_is.hour_is.word is.time_is.hour_is.is in
    let minutes = two_within 59 date.minute is.time_is.minute_is.word is.time_is.minute_is.is in
    record {
      civil = is.civil;
      hour = omega arith;
      minute = omega arith;
      second = second_fits is.time_is.after_minute date.second is.after_time is.time_is.seconds;
      zone = zone_within date.zone is.zone_is.word is.zone_is.is;
    }

-- the parts, an end and a day are a date
pub text_of : (text : List ℕ) (date : DateTime) (rest : List ℕ) → IsParts text date rest → piece rest ≡ Some ([], []) → IsCivilDate (pos date.year) date.month date.day → IsDateText text date
text_of text date rest is over civil = record {
  start = is.start;
  after_date = is.after_date;
  after_time = is.after_time;
  after_zone = rest;
  day_name = is.day_name;
  date_is = is.date_is;
  time_is = is.time_is;
  zone_is = is.zone_is;
  over = piece_is rest [] [] over;
  civil = civil;
}

-- a text that is read as a date is that one, with nothing after it
pub only_text : (text : List ℕ) (date : DateTime) (rest : List ℕ) (other : DateTime) → parts_from text ≡ Some (date, rest) → IsDateText text other
    → (date ≡ other) × ((piece rest ≡ Some ([], [])) × IsCivilDate (pos date.year) date.month date.day)
only_text text date rest other found is =
    let both = some_pair (date, rest) (other, is.after_zone) (sym found ∙ parts_again text other is) in
    (both.0, (rw both.1 (piece_again is.after_zone [] [] is.over), subst (λ (d : DateTime). IsCivilDate (pos d.year) d.month d.day) (sym both.0) is.civil))

none_some : (A : Type 0) (x : A) → None ≡ Some x → ⊥
none_some A x same = absurd (cc)

pub no_text : (text : List ℕ) (other : DateTime) → parts_from text ≡ None → IsDateText text other → ⊥
no_text text other none is = none_some (DateTime × List ℕ) (other, is.after_zone) (sym none ∙ parts_again text other is)

-- a text reads as one date
pub one_date : (text : List ℕ) (one two : DateTime) → IsDateText text one → IsDateText text two → one ≡ two
one_date text one two is other =
    (some_pair (one, is.after_zone) (two, other.after_zone) (sym (parts_again text one is) ∙ parts_again text two other)).0

end_of_text : piece [] ≡ Some ([], [])
unfolding piece after_gap cut
end_of_text = refl

-- a text that is read to its end, as a day of the calendar, is a date
pub read_is : (text : List ℕ) (date : DateTime) → parts_from text ≡ Some (date, []) → IsCivilDate (pos date.year) date.month date.day → IsDateText text date
read_is text date found civil = text_of text date [] (parts_is text date [] found) end_of_text civil

-- a text that is read as nothing is no date
pub unread_is : (text : List ℕ) (date : DateTime) → parts_from text ≡ None → IsDateText text date → ⊥
unread_is text date none is = no_text text date none is
