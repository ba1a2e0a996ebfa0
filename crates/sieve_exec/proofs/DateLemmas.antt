-- The date of a field, and whether some date passes.
use Rattle.std.proofs.Common.{◌≡◌, ◌+◌, ◌/◌, ◌%◌, ◌<◌, ℕ, ℤ, suc, length, take, drop, get_or, Bool, true, false, ◌||◌, cond, inl, inr, List, [], ◌∷◌, ◌++◌, Option, Some, None, refl, sym, ap, ◌∙◌, subst, arith, decimal, add-one, length-drop}
use Rattle.std.specs.Prelude.{unwrap_or}
use Rattle.std.specs.Bool.{Decides}
use Rattle.std.specs.List.{list_any}
use Rattle.std.specs.Option.{option_and_then, MatchOption}
use Rattle.std.proofs.Math.Bool.{or-true}
use Rattle.std.proofs.Math.Seq.{drop-cons}
use Rattle.std.proofs.lemmas.Bool.{eqb-true, cond-true, cond-false, false_from_ne_true}
use Rattle.std.proofs.lemmas.Bool.Decides.{same_from_decides, Decides-like}
use Rattle.std.proofs.lemmas.List.{get_or-drop, get_or_default, take-append-drop}
use Rattle.std.proofs.lemmas.List.Folds.{list_any_none}
use Rattle.octets.proofs.Lists.{some_is}
use Rattle.memchr.specs.Find.{Nowhere, NoneAfter, Passes, is_byte}
use Rattle.sieve_syntax.specs.declared.extension.date.CurrentDate.{CurrentDate}
use Rattle.sieve_syntax.specs.declared.extension.date.DateTest.{DateTest}
use Rattle.sieve_syntax.specs.declared.extension.date.DateZone.{DateZone}
use Rattle.sieve_syntax.specs.declared.extension.date.DateZone.TheVariants.{Host, Given, Original}
use Rattle.mail_dates.specs.declared.date_time.DateTime.{DateTime}
use Rattle.mail_dates.specs.DateTexts.{IsDateText}
use Rattle.mail_dates.specs.DateTimes.{IsMoment}
use Rattle.mail_dates.specs.Finding.{date_of, moment_passes}
use Rattle.mail_dates.specs.Parts.{part_text}
use Rattle.mail_dates.proofs.FindingLaws.{date_of_is, date_of_again, same_moment_decides, moment_decides}
use Rattle.mail_dates.proofs.MomentLaws.{one_same, one_moment}
use Rattle.mail_dates.proofs.WordLemmas.{then_some}
use Rattle.sieve_exec.specs.Mails.{MailSpec, field_values}
use Rattle.sieve_exec.specs.Extension.Date.{is_semicolon, IsAfterLast, is_received, IsDatePart, IsFieldDate, IsDateCount, IsDateShown, after_last, date_part_of, first_date, field_date, date_count, shown_passes, found_passes, DateHolds, CurrentDateHolds, date_matches, date_holds, current_holds}
use Rattle.sieve_exec.specs.Extension.Relational.{is_count}
use Rattle.sieve_exec.specs.Matches.{MatchesSome}
use Rattle.sieve_exec.proofs.Decisions.{counts_decides}
use Rattle.sieve_exec.proofs.MatchLemmas.{matches_some_decides}

-- ---- what stands behind the last semicolon

any_after : (before behind : List ℕ) → list_any is_semicolon (before ++ 59 ∷ behind) ≡ true
any_after [] behind = refl
any_after (octet ∷ more) behind = ap (λ later. is_semicolon octet || later) (any_after more behind) ∙ or-true (is_semicolon octet)

cut_behind : (before behind : List ℕ) → list_any is_semicolon behind ≡ false → after_last (before ++ 59 ∷ behind) ≡ Some behind
cut_behind [] behind last = cond-false (list_any is_semicolon behind) _ _ last
cut_behind (octet ∷ more) behind last = cond-true _ _ _ (any_after more behind) ∙ cut_behind more behind last

pub behind_again : (text behind : List ℕ) → IsAfterLast text behind → after_last text ≡ Some behind
behind_again text behind is = ap after_last is.cut ∙ cut_behind is.before behind is.last

pub behind_is : (text behind : List ℕ) → after_last text ≡ Some behind → IsAfterLast text behind
behind_is [] behind found = absurd (cc found)
behind_is (octet ∷ rest) behind found = split (λ there. behind_is rest behind there) (list_any is_semicolon rest) refl
  where
    here : (semicolon : Bool) → is_semicolon octet ≡ semicolon → list_any is_semicolon rest ≡ false → cond semicolon (Some rest) None ≡ Some behind → IsAfterLast (octet ∷ rest) behind
    here true is none e =
        let same : rest ≡ behind = some_is rest behind e in
        record { before = []; cut = ap (λ o. o ∷ rest) (eqb-true octet 59 is) ∙ ap (λ l. 59 ∷ l) same; last = subst (λ (l : List ℕ). list_any is_semicolon l ≡ false) same none }
    here false is none e = absurd (cc e)

    split : (after_last rest ≡ Some behind → IsAfterLast rest behind) → (later : Bool) → list_any is_semicolon rest ≡ later → IsAfterLast (octet ∷ rest) behind
    split further true more =
        let one = further (sym (cond-true _ _ _ more) ∙ found) in
        record { before = octet ∷ one.before; cut = ap (λ l. octet ∷ l) one.cut; last = one.last }
    split further false none = here (is_semicolon octet) refl none (sym (cond-false (list_any is_semicolon rest) _ _ none) ∙ found)

pub nothing_behind : (text : List ℕ) → list_any is_semicolon text ≡ false → after_last text ≡ None
nothing_behind [] none = refl
nothing_behind (octet ∷ rest) none = step (is_semicolon octet) (list_any is_semicolon rest) none
  where
    step : (one later : Bool) → (one || later) ≡ false → cond later (after_last rest) (cond one (Some rest) None) ≡ None
    step true later e = absurd (cc e)
    step false true e = absurd (cc e)
    step false false e = refl

-- ---- the date of a field

part_again : (received : Bool) (value part : List ℕ) → IsDatePart received value part → date_part_of received value ≡ Some part
part_again true value part is = behind_again value part is
part_again false value part is = ap (λ (l : List ℕ). Some l) (sym is)

part_is : (received : Bool) (value part : List ℕ) → date_part_of received value ≡ Some part → IsDatePart received value part
part_is true value part found = behind_is value part found
part_is false value part found = sym (some_is value part found)

pub field_date_again : (mail : MailSpec) (name : List ℕ) (date : DateTime) → IsFieldDate mail name date → field_date mail name ≡ Some date
field_date_again mail name date is =
    ap (first_date (is_received name)) is.first ∙ (ap (option_and_then date_of) (part_again (is_received name) is.value is.part is.is_part) ∙ date_of_again is.part date is.reads)

pub field_date_is : (mail : MailSpec) (name : List ℕ) (date : DateTime) → field_date mail name ≡ Some date → IsFieldDate mail name date
field_date_is mail name date found = split (field_values mail name) refl
  where
    split : (values : List (List ℕ)) → field_values mail name ≡ values → IsFieldDate mail name date
    split [] none = let bad : None ≡ Some date = sym (ap (first_date (is_received name)) none) ∙ found in absurd (cc bad)
    split (value ∷ more) some =
        let there : option_and_then date_of (date_part_of (is_received name) value) ≡ Some date = sym (ap (first_date (is_received name)) some) ∙ found in
        let part = then_some date_of (date_part_of (is_received name) value) date there in
        record { value = value; more = more; part = part.0; first = some; is_part = part_is (is_received name) value part.0 part.1.0; reads = date_of_is part.0 date part.1.1 }

-- how many there are
count_is : (mail : MailSpec) (name : List ℕ) → IsDateCount mail name (date_count (field_date mail name))
count_is mail name = split (field_date mail name) refl
  where
    split : (found : Option DateTime) → field_date mail name ≡ found → IsDateCount mail name (date_count (field_date mail name))
    split None none = inr (ap date_count none, λ date is. let bad : None ≡ Some date = sym none ∙ field_date_again mail name date is in absurd (cc bad))
    split (Some date) some = inl (ap date_count some, (date, field_date_is mail name date some))

count_only : (mail : MailSpec) (name : List ℕ) (count : ℕ) → IsDateCount mail name count → count ≡ date_count (field_date mail name)
count_only mail name count (inl (one, (date, is))) = one ∙ sym (ap date_count (field_date_again mail name date is))
count_only mail name count (inr (none, nowhere)) = split (field_date mail name) refl
  where
    split : (found : Option DateTime) → field_date mail name ≡ found → count ≡ date_count (field_date mail name)
    split None here = none ∙ sym (ap date_count here)
    split (Some date) some = absurd (nowhere date (field_date_is mail name date some))

pub count_decides : (mail : MailSpec) (name : List ℕ) (r : Bool) (Q : List ℕ → Type 0) → Decides r (Q (decimal (date_count (field_date mail name)))) → Decides r ((count : ℕ) × IsDateCount mail name count × Q (decimal count))
count_decides mail name r Q decides =
    Decides-like r (λ holds. (date_count (field_date mail name), count_is mail name, holds))
    (λ (count, is, holds). subst (λ (n : ℕ). Q (decimal n)) (count_only mail name count is) holds) decides

-- ---- whether it passes by the clock of a zone

module _ (passes : DateTime → Bool) (P : DateTime → Type 0) (each : (date : DateTime) → Decides (passes date) (P date)) where
  shown_decides : (mail : MailSpec) (zone : DateZone) (date : DateTime) → Decides (shown_passes mail zone passes date) ((shown : DateTime) × IsDateShown mail zone date shown × P shown)
  shown_decides mail Host date = same_moment_decides passes P each date mail.zone
  shown_decides mail (Given zone) date = same_moment_decides passes P each date zone
  shown_decides mail Original date =
      Decides-like _ (λ holds. (date, refl, holds)) (λ (shown, same, holds). subst P same holds) (each date)

  pub found_decides : (mail : MailSpec) (zone : DateZone) (name : List ℕ)
      → Decides (found_passes mail zone passes (field_date mail name)) ((found : DateTime) × (shown : DateTime) × IsFieldDate mail name found × IsDateShown mail zone found shown × P shown)
  found_decides mail zone name = split (field_date mail name) refl
    where
      split : (there : Option DateTime) → field_date mail name ≡ there
          → Decides (found_passes mail zone passes (field_date mail name)) ((found : DateTime) × (shown : DateTime) × IsFieldDate mail name found × IsDateShown mail zone found shown × P shown)
      split None none = (
        λ h. let bad : false ≡ true = sym (ap (found_passes mail zone passes) none) ∙ h in absurd (cc bad),
        λ (found, shown, is, so, holds). let bad : None ≡ Some found = sym none ∙ field_date_again mail name found is in absurd (cc bad),
      )
      split (Some date) some =
          Decides-like _
          (λ h. let one = (shown_decides mail zone date).0 (sym (ap (found_passes mail zone passes) some) ∙ h) in (date, one.0, field_date_is mail name date some, one.1, one.2))
          (λ (found, shown, is, so, holds).
          let same : found ≡ date = some_is found date (sym (field_date_again mail name found is) ∙ some) in
          ap (found_passes mail zone passes) some ∙ (shown_decides mail zone date).1 (shown, subst (λ (d : DateTime). IsDateShown mail zone d shown) same so, holds))
          (λ h. h, λ h. h)

-- a date by the clock of a zone is one
one_shown : (mail : MailSpec) (zone : DateZone) (date one two : DateTime) → IsDateShown mail zone date one → IsDateShown mail zone date two → one ≡ two
one_shown mail Host date one two a b = one_same date mail.zone one two a b
one_shown mail (Given zone) date one two a b = one_same date zone one two a b
one_shown mail Original date one two a b = a ∙ sym b

itself : (b : Bool) → Decides b (b ≡ true)
itself b = (λ h. h, λ h. h)

-- where it is found, whether it passes; where it isn't, nothing passes
pub shown_found : (mail : MailSpec) (zone : DateZone) (passes : DateTime → Bool) (date shown : DateTime) → IsDateShown mail zone date shown → passes shown ≡ shown_passes mail zone passes date
shown_found mail zone passes date shown is =
    same_from_decides (passes shown) (shown_passes mail zone passes date)
    (Decides-like (passes shown) (λ (h : passes shown ≡ true). (shown, is, h)) (λ (other, so, h). subst (λ (d : DateTime). passes d ≡ true) (one_shown mail zone date other shown so is) h) (itself (passes shown)))
    (shown_decides passes (λ d. passes d ≡ true) (λ d. itself (passes d)) mail zone date)

pub shown_nowhere : (mail : MailSpec) (zone : DateZone) (passes : DateTime → Bool) (date : DateTime) → ((shown : DateTime) → IsDateShown mail zone date shown → ⊥) → false ≡ shown_passes mail zone passes date
shown_nowhere mail zone passes date none =
    same_from_decides {P = (shown : DateTime) × IsDateShown mail zone date shown × (passes shown ≡ true)} false (shown_passes mail zone passes date)
    (λ h. absurd (cc h), λ (shown, is, h). absurd (none shown is)) (shown_decides passes (λ d. passes d ≡ true) (λ d. itself (passes d)) mail zone date)

-- the same of a moment
pub moment_found : (seconds : ℕ) (zone : ℤ) (passes : DateTime → Bool) (date : DateTime) → IsMoment seconds zone date → passes date ≡ moment_passes (seconds / 60) (seconds % 60) zone passes
moment_found seconds zone passes date is =
    same_from_decides (passes date) (moment_passes (seconds / 60) (seconds % 60) zone passes)
    (Decides-like (passes date) (λ (h : passes date ≡ true). (date, is, h)) (λ (other, so, h). subst (λ (d : DateTime). passes d ≡ true) (one_moment seconds zone other date so is) h) (itself (passes date)))
    (moment_decides passes (λ d. passes d ≡ true) (λ d. itself (passes d)) seconds zone)

pub moment_nowhere : (seconds : ℕ) (zone : ℤ) (passes : DateTime → Bool) → ((date : DateTime) → IsMoment seconds zone date → ⊥) → false ≡ moment_passes (seconds / 60) (seconds % 60) zone passes
moment_nowhere seconds zone passes none =
    same_from_decides {P = (date : DateTime) × IsMoment seconds zone date × (passes date ≡ true)} false (moment_passes (seconds / 60) (seconds % 60) zone passes)
    (λ h. absurd (cc h), λ (date, is, h). absurd (none date is)) (moment_decides passes (λ d. passes d ≡ true) (λ d. itself (passes d)) seconds zone)

-- ---- what is read

-- what a text reads as is the date that is found in it
pub read_found : (text : List ℕ) (date : DateTime) → IsDateText text date → Some date ≡ date_of text
read_found text date is = sym (date_of_again text date is)

pub read_nothing : (text : List ℕ) → ((date : DateTime) → IsDateText text date → ⊥) → None ≡ date_of text
read_nothing text none = split (date_of text) refl
  where
    split : (found : Option DateTime) → date_of text ≡ found → None ≡ date_of text
    split None here = sym here
    split (Some date) there = absurd (none date (date_of_is text date there))

-- where no semicolon was found from a place on, there is none
none_from : (text : List ℕ) (from : ℕ) → Nowhere (Passes (is_byte 59) text) from (length text) → list_any is_semicolon (drop from text) ≡ false
none_from text from nowhere = list_any_none is_semicolon (drop from text) (λ k d below.
    let inside : from + k < length text = omega (arith, length-drop {A = ℕ}) in
    let same : get_or (drop from text) k d ≡ get_or text (from + k) 0 = get_or-drop from text k d ∙ get_or_default text (from + k) d 0 inside in
    false_from_ne_true _ (λ passes. nowhere (from + k) (omega arith) inside (ap is_semicolon (sym same) ∙ passes)))

-- the place that a search from the end found, and where it found none
pub behind_found : (text : List ℕ) (k : ℕ) → NoneAfter (Passes (is_byte 59) text) 0 (length text) k → is_byte 59 (get_or text k 0) ≡ true → after_last text ≡ Some (drop (k + 1) text)
behind_found text k after here =
    behind_again text (drop (k + 1) text) (record {
      before = take k text;
      cut = sym (take-append-drop k text) ∙ ap (λ l. take k text ++ l) (rw add-one (drop-cons text k 0 after.high ∙ ap (λ o. o ∷ drop (suc k) text) (eqb-true _ 59 here)));
      last = none_from text (k + 1) after.after;
    })

pub behind_nowhere : (text : List ℕ) → Nowhere (Passes (is_byte 59) text) 0 (length text) → after_last text ≡ None
behind_nowhere text nowhere = nothing_behind text (none_from text 0 nowhere)

pub read_same : (text : List ℕ) (found : Option DateTime) → MatchOption found ((date : DateTime) → IsDateText text date → ⊥) (λ date. IsDateText text date) → found ≡ date_of text
read_same text None nothing = read_nothing text nothing
read_same text (Some date) is = read_found text date is

-- what is found in a value, whose part it is told
pub date_behind : (received : Bool) (value part : List ℕ) (found : Option DateTime) → received ≡ true → after_last value ≡ Some part → found ≡ date_of part → found ≡ option_and_then date_of (date_part_of received value)
date_behind received value part found on there is =
    is ∙ sym (ap (λ (b : Bool). option_and_then date_of (date_part_of b value)) on ∙ ap (option_and_then date_of) there)

pub date_whole : (received : Bool) (value : List ℕ) (found : Option DateTime) → received ≡ false → found ≡ date_of value → found ≡ option_and_then date_of (date_part_of received value)
date_whole received value found off is = is ∙ sym (ap (λ (b : Bool). option_and_then date_of (date_part_of b value)) off)

-- a moment in a zone, by other names of both
pub moment_as : (m n : ℕ) (y z : ℤ) (date : DateTime) → m ≡ n → y ≡ z → IsMoment m y date → IsMoment n z date
moment_as m n y z date moments zones is = subst (λ (zone : ℤ). IsMoment n zone date) zones (subst (λ (moment : ℕ). IsMoment moment y date) moments is)

-- ---- which tests hold

pub date_decides : (mail : MailSpec) (test : DateTest) → Decides (date_holds mail test) (DateHolds mail test)
date_decides mail test =
    counts_decides (is_count test.matching) _ _ _ _
    (count_decides mail test.field _ (MatchesSome test.comparator test.matching test.keys) (matches_some_decides test.comparator test.matching test.keys (decimal (date_count (field_date mail test.field)))))
    (found_decides (date_matches test.comparator test.matching test.keys test.part) (λ shown. MatchesSome test.comparator test.matching test.keys (part_text test.part shown))
    (λ shown. matches_some_decides test.comparator test.matching test.keys (part_text test.part shown)) mail test.zone test.field)

pub current_decides : (mail : MailSpec) (test : CurrentDate) → Decides (current_holds mail test) (CurrentDateHolds mail test)
current_decides mail test =
    counts_decides (is_count test.matching) _ _ _ _
    (matches_some_decides test.comparator test.matching test.keys (decimal 1))
    (moment_decides (date_matches test.comparator test.matching test.keys test.part) (λ shown. MatchesSome test.comparator test.matching test.keys (part_text test.part shown))
    (λ shown. matches_some_decides test.comparator test.matching test.keys (part_text test.part shown)) mail.moment (unwrap_or test.zone mail.zone))
