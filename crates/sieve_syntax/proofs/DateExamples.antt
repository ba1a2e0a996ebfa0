-- What `date` and `currentdate` say, and near misses.
use Rattle.std.proofs.Common.{◌≡◌, ◌∙◌, ◌∷◌, ℤ, pos, List, [], Some, None, refl, sym, ap, inl, lit<}
use Rattle.std.specs.Prelude.{codes}
use Rattle.mail_dates.specs.declared.part.DatePart.TheVariants as E
use Rattle.mail_dates.specs.Parts.{part_named}
use Rattle.mail_dates.specs.Words.{is_named, number_in, two_digits}
use Rattle.mail_dates.specs.Zones.{offset_of, numeric_of}
use Rattle.mail_dates.proofs.ZoneLaws.{numeric_again}
use Rattle.sieve_syntax.specs.declared.table.tag.Tag.TheVariants as T
use Rattle.sieve_syntax.specs.declared.table.tag_group.TagValue.TheVariants as S
use Rattle.sieve_syntax.specs.declared.parser.argument.Argument.{Argument}
use Rattle.sieve_syntax.specs.declared.parser.argument.Argument.TheVariants as A
use Rattle.sieve_syntax.specs.declared.tree.checks.Collation.TheVariants as L
use Rattle.sieve_syntax.specs.declared.extension.date.CurrentDate.{CurrentDate}
use Rattle.sieve_syntax.specs.declared.extension.date.DateTest.{DateTest}
use Rattle.sieve_syntax.specs.declared.extension.date.DateZone.TheVariants as Z
use Rattle.sieve_syntax.specs.declared.tree.checks.Matching.TheVariants as M
use Rattle.sieve_syntax.specs.Extension.Date.{SaysDate, SaysCurrentDate}
use Rattle.sieve_syntax.specs.Tags.{IsTagValue}

-- `:zone "+0200"` is two hours east of UTC, and `:zone "+2400"` none
zone : IsTagValue (S.Zone (pos 120)) (A.Tag T.Zone ∷ (A.Text (codes "+0200") ∷ [])) []
zone = (codes "+0200", (refl, record { hours = 2; minutes = 0; hour = lit< tt; minute = lit< tt; spelled = inl (refl, refl) }))

no_number : numeric_of (codes "+2400") ≡ None
unfolding numeric_of offset_of two_digits number_in
no_number = refl

no_zone : (minutes : ℤ) (to : List Argument) → IsTagValue (S.Zone minutes) (A.Tag T.Zone ∷ (A.Text (codes "+2400") ∷ [])) to → ⊥
no_zone minutes to (string, (at, is)) =
    let same : codes "+2400" ≡ string = cc at in
    let bad : None ≡ Some minutes = sym no_number ∙ (ap numeric_of same ∙ numeric_again string minutes is) in
    absurd (cc bad)

-- `date :originalzone "Date" "HOUR" "09"`
asked : SaysDate (S.OriginalZone ∷ []) (A.Text (codes "Date") ∷ (A.Text (codes "HOUR") ∷ (A.Text (codes "09") ∷ []))) (record { zone = Z.Original; comparator = L.AsciiCasemap; matching = M.Is; field = codes "Date"; part = E.Hour; keys = codes "09" ∷ [] })
unfolding part_named is_named
asked = record { name = codes "HOUR"; zone = refl; comparator = refl; matching = refl; arguments = refl; part = refl }

-- `date` without a field says nothing, and neither does a list of fields
no_field : (date : DateTest) → SaysDate [] (A.Text (codes "hour") ∷ (A.Text (codes "09") ∷ [])) date → ⊥
no_field date says = let e : None ≡ Some (date.field, (says.name, date.keys)) = says.arguments in absurd (cc e)

no_fields : (date : DateTest) → SaysDate [] (A.Strings (codes "Date" ∷ []) ∷ (A.Text (codes "hour") ∷ (A.Text (codes "09") ∷ []))) date → ⊥
no_fields date says = let e : None ≡ Some (date.field, (says.name, date.keys)) = says.arguments in absurd (cc e)

-- `currentdate "weekday" "0"` is by the clock of the host
now : SaysCurrentDate [] (A.Text (codes "weekday") ∷ (A.Text (codes "0") ∷ [])) (record { zone = None; comparator = L.AsciiCasemap; matching = M.Is; part = E.Weekday; keys = codes "0" ∷ [] })
unfolding part_named is_named
now = record { name = codes "weekday"; zone = refl; comparator = refl; matching = refl; arguments = refl; part = refl }

-- and has no zone of its own
no_original : (positional : List Argument) (current : CurrentDate) → SaysCurrentDate (S.OriginalZone ∷ []) positional current → ⊥
no_original positional current says = let e : None ≡ Some current.zone = says.zone in absurd (cc e)
