-- The definitions at a few mails: what they fit, and what is near it that they don't.
use Rattle.std.proofs.Common.{◌≡◌, ◌||◌, lit<, ℕ, Bool, List, true, false, Some, None, inl, inr, [], ◌∷◌, ◌++◌, codes, decimal, refl, ap, arith, pos, neg_ℤ, rules}
use Rattle.std.proofs.lemmas.Int.{ints}
use Rattle.sieve_syntax.specs.declared.tree.checks.Matching.TheVariants.{Is, Contains, Matches, Value, Count}
use Rattle.sieve_syntax.specs.declared.extension.relational.Relation.TheVariants as R
use Rattle.sieve_syntax.specs.declared.tree.checks.AddressPart.TheVariants.{LocalPart, Domain, User, Detail}
use Rattle.sieve_syntax.specs.declared.tree.checks.AddressPart.TheVariants as part
use Rattle.sieve_syntax.specs.declared.tree.checks.Bound.TheVariants.{Over, Under}
use Rattle.sieve_syntax.specs.declared.tree.checks.Collation.TheVariants.{Octet, AsciiCasemap, AsciiNumeric}
use Rattle.mail_address.specs.declared.address.Addr.{Addr}
use Rattle.mail_address.specs.Reading.{addrs}
use Rattle.mail_address.specs.Reading as reading
use Rattle.mail_address.proofs.Lists.{addrs-are}
use Rattle.mail_dates.specs.DateTimes.{IsZone}
use Rattle.sieve_exec.specs.declared.when.When.{When}
use Rattle.sieve_exec.specs.Mails.{MailSpec, mail_spec_of, field_values, text_shown, has_addresses, field_addresses}
use Rattle.sieve_exec.specs.Matches.{matches_key, matches_some}
use Rattle.sieve_exec.specs.Counts.{fields_counted}
use Rattle.sieve_exec.specs.Extension.Envelope.{envelope_counted, IsEnvelopePart, envelope_part_of, IsEnvelopeAddress}
use Rattle.sieve_exec.specs.Extension.Subaddress.{CutsAtFirst}
use Rattle.sieve_exec.specs.Parts.{IsAddressPart, address_part_of, Cuts, CutsAtLast}
use Rattle.sieve_exec.specs.Extension.Imap4flags.{flag_keys, flag_holds}
use Rattle.sieve_exec.specs.Images.{text_image, has_image, AreApart, AnswerFor}
use Rattle.sieve_exec.specs.Ready.{is_looked_up}
use Rattle.sieve_exec.specs.Holding.{IsBeyond, SomeAddress}

-- the first second of 1970, two hours east of UTC
abbrev start : When
start = record { moment = 0; zone = pos 120; within = (search (rules, ints), search (rules, ints)) }

-- "To: a@b", LF, "to: c", LF, from `x@y@z` to nobody
abbrev sample : MailSpec
sample = mail_spec_of (codes "To: a@b" ++ 10 ∷ codes "to: c" ++ 10 ∷ []) (record { from = codes "x@y@z"; to = [] }) start

-- the mail has the moment and the zone of its delivery
sample-when : (sample.moment ≡ 0) × (sample.zone ≡ pos 120)
sample-when = (refl, refl)

-- a zone of 23:59 is one, and 24:00 is none, east and west
last_zones : IsZone (pos 1439) × IsZone (neg_ℤ (pos 1439))
last_zones = ((omega (arith, ints), omega (arith, ints)), (omega (arith, ints), omega (arith, ints)))

no_day : (IsZone (pos 1440) → ⊥) × (IsZone (neg_ℤ (pos 1440)) → ⊥)
no_day = (λ east. omega (arith, ints, east.1), λ west. omega (arith, ints, west.0))

-- two fields have the name, in any case
values-here : field_values sample (codes "TO") ≡ codes " a@b" ∷ codes " c" ∷ []
values-here = refl

-- none has a part of the name, and none the name with a colon
values-part : field_values sample (codes "t") ≡ []
values-part = refl

values-colon : field_values sample (codes "to:") ≡ []
values-colon = refl

-- the blanks at the ends of a text are off, those inside stay
joined-inside : text_shown (codes " a b ") ≡ codes "a b"
joined-inside = refl

-- and they are taken off once the text is decoded
joined-decoded : text_shown (codes "=?us-ascii?q?_a_?=") ≡ codes "a"
joined-decoded = refl

-- `To` has addresses, and `subject` has none
to_has_addresses : has_addresses (codes "To") ≡ true
to_has_addresses = refl

subject_has_none : has_addresses (codes "subject") ≡ false
subject_has_none = refl

-- `a@b` is an address in `to`
abbrev a_at_b : Addr
a_at_b = record { local = codes "a"; domain = codes "b" }

in_to : SomeAddress sample (codes "to") (λ one. one ≡ a_at_b)
unfolding addrs reading.pieces
in_to = record { fields = refl; there = (0, codes " a@b", lit< tt, refl, (addrs (codes " a@b"), addrs-are (codes " a@b"), (0, a_at_b, lit< tt, refl, refl))) }

-- no test of an address in `subject` holds
no_subject : (mail : MailSpec) (P : Addr → Type 0) → SomeAddress mail (codes "subject") P → ⊥
no_subject mail P some = let no : false ≡ true = some.fields in absurd (cc no)

subject_gives_none : field_addresses (mail_spec_of (codes "Subject: a@b") (record { from = []; to = [] }) start) (codes "subject") ≡ []
subject_gives_none = refl

-- an address is cut at its last `@`, and not at its first
cut-last : Cuts (codes "x@y@z") (codes "x@y") (codes "z")
cut-last = inl (record { cut = refl; last = refl })

cut-first : CutsAtLast (codes "x@y@z") (codes "x") (codes "y@z") → ⊥
cut-first at = let no : true ≡ false = at.last in cc

-- without `@` the domain is empty
bare-domain : IsEnvelopePart Domain (codes "root") []
bare-domain = (codes "root", inr (record { whole = refl; none = refl; bare = refl }))

bare-local : envelope_part_of LocalPart (codes "root") ≡ Some (codes "root")
bare-local = refl

-- each part of the null reverse-path is the empty text (RFC 5228, 5.4)
null-parts : (envelope_part_of part.All [] ≡ Some []) × ((envelope_part_of LocalPart [] ≡ Some []) × ((envelope_part_of Domain [] ≡ Some []) × ((envelope_part_of User [] ≡ Some []) × (envelope_part_of Detail [] ≡ Some []))))
null-parts = (refl, (refl, (refl, (refl, refl))))

null-detail : IsEnvelopePart Detail [] []
null-detail = inr (refl, refl)

-- a sender without a detail has none (RFC 5233, 4), nor has one whose local part is empty
no-null-detail : (envelope_part_of Detail (codes "a@b") ≡ None) × (envelope_part_of Detail (codes "@b") ≡ None)
no-null-detail = (refl, refl)

-- the parts of an address of a field
parts-of : address_part_of part.All (record { local = codes "a"; domain = codes "b" }) ≡ Some (codes "a@b")
parts-of = refl

-- a local part is cut at its first `+`, and not at its last
user-of : IsAddressPart User (record { local = codes "a+b+c"; domain = codes "d" }) (codes "a")
user-of = inl (codes "b+c", record { cut = refl; first = refl })

detail-of : IsEnvelopePart Detail (codes "a+b+c@d") (codes "b+c")
detail-of = inl (codes "a+b+c", codes "d", inl (record { cut = refl; last = refl }), (codes "a", record { cut = refl; first = refl }))

cut-last-plus : CutsAtFirst (codes "a+b+c") (codes "a+b") (codes "c") → ⊥
cut-last-plus at = let no : true ≡ false = at.first in cc

-- a detail may be empty; without `+` there is none, and the user is the whole local part
empty-detail : envelope_part_of Detail (codes "a+@d") ≡ Some []
empty-detail = refl

no-detail : (address_part_of Detail (record { local = codes "a"; domain = codes "b+c" }) ≡ None) × (address_part_of User (record { local = codes "a"; domain = codes "b+c" }) ≡ Some (codes "a"))
no-detail = (refl, refl)

-- a size that is the limit is neither over nor under it
beyond-over : IsBeyond Over 4000 3999
beyond-over = omega arith

not_over-limit : IsBeyond Over 4000 4000 → ⊥
not_over-limit over = omega (arith, over)

not_under-limit : IsBeyond Under 4000 4000 → ⊥
not_under-limit under = omega (arith, under)

-- the key "a" is the value "A" for one comparator, and not for the other
is-folded : matches_key AsciiCasemap Is (codes "a") (codes "A") ≡ true
is-folded = refl

is-octet : matches_key Octet Is (codes "a") (codes "A") ≡ false
is-octet = refl

-- the empty key stands in the empty value, and no key matches where there is no key
contains-empty : matches_key Octet Contains [] [] ≡ true
contains-empty = refl

no-key : matches_some Octet Is [] [] ≡ false
no-key = refl

-- 10 is more than 9 as a number and less as a text
value-number : (matches_key AsciiNumeric (Value R.Greater) (codes "9") (codes "10") ≡ true) × (matches_key Octet (Value R.Greater) (codes "9") (codes "10") ≡ false)
value-number = (refl, refl)

-- what begins with no digit is infinite, and equal to all such
value-infinite : (matches_key AsciiNumeric (Value R.Greater) (codes "99999999999999999999") (codes "x1") ≡ true) × (matches_key AsciiNumeric Is (codes "y") [] ≡ true)
value-infinite = (refl, refl)

-- two fields are counted, and those of a name that stands twice twice; a number has no parts
two-fields : (fields_counted sample (codes "to" ∷ []) ≡ 2) × (fields_counted sample (codes "to" ∷ (codes "cc" ∷ (codes "TO" ∷ []))) ≡ 4)
two-fields = (refl, refl)

counted : matches_some AsciiNumeric (Count R.Equal) (codes "02" ∷ []) (codes "2") ≡ true
counted = refl

-- the null reverse-path isn't counted
envelope-null : envelope_counted (mail_spec_of [] (record { from = []; to = codes "x@y" }) start) (record { comparator = AsciiNumeric; part = part.All; matching = Count R.Equal; parts = record { from = true; to = true }; keys = [] }) ≡ 1
envelope-null = refl

-- a test that names the recipient alone doesn't look at the sender
named-to : IsEnvelopeAddress (record { from = false; to = true }) sample []
named-to = inr (refl, refl)

not_named-from : IsEnvelopeAddress (record { from = false; to = true }) sample (codes "x@y@z") → ⊥
not_named-from (inl (asked, same)) = cc
not_named-from (inr (asked, same)) = cc

-- `hasflag "b A"` is `hasflag ["b", "A"]` (RFC 5232, 4), and nothing stands between two blanks
flag_words : (flag_keys Is (codes "b A" ∷ []) ≡ codes "b" ∷ (codes "A" ∷ [])) × (flag_keys Contains (codes " b  " ∷ (codes " " ∷ [])) ≡ codes "b" ∷ [])
flag_words = (refl, refl)

-- a pattern isn't cut
flag_pattern : flag_keys Matches (codes "b A" ∷ []) ≡ codes "b A" ∷ []
flag_pattern = refl

-- two flags
abbrev two : List (List ℕ)
two = codes "\\Seen" ∷ codes "Junk" ∷ []

-- one of them is among the keys, in any case; a part of one, or both in one pattern, is none of them
flag_there : flag_holds two (record { comparator = AsciiCasemap; matching = Is; keys = codes "x junk" ∷ [] }) ≡ true
flag_there = refl

flag_part : flag_holds two (record { comparator = AsciiCasemap; matching = Is; keys = codes "jun" ∷ [] }) ≡ false
flag_part = refl

flags_together : flag_holds two (record { comparator = Octet; matching = Value R.Equal; keys = codes "\\Seen Junk" ∷ [] }) ≡ false
flags_together = refl

-- two are counted, as the number in decimal
flags_counted : flag_holds two (record { comparator = AsciiNumeric; matching = Count R.Equal; keys = codes "02" ∷ [] }) ≡ matches_some AsciiNumeric (Count R.Equal) (codes "02" ∷ []) (decimal 2)
flags_counted = refl

-- where there are none, no key is in one, not even the empty one
no_flags : flag_holds [] (record { comparator = Octet; matching = Contains; keys = [] ∷ [] }) ≡ false
no_flags = refl

-- ---- lists that are asked once

-- names that differ in case have one image, and keys by i;octet don't
image_of_case : text_image AsciiCasemap (codes "To") ≡ text_image AsciiCasemap (codes "tO")
image_of_case = refl

image_as_it_stands : text_image Octet (codes "To") ≡ codes "To"
image_as_it_stands = refl

-- a name is there in another case, and not with an octet more
name_there : has_image AsciiCasemap (codes "to" ∷ []) (text_image AsciiCasemap (codes "TO")) ≡ true
name_there = refl

name_longer : has_image AsciiCasemap (codes "to" ∷ []) (text_image AsciiCasemap (codes "too")) ≡ false
name_longer = refl

-- two names are apart, and one in two cases isn't
names_apart : AreApart AsciiCasemap (codes "to" ∷ codes "too" ∷ [])
names_apart = (refl, (refl, tt))

one_name : AreApart AsciiCasemap (codes "to" ∷ codes "TO" ∷ []) → ⊥
one_name apart = let no : true ≡ false = apart.0 in absurd (cc no)

-- one name answers for itself in another case, and no name for none
one_answers : AnswerFor AsciiCasemap (codes "to" ∷ codes "TO" ∷ []) (codes "to" ∷ [])
one_answers test goes = twice (test (codes "to")) (test (codes "TO")) (goes (codes "to") (codes "TO") refl)
  where
    twice : (one other : Bool) → one ≡ other → (one || false) ≡ (one || (other || false))
    twice true other same = refl
    twice false other same = ap (λ b. b || false) same

none_answers : AnswerFor AsciiCasemap (codes "to" ∷ []) [] → ⊥
none_answers answer = let no : false ≡ true = answer (λ text. true) (λ one other same. refl) in absurd (cc no)

-- keys of `:is` are looked up, but not where numbers are compared, nor where a value has to be searched
looked_up_by : (is_looked_up AsciiCasemap Is ≡ true) × (is_looked_up AsciiNumeric Is ≡ false) × (is_looked_up Octet Contains ≡ false)
looked_up_by = (refl, refl, refl)
