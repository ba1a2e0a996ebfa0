-- Lines of a response worked out by hand.
use Rattle.std.proofs.Common.{◌≡◌, ℕ, true, false, [], ◌∷◌, ◌++◌, List, replicate, refl}
use Rattle.std.specs.Prelude.{codes, Some, None}
use Rattle.std.specs.Str.{chars}
use lib.Utf8.{encode}
use Rattle.mail_head.specs.Fields.{FieldText}
use Rattle.sieve_vacation.specs.Layout.{crlf_octets, first_raw, shortened, auto_subject, is_quotable_display, is_phrase_text, in_reply_to_line, has_version, with_line_end, to_line}

abbrev field : List ℕ → List ℕ → FieldText
field name raw = record { name = name; raw = raw }

-- the first of two fields, case ignored; none of a longer name
first_field : (first_raw (codes "subject") (field (codes "To") (codes "a") ∷ (field (codes "SUBJECT") (codes "b") ∷ (field (codes "Subject") (codes "c") ∷ []))) ≡ Some (codes "b"))
    × (first_raw (codes "subject") (field (codes "Subjects") (codes "b") ∷ []) ≡ None)
first_field = (refl, refl)

subjects : (auto_subject (Some (codes "Lunch")) ≡ codes "Auto: Lunch") × (auto_subject (Some []) ≡ codes "Automated reply") × (auto_subject None ≡ codes "Automated reply")
unfolding chars encode
subjects = (refl, refl, refl)

-- 256 characters, and 257, the first of which has four octets
long : (shortened (replicate 256 97) ≡ replicate 256 97) × (shortened (replicate 257 97) ≡ replicate 256 97 ++ codes "...")
    × (shortened (240 ∷ (159 ∷ (152 ∷ (128 ∷ replicate 255 97)))) ≡ 240 ∷ (159 ∷ (152 ∷ (128 ∷ replicate 255 97))))
    × (shortened (240 ∷ (159 ∷ (152 ∷ (128 ∷ replicate 256 97)))) ≡ 240 ∷ (159 ∷ (152 ∷ (128 ∷ (replicate 255 97 ++ codes "...")))))
unfolding chars encode
long = (refl, refl, refl, refl)

-- atoms and words that the script's writer encoded; a mark that stands in no atom, and atoms alone
phrases : (is_phrase_text (codes "Anna =?US-ASCII?Q?B?=") ≡ true) × (is_phrase_text (codes "Dr. =?US-ASCII?Q?B?=") ≡ false) × (is_phrase_text (codes "=?US-ASCII?Q?a,b?=") ≡ false) × (is_phrase_text (codes "Anna B") ≡ false)
    × (is_phrase_text (codes "=?US-ASCII?Q?it's?= B") ≡ false) × (is_phrase_text (codes "O'Brien =?US-ASCII?Q?B?=") ≡ true)
phrases = (refl, refl, refl, refl, refl, refl)

displays : (is_quotable_display (codes "Alice \"A\"") ≡ true) × (is_quotable_display (9 ∷ []) ≡ false) × (is_quotable_display (195 ∷ (169 ∷ [])) ≡ false)
displays = (refl, refl, refl)

-- a name without blanks stands in the line, and one with a blank in it doesn't
names : (in_reply_to_line (Some (codes "<m1@example.net>")) ≡ codes "In-Reply-To: <m1@example.net>" ++ crlf_octets) × (in_reply_to_line (Some (codes "<m1 @example.net>")) ≡ []) × (in_reply_to_line (Some []) ≡ [])
names = (refl, refl, refl)

versions : (has_version (codes "mime-VERSION: 1.0" ++ (crlf_octets ++ crlf_octets)) ≡ true) × (has_version (codes "Content-Type: text/plain" ++ (crlf_octets ++ (crlf_octets ++ codes "MIME-Version: 1.0"))) ≡ false)
versions = (refl, refl)

-- CRLF follows where LF alone ends a reason
endings : (with_line_end (codes "Away.") ≡ codes "Away." ++ crlf_octets) × (with_line_end (codes "Away." ++ crlf_octets) ≡ codes "Away." ++ crlf_octets) × (with_line_end (65 ∷ (10 ∷ [])) ≡ 65 ∷ (10 ∷ (13 ∷ (10 ∷ []))))
    × (with_line_end [] ≡ crlf_octets)
endings = (refl, refl, refl, refl)

to : to_line (codes "bob@example.net") ≡ codes "To: <bob@example.net>" ++ crlf_octets
to = refl
