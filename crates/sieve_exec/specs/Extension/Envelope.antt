-- `envelope`: the test of the envelope's addresses (RFC 5228, 5.4; RFC 5231, 4.2).
use Rattle.std.specs.Prelude.{◌≡◌, ℕ, ◌+◌, Bool, true, cond, ◌&&◌, ◌||◌, ◌⊎◌, is_some, decimal, List, [], ◌∷◌, Option, Some, None, MatchBool}
use Rattle.sieve_syntax.specs.declared.tree.checks.AddressPart.{AddressPart}
use Rattle.sieve_syntax.specs.declared.tree.checks.AddressPart.TheVariants.{All, LocalPart, Domain, User, Detail}
use Rattle.sieve_syntax.specs.declared.extension.envelope.EnvelopeParts.{EnvelopeParts}
use Rattle.sieve_syntax.specs.declared.extension.envelope.EnvelopeTest.{EnvelopeTest}
use Rattle.sieve_exec.specs.declared.sizes.Sizes.{Sizes}
use Rattle.sieve_exec.specs.Mails.{MailSpec, is_some_of}
use Rattle.sieve_exec.specs.Matches.{MatchesSome, count_matches, part_matches}
use Rattle.sieve_exec.specs.Parts.{Cuts, local_of, domain_of}
use Rattle.sieve_exec.specs.Sizes.{text_size, no_sizes, sizes_and, values_work}
use Rattle.sieve_exec.specs.Extension.Relational.{is_count}
use Rattle.sieve_exec.specs.Extension.Subaddress.{IsUser, IsDetail, user_of, detail_of}

-- ---- the parts of an address

-- this holds of the local part of an address of the envelope
abbrev pub InLocal : (List ℕ → Type 0) → List ℕ → Type 0
InLocal P text = (local : List ℕ) × (domain : List ℕ) × Cuts text local domain × P local

-- a part of an address of the envelope; each part of the null reverse-path is empty (RFC 5228, 5.4), though its local
-- part has no detail
abbrev pub IsEnvelopePart : AddressPart → List ℕ → List ℕ → Type 0
IsEnvelopePart All text part = part ≡ text
IsEnvelopePart LocalPart text part = (domain : List ℕ) × Cuts text part domain
IsEnvelopePart Domain text part = (local : List ℕ) × Cuts text local part
IsEnvelopePart User text part = InLocal (λ local. IsUser local part) text
IsEnvelopePart Detail text part = InLocal (λ local. IsDetail local part) text ⊎ ((text ≡ []) × (part ≡ []))

-- the part of an address of the envelope that is in IsPart with it, if there is one
abbrev pub envelope_part_of : AddressPart → List ℕ → Option (List ℕ)
envelope_part_of All text = Some text
envelope_part_of LocalPart text = Some (local_of text)
envelope_part_of Domain text = Some (domain_of text)
envelope_part_of User text = Some (user_of (local_of text))
envelope_part_of Detail [] = Some []
envelope_part_of Detail (octet ∷ rest) = detail_of (local_of (octet ∷ rest))

-- ---- which tests hold

-- an address of the envelope that isn't the null reverse-path and has this part
abbrev pub is_counted : AddressPart → List ℕ → Bool
is_counted part address = is_some_of address && is_some (envelope_part_of part address)

-- the number of those that a test names
abbrev pub envelope_counted : MailSpec → EnvelopeTest → ℕ
envelope_counted mail test =
    cond (test.parts.from && is_counted test.part mail.from) 1 0 + cond (test.parts.to && is_counted test.part mail.to) 1 0

-- an address of the envelope that a test names
abbrev pub IsEnvelopeAddress : EnvelopeParts → MailSpec → List ℕ → Type 0
IsEnvelopeAddress parts mail address = ((parts.from ≡ true) × (address ≡ mail.from)) ⊎ ((parts.to ≡ true) × (address ≡ mail.to))

-- a part of an address that the test names matches a key, or their number does in decimal, if values are counted
abbrev pub EnvelopeHolds : MailSpec → EnvelopeTest → Type 0
EnvelopeHolds mail test =
    MatchBool (is_count test.matching)
    (MatchesSome test.comparator test.matching test.keys (decimal (envelope_counted mail test)))
    ((one : List ℕ) × (part : List ℕ) × IsEnvelopeAddress test.parts mail one × IsEnvelopePart test.part one part
    × MatchesSome test.comparator test.matching test.keys part)

-- whether a part of an address of the envelope matches a key of the test
abbrev pub envelope_matches : EnvelopeTest → List ℕ → Bool
envelope_matches test address = part_matches test.comparator test.matching test.keys (envelope_part_of test.part address)

-- whether an address of the envelope that the test names matches a key
abbrev pub some_named_matches : MailSpec → EnvelopeTest → Bool
some_named_matches mail test =
    (test.parts.from && envelope_matches test mail.from) || (test.parts.to && envelope_matches test mail.to)

-- whether `envelope` holds
abbrev pub envelope_holds : MailSpec → EnvelopeTest → Bool
envelope_holds mail test =
    cond (is_count test.matching)
    (count_matches test.comparator test.matching test.keys (envelope_counted mail test))
    (some_named_matches mail test)

-- ---- the work of a test

-- the sizes of the envelope's addresses that a test names
abbrev pub one_sizes : Bool → List ℕ → Sizes
one_sizes asked address = cond asked (record { octets = text_size address; count = 1 }) no_sizes

abbrev pub envelope_sizes : MailSpec → EnvelopeParts → Sizes
envelope_sizes mail parts = sizes_and (one_sizes parts.from mail.from) (one_sizes parts.to mail.to)

-- the work of `envelope`: its addresses are those of two names
abbrev pub envelope_work : MailSpec → EnvelopeTest → ℕ
envelope_work mail test = values_work 2 test.matching (envelope_sizes mail test.parts) test.keys
