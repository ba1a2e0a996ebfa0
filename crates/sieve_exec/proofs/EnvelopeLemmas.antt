-- `envelope` is true exactly where it holds.
use Rattle.std.proofs.Common.{decimal, ◌≡◌, Bool, true, ◌⊎◌, inl, inr, ℕ, List, refl, subst}
use Rattle.std.specs.Bool.{Decides}
use Rattle.std.proofs.lemmas.Bool.Decides.{Decides-and, Decides-or}
use Rattle.sieve_syntax.specs.declared.extension.envelope.EnvelopeTest.{EnvelopeTest}
use Rattle.sieve_exec.specs.Mails.{MailSpec}
use Rattle.sieve_exec.specs.Matches.{MatchesSome}
use Rattle.sieve_exec.specs.Extension.Relational.{is_count}
use Rattle.sieve_exec.specs.Extension.Envelope.{IsEnvelopePart, envelope_part_of, envelope_counted, IsEnvelopeAddress, envelope_matches, EnvelopeHolds, envelope_holds}
use Rattle.sieve_exec.proofs.Decisions.{decides_as, counts_decides}
use Rattle.sieve_exec.proofs.MatchLemmas.{matches_some_decides}
use Rattle.sieve_exec.proofs.PartLemmas.{part_is, part_only, part_decides}

-- a part of an address of the envelope matches
abbrev Part : EnvelopeTest → List ℕ → Type 0
Part test address = (part : List ℕ) × IsEnvelopePart test.part address part × MatchesSome test.comparator test.matching test.keys part

matching_decides : (test : EnvelopeTest) (address : List ℕ) → Decides (envelope_matches test address) (Part test address)
matching_decides test address =
    part_decides test.comparator test.matching test.keys (envelope_part_of test.part address) (IsEnvelopePart test.part address) (part_is test.part address) (part_only test.part address)

abbrev Named : MailSpec → EnvelopeTest → Type 0
Named mail test = (one : List ℕ) × (part : List ℕ) × IsEnvelopeAddress test.parts mail one × IsEnvelopePart test.part one part × MatchesSome test.comparator test.matching test.keys part

named : (mail : MailSpec) (test : EnvelopeTest) → ((test.parts.from ≡ true) × Part test mail.from) ⊎ ((test.parts.to ≡ true) × Part test mail.to) → Named mail test
named mail test (inl (asked, (part, is, matches))) = (mail.from, part, inl (asked, refl), is, matches)
named mail test (inr (asked, (part, is, matches))) = (mail.to, part, inr (asked, refl), is, matches)

part_there : (test : EnvelopeTest) (address one part : List ℕ) → one ≡ address → IsEnvelopePart test.part one part → MatchesSome test.comparator test.matching test.keys part → Part test address
part_there test address one part same is matches = (part, subst (λ (a : List ℕ). IsEnvelopePart test.part a part) same is, matches)

asked_for : (mail : MailSpec) (test : EnvelopeTest) (one part : List ℕ) → IsEnvelopeAddress test.parts mail one → IsEnvelopePart test.part one part → MatchesSome test.comparator test.matching test.keys part
    → ((test.parts.from ≡ true) × Part test mail.from) ⊎ ((test.parts.to ≡ true) × Part test mail.to)
asked_for mail test one part (inl (asked, same)) is matches = inl (asked, part_there test mail.from one part same is matches)
asked_for mail test one part (inr (asked, same)) is matches = inr (asked, part_there test mail.to one part same is matches)

is_asked : (asked : Bool) → Decides asked (asked ≡ true)
is_asked asked = (λ h. h, λ h. h)

pub envelope_decides : (mail : MailSpec) (test : EnvelopeTest) → Decides (envelope_holds mail test) (EnvelopeHolds mail test)
envelope_decides mail test =
    counts_decides (is_count test.matching) _ _ _ _
    (matches_some_decides test.comparator test.matching test.keys (decimal (envelope_counted mail test)))
    (decides_as _ (named mail test) (λ (one, part, name, is, matches). asked_for mail test one part name is matches)
    (Decides-or _ _
    (Decides-and _ _ (is_asked test.parts.from) (matching_decides test mail.from))
    (Decides-and _ _ (is_asked test.parts.to) (matching_decides test mail.to))))
