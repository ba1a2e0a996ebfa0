-- Which tests hold of a mail and the flags that the run has set (RFC 5228, 5; RFC 5231; RFC 5232; RFC 5260).
use Rattle.std.specs.Prelude.{◌≡◌, ◌≢◌, ◌<◌, ℕ, true, List, [], decimal, MatchBool}
use Rattle.std.specs.List.{All, Any}
use Rattle.sieve_syntax.specs.declared.tree.checks.Bound.{Bound}
use Rattle.sieve_syntax.specs.declared.tree.checks.Bound.TheVariants.{Over, Under}
use Rattle.sieve_syntax.specs.declared.tree.checks.MailCheck.{MailCheck}
use Rattle.sieve_syntax.specs.declared.tree.checks.MailCheck.TheVariants.{Size, Exists, Header, Address, Extension}
use Rattle.mail_address.specs.declared.address.Addr.{Addr}
use Rattle.mail_address.specs.Parts.{AreAddresses}
use Rattle.sieve_exec.specs.Mails.{MailSpec, field_values, field_texts, has_addresses}
use Rattle.sieve_exec.specs.Matches.{MatchesSome}
use Rattle.sieve_exec.specs.Parts.{IsAddressPart}
use Rattle.sieve_exec.specs.Counts.{fields_counted, addresses_counted}
use Rattle.sieve_exec.specs.Extension.{ExtensionHolds}
use Rattle.sieve_exec.specs.Extension.Relational.{is_count}

-- a size over or under a limit; one equal to the limit is neither (RFC 5228, 5.9)
abbrev pub IsBeyond : Bound → ℕ → ℕ → Type 0
IsBeyond Over size limit = limit < size
IsBeyond Under size limit = size < limit

-- this holds of an address in the fields with a name: such fields have addresses, and one of their values has such an address
-- (RFC 5322, 3.4)
pub record SomeAddress (mail : MailSpec) (name : List ℕ) (P : Addr → Type 0) : Type 0 where
  pub fields : has_addresses name ≡ true
  pub there : Any (λ value. (found : List Addr) × AreAddresses value found × Any P found) (field_values mail name)

-- a test that looks at the message, its envelope or the flags holds (RFC 5228, 5.1, 5.5, 5.7, 5.9). If values are counted, their number in
-- decimal matches a key (RFC 5231, 4.2)
abbrev pub TestHolds : MailSpec → (flags : List (List ℕ)) → MailCheck → Type 0
TestHolds mail flags (Size size) = IsBeyond size.bound mail.size size.limit
TestHolds mail flags (Exists names) = All (λ name. field_values mail name ≢ []) names
TestHolds mail flags (Header header) =
    MatchBool (is_count header.matching)
    (MatchesSome header.comparator header.matching header.keys (decimal (fields_counted mail header.fields)))
    (Any (λ name. Any (MatchesSome header.comparator header.matching header.keys) (field_texts mail name)) header.fields)
TestHolds mail flags (Address address) =
    MatchBool (is_count address.matching)
    (MatchesSome address.comparator address.matching address.keys (decimal (addresses_counted mail address.part address.fields)))
    (Any (λ name. SomeAddress mail name (λ one. (part : List ℕ) × IsAddressPart address.part one part × MatchesSome address.comparator address.matching address.keys part)) address.fields)
TestHolds mail flags (Extension test) = ExtensionHolds mail flags test
