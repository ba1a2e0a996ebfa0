-- Capabilities: their names, what a language offers, and what `require` grants (RFC 5228, 2.10.5 and 3.2).
use Rattle.std.specs.Prelude.{◌≡◌, ◌||◌, ℕ, Bool, true, false, cond, nat_eq, codes, List, Option, Some, None}
use Rattle.std.specs.List.{list_any}
use Rattle.std.specs.Cmp.Lexicographic.{pointwise}
use Rattle.sieve_syntax.specs.declared.capability.Capability.{Capability}
use Rattle.sieve_syntax.specs.declared.capability.Capability.TheVariants as C

-- the name by which `require` and the server have it
abbrev pub capability_name : Capability → List ℕ
capability_name C.FileInto = codes "fileinto"
capability_name C.Envelope = codes "envelope"
capability_name C.Vacation = codes "vacation"
capability_name C.Octet = codes "comparator-i;octet"
capability_name C.AsciiCasemap = codes "comparator-i;ascii-casemap"
capability_name C.Copy = codes "copy"
capability_name C.VacationSeconds = codes "vacation-seconds"
capability_name C.Subaddress = codes "subaddress"
capability_name C.Relational = codes "relational"
capability_name C.AsciiNumeric = codes "comparator-i;ascii-numeric"
capability_name C.EncodedCharacter = codes "encoded-character"
capability_name C.Mailbox = codes "mailbox"
capability_name C.Date = codes "date"
capability_name C.Imap4flags = codes "imap4flags"

-- the names that a server lists, with a space between (RFC 5804, 1.7): those that need `require`
abbrev pub offered_names : List ℕ
offered_names = codes "fileinto envelope vacation copy vacation-seconds subaddress relational comparator-i;ascii-numeric encoded-character mailbox date imap4flags"

-- names are compared by octets (RFC 5228, 6.1)
abbrev pub is_name_of : Capability → List ℕ → Bool
is_name_of capability name = pointwise nat_eq name (capability_name capability)

-- the capability with this name
abbrev pub capability_named : List ℕ → Option Capability
capability_named name =
    cond (is_name_of C.FileInto name) (Some C.FileInto)
    (cond (is_name_of C.Envelope name) (Some C.Envelope)
    (cond (is_name_of C.Vacation name) (Some C.Vacation)
    (cond (is_name_of C.Octet name) (Some C.Octet)
    (cond (is_name_of C.AsciiCasemap name) (Some C.AsciiCasemap)
    (cond (is_name_of C.Copy name) (Some C.Copy)
    (cond (is_name_of C.VacationSeconds name) (Some C.VacationSeconds)
    (cond (is_name_of C.Subaddress name) (Some C.Subaddress)
    (cond (is_name_of C.Relational name) (Some C.Relational)
    (cond (is_name_of C.AsciiNumeric name) (Some C.AsciiNumeric)
    (cond (is_name_of C.EncodedCharacter name) (Some C.EncodedCharacter)
    (cond (is_name_of C.Mailbox name) (Some C.Mailbox)
    (cond (is_name_of C.Date name) (Some C.Date)
    (cond (is_name_of C.Imap4flags name) (Some C.Imap4flags)
    None)))))))))))))

-- a set of capabilities
abbrev pub Capabilities : Type 0
Capabilities = Capability → Bool

-- all that sieved has
abbrev pub all_capabilities : Capability → Bool
all_capabilities capability = true

-- whether this is one of a set, and there is one
abbrev pub is_in_set : (Capability → Bool) → Option Capability → Bool
is_in_set offered None = false
is_in_set offered (Some capability) = offered capability

-- whether a set has the capability with this name
abbrev pub knows_name : (Capability → Bool) → List ℕ → Bool
knows_name offered name = is_in_set offered (capability_named name)

abbrev pub KnowsName : (Capability → Bool) → List ℕ → Type 0
KnowsName offered name = knows_name offered name ≡ true

-- what these names grant; `i;octet` and `i;ascii-casemap` may be used without
abbrev pub granted_by : List (List ℕ) → Capability → Bool
granted_by names capability = list_any (is_name_of capability) names

-- what is granted, together with what these names grant
abbrev pub granted_too : (Capability → Bool) → List (List ℕ) → Capability → Bool
granted_too granted names capability = granted capability || granted_by names capability

-- each capability of one set is in the other
abbrev pub IsWithin : (Capability → Bool) → (Capability → Bool) → Type 0
IsWithin few more = (capability : Capability) → few capability ≡ true → more capability ≡ true

-- what is used is granted
abbrev pub Permits : (granted used : Bool) → Type 0
Permits granted used = used ≡ true → granted ≡ true
