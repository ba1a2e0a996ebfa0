-- What `:count` counts (RFC 5231, 4.2): of all the names together, before any key is looked at.
use Rattle.std.specs.Prelude.{ℕ, Bool, is_some, length, List, sum_by, count_by}
use Rattle.sieve_syntax.specs.declared.tree.checks.AddressPart.{AddressPart}
use Rattle.mail_address.specs.declared.address.Addr.{Addr}
use Rattle.sieve_exec.specs.Mails.{MailSpec, field_texts, field_addresses}
use Rattle.sieve_exec.specs.Parts.{address_part_of}

-- the number of fields with these names, each of which has one text; those with a name that is given twice count twice
abbrev pub fields_counted : MailSpec → List (List ℕ) → ℕ
fields_counted mail names = sum_by (λ name. length (field_texts mail name)) names

-- an address that has this part
abbrev pub has_part : AddressPart → Addr → Bool
has_part part one = is_some (address_part_of part one)

-- the number of addresses in the fields with these names that have this part
abbrev pub addresses_counted : MailSpec → AddressPart → List (List ℕ) → ℕ
addresses_counted mail part names = sum_by (λ name. count_by (has_part part) (field_addresses mail name)) names
