-- The work of a test: about how many octets it looks at and compares. It depends on the sizes of its names and keys and of the values that
-- it looks at, so it is known before they are compared.
use Rattle.std.specs.Prelude.{ℕ, ◌+◌, length, List, sum_by}
use Rattle.mail_address.specs.declared.address.Addr.{Addr}
use Rattle.mail_address.specs.Spelling.{unquoted_address}
use Rattle.sieve_syntax.specs.declared.tree.checks.Matching.{Matching}
use Rattle.sieve_syntax.specs.declared.tree.checks.MailCheck.{MailCheck}
use Rattle.sieve_syntax.specs.declared.tree.checks.MailCheck.TheVariants.{Size, Exists, Header, Address, Extension}
use Rattle.sieve_syntax.specs.RunState.{RunState}
use Rattle.sieve_exec.specs.declared.sizes.Sizes.{Sizes}
use Rattle.sieve_exec.specs.Mails.{MailSpec, field_texts, field_addresses}
use Rattle.sieve_exec.specs.Sizes.{text_size, sizes_of, values_work, names_work}
use Rattle.sieve_exec.specs.Extension.{extension_work}

-- ---- values

-- the sizes of the values of the fields with these names
abbrev pub named_sizes : (List ℕ → Sizes) → List (List ℕ) → Sizes
named_sizes sizes names = record { octets = sum_by (λ name. (sizes name).octets) names; count = sum_by (λ name. (sizes name).count) names }

abbrev pub header_sizes : MailSpec → List (List ℕ) → Sizes
header_sizes mail names = named_sizes (λ name. sizes_of (field_texts mail name)) names

-- the sizes of addresses as `:all` has them
abbrev pub sizes_of_addresses : List Addr → Sizes
sizes_of_addresses found = record { octets = sum_by (λ one. text_size (unquoted_address one)) found; count = length found }

abbrev pub address_sizes : MailSpec → List (List ℕ) → Sizes
address_sizes mail names = named_sizes (λ name. sizes_of_addresses (field_addresses mail name)) names

-- ---- tests

-- the work of a test whose values are in fields
abbrev pub fields_work : List (List ℕ) → Matching → Sizes → List (List ℕ) → ℕ
fields_work names matching sizes keys = names_work names + values_work (length names) matching sizes keys

-- the work of a test that looks at the message, its envelope or the flags of the run
abbrev pub work_by : MailSpec → (flags : List (List ℕ)) → MailCheck → ℕ
work_by mail flags (Size size) = 1
work_by mail flags (Exists names) = names_work names
work_by mail flags (Header header) = fields_work header.fields header.matching (header_sizes mail header.fields) header.keys
work_by mail flags (Address address) = fields_work address.fields address.matching (address_sizes mail address.fields) address.keys
work_by mail flags (Extension test) = extension_work mail flags test

-- the same for a run that has done this so far
abbrev pub work_at : MailSpec → RunState → MailCheck → ℕ
work_at mail so_far check = work_by mail so_far.flags check
