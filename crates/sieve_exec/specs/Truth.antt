-- The truth of tests for a mail and what the run has done: true exactly if the test holds (`truth_of_a_check` of laws.rt).
use Rattle.std.specs.Prelude.{ℕ, Bool, true, false, cond, nat_lt, List, [], ◌∷◌}
use Rattle.std.specs.List.{list_any, list_all}
use Rattle.sieve_syntax.specs.declared.tree.checks.Bound.{Bound}
use Rattle.sieve_syntax.specs.declared.tree.checks.Bound.TheVariants.{Over, Under}
use Rattle.sieve_syntax.specs.declared.tree.checks.Header.{Header as HeaderTest}
use Rattle.sieve_syntax.specs.declared.tree.checks.Address.{Address as AddressTest}
use Rattle.sieve_syntax.specs.declared.tree.checks.MailCheck.{MailCheck}
use Rattle.sieve_syntax.specs.declared.tree.checks.MailCheck.TheVariants.{Size, Exists, Header, Address, Extension}
use Rattle.sieve_syntax.specs.RunState.{RunState}
use Rattle.mail_address.specs.declared.address.Addr.{Addr}
use Rattle.sieve_exec.specs.Mails.{MailSpec, field_values, field_texts, field_addresses}
use Rattle.sieve_exec.specs.Matches.{matches_some, count_matches, part_matches}
use Rattle.sieve_exec.specs.Parts.{address_part_of}
use Rattle.sieve_exec.specs.Counts.{fields_counted, addresses_counted}
use Rattle.sieve_exec.specs.Extension.{extension_truth}
use Rattle.sieve_exec.specs.Extension.Relational.{is_count}

-- whether a size is over or under a limit
abbrev pub is_beyond : Bound → ℕ → ℕ → Bool
is_beyond Over size limit = nat_lt limit size
is_beyond Under size limit = nat_lt size limit

-- whether there are some
abbrev pub is_some_there : List (List ℕ) → Bool
is_some_there [] = false
is_some_there (one ∷ more) = true

-- whether there are fields with these names
abbrev pub all_exist : MailSpec → List (List ℕ) → Bool
all_exist mail names = list_all (λ name. is_some_there (field_values mail name)) names

-- whether a text matches a key of `header`
abbrev pub text_matches : HeaderTest → List ℕ → Bool
text_matches header text = matches_some header.comparator header.matching header.keys text

-- whether some text matches a key of `header`
abbrev pub some_text_matches : MailSpec → HeaderTest → Bool
some_text_matches mail header = list_any (λ name. list_any (text_matches header) (field_texts mail name)) header.fields

-- whether `header` holds
abbrev pub header_holds : MailSpec → HeaderTest → Bool
header_holds mail header =
    cond (is_count header.matching)
    (count_matches header.comparator header.matching header.keys (fields_counted mail header.fields))
    (some_text_matches mail header)

-- whether the part of an address matches a key of `address`
abbrev pub address_matches : AddressTest → Addr → Bool
address_matches address one = part_matches address.comparator address.matching address.keys (address_part_of address.part one)

-- whether some address matches a key of `address`
abbrev pub some_address_matches : MailSpec → AddressTest → Bool
some_address_matches mail address = list_any (λ name. list_any (address_matches address) (field_addresses mail name)) address.fields

-- whether `address` holds
abbrev pub address_holds : MailSpec → AddressTest → Bool
address_holds mail address =
    cond (is_count address.matching)
    (count_matches address.comparator address.matching address.keys (addresses_counted mail address.part address.fields))
    (some_address_matches mail address)

-- whether a test that looks at the message, its envelope or the flags holds
abbrev pub truth_by : MailSpec → (flags : List (List ℕ)) → MailCheck → Bool
truth_by mail flags (Size size) = is_beyond size.bound mail.size size.limit
truth_by mail flags (Exists names) = all_exist mail names
truth_by mail flags (Header header) = header_holds mail header
truth_by mail flags (Address address) = address_holds mail address
truth_by mail flags (Extension test) = extension_truth mail flags test

-- the same for a run that has done this so far
abbrev pub truth_at : MailSpec → RunState → MailCheck → Bool
truth_at mail so_far check = truth_by mail so_far.flags check
