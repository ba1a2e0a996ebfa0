-- What is kept of a message under the names of its fields, in lower case: the keys.
use Rattle.std.specs.Prelude.{◌≡◌, ℕ, Bool, cond, List, [], Some, map, nat_eq, unwrap_or}
use Rattle.std.specs.List.{filter, flat_map, list_any}
use Rattle.std.specs.Ordering.{nat_cmp}
use Rattle.std.specs.Cmp.Lexicographic.{pointwise, slice_cmp}
use Rattle.std.specs.BTreeMap.{BTreeMap, get}
use Rattle.octets.specs.Ascii.{lowered}
use Rattle.mail_head.specs.Fields.{FieldText}
use Rattle.mail_head.specs.Heads.{unfold_of}
use Rattle.mail_address.specs.declared.address.Addr.{Addr}
use Rattle.mail_address.specs.Reading.{addrs}
use Rattle.sieve_exec.specs.Mails.{MailSpec, text_shown, address_fields}

-- the raw values of the fields whose name in lower case is the key, in order
abbrev pub raws_keyed : List FieldText → List ℕ → List (List ℕ)
raws_keyed fields key = map (λ field. field.raw) (filter (λ field. pointwise nat_eq (lowered field.name) key) fields)

-- their unfolded values
abbrev pub values_keyed : MailSpec → List ℕ → List (List ℕ)
values_keyed mail key = map unfold_of (raws_keyed mail.fields key)

-- their texts
abbrev pub texts_keyed : MailSpec → List ℕ → List (List ℕ)
texts_keyed mail key = map text_shown (values_keyed mail key)

-- whether such fields have addresses
abbrev pub is_address_key : List ℕ → Bool
is_address_key key = list_any (λ name. pointwise nat_eq name key) address_fields

-- their addresses
abbrev pub addresses_keyed : MailSpec → List ℕ → List Addr
addresses_keyed mail key = cond (is_address_key key) (flat_map addrs (values_keyed mail key)) []

-- the raw values of each name are there, and nothing is kept under a name that no field has
abbrev pub IsIndex : List FieldText → BTreeMap (List ℕ) (List (List ℕ)) → Type 0
IsIndex fields index = (key : List ℕ) → unwrap_or (get (slice_cmp nat_cmp) index key) [] ≡ raws_keyed fields key

-- what is kept under a key is what is wanted for it
abbrev pub AreKnown : {X : Type 0} → (List ℕ → X) → BTreeMap (List ℕ) X → Type 0
AreKnown {X} wanted known = (key : List ℕ) (kept : X) → get (slice_cmp nat_cmp) known key ≡ Some kept → kept ≡ wanted key
