-- The truth of a test is whether it holds.
use Rattle.std.proofs.Common.{decimal, ◌≡◌, ◌≢◌, ℕ, Bool, true, false, cond, ◌||◌, List, [], ◌∷◌, refl, sym, ap, ◌∙◌, subst}
use Rattle.std.specs.Bool.{Decides}
use Rattle.std.specs.List.{list_any, flat_map, Any}
use Rattle.std.proofs.lemmas.List.Folds.{list_any-append}
use Rattle.std.proofs.lemmas.Bool.Decides.{Decides-ltb}
use Rattle.sieve_syntax.specs.declared.tree.checks.Bound.{Bound}
use Rattle.sieve_syntax.specs.declared.tree.checks.Bound.TheVariants.{Over, Under}
use Rattle.sieve_syntax.specs.declared.tree.checks.MailCheck.{MailCheck}
use Rattle.sieve_syntax.specs.declared.tree.checks.MailCheck.TheVariants.{Size, Exists, Header, Address, Extension}
use Rattle.mail_address.specs.declared.address.Addr.{Addr}
use Rattle.mail_address.specs.Parts.{AreAddresses}
use Rattle.mail_address.specs.Reading.{addrs}
use Rattle.mail_address.proofs.Lists.{addrs-are, addrs-only}
use Rattle.sieve_exec.specs.Mails.{MailSpec, field_values, field_texts, has_addresses, field_addresses}
use Rattle.sieve_exec.specs.Parts.{IsAddressPart, address_part_of}
use Rattle.sieve_exec.specs.Extension.Relational.{is_count}
use Rattle.sieve_exec.specs.Counts.{fields_counted, addresses_counted}
use Rattle.sieve_exec.specs.Holding.{IsBeyond, SomeAddress, TestHolds}
use Rattle.sieve_exec.specs.Truth.{is_beyond, is_some_there, truth_by}
use Rattle.sieve_exec.proofs.Decisions.{decides_as, any_decides, all_decides, counts_decides}
use Rattle.sieve_exec.proofs.MatchLemmas.{matches_some_decides}
use Rattle.sieve_exec.proofs.PartLemmas.{part_of_is, part_of_only, part_decides}
use Rattle.sieve_exec.proofs.ExtensionLemmas.{extension_decides}

beyond_decides : (bound : Bound) (size limit : ℕ) → Decides (is_beyond bound size limit) (IsBeyond bound size limit)
beyond_decides Over size limit = Decides-ltb limit size
beyond_decides Under size limit = Decides-ltb size limit

there_decides : (some : List (List ℕ)) → Decides (is_some_there some) (some ≢ [])
there_decides [] = (λ h. absurd (let no : ⊥ = cc in no), λ present. absurd (present refl))
there_decides (one ∷ more) = (λ h same. let no : ⊥ = cc in no, λ present. refl)

-- whether an address in the fields of a name passes
module _ (p : Addr → Bool) (P : Addr → Type 0) (each : (one : Addr) → Decides (p one) (P one)) where
  any_read : (values : List (List ℕ)) → list_any p (flat_map addrs values) ≡ list_any (λ value. list_any p (addrs value)) values
  any_read [] = refl
  any_read (value ∷ more) = list_any-append p (addrs value) (flat_map addrs more) ∙ ap (λ b. list_any p (addrs value) || b) (any_read more)

  in_value : (value : List ℕ) → Decides (list_any p (addrs value)) ((found : List Addr) × AreAddresses value found × Any P found)
  in_value value =
      decides_as _ (λ any. (addrs value, addrs-are value, any)) (λ (found, are, any). subst (Any P) (addrs-only value found are) any) (any_decides p P each (addrs value))

  in_values : (values : List (List ℕ)) → Decides (list_any p (flat_map addrs values)) (Any (λ value. (found : List Addr) × AreAddresses value found × Any P found) values)
  in_values values =
      subst (λ b. Decides b (Any (λ value. (found : List Addr) × AreAddresses value found × Any P found) values)) (sym (any_read values)) (any_decides _ _ in_value values)

  some_decides : (mail : MailSpec) (name : List ℕ) → Decides (list_any p (field_addresses mail name)) (SomeAddress mail name P)
  some_decides mail name = split (has_addresses name) refl
    where
      split : (has : Bool) → has_addresses name ≡ has → Decides (list_any p (cond has (flat_map addrs (field_values mail name)) [])) (SomeAddress mail name P)
      split true has = decides_as _ (λ any. record { fields = has; there = any }) (λ some. some.there) (in_values (field_values mail name))
      split false has = (λ none. absurd (cc none), λ some. let no : false ≡ true = sym has ∙ some.fields in absurd (cc no))

-- a test is true exactly where it holds
pub truth_decides : (mail : MailSpec) (flags : List (List ℕ)) (check : MailCheck) → Decides (truth_by mail flags check) (TestHolds mail flags check)
truth_decides mail flags (Size size) = beyond_decides size.bound mail.size size.limit
truth_decides mail flags (Exists names) = all_decides (λ name. is_some_there (field_values mail name)) (λ name. field_values mail name ≢ []) (λ name. there_decides (field_values mail name)) names
truth_decides mail flags (Header header) =
    counts_decides (is_count header.matching) _ _ _ _
    (matches_some_decides header.comparator header.matching header.keys (decimal (fields_counted mail header.fields)))
    (any_decides _ _ (λ name. any_decides _ _ (matches_some_decides header.comparator header.matching header.keys) (field_texts mail name)) header.fields)
truth_decides mail flags (Address address) =
    counts_decides (is_count address.matching) _ _ _ _
    (matches_some_decides address.comparator address.matching address.keys (decimal (addresses_counted mail address.part address.fields)))
    (any_decides _ _ (λ name. some_decides _ _ (λ one.
    part_decides address.comparator address.matching address.keys (address_part_of address.part one) (IsAddressPart address.part one) (part_of_is address.part one) (part_of_only address.part one)) mail name) address.fields)
truth_decides mail flags (Extension test) = extension_decides mail flags test
