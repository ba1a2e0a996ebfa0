-- A name that is no field's name names no field.
use Rattle.std.proofs.Common.{◌≡◌, ◌⊎◌, inl, inr, ℕ, Bool, true, false, cond, ◌&&◌, List, [], ◌∷◌, map, nat_eq, Option, None, Some, refl, sym, ap, ◌∙◌, arith}
use Rattle.std.specs.List.{filter, filter_map, cons_option, list_all}
use Rattle.std.specs.Cmp.Lexicographic.{pointwise}
use Rattle.std.specs.Char.{to_ascii_lowercase}
use Rattle.std.proofs.lemmas.Bool.Decides.{nat_tests}
use Rattle.std.proofs.lemmas.Slice.Eq.{bytes_eq-Decides}
use Rattle.octets.specs.Ascii.{lowered}
use Rattle.mail_head.specs.Fields.{FieldText, IsField, is_name, field_of}
use Rattle.mail_head.specs.Heads.{header_of, unfold_of}
use Rattle.mail_head.proofs.FormLemmas.{field_is}
use Rattle.sieve_exec.specs.declared.envelope.Envelope.{Envelope}
use Rattle.sieve_exec.specs.declared.when.When.{When}
use Rattle.sieve_exec.specs.Mails.{mail_spec_of, field_values}
use Rattle.sieve_exec.specs.Indexes.{raws_keyed}

-- case is nothing to a name's octets
lower_name : (octet : ℕ) → is_name (to_ascii_lowercase octet) ≡ is_name octet
lower_name octet = grind (arith, nat_tests)

lowered_name : (name : List ℕ) → list_all is_name (lowered name) ≡ list_all is_name name
lowered_name [] = refl
lowered_name (octet ∷ rest) = ap (λ b. b && list_all is_name (lowered rest)) (lower_name octet) ∙ ap (λ b. is_name octet && b) (lowered_name rest)

-- empty, or with an octet that may not stand in a name
abbrev IsInvalid : List ℕ → Type 0
IsInvalid name = (list_all is_name name ≡ false) ⊎ (name ≡ [])

nothing_lowered : (name : List ℕ) → lowered name ≡ [] → name ≡ []
nothing_lowered [] none = refl
nothing_lowered (octet ∷ rest) none = cc

against : (line : List ℕ) (field : FieldText) (name : List ℕ) → IsField line field → IsInvalid name → lowered field.name ≡ lowered name → list_all is_name name ≡ true → true ≡ false
against line field name is (inl broken) equal valid = sym valid ∙ broken
against line field name is (inr empty) equal valid = absurd (is.present (nothing_lowered field.name (equal ∙ ap lowered empty)))

-- no field has it
not_of : (line : List ℕ) (field : FieldText) (name : List ℕ) → IsInvalid name → IsField line field → pointwise nat_eq (lowered field.name) (lowered name) ≡ false
not_of line field name invalid is = split (pointwise nat_eq (lowered field.name) (lowered name)) refl
  where
    split : (same : Bool) → pointwise nat_eq (lowered field.name) (lowered name) ≡ same → same ≡ false
    split false other = refl
    split true same =
        let equal : lowered field.name ≡ lowered name = (bytes_eq-Decides (lowered field.name) (lowered name)).0 same in
        let valid : list_all is_name name ≡ true =
        sym (lowered_name name) ∙ sym (ap (list_all is_name) equal) ∙ lowered_name field.name ∙ is.name_octets in
        against line field name is invalid equal valid

-- so there is no raw value under it
no_raws : (lines : List (List ℕ)) (name : List ℕ) → IsInvalid name → raws_keyed (filter_map field_of lines) (lowered name) ≡ []
no_raws [] name invalid = refl
no_raws (line ∷ more) name invalid = split (no_raws more name invalid) (field_of line) refl
  where
    split : raws_keyed (filter_map field_of more) (lowered name) ≡ [] → (field : Option FieldText) → field_of line ≡ field
        → raws_keyed (cons_option field (filter_map field_of more)) (lowered name) ≡ []
    split rest None none = rest
    split rest (Some field) some =
        ap (λ has. map (λ f. f.raw) (cond has (field ∷ filter (λ f. pointwise nat_eq (lowered f.name) (lowered name)) (filter_map field_of more)) (filter (λ f. pointwise nat_eq (lowered f.name) (lowered name)) (filter_map field_of more))))
        (not_of line field name invalid (field_is line field some)) ∙ rest

pub names_nothing : (message : List ℕ) (envelope : Envelope) (when : When) (name : List ℕ) → (list_all is_name name ≡ false) ⊎ (name ≡ []) → field_values (mail_spec_of message envelope when) name ≡ []
names_nothing message envelope when name invalid = ap (map unfold_of) (no_raws (header_of message) name invalid)
