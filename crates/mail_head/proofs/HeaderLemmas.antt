-- Lemmas on the form of a field.
use Rattle.std.proofs.Common.{◌≡◌, ◌≢◌, ℕ, Bool, true, false, cond, ◌==◌, Option, None, Some, List, [], ◌∷◌, refl}
use Rattle.std.proofs.lemmas.Bool.{false_from_ne_true, eqb-true}
use Rattle.std.specs.List.{prefix_len, take_while}
use Rattle.mail_head.specs.Lines.{without_end}
use Rattle.mail_head.specs.Fields.{FieldText, is_name, field_of, after_blanks, after_field_name}

none_both : (test : Bool) → let none : Option FieldText = None in cond test none none ≡ none
none_both true = refl
none_both false = refl

-- no name
pub field_nameless : (line : List ℕ) → prefix_len is_name line ≡ 0 → field_of line ≡ None
field_nameless line none = rw none refl

-- nothing after the name and the blanks
pub field_ended : (line : List ℕ) → after_blanks (after_field_name line) ≡ [] → field_of line ≡ None
field_ended line end = rw end (none_both (prefix_len is_name line == 0))

-- no colon
pub field_other : (line : List ℕ) (octet : ℕ) (after : List ℕ) → after_blanks (after_field_name line) ≡ octet ∷ after → octet ≢ 58 → field_of line ≡ None
field_other line octet after at other =
    let no = false_from_ne_true (octet == 58) (λ yes. other (eqb-true octet 58 yes)) in
    rw (at, no) (none_both (prefix_len is_name line == 0))

-- a field
pub field_there : (line : List ℕ) (after : List ℕ) → prefix_len is_name line ≢ 0 → after_blanks (after_field_name line) ≡ 58 ∷ after → field_of line ≡ Some (record { name = take_while is_name line; raw = without_end after })
field_there line after present at =
    let named = false_from_ne_true (prefix_len is_name line == 0) (λ yes. present (eqb-true (prefix_len is_name line) 0 yes)) in
    rw (at, named) refl

-- fields with equal texts
pub same_texts : (name names raw raws : List ℕ) → name ≡ names → raw ≡ raws
    → Some (let field : FieldText = record { name = name; raw = raw } in field) ≡ Some (record { name = names; raw = raws })
same_texts name names raw raws p q = λ i. Some (record { name = p i; raw = q i })
