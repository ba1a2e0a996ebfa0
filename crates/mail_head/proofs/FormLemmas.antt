-- A logical line is a field exactly where it has a field's form.
use Rattle.std.proofs.Common.{◌≡◌, ◌≢◌, ℕ, ◌+◌, Bool, true, false, cond, ◌==◌, Option, None, Some, List, [], ◌∷◌, ◌++◌, length, take, drop, refl, sym, ap, ◌∙◌, arith}
use Rattle.std.proofs.lemmas.Bool.{eq-eqb, eqb-true, false≢true}
use Rattle.std.proofs.lemmas.List.{take_at, drop_at, take-append-drop, nil_from_length}
use Rattle.std.proofs.lemmas.List.Folds.{length-prefix_len}
use Rattle.std.proofs.Math.Numerals.{one-add}
use Rattle.mail_head.proofs.HeaderLemmas.{field_there, same_texts}
use Rattle.std.specs.Option.{option_map}
use Rattle.std.specs.List.{list_all, prefix_len, take_while}
use Rattle.octets.specs.Ascii.{is_blank}
use Rattle.octets.proofs.Lists.{some_is}
use Rattle.mail_head.proofs.FoldLemmas.{and_left, and_right}
use Rattle.mail_head.specs.Lines.{without_end}
use Rattle.mail_head.specs.Fields.{FieldText, IsField, is_name, field_of, after_colon, after_blanks, after_field_name}

prefix_step : (p : ℕ → Bool) (test : Bool) (x : ℕ) (xs : List ℕ) (n : ℕ) → p x ≡ test → list_all p (take n xs) ≡ true → list_all p (take (cond test (1 + n) 0) (x ∷ xs)) ≡ true
prefix_step p true x xs n passes later = rw (one-add, passes) later
prefix_step p false x xs n fails later = refl

-- the octets that pass, pass
pub list_all-prefix : (p : ℕ → Bool) (xs : List ℕ) → list_all p (take (prefix_len p xs) xs) ≡ true
list_all-prefix p [] = refl
list_all-prefix p (x ∷ xs) = prefix_step p (p x) x xs (prefix_len p xs) refl (list_all-prefix p xs)

-- whether a text begins with an octet that passes
abbrev pub begins : (ℕ → Bool) → List ℕ → Bool
begins p [] = false
begins p (x ∷ xs) = p x

-- octets that pass before a text that doesn't begin with one
pub prefix_len-stop : (p : ℕ → Bool) (xs ys : List ℕ) → list_all p xs ≡ true → begins p ys ≡ false → prefix_len p (xs ++ ys) ≡ length xs
prefix_len-stop p [] [] all stops = refl
prefix_len-stop p [] (y ∷ ys) all stops = rw stops refl
prefix_len-stop p (x ∷ xs) ys all stops =
    let first : p x ≡ true = and_left (p x) (list_all p xs) all in
    let later = prefix_len-stop p xs ys (and_right (p x) (list_all p xs) all) stops in
    rw (first, later, one-add) refl

from_colon : (text : List ℕ) (make : List ℕ → FieldText) (field : FieldText) → option_map make (after_colon text) ≡ Some field
    → (after : List ℕ) × ((text ≡ 58 ∷ after) × (make after ≡ field))
from_colon [] make field same = absurd (cc same)
from_colon (octet ∷ rest) make field found = step (octet == 58) refl found where
  step : (test : Bool) → (octet == 58) ≡ test → option_map make (cond test (Some rest) None) ≡ Some field
      → (after : List ℕ) × ((octet ∷ rest ≡ 58 ∷ after) × (make after ≡ field))
  step true is same = (rest, (ap (λ b. b ∷ rest) (eqb-true octet 58 is), some_is _ _ same))
  step false other same = absurd (cc same)

named : (field : FieldText) (test : Bool) (found : Option FieldText) → cond test None found ≡ Some field → (test ≡ false) × (found ≡ Some field)
named field true found same = absurd (cc same)
named field false found same = (refl, same)

present : (p : ℕ → Bool) (xs : List ℕ) → (prefix_len p xs == 0) ≡ false → take_while p xs ≢ []
present p xs some none =
    let size = length-prefix_len p xs in
    let zero : prefix_len p xs ≡ 0 = sym size ∙ ap length none in
    false≢true (sym some ∙ eq-eqb (prefix_len p xs) 0 zero)

-- what field_of gives is a field
pub field_is : (line : List ℕ) (field : FieldText) → field_of line ≡ Some field → IsField line field
field_is line field is =
    let parts = named field (prefix_len is_name line == 0) _ is in
    let colon = from_colon (after_blanks (after_field_name line)) (λ value. record { name = take_while is_name line; raw = without_end value }) field parts.1 in
    let name : take_while is_name line ≡ field.name = ap (λ f. f.name) colon.1.1 in
    let raw : without_end colon.0 ≡ field.raw = ap (λ f. f.raw) colon.1.1 in
    let past_name = after_field_name line in
    let whole = take-append-drop (prefix_len is_name line) line in
    let blank = take-append-drop (prefix_len is_blank past_name) past_name in
    record {
      blanks = take_while is_blank past_name;
      after = colon.0;
      spelled = sym whole ∙ (ap (λ t. t ++ past_name) name ∙ ap (λ t. field.name ++ t) (sym blank ∙ ap (λ t. take_while is_blank past_name ++ t) colon.1.0));
      present = λ none. present is_name line parts.0 (name ∙ none);
      name_octets = ap (list_all is_name) (sym name) ∙ list_all-prefix is_name line;
      blank_octets = list_all-prefix is_blank past_name;
      value = sym raw;
    }

begins-blanks : (blanks after : List ℕ) → list_all is_blank blanks ≡ true → begins is_name (blanks ++ 58 ∷ after) ≡ false
begins-blanks [] after all = refl
begins-blanks (octet ∷ blanks) after all = let blank : is_blank octet ≡ true = and_left _ _ all in not_name octet blank where
  not_name : (octet : ℕ) → is_blank octet ≡ true → is_name octet ≡ false
  not_name octet blank = grind arith

-- a field is what field_of gives
pub is_field : (line : List ℕ) (field : FieldText) → IsField line field → field_of line ≡ Some field
is_field line field is =
    let size : prefix_len is_name line ≡ length field.name = ap (prefix_len is_name) is.spelled ∙ prefix_len-stop is_name field.name (is.blanks ++ 58 ∷ is.after) is.name_octets (begins-blanks is.blanks is.after is.blank_octets) in
    let name : take_while is_name line ≡ field.name = ap (take (prefix_len is_name line)) is.spelled ∙ take_at field.name (is.blanks ++ 58 ∷ is.after) (prefix_len is_name line) (sym size) in
    let after : after_field_name line ≡ is.blanks ++ 58 ∷ is.after = ap (drop (prefix_len is_name line)) is.spelled ∙ drop_at field.name (is.blanks ++ 58 ∷ is.after) (prefix_len is_name line) (sym size) in
    let count : prefix_len is_blank (after_field_name line) ≡ length is.blanks = ap (prefix_len is_blank) after ∙ prefix_len-stop is_blank is.blanks (58 ∷ is.after) is.blank_octets refl in
    let colon : after_blanks (after_field_name line) ≡ 58 ∷ is.after = ap (drop (prefix_len is_blank (after_field_name line))) after ∙ drop_at is.blanks (58 ∷ is.after) (prefix_len is_blank (after_field_name line)) (sym count) in
    let there : prefix_len is_name line ≢ 0 = λ zero. is.present (nil_from_length field.name (sym size ∙ zero)) in
    field_there line is.after there colon ∙ same_texts _ _ _ _ name (sym is.value)
