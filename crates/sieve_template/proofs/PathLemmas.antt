-- How the inside of a reference is read: what a text begins with, up to the octet behind its first name.
use Rattle.std.proofs.Common.{refl, ◌≡◌, ◌⊎◌, ◌||◌, ℕ, suc, ◌+◌, ◌-◌, ◌<◌, ◌≤◌, true, false, cond, List, [], ◌∷◌, ◌++◌, length, take, drop, sym, ap, subst, ◌∙◌, inl, inr, ⊎_elim, get_or, ◌↔◌, ◌*◌, min, Option, None, Some, MatchOption, arith, append_assoc, length-append}
use Rattle.std.proofs.lemmas.List.{take_at, drop_at, take-append-drop, drop_more, drop_all, drop-drop, length-drop}
use Rattle.std.proofs.lemmas.Bool.{and_parts, and_from, or_left, both_ways, cond_both, cases_lt}
use Rattle.std.specs.Char.{is_ascii_digit, is_ascii_alphanumeric}
use Rattle.std.specs.Int.{is_in_range}
use Rattle.octets.specs.Decimal.{number_of}
use Rattle.sieve_template.specs.declared.limits.TheConstants.{MAX_MATCH_VARIABLE}
use Rattle.std.specs.List.{list_all, prefix_len}
use Rattle.sieve_template.specs.Templates.{is_variable_octet, IsNumVariable, IsIdentifier, IsVariableName, dotted_names, AreVariableNames, IsNamespacedName, IsInBraces}
use Rattle.sieve_template.specs.declared.reference.NameKind.{NameKind}
use Rattle.sieve_template.specs.declared.reference.NameKind.TheVariants.{Number, Identifier}
use Rattle.sieve_template.specs.Reading.{name_run, IsNameOf, NamesClose, BeginsInBraces, RefersBy, StandsInBraces, IsPathTo}
use Rattle.sieve_template.specs.declared.reference.Reference.{Reference}
use Rattle.sieve_template.specs.declared.template.Piece.{Piece}
use Rattle.sieve_template.specs.declared.template.Piece.TheVariants.{Text, Variable, Match, Namespaced}

-- two texts that are the same begin with the same octet, and go on alike
head_is : (x y : ℕ) (l m : List ℕ) → x ∷ l ≡ y ∷ m → x ≡ y
head_is x y l m e = cc

tail_is : (x y : ℕ) (l m : List ℕ) → x ∷ l ≡ y ∷ m → l ≡ m
tail_is x y l m e = cc

-- a digit is an octet of names
digit_of_name : (x : ℕ) → is_ascii_digit x ≡ true → is_variable_octet x ≡ true
digit_of_name x digit =
    or_left (is_ascii_alphanumeric x) _ (or_left (is_in_range 48 57 x || is_in_range 65 90 x) _ (or_left (is_in_range 48 57 x) _ digit))

digits_of_name : (l : List ℕ) → list_all is_ascii_digit l ≡ true → list_all is_variable_octet l ≡ true
digits_of_name [] all = refl
digits_of_name (x ∷ l) all =
    let parts = and_parts (is_ascii_digit x) (list_all is_ascii_digit l) all in
    and_from (is_variable_octet x) (list_all is_variable_octet l) (digit_of_name x parts.0) (digits_of_name l parts.1)

pub number_octets : (name : List ℕ) → IsNumVariable name → list_all is_variable_octet name ≡ true
unfolding IsNumVariable
number_octets [] is = absurd is
number_octets (x ∷ rest) is = digits_of_name (x ∷ rest) is

pub identifier_octets : (name : List ℕ) → IsIdentifier name → list_all is_variable_octet name ≡ true
unfolding IsIdentifier
identifier_octets [] is = absurd is
identifier_octets (x ∷ rest) is = is.1

pub name_octets : (name : List ℕ) → IsVariableName name → list_all is_variable_octet name ≡ true
name_octets name (inl is) = number_octets name is
name_octets name (inr is) = identifier_octets name is

-- no name is both
pub not_both : (name : List ℕ) → IsNumVariable name → IsIdentifier name → ⊥
unfolding IsNumVariable IsIdentifier
not_both [] number identifier = number
not_both (x ∷ rest) number identifier =
    both_ways (is_ascii_digit x) identifier.0 (and_parts (is_ascii_digit x) (list_all is_ascii_digit rest) number).0

-- a name is what a text begins with of octets of names, if another octet follows
run_is : (name : List ℕ) (x : ℕ) (rest : List ℕ) → list_all is_variable_octet name ≡ true → is_variable_octet x ≡ false → length name ≡ name_run (name ++ x ∷ rest)
run_is [] x rest all other = sym (ap (λ b. cond b (1 + prefix_len is_variable_octet rest) 0) other)
run_is (y ∷ name) x rest all other =
    let parts = and_parts (is_variable_octet y) (list_all is_variable_octet name) all in
    let more : length name ≡ name_run (name ++ x ∷ rest) = run_is name x rest parts.1 other in
    let count : suc (length name) ≡ 1 + name_run (name ++ x ∷ rest) = omega (arith, more) in
    count ∙ sym (ap (λ b. cond b (1 + prefix_len is_variable_octet (name ++ x ∷ rest)) 0) parts.0)

pub record FirstName (text name behind : List ℕ) : Type 0 where
  pub front : take (name_run text) text ≡ name
  pub back : drop (name_run text) text ≡ behind

first_name : (text name : List ℕ) (x : ℕ) (rest : List ℕ) → text ≡ name ++ x ∷ rest → list_all is_variable_octet name ≡ true → is_variable_octet x ≡ false → FirstName text name (x ∷ rest)
first_name text name x rest spelled all other =
    let run : length name ≡ name_run text = run_is name x rest all other ∙ ap name_run (sym spelled) in
    record {
      front = ap (take (name_run text)) spelled ∙ take_at name (x ∷ rest) (name_run text) run;
      back = ap (drop (name_run text)) spelled ∙ drop_at name (x ∷ rest) (name_run text) run;
    }

-- behind a name a dot, and then names that close
pub record DotClose (behind after : List ℕ) : Type 0 where
  pub more : List ℕ
  pub dot : behind ≡ 46 ∷ more
  pub close : NamesClose more after

-- names that close begin with one, and a brace or a dot
pub record CloseRun (text after : List ℕ) : Type 0 where
  pub name : IsVariableName (take (name_run text) text)
  pub behind : (drop (name_run text) text ≡ 125 ∷ after) ⊎ DotClose (drop (name_run text) text) after

close_run_of : (text after name : List ℕ) (names : List (List ℕ)) → text ≡ name ++ (dotted_names names ++ 125 ∷ after) → IsVariableName name → AreVariableNames names → CloseRun text after
unfolding dotted_names AreVariableNames
close_run_of text after name [] spelled is are =
    let parts = first_name text name 125 after spelled (name_octets name is) refl in
    record { name = subst IsVariableName (sym parts.front) is; behind = inl parts.back }
close_run_of text after name (next ∷ names) spelled is are =
    let rest : List ℕ = (next ++ dotted_names names) ++ 125 ∷ after in
    let parts = first_name text name 46 rest spelled (name_octets name is) refl in
    let close : NamesClose rest after = record { name = next; names = names; spelled = append_assoc next (dotted_names names) (125 ∷ after); name_is = are.0; names_are = are.1 } in
    record { name = subst IsVariableName (sym parts.front) is; behind = inr (record { more = rest; dot = parts.back; close = close }) }

pub close_run : (text after : List ℕ) → NamesClose text after → CloseRun text after
close_run text after c = close_run_of text after c.name c.names c.spelled c.name_is c.names_are

-- a name and a brace close
pub close_brace : (text after : List ℕ) (k : ℕ) → IsVariableName (take k text) → drop k text ≡ 125 ∷ after → NamesClose text after
unfolding dotted_names AreVariableNames
close_brace text after k is brace = record {
  name = take k text;
  names = [];
  spelled = sym (take-append-drop k text) ∙ ap (λ l. take k text ++ l) brace;
  name_is = is;
  names_are = tt;
}

-- so do a name, a dot, and what closes
pub close_dot : (text after more : List ℕ) (k : ℕ) → IsVariableName (take k text) → drop k text ≡ 46 ∷ more → NamesClose more after → NamesClose text after
unfolding dotted_names AreVariableNames
close_dot text after more k is dot c = record {
  name = take k text;
  names = c.name ∷ c.names;
  spelled = sym (take-append-drop k text) ∙ ap (λ l. take k text ++ l) (dot ∙ ap (λ l. 46 ∷ l) (c.spelled ∙ sym (append_assoc c.name (dotted_names c.names) (125 ∷ after))));
  name_is = is;
  names_are = (c.name_is, c.names_are);
}

-- no names close in nothing
pub close_nothing : (after : List ℕ) → NamesClose [] after → ⊥
close_nothing after c = omega (arith, ap length c.spelled, length-append c.name (dotted_names c.names ++ 125 ∷ after), length-append (dotted_names c.names) (125 ∷ after))

-- what is in braces begins with a name, and a brace or, behind an identifier, a dot
pub record BraceRun (text after : List ℕ) : Type 0 where
  pub name : IsVariableName (take (name_run text) text)
  pub behind : (drop (name_run text) text ≡ 125 ∷ after) ⊎ (IsIdentifier (take (name_run text) text) × DotClose (drop (name_run text) text) after)

pub brace_run : (piece : Piece) (text after : List ℕ) → BeginsInBraces piece text after → BraceRun text after
unfolding IsInBraces dotted_names AreVariableNames
brace_run (Text own) text after b = absurd b.is
brace_run (Variable name) text after b =
    let is : IsIdentifier b.inside = subst IsIdentifier (sym b.is.0) b.is.1 in
    let parts = first_name text b.inside 125 after b.spelled (identifier_octets b.inside is) refl in
    record { name = subst IsVariableName (sym parts.front) (inr is); behind = inl parts.back }
brace_run (Match number) text after b =
    let parts = first_name text b.inside 125 after b.spelled (number_octets b.inside b.is.1) refl in
    record { name = subst IsVariableName (sym parts.front) (inl b.is.1); behind = inl parts.back }
brace_run (Namespaced path) text after b =
    let n = b.is.1 in
    let space : List ℕ = n.space in
    let inner : List ℕ = n.name ++ dotted_names n.names in
    let rest : List ℕ = inner ++ 125 ∷ after in
    let inside : b.inside ≡ space ++ (46 ∷ inner) = b.is.0 ∙ n.spelled in
    let whole : text ≡ space ++ (46 ∷ rest) = b.spelled ∙ ap (λ l. l ++ 125 ∷ after) inside ∙ append_assoc space (46 ∷ inner) (125 ∷ after) in
    let parts = first_name text space 46 rest whole (identifier_octets space n.space_is) refl in
    let close : NamesClose rest after = record { name = n.name; names = n.names; spelled = append_assoc n.name (dotted_names n.names) (125 ∷ after); name_is = n.names_are.0; names_are = n.names_are.1 } in
    record { name = subst IsVariableName (sym parts.front) (inr n.space_is); behind = inr (subst IsIdentifier (sym parts.front) n.space_is, record { more = rest; dot = parts.back; close = close }) }

-- an identifier, a dot, and names that close are a namespaced name and a brace
pub record PathMade (text after : List ℕ) : Type 0 where
  pub inside : List ℕ
  pub is : IsNamespacedName inside
  pub spelled : text ≡ inside ++ 125 ∷ after

pub path_made : (text after more : List ℕ) (k : ℕ) → IsIdentifier (take k text) → drop k text ≡ 46 ∷ more → NamesClose more after → PathMade text after
unfolding dotted_names AreVariableNames
path_made text after more k is dot c =
    let inner : List ℕ = c.name ++ dotted_names c.names in
    record {
      inside = take k text ++ (46 ∷ inner);
      is = record { space = take k text; name = c.name; names = c.names; spelled = refl; space_is = is; names_are = (c.name_is, c.names_are) };
      spelled = sym (take-append-drop k text) ∙ ap (λ l. take k text ++ l) (dot ∙ ap (λ l. 46 ∷ l) (c.spelled ∙ sym (append_assoc c.name (dotted_names c.names) (125 ∷ after))))
          ∙ sym (append_assoc (take k text) (46 ∷ inner) (125 ∷ after));
    }

-- the inside, by the places of its ends
pub inside_is : (text after inside : List ℕ) (n : ℕ) → text ≡ inside ++ 125 ∷ after → length text ≡ n + 1 + length after → take n text ≡ inside
inside_is text after inside n spelled long =
    ap (take n) spelled ∙ take_at inside (125 ∷ after) n (omega (arith, long, ap length spelled, length-append inside (125 ∷ after)))

-- names begin with an octet
pub named_some : (name : List ℕ) → IsVariableName name → 0 < length name
unfolding IsNumVariable IsIdentifier
named_some [] (inl is) = absurd is
named_some [] (inr is) = absurd is
named_some (x ∷ rest) is = omega arith

-- a name of a kind is a name, and one that is no identifier is a number
pub kind_named : (kind : NameKind) (name : List ℕ) → IsNameOf kind name → IsVariableName name
kind_named Number name is = inl is
kind_named Identifier name is = inr is

pub kind_number : (kind : NameKind) (name : List ℕ) → (kind ≡ Identifier → ⊥) → IsNameOf kind name → IsNumVariable name
kind_number Number name other is = is
kind_number Identifier name other is = absurd (other refl)

-- what octets of names are, by the first
pub identifier_if : (name : List ℕ) → 0 < length name → is_ascii_digit (get_or name 0 0) ≡ false → list_all is_variable_octet name ≡ true → IsIdentifier name
unfolding IsIdentifier
identifier_if [] some digit all = omega (arith, some)
identifier_if (x ∷ rest) some digit all = (digit, all)

-- an identifier is octets of names, the first of which is no digit
pub identifier_parts : (name : List ℕ) → IsIdentifier name → (0 < length name) × ((is_ascii_digit (get_or name 0 0) ≡ false) × (list_all is_variable_octet name ≡ true))
unfolding IsIdentifier
identifier_parts [] is = absurd is
identifier_parts (x ∷ rest) is = (omega arith, is)

pub number_if : (name : List ℕ) → 0 < length name → list_all is_ascii_digit name ≡ true → IsNumVariable name
unfolding IsNumVariable
number_if [] some all = omega (arith, some)
number_if (x ∷ rest) some all = all

pub neither_if : (name : List ℕ) → is_ascii_digit (get_or name 0 0) ≡ true → list_all is_ascii_digit name ≡ false → IsVariableName name → ⊥
unfolding IsNumVariable IsIdentifier
neither_if [] digit other (inl is) = is
neither_if [] digit other (inr is) = is
neither_if (x ∷ rest) digit other (inl is) = both_ways (list_all is_ascii_digit (x ∷ rest)) other is
neither_if (x ∷ rest) digit other (inr is) = both_ways (is_ascii_digit x) is.0 digit

-- what a text begins with of octets of names
pub run_octets : (text : List ℕ) → list_all is_variable_octet (take (name_run text) text) ≡ true
run_octets [] = refl
run_octets (x ∷ rest) =
    let P : ℕ → Type 0 = λ m. list_all is_variable_octet (take m (x ∷ rest)) ≡ true in
    let more : suc (name_run rest) ≡ 1 + name_run rest = omega arith in
    cond_both (is_variable_octet x) (1 + name_run rest) 0 P
    (λ yes. subst P more (and_from (is_variable_octet x) (list_all is_variable_octet (take (name_run rest) rest)) yes (run_octets rest)))
    (λ no. refl)

module _ (text : List ℕ) (at n : ℕ) (run : n ≡ name_run (drop at text)) where
  -- the octet behind the first name
  behind : at + n < length text → drop (name_run (drop at text)) (drop at text) ≡ get_or text (at + n) 0 ∷ drop (at + n + 1) text
  behind inside = ap (λ k. drop k (drop at text)) (sym run) ∙ drop-drop n at text ∙ drop_more text (at + n) 0 inside

  nothing_behind : length text ≤ at + n → drop (name_run (drop at text)) (drop at text) ≡ []
  nothing_behind past = ap (λ k. drop k (drop at text)) (sym run) ∙ drop-drop n at text ∙ drop_all (at + n) text past

  own_name : IsVariableName (take (name_run (drop at text)) (drop at text)) → IsVariableName (take n (drop at text))
  own_name is = subst (λ k. IsVariableName (take k (drop at text))) (sym run) is

  pub none_name : (IsVariableName (take n (drop at text)) → ⊥) → (after : List ℕ) → NamesClose (drop at text) after → ⊥
  none_name none after c = none (own_name (close_run (drop at text) after c).name)

  -- what is behind it if names close
  close_behind : (l after : List ℕ) → drop (name_run (drop at text)) (drop at text) ≡ l → NamesClose (drop at text) after → (l ≡ 125 ∷ after) ⊎ DotClose l after
  close_behind l after e c = subst (λ b. (b ≡ 125 ∷ after) ⊎ DotClose b after) e (close_run (drop at text) after c).behind

  pub none_end : length text ≤ at + n → (after : List ℕ) → NamesClose (drop at text) after → ⊥
  none_end past after c = ⊎_elim (λ brace. cc) (λ d. let dot : [] ≡ 46 ∷ d.more = d.dot in cc) (close_behind [] after (nothing_behind past) c)

  module _ (inside : at + n < length text) where
    pub none_octet : (get_or text (at + n) 0 ≡ 125 → ⊥) → (get_or text (at + n) 0 ≡ 46 → ⊥) → (after : List ℕ) → NamesClose (drop at text) after → ⊥
    none_octet brace dot after c = ⊎_elim
        (λ is. brace (head_is (get_or text (at + n) 0) 125 (drop (at + n + 1) text) after is))
        (λ d. dot (head_is (get_or text (at + n) 0) 46 (drop (at + n + 1) text) d.more d.dot))
        (close_behind (get_or text (at + n) 0 ∷ drop (at + n + 1) text) after (behind inside) c)

    at_octet : (x : ℕ) → get_or text (at + n) 0 ≡ x → drop n (drop at text) ≡ x ∷ drop (at + n + 1) text
    at_octet x is = drop-drop n at text ∙ drop_more text (at + n) 0 inside ∙ ap (λ y. y ∷ drop (at + n + 1) text) is

    pub brace_closes : IsVariableName (take n (drop at text)) → get_or text (at + n) 0 ≡ 125 → NamesClose (drop at text) (drop (at + n + 1) text)
    brace_closes is brace = close_brace (drop at text) (drop (at + n + 1) text) n is (at_octet 125 brace)

    pub dot_goes_on : IsVariableName (take n (drop at text)) → get_or text (at + n) 0 ≡ 46 → (after : List ℕ) → NamesClose (drop at text) after ↔ NamesClose (drop (at + n + 1) text) after
    dot_goes_on is dot after = (
      λ c. ⊎_elim
          (λ brace. absurd (omega (arith, dot, head_is (get_or text (at + n) 0) 125 (drop (at + n + 1) text) after brace)))
          (λ d. subst (λ l. NamesClose l after) (sym (tail_is (get_or text (at + n) 0) 46 (drop (at + n + 1) text) d.more d.dot)) d.close)
          (close_behind (get_or text (at + n) 0 ∷ drop (at + n + 1) text) after (behind inside) c),
      λ c. close_dot (drop at text) after (drop (at + n + 1) text) n is (at_octet 46 dot) c,
    )

  -- the same of what is in braces
  brace_behind : (piece : Piece) (l after : List ℕ) → drop (name_run (drop at text)) (drop at text) ≡ l → BeginsInBraces piece (drop at text) after
      → (l ≡ 125 ∷ after) ⊎ (IsIdentifier (take n (drop at text)) × DotClose l after)
  brace_behind piece l after e b =
      subst (λ k. (l ≡ 125 ∷ after) ⊎ (IsIdentifier (take k (drop at text)) × DotClose l after)) (sym run)
      (subst (λ x. (x ≡ 125 ∷ after) ⊎ (IsIdentifier (take (name_run (drop at text)) (drop at text)) × DotClose x after)) e (brace_run piece (drop at text) after b).behind)

  pub inside_no_name : (IsVariableName (take n (drop at text)) → ⊥) → (piece : Piece) (after : List ℕ) → BeginsInBraces piece (drop at text) after → ⊥
  inside_no_name none piece after b = none (own_name (brace_run piece (drop at text) after b).name)

  pub inside_no_end : length text ≤ at + n → (piece : Piece) (after : List ℕ) → BeginsInBraces piece (drop at text) after → ⊥
  inside_no_end past piece after b = ⊎_elim (λ brace. cc) (λ d. let dot : [] ≡ 46 ∷ d.1.more = d.1.dot in cc) (brace_behind piece [] after (nothing_behind past) b)

  module _ (inside : at + n < length text) where
    pub inside_no_octet : (get_or text (at + n) 0 ≡ 125 → ⊥) → (get_or text (at + n) 0 ≡ 46 → ⊥) → (piece : Piece) (after : List ℕ) → BeginsInBraces piece (drop at text) after → ⊥
    inside_no_octet brace dot piece after b = ⊎_elim
        (λ is. brace (head_is (get_or text (at + n) 0) 125 (drop (at + n + 1) text) after is))
        (λ d. dot (head_is (get_or text (at + n) 0) 46 (drop (at + n + 1) text) d.1.more d.1.dot))
        (brace_behind piece (get_or text (at + n) 0 ∷ drop (at + n + 1) text) after (behind inside) b)

    -- behind a number there is no dot
    pub inside_no_number : IsNumVariable (take n (drop at text)) → (get_or text (at + n) 0 ≡ 125 → ⊥) → (piece : Piece) (after : List ℕ) → BeginsInBraces piece (drop at text) after → ⊥
    inside_no_number number brace piece after b = ⊎_elim
        (λ is. brace (head_is (get_or text (at + n) 0) 125 (drop (at + n + 1) text) after is))
        (λ d. not_both (take n (drop at text)) number d.0)
        (brace_behind piece (get_or text (at + n) 0 ∷ drop (at + n + 1) text) after (behind inside) b)

    pub inside_no_path : (get_or text (at + n) 0 ≡ 125 → ⊥) → ((after : List ℕ) → NamesClose (drop (at + n + 1) text) after → ⊥) → (piece : Piece) (after : List ℕ)
        → BeginsInBraces piece (drop at text) after → ⊥
    inside_no_path brace none piece after b = ⊎_elim
        (λ is. brace (head_is (get_or text (at + n) 0) 125 (drop (at + n + 1) text) after is))
        (λ d. none after (subst (λ l. NamesClose l after) (sym (tail_is (get_or text (at + n) 0) 46 (drop (at + n + 1) text) d.1.more d.1.dot)) d.1.close))
        (brace_behind piece (get_or text (at + n) 0 ∷ drop (at + n + 1) text) after (behind inside) b)

    -- a name and a brace
    pub name_and_brace : get_or text (at + n) 0 ≡ 125 → drop at text ≡ take n (drop at text) ++ 125 ∷ drop (at + n + 1) text
    name_and_brace brace = sym (take-append-drop n (drop at text))
        ∙ ap (λ l. take n (drop at text) ++ l) (drop-drop n at text ∙ drop_more text (at + n) 0 inside ∙ ap (λ y. y ∷ drop (at + n + 1) text) brace)

    -- an identifier, a dot, and names that close
    pub path_in_braces : IsIdentifier (take n (drop at text)) → get_or text (at + n) 0 ≡ 46 → (reference : Reference) → IsPathTo text at (at + n) reference → StandsInBraces text at reference
    path_in_braces is dot reference p =
        let after : List ℕ = drop reference.end text in
        let made = path_made (drop at text) after (drop (at + n + 1) text) n is
        (drop-drop n at text ∙ drop_more text (at + n) 0 inside ∙ ap (λ y. y ∷ drop (at + n + 1) text) dot) p.names in
        let low = p.low in
        let within = p.within in
        let long : length (drop at text) ≡ reference.end - 1 - at + 1 + length after = omega (arith, length-drop at text, length-drop reference.end text) in
        let same : reference.inside.now ≡ made.inside = p.inside ∙ inside_is (drop at text) after made.inside (reference.end - 1 - at) made.spelled long in
        record {
          low = omega arith;
          within = within;
          spelled = made.spelled ∙ ap (λ l. l ++ 125 ∷ after) (sym same);
          kind = subst (λ k. RefersBy k reference.inside.now) (sym p.kind) (subst IsNamespacedName (sym same) made.is);
        }

    -- and if none close there is no reference
    pub path_result : (get_or text (at + n) 0 ≡ 125 → ⊥) → IsIdentifier (take n (drop at text)) → get_or text (at + n) 0 ≡ 46 → (r : Option Reference)
        → MatchOption r ((after : List ℕ) → NamesClose (drop (at + n + 1) text) after → ⊥) (λ reference. IsPathTo text at (at + n) reference)
        → MatchOption r ((piece : Piece) (after : List ℕ) → BeginsInBraces piece (drop at text) after → ⊥) (λ reference. StandsInBraces text at reference)
    path_result brace is dot None none = inside_no_path brace none
    path_result brace is dot (Some reference) p = path_in_braces is dot reference p

-- what a piece in braces is
pub braces_name : (inside name : List ℕ) → name ≡ inside → IsIdentifier inside → IsInBraces (Variable name) inside
unfolding IsInBraces
braces_name inside name e is = (sym e, subst IsIdentifier (sym e) is)

pub braces_number : (inside : List ℕ) (number : ℕ) → number ≡ min (number_of inside) (MAX_MATCH_VARIABLE + 1) → IsNumVariable inside → IsInBraces (Match number) inside
unfolding IsInBraces
braces_number inside number e is = (e, is)

pub braces_path : (inside path : List ℕ) → path ≡ inside → IsNamespacedName inside → IsInBraces (Namespaced path) inside
unfolding IsInBraces
braces_path inside path e is = (sym e, subst IsNamespacedName (sym e) is)

-- a number that is cut, with one digit more
pub min_step : (a d old : ℕ) → old ≡ min a 10 → min (old * 10 + d) 10 ≡ min (a * 10 + d) 10
min_step a d old e = ⊎_elim (λ (small : a < 10). omega (arith, e)) (λ (large : 10 ≤ a). omega (arith, e)) (cases_lt a 10)
