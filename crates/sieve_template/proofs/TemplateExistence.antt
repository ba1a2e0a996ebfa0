-- Each text has pieces.
use Rattle.std.proofs.Common.{refl, ◌≡◌, ◌⊎◌, ℕ, zero, suc, ◌+◌, ◌<◌, ◌≤◌, true, List, [], ◌∷◌, ◌++◌, length, take, drop, get_or, min, sym, ap, subst, ◌∙◌, inl, inr, ⊎_elim, arith, length-append}
use Rattle.std.proofs.lemmas.List.{drop_more, length-drop}
use Rattle.std.proofs.lemmas.Bool.{cases_Bool, cases_lt, cases_eq}
use Rattle.std.specs.Char.{is_ascii_digit}
use Rattle.std.specs.List.{list_all}
use Rattle.octets.specs.Decimal.{number_of}
use Rattle.sieve_template.specs.declared.limits.TheConstants.{MAX_MATCH_VARIABLE}
use Rattle.sieve_template.specs.Templates.{is_variable_octet, IsNumVariable, IsIdentifier, IsVariableName, IsInBraces, BeginsWithReference, HasNoReference, BeginWithNoText, IsPieceOf, AreThePieces}
use Rattle.sieve_template.specs.Reading.{name_run, NamesClose, BeginsInBraces}
use Rattle.sieve_template.specs.declared.template.Piece.{Piece}
use Rattle.sieve_template.specs.declared.template.Piece.TheVariants.{Text, Variable, Match, Namespaced}
use Rattle.sieve_template.proofs.PathLemmas.{run_octets, named_some, identifier_if, number_if, neither_if, close_nothing, path_made, none_name, none_end, none_octet, brace_closes, dot_goes_on, inside_no_name, inside_no_end, inside_no_octet, inside_no_number, inside_no_path, name_and_brace, braces_name, braces_number, braces_path}
use Rattle.sieve_template.proofs.TemplateLemmas.{longer}

-- octets of names are a number, an identifier, or no name
name_settled : (name : List ℕ) → list_all is_variable_octet name ≡ true → IsNumVariable name ⊎ (IsIdentifier name ⊎ (IsVariableName name → ⊥))
name_settled [] all = inr (inr (λ is. omega (arith, named_some [] is)))
name_settled (x ∷ rest) all = ⊎_elim
    (λ digit. ⊎_elim
    (λ digits. inl (number_if (x ∷ rest) (omega arith) digits))
    (λ other. inr (inr (neither_if (x ∷ rest) digit other)))
    (cases_Bool (list_all is_ascii_digit (x ∷ rest))))
    (λ letter. inr (inl (identifier_if (x ∷ rest) (omega arith) letter all)))
    (cases_Bool (is_ascii_digit x))

-- names close, or don't
NamesSettled : List ℕ → Type 0
NamesSettled text = ((after : List ℕ) × NamesClose text after) ⊎ ((after : List ℕ) → NamesClose text after → ⊥)

-- by what stands behind the first name
names_by : (text : List ℕ) → IsVariableName (take (name_run text) text) → ((more : List ℕ) → length more < length text → NamesSettled more) → NamesSettled text
unfolding NamesSettled
names_by text is settle = ⊎_elim
    (λ (inside : 0 + name_run text < length text). ⊎_elim
    (λ brace. inl (drop (0 + name_run text + 1) text, brace_closes text 0 (name_run text) refl inside is brace))
    (λ no_brace. ⊎_elim
    (λ dot.
    let step = dot_goes_on text 0 (name_run text) refl inside is dot in
    ⊎_elim
    (λ found. inl (found.0, (step found.0).1 found.1))
    (λ none. inr (λ after c. none after ((step after).0 c)))
    (settle (drop (0 + name_run text + 1) text) (omega (arith, length-drop (0 + name_run text + 1) text))))
    (λ no_dot. inr (none_octet text 0 (name_run text) refl inside no_brace no_dot))
    (cases_eq (get_or text (0 + name_run text) 0) 46))
    (cases_eq (get_or text (0 + name_run text) 0) 125))
    (λ (past : length text ≤ 0 + name_run text). inr (none_end text 0 (name_run text) refl past))
    (cases_lt (0 + name_run text) (length text))

names_settled : (fuel : ℕ) (text : List ℕ) → length text ≤ fuel → NamesSettled text
unfolding NamesSettled
names_settled zero [] within = inr close_nothing
names_settled zero (x ∷ rest) within = absurd (omega (arith, within))
names_settled (suc fuel) text within = ⊎_elim
    (λ number. names_by text (inl number) (λ more shorter. names_settled fuel more (omega (arith, shorter, within))))
    (λ other. ⊎_elim
    (λ identifier. names_by text (inr identifier) (λ more shorter. names_settled fuel more (omega (arith, shorter, within))))
    (λ none. inr (none_name text 0 (name_run text) refl none))
    other)
    (name_settled (take (name_run text) text) (run_octets text))

-- what begins in braces, or nothing does
BracesSettled : List ℕ → Type 0
BracesSettled text = ((piece : Piece) × ((after : List ℕ) × BeginsInBraces piece text after)) ⊎ ((piece : Piece) (after : List ℕ) → BeginsInBraces piece text after → ⊥)

braces_settled : (text : List ℕ) → BracesSettled text
unfolding BracesSettled NamesSettled
braces_settled text =
    let k : ℕ = name_run text in
    let name : List ℕ = take k text in
    let after : List ℕ = drop (0 + k + 1) text in
    ⊎_elim
    (λ (inside : 0 + k < length text). ⊎_elim
    (λ brace. ⊎_elim
    (λ number. inl (
      Match (min (number_of name) (MAX_MATCH_VARIABLE + 1)),
      (
        after,
        record { inside = name; spelled = name_and_brace text 0 k refl inside brace; is = braces_number name (min (number_of name) (MAX_MATCH_VARIABLE + 1)) refl number },
      ),
    ))
    (λ other. ⊎_elim
    (λ identifier. inl (Variable name, (after, record { inside = name; spelled = name_and_brace text 0 k refl inside brace; is = braces_name name name refl identifier })))
    (λ none. inr (inside_no_name text 0 k refl none))
    other)
    (name_settled name (run_octets text)))
    (λ no_brace. ⊎_elim
    (λ dot. ⊎_elim
    (λ number. inr (inside_no_number text 0 k refl inside number no_brace))
    (λ other. ⊎_elim
    (λ identifier. ⊎_elim
    (λ found.
    let here : k < length text = omega arith in
    let from : k ≡ 0 + k = omega arith in
    let next : k + 1 ≡ 0 + k + 1 = omega arith in
    let at : drop k text ≡ 46 ∷ after =
    drop_more text k 0 here ∙ ap (λ y. y ∷ drop (k + 1) text) (ap (λ q. get_or text q 0) from ∙ dot) ∙ ap (λ q. 46 ∷ drop q text) next in
    let made = path_made text found.0 after k identifier at found.1 in
    inl (Namespaced made.inside, (found.0, record { inside = made.inside; spelled = made.spelled; is = braces_path made.inside made.inside refl made.is })))
    (λ none. inr (inside_no_path text 0 k refl inside no_brace none))
    (names_settled (length after) after (omega arith)))
    (λ none. inr (inside_no_name text 0 k refl none))
    other)
    (name_settled name (run_octets text)))
    (λ no_dot. inr (inside_no_octet text 0 k refl inside no_brace no_dot))
    (cases_eq (get_or text (0 + k) 0) 46))
    (cases_eq (get_or text (0 + k) 0) 125))
    (λ (past : length text ≤ 0 + k). inr (inside_no_end text 0 k refl past))
    (cases_lt (0 + k) (length text))

-- a text begins with a reference, or doesn't
BeginSettled : List ℕ → Type 0
BeginSettled text = ((piece : Piece) × ((after : List ℕ) × BeginsWithReference piece text after)) ⊎ ((piece : Piece) (after : List ℕ) → BeginsWithReference piece text after → ⊥)

opening : (x y : ℕ) (rest : List ℕ) (piece : Piece) (after : List ℕ) → BeginsWithReference piece (x ∷ y ∷ rest) after → (x ≡ 36) × ((y ≡ 123) × BeginsInBraces piece rest after)
opening x y rest piece after b =
    let same : x ∷ y ∷ rest ≡ 36 ∷ 123 ∷ (b.inside ++ 125 ∷ after) = b.spelled in
    let first : x ≡ 36 = cc in
    let second : y ≡ 123 = cc in
    let others : rest ≡ b.inside ++ 125 ∷ after = cc in
    (first, (second, record { inside = b.inside; spelled = others; is = b.is }))

begin_settled : (text : List ℕ) → BeginSettled text
unfolding BeginSettled BracesSettled
begin_settled [] = inr (λ piece after b. let same : [] ≡ 36 ∷ 123 ∷ (b.inside ++ 125 ∷ after) = b.spelled in cc)
begin_settled (x ∷ []) = inr (λ piece after b. let same : x ∷ [] ≡ 36 ∷ 123 ∷ (b.inside ++ 125 ∷ after) = b.spelled in cc)
begin_settled (x ∷ y ∷ rest) = ⊎_elim
    (λ dollar. ⊎_elim
    (λ brace. ⊎_elim
    (λ found. inl (
      found.0,
      (
        found.1.0,
        record {
          inside = found.1.1.inside;
          spelled = ap (λ z. z ∷ y ∷ rest) dollar ∙ ap (λ z. 36 ∷ z ∷ rest) brace ∙ ap (λ l. 36 ∷ 123 ∷ l) found.1.1.spelled;
          is = found.1.1.is;
        },
      ),
    ))
    (λ none. inr (λ piece after b. none piece after (opening x y rest piece after b).1.1))
    (braces_settled rest))
    (λ other. inr (λ piece after b. other (opening x y rest piece after b).1.0))
    (cases_eq y 123))
    (λ other. inr (λ piece after b. other (opening x y rest piece after b).0))
    (cases_eq x 36)

-- no reference in an octet and a text without one, if none begins there
one_octet_more : (x : ℕ) (own after : List ℕ) → ((piece : Piece) (rest : List ℕ) → BeginsWithReference piece (x ∷ (own ++ after)) rest → ⊥) → HasNoReference own → HasNoReference (x ∷ own)
one_octet_more x own after none plain [] rest behind piece spelled b =
    none piece (behind ++ after) (subst (λ l. BeginsWithReference piece (l ++ after) (behind ++ after)) (sym spelled) (longer piece rest behind after b))
one_octet_more x own after none plain (y ∷ before) rest behind piece spelled b = let others : own ≡ before ++ rest = cc in plain before rest behind piece others b

nothing_plain : HasNoReference []
nothing_plain before rest after piece spelled b = omega (arith, ap length spelled, length-append before rest, ap length b.spelled)

-- a text with an octet before it that begins no reference
octet_before : (x : ℕ) (text : List ℕ) (pieces : List Piece) → ((piece : Piece) (rest : List ℕ) → BeginsWithReference piece (x ∷ text) rest → ⊥) → AreThePieces pieces text
    → (all : List Piece) × AreThePieces all (x ∷ text)
unfolding AreThePieces IsPieceOf BeginWithNoText
octet_before x text [] none are =
    (Text (x ∷ []) ∷ [], ([], (ap (λ l. x ∷ l) are, (λ e. cc), one_octet_more x [] text none nothing_plain, tt), refl))
octet_before x text (Text own ∷ rest) none are =
    (Text (x ∷ own) ∷ rest, (are.0, (ap (λ l. x ∷ l) are.1.0, (λ e. cc), one_octet_more x own are.0 (subst (λ l. (piece : Piece) (r : List ℕ) → BeginsWithReference piece (x ∷ l) r → ⊥) are.1.0 none) are.1.2, are.1.3), are.2))
octet_before x text (Variable name ∷ rest) none are =
    (Text (x ∷ []) ∷ Variable name ∷ rest, (text, (refl, (λ e. cc), one_octet_more x [] text none nothing_plain, tt), are))
octet_before x text (Match number ∷ rest) none are =
    (Text (x ∷ []) ∷ Match number ∷ rest, (text, (refl, (λ e. cc), one_octet_more x [] text none nothing_plain, tt), are))
octet_before x text (Namespaced path ∷ rest) none are =
    (Text (x ∷ []) ∷ Namespaced path ∷ rest, (text, (refl, (λ e. cc), one_octet_more x [] text none nothing_plain, tt), are))

-- a text that begins with a reference
reference_before : (piece : Piece) (text after : List ℕ) (pieces : List Piece) → BeginsWithReference piece text after → AreThePieces pieces after → (all : List Piece) × AreThePieces all text
unfolding AreThePieces IsPieceOf IsInBraces
reference_before (Text own) text after pieces b are = absurd b.is
reference_before (Variable name) text after pieces b are = (Variable name ∷ pieces, (after, b, are))
reference_before (Match number) text after pieces b are = (Match number ∷ pieces, (after, b, are))
reference_before (Namespaced path) text after pieces b are = (Namespaced path ∷ pieces, (after, b, are))

shorter_behind : (piece : Piece) (text after : List ℕ) → BeginsWithReference piece text after → length after < length text
shorter_behind piece text after b = omega (arith, ap length b.spelled, length-append b.inside (125 ∷ after))

pieces_within : (fuel : ℕ) (text : List ℕ) → length text ≤ fuel → (pieces : List Piece) × AreThePieces pieces text
unfolding AreThePieces BeginSettled
pieces_within fuel [] within = ([], refl)
pieces_within zero (x ∷ rest) within = absurd (omega (arith, within))
pieces_within (suc fuel) (x ∷ rest) within = ⊎_elim
    (λ found.
    let after : List ℕ = found.1.0 in
    let more = pieces_within fuel after (omega (arith, within, shorter_behind found.0 (x ∷ rest) after found.1.1)) in
    reference_before found.0 (x ∷ rest) after more.0 found.1.1 more.1)
    (λ none.
    let more = pieces_within fuel rest (omega (arith, within)) in
    octet_before x rest more.0 none more.1)
    (begin_settled (x ∷ rest))

-- each text has pieces
pub pieces_exist : (text : List ℕ) → (pieces : List Piece) × AreThePieces pieces text
pieces_exist text = pieces_within (length text) text (omega arith)
