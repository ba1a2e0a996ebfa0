-- The strings of RFC 5229, section 3, and near them what they aren't.
use Rattle.std.proofs.Common.{refl, ◌≡◌, ◌==◌, ℕ, Bool, not, true, List, [], ◌∷◌, ◌++◌, codes, inl, inr, sym, subst, ◌∙◌, arith, ap, length}
use Rattle.std.proofs.lemmas.Bool.{and_parts, false≢true, true≢false}
use Rattle.std.proofs.lemmas.List.Folds.{list_all-append}
use Rattle.std.specs.List.{list_all}
use Rattle.sieve_template.specs.Templates.{IsNumVariable, IsIdentifier, IsVariableName, AreVariableNames, dotted_names, IsInBraces, BeginsWithReference, HasNoReference, BeginWithNoText, IsPieceOf, AreThePieces}
use Rattle.sieve_template.specs.Reading.{BeginsInBraces}
use Rattle.sieve_template.specs.Expansion.{expanded_text}
use Rattle.sieve_template.specs.declared.template.Piece.{Piece}
use Rattle.sieve_template.specs.declared.template.Piece.TheVariants.{Text, Variable, Match, Namespaced}
use Rattle.sieve_template.proofs.TemplateLaws.{pieces_one}
use Rattle.sieve_template.proofs.PathLemmas.{inside_no_name, inside_no_end, inside_no_octet, inside_no_number, named_some}

-- "${company}" is a reference to the variable of that name
company : AreThePieces (Variable (codes "company") ∷ []) (codes "${company}")
unfolding AreThePieces IsPieceOf IsInBraces IsIdentifier
company = ([], record { inside = codes "company"; spelled = refl; is = (refl, (refl, refl)) }, refl)

-- a name that begins with digits is none: "${1a}" has no number in its braces, nor a name
no_number : (number : ℕ) → IsInBraces (Match number) (codes "1a") → ⊥
unfolding IsInBraces IsNumVariable
no_number number is = cc

no_name : (name : List ℕ) → IsInBraces (Variable name) (codes "1a") → ⊥
unfolding IsInBraces IsIdentifier
no_name name is = let at : IsIdentifier (codes "1a") = subst IsIdentifier (sym is.0) is.1 in true≢false at.0

-- "${01}" is the match variable 1, and "${10}" and "${99}" are one above 9
one : IsInBraces (Match 1) (codes "01")
unfolding IsInBraces IsNumVariable
one = (refl, refl)

ten : IsInBraces (Match 10) (codes "10") × IsInBraces (Match 10) (codes "99")
unfolding IsInBraces IsNumVariable
ten = ((refl, refl), (refl, refl))

-- the empty text is no name, and neither is "doh!"
no_empty : IsVariableName [] → ⊥
no_empty is = omega (arith, named_some [] is)

no_doh : IsIdentifier (codes "doh!") → ⊥
unfolding IsIdentifier
no_doh is = cc

-- a text without a dollar has no reference
not_dollar : ℕ → Bool
not_dollar x = not (x == 36)

no_dollars : (text : List ℕ) → list_all not_dollar text ≡ true → HasNoReference text
unfolding not_dollar
no_dollars text all before rest after piece spelled b =
    let whole : list_all not_dollar (before ++ rest) ≡ true = subst (λ l. list_all not_dollar l ≡ true) spelled all in
    let parts = and_parts (list_all not_dollar before) (list_all not_dollar rest) (sym (list_all-append not_dollar before rest) ∙ whole) in
    let dollar : list_all not_dollar (36 ∷ 123 ∷ (b.inside ++ 125 ∷ after)) ≡ true = subst (λ l. list_all not_dollar l ≡ true) b.spelled parts.1 in
    false≢true dollar

-- nor has one with an octet more, with which none begins
one_more : (x : ℕ) (text : List ℕ) → ((piece : Piece) (after : List ℕ) → BeginsWithReference piece (x ∷ text) after → ⊥) → HasNoReference text → HasNoReference (x ∷ text)
one_more x text none plain [] rest after piece spelled b = none piece after (subst (λ l. BeginsWithReference piece l after) (sym spelled) b)
one_more x text none plain (y ∷ before) rest after piece spelled b = let others : text ≡ before ++ rest = cc in plain before rest after piece others b

other_octet : (x : ℕ) (text : List ℕ) → (x ≡ 36 → ⊥) → (piece : Piece) (after : List ℕ) → BeginsWithReference piece (x ∷ text) after → ⊥
other_octet x text other piece after b = let same : x ∷ text ≡ 36 ∷ 123 ∷ (b.inside ++ 125 ∷ after) = b.spelled in let first : x ≡ 36 = cc in other first

opened : (text : List ℕ) → ((piece : Piece) (after : List ℕ) → BeginsInBraces piece text after → ⊥) → (piece : Piece) (after : List ℕ) → BeginsWithReference piece (36 ∷ 123 ∷ text) after → ⊥
opened text none piece after b =
    let same : 36 ∷ 123 ∷ text ≡ 36 ∷ 123 ∷ (b.inside ++ 125 ∷ after) = b.spelled in
    let rest : text ≡ b.inside ++ 125 ∷ after = cc in
    none piece after (record { inside = b.inside; spelled = rest; is = b.is })

-- "&%${}!" stays, as the empty text is no name
empty_name : HasNoReference (codes "&%${}!")
unfolding not_dollar
empty_name =
    one_more 38 (codes "%${}!") (other_octet 38 (codes "%${}!") (λ e. omega (arith, e)))
    (one_more 37 (codes "${}!") (other_octet 37 (codes "${}!") (λ e. omega (arith, e)))
    (one_more 36 (codes "{}!") (opened (codes "}!") (inside_no_name (codes "}!") 0 0 refl no_empty)) (no_dollars (codes "{}!") refl)))

unchanged : AreThePieces (Text (codes "&%${}!") ∷ []) (codes "&%${}!")
unfolding AreThePieces IsPieceOf BeginWithNoText
unchanged = ([], (refl, (λ e. cc), empty_name, tt), refl)

-- so does "${doh!}", as "!" is in no name
doh : AreThePieces (Text (codes "${doh!}") ∷ []) (codes "${doh!}")
unfolding AreThePieces IsPieceOf BeginWithNoText not_dollar
doh = (
  [],
  (
    refl,
    (λ e. cc),
    one_more 36 (codes "{doh!}") (opened (codes "doh!}") (inside_no_octet (codes "doh!}") 0 3 refl (omega arith) (λ e. omega (arith, e)) (λ e. omega (arith, e)))) (no_dollars (codes "{doh!}") refl),
    tt,
  ),
  refl,
)

-- "${BAD${Company}" is a text and a reference
bad : AreThePieces (Text (codes "${BAD") ∷ Variable (codes "Company") ∷ []) (codes "${BAD${Company}")
unfolding AreThePieces IsPieceOf BeginWithNoText IsInBraces IsIdentifier not_dollar
bad = (
  codes "${Company}",
  (
    refl,
    (λ e. cc),
    one_more 36 (codes "{BAD") (opened (codes "BAD") (inside_no_end (codes "BAD") 0 3 refl (omega arith))) (no_dollars (codes "{BAD") refl),
    tt,
  ),
  ([], record { inside = codes "Company"; spelled = refl; is = (refl, (refl, refl)) }, refl),
)

-- "${President, ${Company} Inc.}" is a reference between two texts
president : AreThePieces (Text (codes "${President, ") ∷ Variable (codes "Company") ∷ Text (codes " Inc.}") ∷ []) (codes "${President, ${Company} Inc.}")
unfolding AreThePieces IsPieceOf BeginWithNoText IsInBraces IsIdentifier not_dollar
president = (
  codes "${Company} Inc.}",
  (
    refl,
    (λ e. cc),
    one_more 36 (codes "{President, ")
        (opened (codes "President, ") (inside_no_octet (codes "President, ") 0 9 refl (omega arith) (λ e. omega (arith, e)) (λ e. omega (arith, e))))
        (no_dollars (codes "{President, ") refl),
    tt,
  ),
  (
    codes " Inc.}",
    record { inside = codes "Company"; spelled = refl; is = (refl, (refl, refl)) },
    ([], (refl, (λ e. cc), no_dollars (codes " Inc.}") refl, tt), refl),
  ),
)

-- "$${x}" is a dollar and a reference, and "${a${b}}" a reference between two texts
two_dollars : AreThePieces (Text (codes "$") ∷ Variable (codes "x") ∷ []) (codes "$${x}")
unfolding AreThePieces IsPieceOf BeginWithNoText IsInBraces IsIdentifier not_dollar
two_dollars = (
  codes "${x}",
  (
    refl,
    (λ e. cc),
    one_more 36 [] (λ piece after b. let same : 36 ∷ [] ≡ 36 ∷ 123 ∷ (b.inside ++ 125 ∷ after) = b.spelled in cc) (no_dollars [] refl),
    tt,
  ),
  ([], record { inside = codes "x"; spelled = refl; is = (refl, (refl, refl)) }, refl),
)

-- "${env.name}" and "${env.1.name}" are references in a namespace, "${1.name}" isn't one
spaced : IsInBraces (Namespaced (codes "env.1.name")) (codes "env.1.name")
unfolding IsInBraces IsIdentifier IsNumVariable AreVariableNames dotted_names
spaced = (refl, record { space = codes "env"; name = codes "1"; names = codes "name" ∷ []; spelled = refl; space_is = (refl, refl); names_are = (inl refl, (inr (refl, refl), tt)) })

not_spaced : HasNoReference (codes "${1.name}")
unfolding not_dollar IsNumVariable
not_spaced =
    one_more 36 (codes "{1.name}") (opened (codes "1.name}") (inside_no_number (codes "1.name}") 0 1 refl (omega arith) refl (λ e. omega (arith, e)))) (no_dollars (codes "{1.name}") refl)

-- what comes out isn't read again: where "a" holds "${b}" the string "${a}" stands for that
once : expanded_text (λ name. codes "${b}") (λ number. []) (λ path. []) (Variable (codes "a") ∷ []) ≡ codes "${b}"
once = refl

-- with "company" holding "ACME" the string "${President, ${Company} Inc.}" stands for "${President, ACME Inc.}"
acme : expanded_text (λ name. codes "ACME") (λ number. []) (λ path. []) (Text (codes "${President, ") ∷ Variable (codes "Company") ∷ Text (codes " Inc.}") ∷ []) ≡ codes "${President, ACME Inc.}"
acme = refl

-- section 4: "Dear ${HONORIFIC} ${last_name}," with "Mr" and "Coyote"
dear : AreThePieces (Text (codes "Dear ") ∷ Variable (codes "HONORIFIC") ∷ Text (codes " ") ∷ Variable (codes "last_name") ∷ Text (codes ",") ∷ []) (codes "Dear ${HONORIFIC} ${last_name},")
unfolding AreThePieces IsPieceOf BeginWithNoText IsInBraces IsIdentifier not_dollar
dear = (
  codes "${HONORIFIC} ${last_name},",
  (refl, (λ e. cc), no_dollars (codes "Dear ") refl, tt),
  (
    codes " ${last_name},",
    record { inside = codes "HONORIFIC"; spelled = refl; is = (refl, (refl, refl)) },
    (
      codes "${last_name},",
      (refl, (λ e. cc), no_dollars (codes " ") refl, tt),
      (
        codes ",",
        record { inside = codes "last_name"; spelled = refl; is = (refl, (refl, refl)) },
        ([], (refl, (λ e. cc), no_dollars (codes ",") refl, tt), refl),
      ),
    ),
  ),
)

-- and it isn't one text
not_one_text : AreThePieces (Text (codes "Dear ${HONORIFIC} ${last_name},") ∷ []) (codes "Dear ${HONORIFIC} ${last_name},") → ⊥
not_one_text are = let same = pieces_one _ _ (codes "Dear ${HONORIFIC} ${last_name},") dear are in omega (arith, ap length same)
