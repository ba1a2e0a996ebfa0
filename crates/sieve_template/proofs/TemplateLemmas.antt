-- How the pieces of a text go on from reference to reference.
use Rattle.std.proofs.Common.{refl, ◌≡◌, ℕ, zero, suc, ◌+◌, ◌-◌, ◌<◌, ◌≤◌, true, List, [], ◌∷◌, ◌++◌, length, take, drop, get_or, sym, ap, subst, ◌∙◌, ⊎_elim, Option, None, Some, MatchOption, MatchBool, is_some, Bool, min, arith, append_assoc, length-append}
use Rattle.std.proofs.lemmas.List.{drop_more, drop_at, drop-drop, length-drop, take-append-drop, append-nil, length-take, take_all}
use Rattle.std.specs.Char.{is_ascii_digit}
use Rattle.std.proofs.lemmas.Bool.{and_parts, cases_eq}
use Rattle.std.specs.List.{list_all}
use Rattle.sieve_template.specs.Templates.{IsNumVariable, IsInBraces, BeginsWithReference, HasNoReference, BeginWithNoText, IsPieceOf, AreThePieces}
use Rattle.octets.specs.Decimal.{number_of}
use Rattle.sieve_template.specs.declared.limits.TheConstants.{MAX_MATCH_VARIABLE}
use Rattle.sieve_template.specs.Reading.{RefersBy, BeginsInBraces, StandsInBraces, StandsAtPlace, NoReferenceIn, text_pieces}
use Rattle.sieve_template.specs.declared.reference.ReferenceKind.{ReferenceKind}
use Rattle.sieve_template.specs.declared.reference.ReferenceKind.TheVariants.{ByName, ByNumber, ByPath}
use Rattle.sieve_template.specs.declared.reference.Reference.{Reference}
use Rattle.sieve_template.specs.declared.template.Piece.{Piece}
use Rattle.sieve_template.specs.declared.template.Piece.TheVariants.{Text, Variable, Match, Namespaced}

-- the text up to a place, and the rest
split_at_place : (text : List ℕ) (from place : ℕ) → from ≤ place → take (place - from) (drop from text) ++ drop place text ≡ drop from text
split_at_place text from place low =
    let there : from + (place - from) ≡ place = omega arith in
    ap (λ l. take (place - from) (drop from text) ++ l) (ap (λ n. drop n text) (sym there) ∙ sym (drop-drop (place - from) from text))
    ∙ take-append-drop (place - from) (drop from text)

-- a reference in a text is one in a longer text
pub longer : (piece : Piece) (rest after more : List ℕ) → BeginsWithReference piece rest after → BeginsWithReference piece (rest ++ more) (after ++ more)
longer piece rest after more b = record {
  inside = b.inside;
  spelled = ap (λ l. l ++ more) b.spelled ∙ ap (λ l. 36 ∷ 123 ∷ l) (append_assoc b.inside (125 ∷ after) more);
  is = b.is;
}

-- a reference has three octets or more
long_enough : (piece : Piece) (rest after : List ℕ) → BeginsWithReference piece rest after → 3 ≤ length rest
long_enough piece rest after b = omega (arith, ap length b.spelled, length-append b.inside (125 ∷ after))

-- the text before a reference, or before the end, has none in it
pub plain_between : (text : List ℕ) (from place : ℕ) → NoReferenceIn text from place → from ≤ place → HasNoReference (take (place - from) (drop from text))
plain_between text from place none low before rest after piece spelled b =
    let front : List ℕ = take (place - from) (drop from text) in
    let back : List ℕ = drop place text in
    let n : ℕ = length before in
    let whole : drop from text ≡ before ++ (rest ++ back) = sym (split_at_place text from place low) ∙ ap (λ l. l ++ back) spelled ∙ append_assoc before rest back in
    let here : drop (from + n) text ≡ rest ++ back = sym (drop-drop n from text) ∙ ap (drop n) whole ∙ drop_at before (rest ++ back) n refl in
    let inside : from + n < place = omega (arith, ap length spelled, length-append before rest, long_enough piece rest after b, length-take (place - from) (drop from text)) in
    none (from + n) (omega arith) inside piece (after ++ back) (subst (λ l. BeginsWithReference piece l (after ++ back)) (sym here) (longer piece rest after back b))

-- a reference, and the pieces behind it
pub with_reference : (text : List ℕ) (place : ℕ) (reference : Reference) (piece : Piece) (more : List Piece) → StandsAtPlace text place reference → IsInBraces piece reference.inside.now
    → AreThePieces more (drop reference.end text) → AreThePieces (piece ∷ more) (drop place text)
unfolding AreThePieces IsPieceOf IsInBraces
with_reference text place reference (Text own) more stands is rest = absurd is
with_reference text place reference (Variable name) more stands is rest =
    (drop reference.end text, record { inside = reference.inside.now; spelled = stands.spelled; is = is }, rest)
with_reference text place reference (Match number) more stands is rest =
    (drop reference.end text, record { inside = reference.inside.now; spelled = stands.spelled; is = is }, rest)
with_reference text place reference (Namespaced path) more stands is rest =
    (drop reference.end text, record { inside = reference.inside.now; spelled = stands.spelled; is = is }, rest)

no_text_first : (piece : Piece) (inside : List ℕ) (more : List Piece) → IsInBraces piece inside → BeginWithNoText (piece ∷ more)
unfolding IsInBraces BeginWithNoText
no_text_first (Text own) inside more is = is
no_text_first (Variable name) inside more is = tt
no_text_first (Match number) inside more is = tt
no_text_first (Namespaced path) inside more is = tt

-- a text, if it isn't empty, and the pieces behind it
with_text : (text own after : List ℕ) (others : List Piece) → text ≡ own ++ after → HasNoReference own → BeginWithNoText others → AreThePieces others after
    → AreThePieces (text_pieces own ++ others) text
unfolding AreThePieces IsPieceOf
with_text text [] after others spelled plain first rest = subst (AreThePieces others) (sym spelled) rest
with_text text (x ∷ own) after others spelled plain first rest = (after, (spelled, (λ e. cc), plain, first), rest)

-- what was read up to a place: with the pieces of what is left it is the pieces of all
pub record ReadTo (text : List ℕ) (from : ℕ) (pieces : List Piece) : Type 0 where
  pub goes : (more : List Piece) → AreThePieces more (drop from text) → AreThePieces (pieces ++ more) text

pub read_nothing : (text : List ℕ) (pieces : List Piece) → pieces ≡ [] → ReadTo text 0 pieces
read_nothing text pieces none = record { goes = λ more are. subst (λ l. AreThePieces (l ++ more) text) (sym none) are }

-- a text and a reference more
pub read_more : (text : List ℕ) (from place : ℕ) (reference : Reference) (pieces then last : List Piece) (piece : Piece) → ReadTo text from pieces → from ≤ place → NoReferenceIn text from place
    → StandsAtPlace text place reference → IsInBraces piece reference.inside.now → then ≡ pieces ++ text_pieces (take (place - from) (drop from text)) → last ≡ then ++ piece ∷ []
    → ReadTo text reference.end last
read_more text from place reference pieces then last piece old low none stands is then_is last_is = record {
  goes = λ more are.
      let own : List ℕ = take (place - from) (drop from text) in
      let behind : AreThePieces (piece ∷ more) (drop place text) = with_reference text place reference piece more stands is are in
      let all : AreThePieces (text_pieces own ++ piece ∷ more) (drop from text) =
      with_text (drop from text) own (drop place text) (piece ∷ more) (sym (split_at_place text from place low)) (plain_between text from place none low)
      (no_text_first piece reference.inside.now more is) behind in
      let joined : last ++ more ≡ pieces ++ (text_pieces own ++ piece ∷ more) =
      ap (λ l. l ++ more) (last_is ∙ ap (λ l. l ++ piece ∷ []) then_is)
      ∙ append_assoc (pieces ++ text_pieces own) (piece ∷ []) more ∙ append_assoc pieces (text_pieces own) (piece ∷ more) in
      subst (λ l. AreThePieces l text) (sym joined) (old.goes (text_pieces own ++ piece ∷ more) all);
}

-- a text up to the end
pub read_last : (text own : List ℕ) (from : ℕ) (pieces last : List Piece) → ReadTo text from pieces → own ≡ drop from text → HasNoReference own → last ≡ pieces ++ text_pieces own
    → AreThePieces last text
unfolding AreThePieces BeginWithNoText
read_last text own from pieces last old own_is plain last_is =
    let all : AreThePieces (text_pieces own ++ []) (drop from text) = with_text (drop from text) own [] [] (sym own_is ∙ sym (append-nil own)) plain tt refl in
    subst (λ l. AreThePieces l text) (sym (last_is ∙ ap (λ l. pieces ++ l) (sym (append-nil (text_pieces own))))) (old.goes (text_pieces own ++ []) all)

-- each octet of a number is a digit
all_digits : (l : List ℕ) (k : ℕ) → list_all is_ascii_digit l ≡ true → k < length l → is_ascii_digit (get_or l k 0) ≡ true
all_digits [] k all inside = absurd (omega (arith, inside))
all_digits (x ∷ l) zero all inside = (and_parts (is_ascii_digit x) (list_all is_ascii_digit l) all).0
all_digits (x ∷ l) (suc k) all inside = all_digits l k (and_parts (is_ascii_digit x) (list_all is_ascii_digit l) all).1 (omega (arith, inside))

pub number_digit : (number : List ℕ) (k : ℕ) → IsNumVariable number → k < length number → is_ascii_digit (get_or number k 0) ≡ true
unfolding IsNumVariable
number_digit [] k is inside = absurd is
number_digit (x ∷ rest) k is inside = all_digits (x ∷ rest) k is inside

-- where no reference begins
module _ (text : List ℕ) (place : ℕ) (inside : place < length text) where
  pub none_short : length text - place < 3 → (piece : Piece) (after : List ℕ) → BeginsWithReference piece (drop place text) after → ⊥
  none_short short piece after b = omega (arith, short, long_enough piece (drop place text) after b, length-drop place text)

  opened : drop place text ≡ get_or text place 0 ∷ drop (place + 1) text
  opened = drop_more text place 0 inside

  pub none_first : (get_or text place 0 ≡ 36 → ⊥) → (piece : Piece) (after : List ℕ) → BeginsWithReference piece (drop place text) after → ⊥
  none_first other piece after b =
      let same : get_or text place 0 ∷ drop (place + 1) text ≡ 36 ∷ 123 ∷ (b.inside ++ 125 ∷ after) = sym opened ∙ b.spelled in
      let first : get_or text place 0 ≡ 36 = cc in
      other first

  module _ (room : 3 ≤ length text - place) where
    second : drop (place + 1) text ≡ get_or text (place + 1) 0 ∷ drop (place + 2) text
    second = drop_more text (place + 1) 0 (omega (arith, room)) ∙ ap (λ n. get_or text (place + 1) 0 ∷ drop n text) (omega arith)

    both : drop place text ≡ get_or text place 0 ∷ get_or text (place + 1) 0 ∷ drop (place + 2) text
    both = opened ∙ ap (λ l. get_or text place 0 ∷ l) second

    pub none_second : (get_or text (place + 1) 0 ≡ 123 → ⊥) → (piece : Piece) (after : List ℕ) → BeginsWithReference piece (drop place text) after → ⊥
    none_second other piece after b =
        let same : get_or text place 0 ∷ get_or text (place + 1) 0 ∷ drop (place + 2) text ≡ 36 ∷ 123 ∷ (b.inside ++ 125 ∷ after) = sym both ∙ b.spelled in
        let first : get_or text (place + 1) 0 ≡ 123 = cc in
        other first

    -- a reference is what is in its braces
    pub braces_result : get_or text place 0 ≡ 36 → get_or text (place + 1) 0 ≡ 123 → (r : Option Reference)
        → MatchOption r ((piece : Piece) (after : List ℕ) → BeginsInBraces piece (drop (place + 2) text) after → ⊥) (λ reference. StandsInBraces text (place + 2) reference)
        → MatchOption r ((piece : Piece) (after : List ℕ) → BeginsWithReference piece (drop place text) after → ⊥) (λ reference. StandsAtPlace text place reference)
    braces_result dollar brace None none = λ piece after b.
        let same : get_or text place 0 ∷ get_or text (place + 1) 0 ∷ drop (place + 2) text ≡ 36 ∷ 123 ∷ (b.inside ++ 125 ∷ after) = sym both ∙ b.spelled in
        let rest : drop (place + 2) text ≡ b.inside ++ 125 ∷ after = cc in
        none piece after (record { inside = b.inside; spelled = rest; is = b.is })
    braces_result dollar brace (Some reference) stands =
        let low = stands.low in
        record {
          low = omega arith;
          within = stands.within;
          spelled = both ∙ ap (λ x. x ∷ get_or text (place + 1) 0 ∷ drop (place + 2) text) dollar ∙ ap (λ x. 36 ∷ x ∷ drop (place + 2) text) brace
              ∙ ap (λ l. 36 ∷ 123 ∷ l) stands.spelled;
          kind = stands.kind;
        }

-- one place more without a reference
pub none_more : (text : List ℕ) (from place : ℕ) → NoReferenceIn text from place → ((piece : Piece) (after : List ℕ) → BeginsWithReference piece (drop place text) after → ⊥)
    → NoReferenceIn text from (place + 1)
none_more text from place before here k low high piece after b = ⊎_elim
    (λ same. here piece after (subst (λ n. BeginsWithReference piece (drop n text) after) same b))
    (λ other. before k low (omega arith) piece after b)
    (cases_eq k place)

-- a text has a reference where one is found, and none where none is
stands_some : (kind : ReferenceKind) (inside : List ℕ) → RefersBy kind inside → (piece : Piece) × IsInBraces piece inside
unfolding IsInBraces
stands_some ByName inside is = (Variable inside, (refl, is))
stands_some ByNumber inside is = (Match (min (number_of inside) (MAX_MATCH_VARIABLE + 1)), (refl, is))
stands_some ByPath inside is = (Namespaced inside, (refl, is))

has_some : (text : List ℕ) (place : ℕ) (reference : Reference) → StandsAtPlace text place reference → HasNoReference text → ⊥
has_some text place reference stands none =
    let found = stands_some reference.kind reference.inside.now stands.kind in
    none (take place text) (drop place text) (drop reference.end text) found.0 (sym (take-append-drop place text))
    (record { inside = reference.inside.now; spelled = stands.spelled; is = found.1 })

has_none : (text : List ℕ) → NoReferenceIn text 0 (length text) → HasNoReference text
has_none text none =
    let same : length text - 0 ≡ length text = omega arith in
    subst HasNoReference (ap (λ n. take n text) same ∙ take_all (length text) text (omega arith)) (plain_between text 0 (length text) none (omega arith))

pub has_is : (text : List ℕ) (found : Option (ℕ × Reference)) (b : Bool)
    → MatchOption found (NoReferenceIn text 0 (length text)) (λ f. (0 ≤ f.0) × NoReferenceIn text 0 f.0 × StandsAtPlace text f.0 f.1) → b ≡ is_some found
    → MatchBool b (HasNoReference text → ⊥) (HasNoReference text)
has_is text None b none is = subst (λ v. MatchBool v (HasNoReference text → ⊥) (HasNoReference text)) (sym is) (has_none text none)
has_is text (Some f) b some is = subst (λ v. MatchBool v (HasNoReference text → ⊥) (HasNoReference text)) (sym is) (has_some text f.0 f.1 some.2)
