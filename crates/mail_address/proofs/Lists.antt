-- The addresses of a value are what its parts give.
use Rattle.std.proofs.Common.{◌≡◌, ℕ, zero, suc, ◌≤◌, ◌&&◌, not, Bool, true, false, cond, Option, Some, None, List, [], ◌∷◌, ◌++◌, length, option_to_list, refl, ap, sym, ◌∙◌, subst, inl, inr, arith, length-append}
use Rattle.std.proofs.lemmas.List.{append-nil}
use Rattle.std.proofs.lemmas.Bool.{false≢true, cases_Bool}
use Rattle.octets.proofs.Lists.{some_is}
use Rattle.mail_address.specs.declared.scanner.AddrPieceKind.{AddrPieceKind}
use Rattle.mail_address.specs.declared.scanner.AddrPieceKind.TheVariants as K
use Rattle.mail_address.specs.declared.draft.BracketState.{BracketState}
use Rattle.mail_address.specs.declared.draft.BracketState.TheVariants as P
use Rattle.mail_address.specs.declared.draft.Draft.{Draft}
use Rattle.mail_address.specs.declared.address.Addr.{Addr}
use Rattle.mail_address.specs.Pieces.{AddrPiece}
use Rattle.mail_address.specs.Parts.{is_token, tokens, is_separator, is_bracket_open, is_bracket_open_after, IsUncut, Each, Part, AreParts, PartGives, PartAnswers, Collects, AreAddresses}
use Rattle.mail_address.specs.Drafts.{empty_draft, after_token_at, after_token, is_outside, draft_address, part_address}
use Rattle.mail_address.specs.Reading.{collected, pieces, addrs}
use Rattle.mail_address.proofs.Cuts.{cut-only, cut-all}
use Rattle.mail_address.proofs.Specs.{read-place}
use Rattle.mail_address.proofs.PartLemmas.{runs, shape-again}
use Rattle.mail_address.proofs.Shapes.{shape-is}

-- blanks and comments change nothing
gap-passed : (d : Draft) (kind : AddrPieceKind) (text : List ℕ) (more : List AddrPiece) → is_token kind ≡ false → collected d ((record { kind = kind; text = text }) ∷ more) ≡ collected d more
gap-passed d K.Blank text more gap = refl
gap-passed d K.Comment text more gap = refl
gap-passed d _ text more gap = absurd (false≢true (sym gap))

pub tokens-collected : (all : List AddrPiece) (d : Draft) → collected d all ≡ collected d (tokens all)
tokens-collected [] d = refl
tokens-collected (piece ∷ more) d = elim (cases_Bool (is_token piece.kind)) [
  | inl token ↦
      ap (λ c. cond (is_separator piece.kind && is_outside d.place) (option_to_list (part_address d piece.kind) ++ c) (collected (after_token d piece.kind piece.text) more)) (tokens-collected more empty_draft)
      ∙ ap (λ c. cond (is_separator piece.kind && is_outside d.place) (option_to_list (part_address d piece.kind) ++ collected empty_draft (tokens more)) c) (tokens-collected more (after_token d piece.kind piece.text))
      ∙ ap (λ b. collected d (cond b (piece ∷ tokens more) (tokens more))) (sym token)
  | inr gap ↦ gap-passed d piece.kind piece.text more gap ∙ tokens-collected more d ∙ ap (λ b. collected d (cond b (piece ∷ tokens more) (tokens more))) (sym gap)
]

pub tokens-each : (all : List AddrPiece) → Each is_token (tokens all)
tokens-each [] = tt
tokens-each (piece ∷ more) = elim (cases_Bool (is_token piece.kind)) [
  | inl token ↦ subst (λ b. Each is_token (cond b (piece ∷ tokens more) (tokens more))) (sym token) (token, tokens-each more)
  | inr gap ↦ subst (λ b. Each is_token (cond b (piece ∷ tokens more) (tokens more))) (sym gap) (tokens-each more)
]

-- a bracket is open at this place
abbrev is_in : BracketState → Bool
is_in P.Front = false
is_in P.Open = true
is_in P.Route = true
is_in P.Inside = true
is_in P.After = false

in-outside : (place : BracketState) (mark : Bool) → (mark && not (is_in place)) ≡ (mark && is_outside place)
in-outside P.Front mark = refl
in-outside P.Open mark = refl
in-outside P.Route mark = refl
in-outside P.Inside mark = refl
in-outside P.After mark = refl

-- the drafts and the definition count brackets alike
in-after-at : (place : BracketState) (d : Draft) (kind : AddrPieceKind) (text : List ℕ) → d.place ≡ place → is_in (after_token_at place d kind text).place ≡ is_bracket_open (is_in place) kind
in-after-at P.Front d K.Less text is = refl
in-after-at P.Front d K.Greater text is = refl
in-after-at P.Front d kind text is = ap is_in (read-place d kind text ∙ is)
in-after-at P.Open d K.At text is = refl
in-after-at P.Open d K.Greater text is = refl
in-after-at P.Open d K.Less text is = ap is_in (read-place (record d { place = P.Inside }) K.Less text)
in-after-at P.Open d kind text is = ap is_in (read-place (record d { place = P.Inside }) kind text)
in-after-at P.Route d K.Colon text is = refl
in-after-at P.Route d K.Greater text is = refl
in-after-at P.Route d K.Less text is = ap is_in is
in-after-at P.Route d kind text is = ap is_in is
in-after-at P.Inside d K.Greater text is = refl
in-after-at P.Inside d K.Less text is = ap is_in (read-place d K.Less text ∙ is)
in-after-at P.Inside d kind text is = ap is_in (read-place d kind text ∙ is)
in-after-at P.After d K.Less text is = refl
in-after-at P.After d K.Greater text is = refl
in-after-at P.After d kind text is = refl

in-after : (d : Draft) (kind : AddrPieceKind) (text : List ℕ) → is_in (after_token d kind text).place ≡ is_bracket_open (is_in d.place) kind
in-after d K.Blank text = refl
in-after d K.Comment text = refl
in-after d kind text = in-after-at d.place d kind text refl

-- what no separator cuts ends as a whole
uncut-collected : (all : List AddrPiece) (d : Draft) (inside : Bool) → is_in d.place ≡ inside → IsUncut inside all → collected d all ≡ option_to_list (draft_address (runs d all))
uncut-collected [] d inside is uncut = refl
uncut-collected (token ∷ more) d inside is uncut =
    let test : (is_separator token.kind && is_outside d.place) ≡ false = sym (in-outside d.place (is_separator token.kind)) ∙ ap (λ b. is_separator token.kind && not b) is ∙ uncut.0 in
    ap (λ b. cond b (option_to_list (part_address d token.kind) ++ collected empty_draft more) (collected (after_token d token.kind token.text) more)) test
    ∙ uncut-collected more (after_token d token.kind token.text) (is_bracket_open inside token.kind) (in-after d token.kind token.text ∙ ap (λ b. is_bracket_open b token.kind) is) uncut.1

-- and what ends at a separator
pub part-collected : (all : List AddrPiece) (mark : AddrPiece) (after : List AddrPiece) (d : Draft) (inside : Bool) → is_in d.place ≡ inside → IsUncut inside all → is_bracket_open_after inside all ≡ false → is_separator mark.kind ≡ true → collected d (all ++ mark ∷ after) ≡ option_to_list (part_address (runs d all) mark.kind) ++ collected empty_draft after
part-collected [] mark after d inside is uncut closed sep =
    let test : (is_separator mark.kind && is_outside d.place) ≡ true = sym (in-outside d.place (is_separator mark.kind)) ∙ ap (λ b. is_separator mark.kind && not b) (is ∙ closed) ∙ ap (λ b. b && true) sep in
    ap (λ b. cond b (option_to_list (part_address d mark.kind) ++ collected empty_draft after) (collected (after_token d mark.kind mark.text) after)) test
part-collected (token ∷ more) mark after d inside is uncut closed sep =
    let test : (is_separator token.kind && is_outside d.place) ≡ false = sym (in-outside d.place (is_separator token.kind)) ∙ ap (λ b. is_separator token.kind && not b) is ∙ uncut.0 in
    ap (λ b. cond b (option_to_list (part_address d token.kind) ++ collected empty_draft (more ++ mark ∷ after)) (collected (after_token d token.kind token.text) (more ++ mark ∷ after))) test
    ∙ part-collected more mark after (after_token d token.kind token.text) (is_bracket_open inside token.kind) (in-after d token.kind token.text ∙ ap (λ b. is_bracket_open b token.kind) is) uncut.1 closed sep

-- what a part gives, by its ending
abbrev answer_of : Option AddrPieceKind → Draft → Option Addr
answer_of None d = draft_address d
answer_of (Some mark) d = part_address d mark

Each-front : (test : AddrPieceKind → Bool) (front back : List AddrPiece) → Each test (front ++ back) → Each test front
Each-front test [] back all = tt
Each-front test (token ∷ more) back all = (all.0, Each-front test more back all.1)

Each-back : (test : AddrPieceKind → Bool) (front back : List AddrPiece) → Each test (front ++ back) → Each test back
Each-back test [] back all = all
Each-back test (token ∷ more) back all = Each-back test more back all.1

given-colon : (d : Draft) (kind : AddrPieceKind) (address : Addr) → part_address d kind ≡ Some address → (draft_address d ≡ Some address) × (kind ≡ K.Colon → ⊥)
given-colon d K.Colon address is = absurd (cc)
given-colon d K.Atom address is = (is, λ e. absurd (cc))
given-colon d K.Quoted address is = (is, λ e. absurd (cc))
given-colon d K.Literal address is = (is, λ e. absurd (cc))
given-colon d K.Comment address is = (is, λ e. absurd (cc))
given-colon d K.Blank address is = (is, λ e. absurd (cc))
given-colon d K.Less address is = (is, λ e. absurd (cc))
given-colon d K.Greater address is = (is, λ e. absurd (cc))
given-colon d K.At address is = (is, λ e. absurd (cc))
given-colon d K.Comma address is = (is, λ e. absurd (cc))
given-colon d K.Semicolon address is = (is, λ e. absurd (cc))
given-colon d K.Dot address is = (is, λ e. absurd (cc))
given-colon d K.Bad address is = (is, λ e. absurd (cc))

given-other : (d : Draft) (kind : AddrPieceKind) → (kind ≡ K.Colon → ⊥) → part_address d kind ≡ draft_address d
given-other d K.Colon other = absurd (other refl)
given-other d _ other = refl

-- a part gives what its draft ends with
gives-answer : (part : Part) (address : Addr) → Each is_token part.tokens → PartGives part address → answer_of part.ending (runs empty_draft part.tokens) ≡ Some address
gives-answer part address all gives = by_ending part.ending refl
  where
    by_ending : (ending : Option AddrPieceKind) → part.ending ≡ ending → answer_of ending (runs empty_draft part.tokens) ≡ Some address
    by_ending None is = shape-again part.tokens address gives.shape
    by_ending (Some mark) is = given-other (runs empty_draft part.tokens) mark (λ colon. gives.no_name (is ∙ ap Some colon)) ∙ shape-again part.tokens address gives.shape

answer-gives : (part : Part) (address : Addr) → Each is_token part.tokens → answer_of part.ending (runs empty_draft part.tokens) ≡ Some address → PartGives part address
answer-gives part address all is = by_ending part.ending refl is
  where
    by_ending : (ending : Option AddrPieceKind) → part.ending ≡ ending → answer_of ending (runs empty_draft part.tokens) ≡ Some address → PartGives part address
    by_ending None same found = record { no_name = λ e. absurd (cc); shape = shape-is part.tokens address all found }
    by_ending (Some mark) same found =
        let g = given-colon (runs empty_draft part.tokens) mark address found in
        record { no_name = λ e. g.1 (some_is mark K.Colon (sym same ∙ e)); shape = shape-is part.tokens address all g.0 }

-- the answer of a part is that of its draft, and no other
answer-all : (part : Part) → Each is_token part.tokens → PartAnswers part (answer_of part.ending (runs empty_draft part.tokens))
answer-all part all = by_answer (answer_of part.ending (runs empty_draft part.tokens)) refl
  where
    by_answer : (answer : Option Addr) → answer_of part.ending (runs empty_draft part.tokens) ≡ answer → PartAnswers part answer
    by_answer (Some address) is = answer-gives part address all is
    by_answer None is = λ address gives. absurd (let found = gives-answer part address all gives in cc)

answer-only : (part : Part) (answer : Option Addr) → Each is_token part.tokens → PartAnswers part answer → answer ≡ answer_of part.ending (runs empty_draft part.tokens)
answer-only part (Some address) all gives = sym (gives-answer part address all gives)
answer-only part None all never = by_answer (answer_of part.ending (runs empty_draft part.tokens)) refl
  where
    by_answer : (answer : Option Addr) → answer_of part.ending (runs empty_draft part.tokens) ≡ answer → None ≡ answer
    by_answer (Some address) is = absurd (never address (answer-gives part address all is))
    by_answer None is = refl

-- the parts of a list give what is collected
pub parts-only : (parts : List Part) (all : List AddrPiece) (found : List Addr) → Each is_token all → AreParts all parts → Collects parts found → found ≡ collected empty_draft all
parts-only [] all found each parts collects = absurd parts
parts-only (part ∷ []) all found each parts collects =
    let each' : Each is_token part.tokens = subst (Each is_token) parts.0 each in
    let answer : collects.0 ≡ draft_address (runs empty_draft part.tokens) = answer-only part collects.0 each' collects.2 ∙ ap (λ e. answer_of e (runs empty_draft part.tokens)) parts.1.1 in
    collects.4 ∙ ap (λ o. option_to_list collects.0 ++ o) collects.3 ∙ append-nil (option_to_list collects.0) ∙ ap option_to_list answer
    ∙ sym (uncut-collected part.tokens empty_draft false refl parts.1.0) ∙ ap (collected empty_draft) (sym parts.0)
parts-only (part ∷ (next ∷ more)) all found each parts collects =
    let mark = parts.0 in
    let after = parts.1 in
    let each' : Each is_token (part.tokens ++ mark ∷ after) = subst (Each is_token) parts.2 each in
    let answer : collects.0 ≡ part_address (runs empty_draft part.tokens) mark.kind = answer-only part collects.0 (Each-front is_token part.tokens (mark ∷ after) each') collects.2 ∙ ap (λ e. answer_of e (runs empty_draft part.tokens)) parts.6 in
    let others : collects.1 ≡ collected empty_draft after = parts-only (next ∷ more) after collects.1 (Each-back is_token part.tokens (mark ∷ after) each').1 parts.7 collects.3 in
    collects.4 ∙ ap (λ o. option_to_list collects.0 ++ o) others ∙ ap (λ o. option_to_list o ++ collected empty_draft after) answer
    ∙ sym (part-collected part.tokens mark after empty_draft false refl parts.3 parts.4 parts.5) ∙ ap (collected empty_draft) (sym parts.2)

-- the first part: up to the first separator outside brackets, or all
data Split (inside : Bool) (all : List AddrPiece) : Type 0 where
  Whole : IsUncut inside all → Split inside all
  At : (front : List AddrPiece) (mark : AddrPiece) (after : List AddrPiece) → all ≡ front ++ mark ∷ after → IsUncut inside front → is_bracket_open_after inside front ≡ false → is_separator mark.kind ≡ true → Split inside all

split-more : (inside : Bool) (token : AddrPiece) (more : List AddrPiece) → (is_separator token.kind && not inside) ≡ false → Split (is_bracket_open inside token.kind) more → Split inside (token ∷ more)
split-more inside token more plain (Whole uncut) = Whole (plain, uncut)
split-more inside token more plain (At front mark after cut uncut closed sep) = At (token ∷ front) mark after (ap (λ ts. token ∷ ts) cut) (plain, uncut) closed sep

split-here : (inside : Bool) (token : AddrPiece) (more : List AddrPiece) → (is_separator token.kind && not inside) ≡ true → Split inside (token ∷ more)
split-here true token more here = absurd (by_kind (is_separator token.kind) here)
  where
    by_kind : (b : Bool) → (b && false) ≡ true → ⊥
    by_kind true is = false≢true is
    by_kind false is = false≢true is
split-here false token more here = At [] token more refl tt refl (by_kind (is_separator token.kind) here)
  where
    by_kind : (b : Bool) → (b && true) ≡ true → b ≡ true
    by_kind true is = refl
    by_kind false is = is

split : (all : List AddrPiece) (inside : Bool) → Split inside all
split [] inside = Whole tt
split (token ∷ more) inside = elim (cases_Bool (is_separator token.kind && not inside)) [
  | inl here ↦ split-here inside token more here
  | inr plain ↦ split-more inside token more plain (split more (is_bracket_open inside token.kind))
]

-- parts of a list that give what is collected
record AreCollected (all : List AddrPiece) : Type 0 where
  part : Part
  others : List Part
  are : AreParts all (part ∷ others)
  collects : Collects (part ∷ others) (collected empty_draft all)

collect-whole : (all : List AddrPiece) → Each is_token all → IsUncut false all → AreCollected all
collect-whole all each uncut =
    let part : Part = record { tokens = all; ending = None } in
    record {
      part = part;
      others = [];
      are = (refl, (uncut, refl));
      collects = (draft_address (runs empty_draft all), [], answer-all part each, refl, uncut-collected all empty_draft false refl uncut ∙ sym (append-nil (option_to_list (draft_address (runs empty_draft all)))));
    }

collect-part : (all front : List AddrPiece) (mark : AddrPiece) (after : List AddrPiece) → Each is_token front → all ≡ front ++ mark ∷ after → IsUncut false front → is_bracket_open_after false front ≡ false → is_separator mark.kind ≡ true → AreCollected after → AreCollected all
collect-part all front mark after each cut uncut closed sep rest =
    let part : Part = record { tokens = front; ending = Some mark.kind } in
    record {
      part = part;
      others = rest.part ∷ rest.others;
      are = (mark, after, cut, uncut, closed, sep, refl, rest.are);
      collects = (part_address (runs empty_draft front) mark.kind, collected empty_draft after, answer-all part each, rest.collects, ap (collected empty_draft) cut ∙ part-collected front mark after empty_draft false refl uncut closed sep);
    }

collect-split : (n : ℕ) (all : List AddrPiece) → Each is_token all → length all ≤ suc n → ((after : List AddrPiece) → Each is_token after → length after ≤ n → AreCollected after) → Split false all → AreCollected all
collect-split n all each short rec (Whole uncut) = collect-whole all each uncut
collect-split n all each short rec (At front mark after cut uncut closed sep) =
    let each' : Each is_token (front ++ mark ∷ after) = subst (Each is_token) cut each in
    collect-part all front mark after (Each-front is_token front (mark ∷ after) each') cut uncut closed sep (rec after (Each-back is_token front (mark ∷ after) each').1 (omega (arith, ap length cut, length-append front (mark ∷ after))))

collect : (n : ℕ) (all : List AddrPiece) → Each is_token all → length all ≤ n → AreCollected all
collect zero [] each short = collect-whole [] each tt
collect zero (token ∷ more) each short = absurd (omega arith)
collect (suc n) all each short = collect-split n all each short (λ after each' short'. collect n after each' short') (split all false)

-- the reading of a value gives its addresses
pub addrs-are : (value : List ℕ) → AreAddresses value (addrs value)
unfolding addrs
addrs-are value =
    let all = tokens (pieces value) in
    let c = collect (length all) all (tokens-each (pieces value)) (omega arith) in
    record { pieces = pieces value; cut = cut-all value; parts = c.part ∷ c.others; split = c.are; given = subst (Collects (c.part ∷ c.others)) (sym (tokens-collected (pieces value) empty_draft)) c.collects }

-- and no others are its addresses
pub addrs-only : (value : List ℕ) (found : List Addr) → AreAddresses value found → found ≡ addrs value
unfolding addrs
addrs-only value found are =
    parts-only are.parts (tokens are.pieces) found (tokens-each are.pieces) are.split are.given
    ∙ ap (λ ps. collected empty_draft (tokens ps)) (sym (cut-only value are.pieces are.cut)) ∙ sym (tokens-collected (pieces value) empty_draft)
