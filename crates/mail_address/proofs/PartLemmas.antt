-- A part gives the address that its draft ends with.
use Rattle.std.proofs.Common.{◌≡◌, ℕ, ◌⊎◌, ◌&&◌, Bool, true, cond, Some, None, List, [], ◌∷◌, ◌++◌, append_assoc, refl, ap, sym, ◌∙◌, subst, inl, inr}
use Rattle.std.proofs.lemmas.Bool.{false≢true, and_parts}
use Rattle.mail_address.specs.declared.scanner.AddrPieceKind.{AddrPieceKind}
use Rattle.mail_address.specs.declared.scanner.AddrPieceKind.TheVariants as K
use Rattle.mail_address.specs.declared.draft.BracketState.{BracketState}
use Rattle.mail_address.specs.declared.draft.BracketState.TheVariants as P
use Rattle.mail_address.specs.declared.draft.Draft.{Draft}
use Rattle.mail_address.specs.declared.address.Addr.{Addr}
use Rattle.mail_address.specs.Pieces.{AddrPiece}
use Rattle.mail_address.specs.Parts.{is_token, is_no_bracket, is_route, Each, IsWordToken, IsAtom, Dotted, IsDomainLiteral, IsAddrSpec, IsRouteAddr, IsNameAddr}
use Rattle.mail_address.specs.Drafts.{after_spec_token, empty_draft, empty_draft_at, after_token_at, after_token, is_outside, draft_address}
use Rattle.mail_address.proofs.Specs.{reads, read-place, IsDone, spec-again}

-- the tokens of a part, taken one after the other
abbrev pub runs : Draft → List AddrPiece → Draft
runs d [] = d
runs d (token ∷ more) = runs (after_token d token.kind token.text) more

pub runs-append : (d : Draft) (front back : List AddrPiece) → runs d (front ++ back) ≡ runs (runs d front) back
runs-append d [] back = refl
runs-append d (token ∷ more) back = runs-append (after_token d token.kind token.text) more back

-- a token that an addr-spec can have
abbrev pub is_inner : AddrPieceKind → Bool
is_inner kind = is_no_bracket kind && is_token kind

taken-at : (d : Draft) (kind : AddrPieceKind) (text : List ℕ) → is_token kind ≡ true → after_token d kind text ≡ after_token_at d.place d kind text
taken-at d K.Blank text token = absurd (false≢true token)
taken-at d K.Comment text token = absurd (false≢true token)
taken-at d _ text token = refl

take-front : (d : Draft) (kind : AddrPieceKind) (text : List ℕ) → is_no_bracket kind ≡ true → after_token_at P.Front d kind text ≡ after_spec_token d kind text
take-front d K.Less text plain = absurd (false≢true plain)
take-front d K.Greater text plain = absurd (false≢true plain)
take-front d _ text plain = refl

take-inside : (d : Draft) (kind : AddrPieceKind) (text : List ℕ) → is_no_bracket kind ≡ true → after_token_at P.Inside d kind text ≡ after_spec_token d kind text
take-inside d K.Greater text plain = absurd (false≢true plain)
take-inside d _ text plain = refl

front-read : (d : Draft) (kind : AddrPieceKind) (text : List ℕ) → d.place ≡ P.Front → is_inner kind ≡ true → after_token d kind text ≡ after_spec_token d kind text
front-read d kind text place inner =
    let both = and_parts (is_no_bracket kind) (is_token kind) inner in
    taken-at d kind text both.1 ∙ ap (λ p. after_token_at p d kind text) place ∙ take-front d kind text both.0

inside-read : (d : Draft) (kind : AddrPieceKind) (text : List ℕ) → d.place ≡ P.Inside → is_inner kind ≡ true → after_token d kind text ≡ after_spec_token d kind text
inside-read d kind text place inner =
    let both = and_parts (is_no_bracket kind) (is_token kind) inner in
    taken-at d kind text both.1 ∙ ap (λ p. after_token_at p d kind text) place ∙ take-inside d kind text both.0

-- before any bracket, and in brackets, tokens are read
pub front-reads : (tokens : List AddrPiece) (d : Draft) → d.place ≡ P.Front → Each is_inner tokens → runs d tokens ≡ reads d tokens
front-reads [] d place inner = refl
front-reads (token ∷ more) d place inner =
    ap (λ e. runs e more) (front-read d token.kind token.text place inner.0) ∙ front-reads more (after_spec_token d token.kind token.text) (read-place d token.kind token.text ∙ place) inner.1

pub inside-reads : (tokens : List AddrPiece) (d : Draft) → d.place ≡ P.Inside → Each is_inner tokens → runs d tokens ≡ reads d tokens
inside-reads [] d place inner = refl
inside-reads (token ∷ more) d place inner =
    ap (λ e. runs e more) (inside-read d token.kind token.text place inner.0) ∙ inside-reads more (after_spec_token d token.kind token.text) (read-place d token.kind token.text ∙ place) inner.1

-- the tokens of an addr-spec can stand in one
pub Each-append : (test : AddrPieceKind → Bool) (front back : List AddrPiece) → Each test front → Each test back → Each test (front ++ back)
Each-append test [] back first second = second
Each-append test (token ∷ more) back first second = (first.0, Each-append test more back first.1 second)

word-inner : (kind : AddrPieceKind) (text value : List ℕ) → IsWordToken kind text value → is_inner kind ≡ true
word-inner K.Atom text value is = refl
word-inner K.Quoted text value is = refl
word-inner _ text value is = absurd is

atom-inner : (kind : AddrPieceKind) (text value : List ℕ) → IsAtom kind text value → is_inner kind ≡ true
atom-inner K.Atom text value is = refl
atom-inner _ text value is = absurd is

dotted-inner : (IsItem : AddrPieceKind → List ℕ → List ℕ → Type 0) → ((kind : AddrPieceKind) (text value : List ℕ) → IsItem kind text value → is_inner kind ≡ true) → (tokens : List AddrPiece) (value : List ℕ) → Dotted IsItem tokens value → Each is_inner tokens
dotted-inner IsItem item [] value dotted = absurd dotted
dotted-inner IsItem item (first ∷ []) value dotted = (item first.kind first.text value dotted, tt)
dotted-inner IsItem item (first ∷ (dot ∷ more)) value dotted = (item first.kind first.text dotted.0 dotted.2, (ap is_inner dotted.3, dotted-inner IsItem item more dotted.1 dotted.4))

host-inner : (tokens : List AddrPiece) (value : List ℕ) → Dotted IsAtom tokens value ⊎ IsDomainLiteral tokens value → Each is_inner tokens
host-inner tokens value (inl atoms) = dotted-inner IsAtom atom-inner tokens value atoms
host-inner tokens value (inr l) = subst (Each is_inner) (sym l.alone) (ap is_inner l.kind, tt)

pub spec-inner : (tokens : List AddrPiece) (address : Addr) → IsAddrSpec tokens address → Each is_inner tokens
spec-inner tokens address spec =
    subst (Each is_inner) (sym spec.cut) (Each-append is_inner spec.local (spec.at ∷ spec.domain) (dotted-inner IsWordToken word-inner spec.local address.local spec.words) (ap is_inner spec.mark, host-inner spec.domain address.domain spec.host))

-- the outcome of a draft that has been read to its end
done-outcome : (place : BracketState) (address : Addr) (d : Draft) → is_outside place ≡ true → IsDone place address d → draft_address d ≡ Some address
done-outcome place address d outside done =
    ap draft_address done.is ∙ ap (λ b. cond (b && is_outside place) (Some address) None) done.ends ∙ ap (λ b. cond b (Some address) None) outside

-- an addr-spec alone gives its address
pub bare-again : (tokens : List AddrPiece) (address : Addr) → IsAddrSpec tokens address → draft_address (runs empty_draft tokens) ≡ Some address
bare-again tokens address spec =
    ap draft_address (front-reads tokens empty_draft refl (spec-inner tokens address spec)) ∙ done-outcome P.Front address (reads empty_draft tokens) refl (spec-again P.Front tokens address spec)

-- a display name stays before the bracket
plain-front : (d : Draft) (kind : AddrPieceKind) (text : List ℕ) → d.place ≡ P.Front → is_no_bracket kind ≡ true → (after_token d kind text).place ≡ P.Front
plain-front d K.Blank text place plain = place
plain-front d K.Comment text place plain = place
plain-front d K.Less text place plain = absurd (false≢true plain)
plain-front d K.Greater text place plain = absurd (false≢true plain)
plain-front d K.Atom text place plain = ap (λ p. (after_token_at p d K.Atom text).place) place ∙ read-place d K.Atom text ∙ place
plain-front d K.Quoted text place plain = ap (λ p. (after_token_at p d K.Quoted text).place) place ∙ read-place d K.Quoted text ∙ place
plain-front d K.Literal text place plain = ap (λ p. (after_token_at p d K.Literal text).place) place ∙ read-place d K.Literal text ∙ place
plain-front d K.At text place plain = ap (λ p. (after_token_at p d K.At text).place) place ∙ read-place d K.At text ∙ place
plain-front d K.Comma text place plain = ap (λ p. (after_token_at p d K.Comma text).place) place ∙ read-place d K.Comma text ∙ place
plain-front d K.Colon text place plain = ap (λ p. (after_token_at p d K.Colon text).place) place ∙ read-place d K.Colon text ∙ place
plain-front d K.Semicolon text place plain = ap (λ p. (after_token_at p d K.Semicolon text).place) place ∙ read-place d K.Semicolon text ∙ place
plain-front d K.Dot text place plain = ap (λ p. (after_token_at p d K.Dot text).place) place ∙ read-place d K.Dot text ∙ place
plain-front d K.Bad text place plain = ap (λ p. (after_token_at p d K.Bad text).place) place ∙ read-place d K.Bad text ∙ place

pub display_name-front : (tokens : List AddrPiece) (d : Draft) → d.place ≡ P.Front → Each is_no_bracket tokens → (runs d tokens).place ≡ P.Front
display_name-front [] d place plain = place
display_name-front (token ∷ more) d place plain = display_name-front more (after_token d token.kind token.text) (plain-front d token.kind token.text place plain.0) plain.1

pub less-opens : (d : Draft) (kind : AddrPieceKind) (text : List ℕ) → d.place ≡ P.Front → kind ≡ K.Less → after_token d kind text ≡ empty_draft_at P.Open
less-opens d kind text place is = ap (λ k. after_token d k text) is ∙ ap (λ p. after_token_at p d K.Less text) place

-- a word that stands right after the bracket is read as one in brackets
open-word : (kind : AddrPieceKind) (text value : List ℕ) → IsWordToken kind text value → after_token (empty_draft_at P.Open) kind text ≡ after_token (empty_draft_at P.Inside) kind text
open-word K.Atom text value is = refl
open-word K.Quoted text value is = refl
open-word _ text value is = absurd is

first-word : (tokens : List AddrPiece) (value : List ℕ) (more : List AddrPiece) → Dotted IsWordToken tokens value → runs (empty_draft_at P.Open) (tokens ++ more) ≡ runs (empty_draft_at P.Inside) (tokens ++ more)
first-word [] value more dotted = absurd dotted
first-word (first ∷ []) value more dotted = ap (λ d. runs d more) (open-word first.kind first.text value dotted)
first-word (first ∷ (dot ∷ rest)) value more dotted = ap (λ d. runs d (dot ∷ (rest ++ more))) (open-word first.kind first.text dotted.0 dotted.2)

-- an addr-spec in brackets, and what closes them
closes : (d : Draft) (address : Addr) (kind : AddrPieceKind) (text : List ℕ) → kind ≡ K.Greater → IsDone P.Inside address d → draft_address (after_token d kind text) ≡ Some address
closes d address kind text is done =
    ap (λ k. draft_address (after_token d k text)) is ∙ ap (λ e. draft_address (after_token e K.Greater text)) done.is ∙ ap (λ b. cond (b && true) (Some address) None) done.ends

pub inside-again : (tokens : List AddrPiece) (address : Addr) (greater : AddrPiece) → greater.kind ≡ K.Greater → IsAddrSpec tokens address → draft_address (runs (empty_draft_at P.Inside) (tokens ++ greater ∷ [])) ≡ Some address
inside-again tokens address greater is spec =
    ap draft_address (runs-append (empty_draft_at P.Inside) tokens (greater ∷ [])) ∙ ap (λ d. draft_address (after_token d greater.kind greater.text)) (inside-reads tokens (empty_draft_at P.Inside) refl (spec-inner tokens address spec))
    ∙ closes (reads (empty_draft_at P.Inside) tokens) address greater.kind greater.text is (spec-again P.Inside tokens address spec)

open-again : (tokens : List AddrPiece) (address : Addr) (greater : AddrPiece) → greater.kind ≡ K.Greater → IsAddrSpec tokens address → draft_address (runs (empty_draft_at P.Open) (tokens ++ greater ∷ [])) ≡ Some address
open-again tokens address greater is spec =
    ap (λ ts. draft_address (runs (empty_draft_at P.Open) (ts ++ greater ∷ []))) spec.cut
    ∙ ap (λ ts. draft_address (runs (empty_draft_at P.Open) ts)) (append_assoc spec.local (spec.at ∷ spec.domain) (greater ∷ []))
    ∙ ap draft_address (first-word spec.local address.local (spec.at ∷ (spec.domain ++ greater ∷ [])) spec.words)
    ∙ ap (λ ts. draft_address (runs (empty_draft_at P.Inside) ts)) (sym (append_assoc spec.local (spec.at ∷ spec.domain) (greater ∷ [])))
    ∙ ap (λ ts. draft_address (runs (empty_draft_at P.Inside) (ts ++ greater ∷ []))) (sym spec.cut)
    ∙ inside-again tokens address greater is spec

-- a route is passed over
route-step : (kind : AddrPieceKind) (text : List ℕ) → is_route kind ≡ true → after_token (empty_draft_at P.Route) kind text ≡ empty_draft_at P.Route
route-step K.Colon text route = absurd (false≢true route)
route-step K.Greater text route = absurd (false≢true route)
route-step _ text route = refl

route-passed : (tokens : List AddrPiece) → Each is_route tokens → runs (empty_draft_at P.Route) tokens ≡ empty_draft_at P.Route
route-passed [] route = refl
route-passed (token ∷ more) route = ap (λ d. runs d more) (route-step token.kind token.text route.0) ∙ route-passed more route.1

routed-again : (tokens : List AddrPiece) (address : Addr) (greater : AddrPiece) → greater.kind ≡ K.Greater → IsRouteAddr tokens address → draft_address (runs (empty_draft_at P.Open) (tokens ++ greater ∷ [])) ≡ Some address
routed-again tokens address greater is r =
    let after = r.others ++ greater ∷ [] in
    ap (λ ts. draft_address (runs (empty_draft_at P.Open) (ts ++ greater ∷ []))) r.cut
    ∙ ap (λ k. draft_address (runs (after_token (empty_draft_at P.Open) k r.at.text) (r.route ++ r.colon ∷ r.others ++ greater ∷ []))) r.begins
    ∙ ap (λ ts. draft_address (runs (empty_draft_at P.Route) ts)) (append_assoc r.route (r.colon ∷ r.others) (greater ∷ []))
    ∙ ap draft_address (runs-append (empty_draft_at P.Route) r.route (r.colon ∷ after))
    ∙ ap (λ d. draft_address (runs d (r.colon ∷ after))) (route-passed r.route r.up_to)
    ∙ ap (λ k. draft_address (runs (after_token (empty_draft_at P.Route) k r.colon.text) after)) r.first
    ∙ inside-again r.others address greater is r.spec

brackets-again : (tokens : List AddrPiece) (address : Addr) (greater : AddrPiece) → greater.kind ≡ K.Greater → IsAddrSpec tokens address ⊎ IsRouteAddr tokens address → draft_address (runs (empty_draft_at P.Open) (tokens ++ greater ∷ [])) ≡ Some address
brackets-again tokens address greater is (inl spec) = open-again tokens address greater is spec
brackets-again tokens address greater is (inr routed) = routed-again tokens address greater is routed

-- a name and an address in brackets give that address
pub named-again : (tokens : List AddrPiece) (address : Addr) → IsNameAddr tokens address → draft_address (runs empty_draft tokens) ≡ Some address
named-again tokens address n =
    ap (λ ts. draft_address (runs empty_draft ts)) n.cut ∙ ap draft_address (runs-append empty_draft n.display_name (n.less ∷ (n.inside ++ n.greater ∷ [])))
    ∙ ap (λ d. draft_address (runs d (n.inside ++ n.greater ∷ []))) (less-opens (runs empty_draft n.display_name) n.less.kind n.less.text (display_name-front n.display_name empty_draft refl n.plain) n.opens)
    ∙ brackets-again n.inside address n.greater n.closes n.spec

-- what gives an address gives it to the draft
pub shape-again : (tokens : List AddrPiece) (address : Addr) → IsAddrSpec tokens address ⊎ IsNameAddr tokens address → draft_address (runs empty_draft tokens) ≡ Some address
shape-again tokens address (inl spec) = bare-again tokens address spec
shape-again tokens address (inr named) = named-again tokens address named
