-- What a draft ends with is the address of a shape.
use Rattle.std.proofs.Common.{◌≡◌, ℕ, ◌⊎◌, true, Some, None, List, [], ◌∷◌, ◌++◌, append_assoc, refl, ap, sym, ◌∙◌, subst, inl, inr}
use Rattle.std.proofs.lemmas.Bool.{false≢true, and_parts, and_from}
use Rattle.octets.proofs.Lists.{fork, some_is}
use Rattle.mail_address.specs.declared.scanner.AddrPieceKind.{AddrPieceKind}
use Rattle.mail_address.specs.declared.scanner.AddrPieceKind.TheVariants as K
use Rattle.mail_address.specs.declared.draft.BracketState.{BracketState}
use Rattle.mail_address.specs.declared.draft.BracketState.TheVariants as P
use Rattle.mail_address.specs.declared.draft.AddrSpecState.TheVariants as S
use Rattle.mail_address.specs.declared.draft.Draft.{Draft}
use Rattle.mail_address.specs.declared.address.Addr.{Addr}
use Rattle.mail_address.specs.Pieces.{AddrPiece}
use Rattle.mail_address.specs.Parts.{is_token, is_no_bracket, is_route, Each, IsAddrSpec, IsRouteAddr, IsNameAddr}
use Rattle.mail_address.specs.Drafts.{after_spec_token, draft_with, spec_state_after, token_value, empty_draft, empty_draft_at, after_token_at, after_token, may_end_spec, is_outside, is_whole, draft_address}
use Rattle.mail_address.proofs.Specs.{reads, read-place, spec-is, read_address}
use Rattle.mail_address.proofs.PartLemmas.{runs, is_inner, front-reads}

-- no address can come of it any more
record IsDead (d : Draft) : Type 0 where
  wrong : d.stage ≡ S.Wrong
  late : (d.place ≡ P.Inside) ⊎ (d.place ≡ P.After)

read-wrong : (d : Draft) (kind : AddrPieceKind) (text : List ℕ) → d.stage ≡ S.Wrong → (after_spec_token d kind text).stage ≡ S.Wrong
read-wrong d kind text wrong = ap (λ s. (draft_with (spec_state_after s kind) d (token_value kind text)).stage) wrong

dead-inside : (d : Draft) (kind : AddrPieceKind) (text : List ℕ) → d.stage ≡ S.Wrong → d.place ≡ P.Inside → IsDead (after_token_at P.Inside d kind text)
dead-inside d K.Greater text wrong place = record { wrong = wrong; late = inr refl }
dead-inside d kind text wrong place = record { wrong = read-wrong d kind text wrong; late = inl (read-place d kind text ∙ place) }

dead-after : (d : Draft) (kind : AddrPieceKind) (text : List ℕ) → IsDead (after_token_at P.After d kind text)
dead-after d K.Less text = record { wrong = refl; late = inl refl }
dead-after d kind text = record { wrong = refl; late = inr refl }

dead-at : (d : Draft) (kind : AddrPieceKind) (text : List ℕ) → IsDead d → IsDead (after_token_at d.place d kind text)
dead-at d kind text dead = elim dead.late [
  | inl place ↦ subst (λ p. IsDead (after_token_at p d kind text)) (sym place) (dead-inside d kind text dead.wrong place)
  | inr place ↦ subst (λ p. IsDead (after_token_at p d kind text)) (sym place) (dead-after d kind text)
]

dead-step : (d : Draft) (kind : AddrPieceKind) (text : List ℕ) → IsDead d → IsDead (after_token d kind text)
dead-step d K.Blank text dead = dead
dead-step d K.Comment text dead = dead
dead-step d kind text dead = dead-at d kind text dead

-- what an outcome says
pub outcome-some : (d : Draft) (address : Addr) → draft_address d ≡ Some address → (is_whole d ≡ true) × (read_address d ≡ address)
outcome-some d address is = elim (fork (is_whole d) (Some (read_address d)) None (Some address) is) [ inl p ↦ (p.0, some_is (read_address d) address p.1) | inr p ↦ absurd (cc) ]

outcome-end : (d : Draft) (address : Addr) → draft_address d ≡ Some address → may_end_spec d.stage ≡ true
outcome-end d address is = (and_parts (may_end_spec d.stage) (is_outside d.place) (outcome-some d address is).0).0

outcome-outside : (d : Draft) (address : Addr) → draft_address d ≡ Some address → is_outside d.place ≡ true
outcome-outside d address is = (and_parts (may_end_spec d.stage) (is_outside d.place) (outcome-some d address is).0).1

dead-never : (tokens : List AddrPiece) (d : Draft) (address : Addr) → IsDead d → draft_address (runs d tokens) ≡ Some address → ⊥
dead-never [] d address dead is = false≢true (sym (ap may_end_spec dead.wrong) ∙ outcome-end d address is)
dead-never (token ∷ more) d address dead is = dead-never more (after_token d token.kind token.text) address (dead-step d token.kind token.text dead) is

after-dead : (d : Draft) (kind : AddrPieceKind) (text : List ℕ) → d.place ≡ P.After → is_token kind ≡ true → IsDead (after_token d kind text)
after-dead d K.Blank text place token = absurd (false≢true token)
after-dead d K.Comment text place token = absurd (false≢true token)
after-dead d kind text place token = subst (λ p. IsDead (after_token_at p d kind text)) (sym place) (dead-after d kind text)

-- nothing may follow the brackets
after-is : (tokens : List AddrPiece) (d : Draft) (address : Addr) → d.place ≡ P.After → Each is_token tokens → draft_address (runs d tokens) ≡ Some address → tokens ≡ []
after-is [] d address place all is = refl
after-is (token ∷ more) d address place all is = absurd (dead-never more (after_token d token.kind token.text) address (after-dead d token.kind token.text place all.0) is)

-- what stands in brackets, up to the closing one, which is last
record IsBracketed (d : Draft) (tokens : List AddrPiece) (address : Addr) : Type 0 where
  inside : List AddrPiece
  greater : AddrPiece
  cut : tokens ≡ inside ++ greater ∷ []
  closes : greater.kind ≡ K.Greater
  ends : may_end_spec (reads d inside).stage ≡ true
  gives : read_address (reads d inside) ≡ address

bracket-end : (d : Draft) (text : List ℕ) (more : List AddrPiece) (address : Addr) → Each is_token more → draft_address (runs (record d { place = P.After }) more) ≡ Some address → IsBracketed d ((record { kind = K.Greater; text = text }) ∷ more) address
bracket-end d text more address all is =
    let after = record d { place = P.After } in
    let none = after-is more after address refl all is in
    let here : draft_address after ≡ Some address = ap (λ ts. draft_address (runs after ts)) (sym none) ∙ is in
    record {
      inside = [];
      greater = record { kind = K.Greater; text = text };
      cut = ap (λ ts. (record { kind = K.Greater; text = text }) ∷ ts) none;
      closes = refl;
      ends = outcome-end after address here;
      gives = (outcome-some after address here).1;
    }

bracket-more : (d : Draft) (token : AddrPiece) (more : List AddrPiece) (address : Addr) → IsBracketed (after_spec_token d token.kind token.text) more address → IsBracketed d (token ∷ more) address
bracket-more d token more address b = record { inside = token ∷ b.inside; greater = b.greater; cut = ap (λ ts. token ∷ ts) b.cut; closes = b.closes; ends = b.ends; gives = b.gives }

bracket-step : (d : Draft) (kind : AddrPieceKind) (text : List ℕ) (more : List AddrPiece) (address : Addr) → d.place ≡ P.Inside → is_token kind ≡ true → Each is_token more → ((e : Draft) → e.place ≡ P.Inside → draft_address (runs e more) ≡ Some address → IsBracketed e more address) → draft_address (runs (after_token d kind text) more) ≡ Some address → IsBracketed d ((record { kind = kind; text = text }) ∷ more) address
bracket-step d K.Blank text more address place token all rec is = absurd (false≢true token)
bracket-step d K.Comment text more address place token all rec is = absurd (false≢true token)
bracket-step d K.Greater text more address place token all rec is = bracket-end d text more address all (ap (λ p. draft_address (runs (after_token_at p d K.Greater text) more)) (sym place) ∙ is)
bracket-step d kind text more address place token all rec is =
    bracket-more d (record { kind = kind; text = text }) more address (rec (after_spec_token d kind text) (read-place d kind text ∙ place) (ap (λ p. draft_address (runs (after_token_at p d kind text) more)) (sym place) ∙ is))

inside-is : (tokens : List AddrPiece) (d : Draft) (address : Addr) → d.place ≡ P.Inside → Each is_token tokens → draft_address (runs d tokens) ≡ Some address → IsBracketed d tokens address
inside-is [] d address place all is = absurd (false≢true (sym (ap is_outside place) ∙ outcome-outside d address is))
inside-is (token ∷ more) d address place all is = bracket-step d token.kind token.text more address place all.0 all.1 (λ e inside rest. inside-is more e address inside all.1 rest) is

-- an addr-spec, and the closing bracket
pub record IsSpecClosed (tokens : List AddrPiece) (address : Addr) : Type 0 where
  pub inside : List AddrPiece
  pub greater : AddrPiece
  pub cut : tokens ≡ inside ++ greater ∷ []
  pub closes : greater.kind ≡ K.Greater
  pub spec : IsAddrSpec inside address

spec-closed : (tokens : List AddrPiece) (address : Addr) → IsBracketed (empty_draft_at P.Inside) tokens address → IsSpecClosed tokens address
spec-closed tokens address b = record { inside = b.inside; greater = b.greater; cut = b.cut; closes = b.closes; spec = subst (IsAddrSpec b.inside) b.gives (spec-is P.Inside b.inside b.ends) }

-- what is read to an end in brackets
pub closed-is : (tokens : List AddrPiece) (address : Addr) → Each is_token tokens → draft_address (runs (empty_draft_at P.Inside) tokens) ≡ Some address → IsSpecClosed tokens address
closed-is tokens address all is = spec-closed tokens address (inside-is tokens (empty_draft_at P.Inside) address refl all is)

-- a route up to its colon, an addr-spec, and the closing bracket
record IsRouteClosed (tokens : List AddrPiece) (address : Addr) : Type 0 where
  route : List AddrPiece
  colon : AddrPiece
  others : List AddrPiece
  cut : tokens ≡ route ++ colon ∷ others
  up_to : Each is_route route
  first : colon.kind ≡ K.Colon
  rest : IsSpecClosed others address

no-outcome : (place : BracketState) (tokens : List AddrPiece) (address : Addr) → Each is_token tokens → place ≡ P.After → draft_address (runs (empty_draft_at place) tokens) ≡ Some address → ⊥
no-outcome place tokens address all is found =
    let none = after-is tokens (empty_draft_at place) address is all found in
    false≢true (outcome-end (empty_draft_at place) address (ap (λ ts. draft_address (runs (empty_draft_at place) ts)) (sym none) ∙ found))

route-first : (kind : AddrPieceKind) (text : List ℕ) (more : List AddrPiece) (address : Addr) → is_token kind ≡ true → Each is_token more → (draft_address (runs (empty_draft_at P.Route) more) ≡ Some address → IsRouteClosed more address) → draft_address (runs (after_token (empty_draft_at P.Route) kind text) more) ≡ Some address → IsRouteClosed ((record { kind = kind; text = text }) ∷ more) address
route-first K.Blank text more address token all rec is = absurd (false≢true token)
route-first K.Comment text more address token all rec is = absurd (false≢true token)
route-first K.Greater text more address token all rec is = absurd (no-outcome P.After more address all refl is)
route-first K.Colon text more address token all rec is = record {
  route = [];
  colon = record { kind = K.Colon; text = text };
  others = more;
  cut = refl;
  up_to = tt;
  first = refl;
  rest = spec-closed more address (inside-is more (empty_draft_at P.Inside) address refl all is);
}
route-first kind text more address token all rec is =
    let r = rec is in
    record { route = (record { kind = kind; text = text }) ∷ r.route; colon = r.colon; others = r.others; cut = ap (λ ts. (record { kind = kind; text = text }) ∷ ts) r.cut; up_to = (refl, r.up_to); first = r.first; rest = r.rest }

route-is : (tokens : List AddrPiece) (address : Addr) → Each is_token tokens → draft_address (runs (empty_draft_at P.Route) tokens) ≡ Some address → IsRouteClosed tokens address
route-is [] address all is = absurd (cc)
route-is (token ∷ more) address all is = route-first token.kind token.text more address all.0 all.1 (route-is more address all.1) is

-- an addr-spec with a route or without, and the closing bracket
record IsOpened (tokens : List AddrPiece) (address : Addr) : Type 0 where
  inside : List AddrPiece
  greater : AddrPiece
  cut : tokens ≡ inside ++ greater ∷ []
  closes : greater.kind ≡ K.Greater
  spec : IsAddrSpec inside address ⊎ IsRouteAddr inside address

opened-route : (text : List ℕ) (more : List AddrPiece) (address : Addr) → IsRouteClosed more address → IsOpened ((record { kind = K.At; text = text }) ∷ more) address
opened-route text more address r = record {
  inside = (record { kind = K.At; text = text }) ∷ (r.route ++ r.colon ∷ r.rest.inside);
  greater = r.rest.greater;
  cut = ap (λ ts. (record { kind = K.At; text = text }) ∷ ts) (r.cut ∙ ap (λ ts. r.route ++ r.colon ∷ ts) r.rest.cut ∙ sym (append_assoc r.route (r.colon ∷ r.rest.inside) (r.rest.greater ∷ [])));
  closes = r.rest.closes;
  spec = inr (record { at = record { kind = K.At; text = text }; route = r.route; colon = r.colon; others = r.rest.inside; cut = refl; begins = refl; up_to = r.up_to; first = r.first; spec = r.rest.spec });
}

opened-spec : (token : AddrPiece) (more : List AddrPiece) (address : Addr) → IsBracketed (after_spec_token (empty_draft_at P.Inside) token.kind token.text) more address → IsOpened (token ∷ more) address
opened-spec token more address b =
    let s = spec-closed (token ∷ more) address (bracket-more (empty_draft_at P.Inside) token more address b) in
    record { inside = s.inside; greater = s.greater; cut = s.cut; closes = s.closes; spec = inl s.spec }

open-first : (kind : AddrPieceKind) (text : List ℕ) (more : List AddrPiece) (address : Addr) → is_token kind ≡ true → Each is_token more → draft_address (runs (after_token (empty_draft_at P.Open) kind text) more) ≡ Some address → IsOpened ((record { kind = kind; text = text }) ∷ more) address
open-first K.Blank text more address token all is = absurd (false≢true token)
open-first K.Comment text more address token all is = absurd (false≢true token)
open-first K.Greater text more address token all is = absurd (no-outcome P.After more address all refl is)
open-first K.At text more address token all is = opened-route text more address (route-is more address all is)
open-first kind text more address token all is =
    opened-spec (record { kind = kind; text = text }) more address (inside-is more (after_spec_token (empty_draft_at P.Inside) kind text) address (read-place (empty_draft_at P.Inside) kind text) all is)

open-is : (tokens : List AddrPiece) (address : Addr) → Each is_token tokens → draft_address (runs (empty_draft_at P.Open) tokens) ≡ Some address → IsOpened tokens address
open-is [] address all is = absurd (cc)
open-is (token ∷ more) address all is = open-first token.kind token.text more address all.0 all.1 is

-- a display name, an opening bracket, and what follows it
record IsDisplayed (tokens : List AddrPiece) (address : Addr) : Type 0 where
  display_name : List AddrPiece
  less : AddrPiece
  others : List AddrPiece
  cut : tokens ≡ display_name ++ less ∷ others
  plain : Each is_no_bracket display_name
  opens : less.kind ≡ K.Less
  all : Each is_token others
  is : draft_address (runs (empty_draft_at P.Open) others) ≡ Some address

displayed-more : (token : AddrPiece) (more : List AddrPiece) (address : Addr) → is_no_bracket token.kind ≡ true → IsDisplayed more address → IsDisplayed (token ∷ more) address
displayed-more token more address plain d = record { display_name = token ∷ d.display_name; less = d.less; others = d.others; cut = ap (λ ts. token ∷ ts) d.cut; plain = (plain, d.plain); opens = d.opens; all = d.all; is = d.is }

front-more : (token : AddrPiece) (more : List AddrPiece) (address : Addr) → is_no_bracket token.kind ≡ true → is_token token.kind ≡ true → Each is_inner more ⊎ IsDisplayed more address → Each is_inner (token ∷ more) ⊎ IsDisplayed (token ∷ more) address
front-more token more address plain token' (inl inner) = inl (and_from (is_no_bracket token.kind) (is_token token.kind) plain token', inner)
front-more token more address plain token' (inr displayed) = inr (displayed-more token more address plain displayed)

front-step : (d : Draft) (kind : AddrPieceKind) (text : List ℕ) (more : List AddrPiece) (address : Addr) → d.place ≡ P.Front → is_token kind ≡ true → Each is_token more → ((e : Draft) → e.place ≡ P.Front → draft_address (runs e more) ≡ Some address → Each is_inner more ⊎ IsDisplayed more address) → draft_address (runs (after_token d kind text) more) ≡ Some address → Each is_inner ((record { kind = kind; text = text }) ∷ more) ⊎ IsDisplayed ((record { kind = kind; text = text }) ∷ more) address
front-step d K.Blank text more address place token all rec is = absurd (false≢true token)
front-step d K.Comment text more address place token all rec is = absurd (false≢true token)
front-step d K.Less text more address place token all rec is = inr (record {
  display_name = [];
  less = record { kind = K.Less; text = text };
  others = more;
  cut = refl;
  plain = tt;
  opens = refl;
  all = all;
  is = ap (λ p. draft_address (runs (after_token_at p d K.Less text) more)) (sym place) ∙ is;
})
front-step d K.Greater text more address place token all rec is =
    absurd (dead-never more (after_token_at P.Front d K.Greater text) address (record { wrong = refl; late = inr refl }) (ap (λ p. draft_address (runs (after_token_at p d K.Greater text) more)) (sym place) ∙ is))
front-step d kind text more address place token all rec is =
    front-more (record { kind = kind; text = text }) more address refl refl (rec (after_spec_token d kind text) (read-place d kind text ∙ place) (ap (λ p. draft_address (runs (after_token_at p d kind text) more)) (sym place) ∙ is))

front-is : (tokens : List AddrPiece) (d : Draft) (address : Addr) → d.place ≡ P.Front → Each is_token tokens → draft_address (runs d tokens) ≡ Some address → Each is_inner tokens ⊎ IsDisplayed tokens address
front-is [] d address place all is = inl tt
front-is (token ∷ more) d address place all is = front-step d token.kind token.text more address place all.0 all.1 (λ e front rest. front-is more e address front all.1 rest) is

bare-is : (tokens : List AddrPiece) (address : Addr) → Each is_inner tokens → draft_address (runs empty_draft tokens) ≡ Some address → IsAddrSpec tokens address
bare-is tokens address inner is =
    let here : draft_address (reads empty_draft tokens) ≡ Some address = ap draft_address (sym (front-reads tokens empty_draft refl inner)) ∙ is in
    subst (IsAddrSpec tokens) (outcome-some (reads empty_draft tokens) address here).1 (spec-is P.Front tokens (outcome-end (reads empty_draft tokens) address here))

named-is : (tokens : List AddrPiece) (address : Addr) → IsDisplayed tokens address → IsNameAddr tokens address
named-is tokens address d =
    let o = open-is d.others address d.all d.is in
    record { display_name = d.display_name; less = d.less; inside = o.inside; greater = o.greater; cut = d.cut ∙ ap (λ ts. d.display_name ++ d.less ∷ ts) o.cut; plain = d.plain; opens = d.opens; spec = o.spec; closes = o.closes }

-- what a draft ends with has a shape
pub shape-is : (tokens : List AddrPiece) (address : Addr) → Each is_token tokens → draft_address (runs empty_draft tokens) ≡ Some address → IsAddrSpec tokens address ⊎ IsNameAddr tokens address
shape-is tokens address all is = elim (front-is tokens empty_draft address refl all is) [ inl inner ↦ inl (bare-is tokens address inner is) | inr displayed ↦ inr (named-is tokens address displayed) ]
