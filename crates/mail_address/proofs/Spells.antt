-- What is spelled is read again.
use Rattle.std.proofs.Common.{◌≡◌, ℕ, Result, Ok, Err, IfOk, IfSome, ◌==◌, ◌⊎◌, ◌&&◌, ◌||◌, not, Bool, true, false, cond, Option, Some, None, List, [], ◌∷◌, ◌++◌, All, option_to_list, append_assoc, refl, ap, sym, ◌∙◌, subst, inl, inr}
use Rattle.std.proofs.lemmas.List.{append-nil}
use Rattle.std.proofs.lemmas.List.Elements.{All-nil, All-cons, All-append}
use Rattle.std.proofs.lemmas.Bool.{false≢true, cases_Bool, and_parts, or_parts, eqb-true}
use Rattle.octets.proofs.Lists.{fork}
use Rattle.mail_address.specs.declared.scanner.AddrPieceKind.{AddrPieceKind}
use Rattle.mail_address.specs.declared.scanner.AddrPieceKind.TheVariants as K
use Rattle.mail_address.specs.declared.address.Addr.{Addr}
use Rattle.mail_address.specs.Pieces.{AddrPiece, is_atom_octet, Inner, Plain, Pair, inner_before, IsInside, IsEnclosed, AreAtoms, IsNoAtom, IsAddrPieceShape, Cut, unquoted_from}
use Rattle.mail_address.specs.Parts.{is_token, tokens, Each, IsWordToken, IsAtom, Dotted, IsDomainLiteral, IsAddrSpec, IsRouteAddr, Part, AreParts, PartGives, PartAnswers, Collects, AreAddresses}
use Rattle.mail_address.specs.Outbound.{is_fit, is_no_comment, IsOutbound, IsBareAddress}
use Rattle.mail_address.specs.Spelling.{is_dotted, is_dot_atom, with_quoted_pairs, quoted, local_spelling, address_spelling, IsDomain}
use Rattle.mail_address.proofs.PartLemmas.{is_inner, spec-inner}
use Rattle.mail_address.proofs.Outbounds.{bare-outbound}

-- each piece has its shape, whatever followed it
abbrev pub Shaped : List AddrPiece → Type 0
Shaped [] = Unit {0}
Shaped (piece ∷ more) = ((after : List ℕ) × IsAddrPieceShape piece.kind piece.text after) × Shaped more

cut-shaped : (value : List ℕ) (all : List AddrPiece) → Cut value all → Shaped all
cut-shaped value [] cut = tt
cut-shaped value (piece ∷ more) (rest, (is, (shape, others))) = ((rest, shape), cut-shaped rest more others)

tokens-shaped : (all : List AddrPiece) → Shaped all → Shaped (tokens all)
tokens-shaped [] shaped = tt
tokens-shaped (piece ∷ more) shaped = elim (cases_Bool (is_token piece.kind)) [
  | inl token ↦ subst (λ b. Shaped (cond b (piece ∷ tokens more) (tokens more))) (sym token) (shaped.0, tokens-shaped more shaped.1)
  | inr gap ↦ subst (λ b. Shaped (cond b (piece ∷ tokens more) (tokens more))) (sym gap) (tokens-shaped more shaped.1)
]

shaped-front : (front back : List AddrPiece) → Shaped (front ++ back) → Shaped front
shaped-front [] back shaped = tt
shaped-front (piece ∷ more) back shaped = (shaped.0, shaped-front more back shaped.1)

shaped-back : (front back : List AddrPiece) → Shaped (front ++ back) → Shaped back
shaped-back [] back shaped = shaped
shaped-back (piece ∷ more) back shaped = shaped-back more back shaped.1

-- no dot stands in an atom
atom-no_dot : (octet : ℕ) → is_atom_octet octet ≡ true → (octet == 46) ≡ false
atom-no_dot octet atom = elim (cases_Bool (octet == 46)) [
  | inl dot ↦ absurd (false≢true (sym (ap is_atom_octet (eqb-true octet 46 dot)) ∙ atom))
  | inr other ↦ other
]

run-more : (due : Bool) (octet : ℕ) (more : List ℕ) → is_atom_octet octet ≡ true → is_dotted due (octet ∷ more) ≡ is_dotted false more
run-more due octet more atom = ap (λ b. cond b (not due && is_dotted true more) (is_atom_octet octet && is_dotted false more)) (atom-no_dot octet atom) ∙ ap (λ b. b && is_dotted false more) atom

run-passed : (run rest : List ℕ) → AreAtoms run → is_dotted false (run ++ rest) ≡ is_dotted false rest
run-passed [] rest atoms = refl
run-passed (octet ∷ run) rest atoms = run-more false octet (run ++ rest) atoms.0 ∙ run-passed run rest atoms.1

atom-passed : (due : Bool) (run rest : List ℕ) → (run ≡ [] → ⊥) → AreAtoms run → is_dotted due (run ++ rest) ≡ is_dotted false rest
atom-passed due [] rest some atoms = absurd (some refl)
atom-passed due (octet ∷ run) rest some atoms = run-more due octet (run ++ rest) atoms.0 ∙ run-passed run rest atoms.1

-- atoms with dots between are so as text
atom-text : (kind : AddrPieceKind) (text value after : List ℕ) → IsAddrPieceShape kind text after → IsAtom kind text value → (value ≡ text) × ((text ≡ [] → ⊥) × AreAtoms text)
atom-text K.Atom text value after shape is = (is, (shape.0, shape.1.0))
atom-text _ text value after shape is = absurd is

dotted-text : (all : List AddrPiece) (value : List ℕ) → Shaped all → Dotted IsAtom all value → is_dot_atom value ≡ true
dotted-text [] value shaped dotted = absurd dotted
dotted-text (atom ∷ []) value shaped dotted =
    let a = atom-text atom.kind atom.text value shaped.0.0 shaped.0.1 dotted in
    ap is_dot_atom (a.0 ∙ sym (append-nil atom.text)) ∙ atom-passed true atom.text [] a.1.0 a.1.1
dotted-text (atom ∷ (dot ∷ more)) value shaped dotted =
    let a = atom-text atom.kind atom.text dotted.0 shaped.0.0 shaped.0.1 dotted.2 in
    ap is_dot_atom (dotted.5 ∙ ap (λ f. f ++ 46 ∷ dotted.1) a.0) ∙ atom-passed true atom.text (46 ∷ dotted.1) a.1.0 a.1.1 ∙ dotted-text more dotted.1 shaped.1.1 dotted.4

literal-text : (kind : AddrPieceKind) (text after : List ℕ) → kind ≡ K.Literal → IsAddrPieceShape kind text after → IsEnclosed 91 93 text
literal-text kind text after is shape = subst (λ k. IsAddrPieceShape k text after) is shape

host-domain : (all : List AddrPiece) (value : List ℕ) → Shaped all → Dotted IsAtom all value ⊎ IsDomainLiteral all value → IsDomain value
host-domain all value shaped (inl atoms) = inl (dotted-text all value shaped atoms)
host-domain all value shaped (inr l) =
    let here : Shaped (l.literal ∷ []) = subst Shaped l.alone shaped in
    inr (subst (IsEnclosed 91 93) (sym l.text) (literal-text l.literal.kind l.literal.text here.0.0 l.kind here.0.1))

-- the domain of an addr-spec is one
spec-domain : (all : List AddrPiece) (address : Addr) → Shaped all → IsAddrSpec all address → IsDomain address.domain
spec-domain all address shaped spec = host-domain spec.domain address.domain (shaped-back spec.local (spec.at ∷ spec.domain) (subst Shaped spec.cut shaped)).1 spec.host

pub outbound-domain : (text display_name : List ℕ) (address : Addr) → IsOutbound text display_name address → IsDomain address.domain
outbound-domain text display_name address o =
    let shaped = cut-shaped text o.pieces o.cut in
    elim o.shape [
      | inl bare ↦ spec-domain (tokens o.pieces) address (tokens-shaped o.pieces shaped) bare.spec
      | inr p ↦
          let after : Shaped p.others = (shaped-back p.phrase (p.less ∷ p.others) (subst Shaped p.cut shaped)).1 in
          spec-domain p.inside address (shaped-front p.inside (p.greater ∷ []) (subst Shaped p.rest (tokens-shaped p.others after))) p.spec
    ]

routed-domain : (all : List AddrPiece) (address : Addr) → Shaped all → IsRouteAddr all address → IsDomain address.domain
routed-domain all address shaped r = spec-domain r.others address (shaped-back r.route (r.colon ∷ r.others) (subst Shaped r.cut shaped).1).1 r.spec

gives-domain : (part : Part) (address : Addr) → Shaped part.tokens → PartGives part address → IsDomain address.domain
gives-domain part address shaped gives = elim gives.shape [
  | inl spec ↦ spec-domain part.tokens address shaped spec
  | inr n ↦
      let inside : Shaped n.inside = shaped-front n.inside (n.greater ∷ []) (shaped-back n.display_name (n.less ∷ (n.inside ++ n.greater ∷ [])) (subst Shaped n.cut shaped)).1 in
      elim n.spec [ inl spec ↦ spec-domain n.inside address inside spec | inr routed ↦ routed-domain n.inside address inside routed ]
]

-- the address has a domain
abbrev pub HasDomain : Addr → Type 0
HasDomain address = IsDomain address.domain

answer-domain : (part : Part) (answer : Option Addr) → Shaped part.tokens → PartAnswers part answer → All HasDomain (option_to_list answer)
answer-domain part None shaped answers = All-nil HasDomain
answer-domain part (Some address) shaped gives = All-cons HasDomain address [] (gives-domain part address shaped gives) (All-nil HasDomain)

Shaped-parts : List Part → Type 0
Shaped-parts [] = Unit {0}
Shaped-parts (part ∷ more) = Shaped part.tokens × Shaped-parts more

parts-shaped : (parts : List Part) (all : List AddrPiece) → Shaped all → AreParts all parts → Shaped-parts parts
unfolding Shaped-parts
parts-shaped [] all shaped parts = absurd parts
parts-shaped (part ∷ []) all shaped parts = (subst Shaped parts.0 shaped, tt)
parts-shaped (part ∷ (next ∷ more)) all shaped parts =
    let cut : Shaped (part.tokens ++ parts.0 ∷ parts.1) = subst Shaped parts.2 shaped in
    (shaped-front part.tokens (parts.0 ∷ parts.1) cut, parts-shaped (next ∷ more) parts.1 (shaped-back part.tokens (parts.0 ∷ parts.1) cut).1 parts.7)

collects-domain : (parts : List Part) (found : List Addr) → Shaped-parts parts → Collects parts found → All HasDomain found
unfolding Shaped-parts
collects-domain [] found shaped none = subst (All HasDomain) (sym none) (All-nil HasDomain)
collects-domain (part ∷ more) found shaped collects =
    subst (All HasDomain) (sym collects.4) (All-append HasDomain (option_to_list collects.0) collects.1 (answer-domain part collects.0 shaped.0 collects.2) (collects-domain more collects.1 shaped.1 collects.3))

-- each address of a value has a domain
pub addresses-domain : (value : List ℕ) (found : List Addr) → AreAddresses value found → All HasDomain found
addresses-domain value found are = collects-domain are.parts found (parts-shaped are.parts (tokens are.pieces) (tokens-shaped are.pieces (cut-shaped value are.pieces are.cut)) are.split) are.given

-- atoms with dots between, as pieces that anything but an atom may follow
record IsJoined (text : List ℕ) : Type 0 where
  pieces : List AddrPiece
  dotted : Dotted IsAtom pieces text
  cut : (rest : List ℕ) (more : List AddrPiece) → IsNoAtom rest → Cut rest more → Cut (text ++ rest) (pieces ++ more)

-- what may stand after the first octet of an atom
data Continued (text : List ℕ) : Type 0 where
  Ends : AreAtoms text → Continued text
  Goes : (run others : List ℕ) → AreAtoms run → text ≡ run ++ 46 ∷ others → IsJoined others → Continued text

continued-more : (octet : ℕ) (more : List ℕ) → is_atom_octet octet ≡ true → Continued more → Continued (octet ∷ more)
continued-more octet more atom (Ends atoms) = Ends (atom, atoms)
continued-more octet more atom (Goes run others atoms is joined) = Goes (octet ∷ run) others (atom, atoms) (ap (λ s. octet ∷ s) is) joined

atom-piece : List ℕ → AddrPiece
atom-piece text = record { kind = K.Atom; text = text }

dot-piece : AddrPiece
dot-piece = record { kind = K.Dot; text = 46 ∷ [] }

joined-first : (octet : ℕ) (more : List ℕ) → is_atom_octet octet ≡ true → Continued more → IsJoined (octet ∷ more)
unfolding atom-piece dot-piece
joined-first octet more atom (Ends atoms) = record {
  pieces = atom-piece (octet ∷ more) ∷ [];
  dotted = refl;
  cut = λ rest others ends cut. (rest, (refl, (((λ none. absurd (cc)), ((atom, atoms), ends)), cut)));
}
joined-first octet more atom (Goes run others atoms is joined) = record {
  pieces = atom-piece (octet ∷ run) ∷ (dot-piece ∷ joined.pieces);
  dotted = (octet ∷ run, others, refl, refl, joined.dotted, ap (λ s. octet ∷ s) is);
  cut = λ rest after ends cut. (
    46 ∷ (others ++ rest),
    (
      ap (λ s. octet ∷ (s ++ rest)) is ∙ ap (λ s. octet ∷ s) (append_assoc run (46 ∷ others) rest),
      (
        ((λ none. absurd (cc)), ((atom, atoms), refl)),
        (others ++ rest, (refl, (record { octet = 46; alone = refl; begins = refl }, joined.cut rest after ends cut))),
      ),
    ),
  );
}

-- in an atom, and where one is due
record IsCutUp (text : List ℕ) : Type 0 where
  within : is_dotted false text ≡ true → Continued text
  due : is_dotted true text ≡ true → IsJoined text

cut-up : (text : List ℕ) → IsCutUp text
cut-up [] = record { within = λ is. Ends tt; due = λ is. absurd (false≢true is) }
cut-up (octet ∷ more) =
    let rest = cut-up more in
    record {
      within = λ is. elim (fork (octet == 46) (true && is_dotted true more) (is_atom_octet octet && is_dotted false more) true is) [
        | inl p ↦ Goes [] more tt (ap (λ b. b ∷ more) (eqb-true octet 46 p.0)) (rest.due p.1)
        | inr p ↦ let both = and_parts (is_atom_octet octet) (is_dotted false more) p.1 in continued-more octet more both.0 (rest.within both.1)
      ];
      due = λ is. elim (fork (octet == 46) (false && is_dotted true more) (is_atom_octet octet && is_dotted false more) true is) [
        | inl p ↦ absurd (false≢true p.1)
        | inr p ↦ let both = and_parts (is_atom_octet octet) (is_dotted false more) p.1 in joined-first octet more both.0 (rest.within both.1)
      ];
    }

-- atoms are words
atom-word : (kind : AddrPieceKind) (text value : List ℕ) → IsAtom kind text value → IsWordToken kind text value
atom-word K.Atom text value is = is
atom-word _ text value is = absurd is

dotted-words : (all : List AddrPiece) (value : List ℕ) → Dotted IsAtom all value → Dotted IsWordToken all value
dotted-words [] value dotted = absurd dotted
dotted-words (atom ∷ []) value dotted = atom-word atom.kind atom.text value dotted
dotted-words (atom ∷ (dot ∷ more)) value dotted = (dotted.0, dotted.1, atom-word atom.kind atom.text dotted.0 dotted.2, dotted.3, dotted-words more dotted.1 dotted.4, dotted.5)

-- octets and pairs of a text between quotation marks
escapes : List ℕ → List Inner
escapes [] = []
escapes (octet ∷ more) = cond (octet == 34 || octet == 92) (Pair octet) (Plain octet) ∷ escapes more

escapes-written : (text : List ℕ) → with_quoted_pairs text ++ 34 ∷ [] ≡ inner_before (escapes text) (34 ∷ [])
unfolding escapes
escapes-written [] = refl
escapes-written (octet ∷ more) = elim (cases_Bool (octet == 34 || octet == 92)) [
  | inl yes' ↦ ap (λ b. cond b (92 ∷ (octet ∷ with_quoted_pairs more)) (octet ∷ with_quoted_pairs more) ++ 34 ∷ []) yes' ∙ ap (λ s. 92 ∷ (octet ∷ s)) (escapes-written more) ∙ ap (λ b. inner_before (cond b (Pair octet) (Plain octet) ∷ escapes more) (34 ∷ [])) (sym yes')
  | inr no' ↦ ap (λ b. cond b (92 ∷ (octet ∷ with_quoted_pairs more)) (octet ∷ with_quoted_pairs more) ++ 34 ∷ []) no' ∙ ap (λ s. octet ∷ s) (escapes-written more) ∙ ap (λ b. inner_before (cond b (Pair octet) (Plain octet) ∷ escapes more) (34 ∷ [])) (sym no')
]

escapes-inside : (text : List ℕ) → IsInside 34 (escapes text)
unfolding escapes
escapes-inside [] = tt
escapes-inside (octet ∷ more) = elim (cases_Bool (octet == 34 || octet == 92)) [
  | inl yes' ↦ subst (λ b. IsInside 34 (cond b (Pair octet) (Plain octet) ∷ escapes more)) (sym yes') (escapes-inside more)
  | inr no' ↦ let both = or_parts (octet == 34) (octet == 92) no' in subst (λ b. IsInside 34 (cond b (Pair octet) (Plain octet) ∷ escapes more)) (sym no') (both.0, (both.1, escapes-inside more))
]

escaped-unquoted : (text : List ℕ) → unquoted_from false (with_quoted_pairs text ++ 34 ∷ []) ≡ text
escaped-unquoted [] = refl
escaped-unquoted (octet ∷ more) = elim (cases_Bool (octet == 34 || octet == 92)) [
  | inl yes' ↦ ap (λ b. unquoted_from false (cond b (92 ∷ (octet ∷ with_quoted_pairs more)) (octet ∷ with_quoted_pairs more) ++ 34 ∷ [])) yes' ∙ ap (λ s. octet ∷ s) (escaped-unquoted more)
  | inr no' ↦
      let both = or_parts (octet == 34) (octet == 92) no' in
      ap (λ b. unquoted_from false (cond b (92 ∷ (octet ∷ with_quoted_pairs more)) (octet ∷ with_quoted_pairs more) ++ 34 ∷ [])) no'
      ∙ ap (λ b. cond b (unquoted_from true (with_quoted_pairs more ++ 34 ∷ [])) (cond (octet == 34) (unquoted_from false (with_quoted_pairs more ++ 34 ∷ [])) (octet ∷ unquoted_from false (with_quoted_pairs more ++ 34 ∷ [])))) both.1
      ∙ ap (λ b. cond b (unquoted_from false (with_quoted_pairs more ++ 34 ∷ [])) (octet ∷ unquoted_from false (with_quoted_pairs more ++ 34 ∷ []))) both.0
      ∙ ap (λ s. octet ∷ s) (escaped-unquoted more)
]

-- the local part as it is spelled, as pieces that anything but an atom may follow
record IsLocal (local text : List ℕ) : Type 0 where
  pieces : List AddrPiece
  words : Dotted IsWordToken pieces local
  cut : (rest : List ℕ) (more : List AddrPiece) → IsNoAtom rest → Cut rest more → Cut (text ++ rest) (pieces ++ more)

quoted-local : (local : List ℕ) → IsLocal local (quoted local)
quoted-local local = record {
  pieces = (record { kind = K.Quoted; text = quoted local }) ∷ [];
  words = sym (escaped-unquoted local);
  cut = λ rest more ends cut. (rest, (refl, (record { inside = escapes local; plain = escapes-inside local; spelled = ap (λ s. 34 ∷ s) (escapes-written local) }, cut)));
}

local-is : (local : List ℕ) → IsLocal local (local_spelling local)
local-is local = elim (cases_Bool (is_dot_atom local)) [
  | inl plain ↦
      let joined = (cut-up local).due plain in
      subst (λ b. IsLocal local (cond b local (quoted local))) (sym plain) (record { pieces = joined.pieces; words = dotted-words joined.pieces local joined.dotted; cut = joined.cut })
  | inr other ↦ subst (λ b. IsLocal local (cond b local (quoted local))) (sym other) (quoted-local local)
]

-- a domain as pieces
record IsHost (domain : List ℕ) : Type 0 where
  pieces : List AddrPiece
  host : Dotted IsAtom pieces domain ⊎ IsDomainLiteral pieces domain
  cut : Cut domain pieces

host-is : (domain : List ℕ) → IsDomain domain → IsHost domain
host-is domain (inl plain) =
    let joined = (cut-up domain).due plain in
    record {
      pieces = joined.pieces;
      host = inl joined.dotted;
      cut = subst (λ ps. Cut domain ps) (append-nil joined.pieces) (subst (λ s. Cut s (joined.pieces ++ [])) (append-nil domain) (joined.cut [] [] tt refl));
    }
host-is domain (inr literal) = record {
  pieces = (record { kind = K.Literal; text = domain }) ∷ [];
  host = inr (record { literal = record { kind = K.Literal; text = domain }; alone = refl; kind = refl; text = refl });
  cut = ([], (sym (append-nil domain), (literal, refl)));
}

-- an addr-spec has neither blanks nor comments
inner-token : (kind : AddrPieceKind) → is_inner kind ≡ true → is_token kind ≡ true
inner-token K.Blank inner = absurd (false≢true inner)
inner-token K.Comment inner = absurd (false≢true inner)
inner-token _ inner = refl

inner-plain : (kind : AddrPieceKind) → is_inner kind ≡ true → is_no_comment kind ≡ true
inner-plain K.Comment inner = absurd (false≢true inner)
inner-plain _ inner = refl

inner-tokens : (all : List AddrPiece) → Each is_inner all → tokens all ≡ all
inner-tokens [] inner = refl
inner-tokens (piece ∷ more) inner = ap (λ b. cond b (piece ∷ tokens more) (tokens more)) (inner-token piece.kind inner.0) ∙ ap (λ ps. piece ∷ ps) (inner-tokens more inner.1)

inner-no_comment : (all : List AddrPiece) → Each is_inner all → Each is_no_comment all
inner-no_comment [] inner = tt
inner-no_comment (piece ∷ more) inner = (inner-plain piece.kind inner.0, inner-no_comment more inner.1)

-- what is spelled is the address, without display name, if it is fit
spelling-bare : (address : Addr) → IsDomain address.domain → is_fit (address_spelling address) ≡ true → IsBareAddress (address_spelling address) address
spelling-bare address domain fit =
    let l = local-is address.local in
    let h = host-is address.domain domain in
    let at : AddrPiece = record { kind = K.At; text = 64 ∷ [] } in
    let all = l.pieces ++ at ∷ h.pieces in
    let spec : IsAddrSpec all address = record { local = l.pieces; at = at; domain = h.pieces; cut = refl; mark = refl; words = l.words; host = h.host } in
    let inner : Each is_inner all = spec-inner all address spec in
    record {
      fit = fit;
      pieces = all;
      cut = l.cut (64 ∷ address.domain) (at ∷ h.pieces) refl (address.domain, (refl, (record { octet = 64; alone = refl; begins = refl }, h.cut)));
      no_comment = inner-no_comment all inner;
      spec = subst (λ ps. IsAddrSpec ps address) (sym (inner-tokens all inner)) spec;
    }

spelling-fit : (address : Addr) (text : List ℕ) → text ≡ address_spelling address → IsDomain address.domain × (is_fit text ≡ true) → IsBareAddress text address
spelling-fit address text is both = subst (λ t. IsBareAddress t address) (sym is) (spelling-bare address both.0 (subst (λ t. is_fit t ≡ true) is both.1))

-- the two facts under which a spelling is its address, and that it is only then
pub spelling-alone : (address : Addr) (text : List ℕ) → text ≡ address_spelling address → (IsBareAddress text address → IsDomain address.domain × (is_fit text ≡ true)) × (IsDomain address.domain × (is_fit text ≡ true) → IsBareAddress text address)
spelling-alone address text is = (
  λ b. (outbound-domain text [] address (bare-outbound text address b), b.fit),
  spelling-fit address text is,
)

-- the same of the address that it names
pub spelling-law : (address : Addr) (text : List ℕ) → text ≡ address_spelling address → (IsOutbound text [] address → IsDomain address.domain × (is_fit text ≡ true)) × (IsDomain address.domain × (is_fit text ≡ true) → IsOutbound text [] address)
spelling-law address text is = (
  λ o. (outbound-domain text [] address o, o.fit),
  λ both. bare-outbound text address (spelling-fit address text is both),
)

-- the address of a result has a domain
pub result-domain : {E : Type 0} (text : List ℕ) (result : Result (Option (List ℕ × Addr)) E) → IfOk result (λ found. IfSome found (λ r. IsOutbound text r.0 r.1)) → IfOk result (λ found. IfSome found (λ r. IsDomain r.1.domain))
result-domain text (Err e) is = tt
result-domain text (Ok None) is = tt
result-domain text (Ok (Some found)) is = outbound-domain text found.0 found.1 is

pub result-bare_domain : {E : Type 0} (text : List ℕ) (result : Result (Option Addr) E) → IfOk result (λ found. IfSome found (λ address. IsBareAddress text address)) → IfOk result (λ found. IfSome found (λ address. IsDomain address.domain))
result-bare_domain text (Err e) is = tt
result-bare_domain text (Ok None) is = tt
result-bare_domain text (Ok (Some address)) b = spec-domain (tokens b.pieces) address (tokens-shaped b.pieces (cut-shaped text b.pieces b.cut)) b.spec
