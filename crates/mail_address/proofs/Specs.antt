-- An addr-spec is what the stages read to an end.
use Rattle.std.proofs.Common.{◌≡◌, ℕ, ◌⊎◌, Bool, true, false, List, [], ◌∷◌, ◌++◌, refl, ap, sym, ◌∙◌, subst, inl, inr, append_assoc}
use Rattle.std.proofs.lemmas.List.{append-nil}
use Rattle.std.proofs.lemmas.Bool.{false≢true}
use Rattle.mail_address.specs.declared.scanner.AddrPieceKind.{AddrPieceKind}
use Rattle.mail_address.specs.declared.scanner.AddrPieceKind.TheVariants as K
use Rattle.mail_address.specs.declared.draft.BracketState.{BracketState}
use Rattle.mail_address.specs.declared.draft.AddrSpecState.{AddrSpecState}
use Rattle.mail_address.specs.declared.draft.AddrSpecState.TheVariants as S
use Rattle.mail_address.specs.declared.draft.Draft.{Draft}
use Rattle.mail_address.specs.declared.address.Addr.{Addr}
use Rattle.mail_address.specs.Pieces.{AddrPiece, unquoted_text}
use Rattle.mail_address.specs.Parts.{IsWordToken, IsAtom, Dotted, IsDomainLiteral, IsAddrSpec}
use Rattle.mail_address.specs.Drafts.{after_spec_token, draft_with, spec_state_after, token_value, empty_draft_at, may_end_spec}

abbrev pub draft : BracketState → AddrSpecState → List ℕ → List ℕ → Draft
draft place stage local domain = record { place = place; stage = stage; local = local; domain = domain }

-- the tokens of an addr-spec, read one after the other
abbrev pub reads : Draft → List AddrPiece → Draft
reads d [] = d
reads d (token ∷ more) = reads (after_spec_token d token.kind token.text) more

pub reads-append : (d : Draft) (front back : List AddrPiece) → reads d (front ++ back) ≡ reads (reads d front) back
reads-append d [] back = refl
reads-append d (token ∷ more) back = reads-append (after_spec_token d token.kind token.text) more back

put-place : (stage : AddrSpecState) (d : Draft) (value : List ℕ) → (draft_with stage d value).place ≡ d.place
put-place S.Word d value = refl
put-place S.Dot d value = refl
put-place S.Name d value = refl
put-place S.NameDot d value = refl
put-place S.Literal d value = refl
put-place S.Start d value = refl
put-place S.At d value = refl
put-place S.Wrong d value = refl

-- reading stays where it is
pub read-place : (d : Draft) (kind : AddrPieceKind) (text : List ℕ) → (after_spec_token d kind text).place ≡ d.place
read-place d kind text = put-place (spec_state_after d.stage kind) d (token_value kind text)

-- a word or an atom is due
abbrev is_due : AddrSpecState → Bool
is_due S.Start = true
is_due S.Dot = true
is_due _ = false

abbrev is_name_due : AddrSpecState → Bool
is_name_due S.At = true
is_name_due S.NameDot = true
is_name_due _ = false

word-read : (place : BracketState) (stage : AddrSpecState) (kind : AddrPieceKind) (local domain text value : List ℕ) → is_due stage ≡ true → IsWordToken kind text value → after_spec_token (draft place stage local domain) kind text ≡ draft place S.Word (local ++ value) domain
word-read place S.Start K.Atom local domain text value due word = ap (λ v. draft place S.Word (local ++ v) domain) (sym word)
word-read place S.Start K.Quoted local domain text value due word = ap (λ v. draft place S.Word (local ++ v) domain) (sym word)
word-read place S.Dot K.Atom local domain text value due word = ap (λ v. draft place S.Word (local ++ v) domain) (sym word)
word-read place S.Dot K.Quoted local domain text value due word = ap (λ v. draft place S.Word (local ++ v) domain) (sym word)
word-read place S.Start _ local domain text value due word = absurd word
word-read place S.Dot _ local domain text value due word = absurd word
word-read place _ kind local domain text value due word = absurd (false≢true due)

atom-read : (place : BracketState) (stage : AddrSpecState) (kind : AddrPieceKind) (local domain text value : List ℕ) → is_name_due stage ≡ true → IsAtom kind text value → after_spec_token (draft place stage local domain) kind text ≡ draft place S.Name local (domain ++ value)
atom-read place S.At K.Atom local domain text value due atom = ap (λ v. draft place S.Name local (domain ++ v)) (sym atom)
atom-read place S.NameDot K.Atom local domain text value due atom = ap (λ v. draft place S.Name local (domain ++ v)) (sym atom)
atom-read place S.At _ local domain text value due atom = absurd atom
atom-read place S.NameDot _ local domain text value due atom = absurd atom
atom-read place _ kind local domain text value due atom = absurd (false≢true due)

-- words with dots between are read to a word's end
words-read : (place : BracketState) (stage : AddrSpecState) (words : List AddrPiece) (local value : List ℕ) → is_due stage ≡ true → Dotted IsWordToken words value → reads (draft place stage local []) words ≡ draft place S.Word (local ++ value) []
words-read place stage [] local value due dotted = absurd dotted
words-read place stage (word ∷ []) local value due dotted = word-read place stage word.kind local [] word.text value due dotted
words-read place stage (word ∷ (dot ∷ more)) local value due dotted =
    let first = dotted.0 in
    let others = dotted.1 in
    ap (λ d. reads (after_spec_token d dot.kind dot.text) more) (word-read place stage word.kind local [] word.text first due dotted.2)
    ∙ ap (λ k. reads (after_spec_token (draft place S.Word (local ++ first) []) k dot.text) more) dotted.3
    ∙ words-read place S.Dot more (local ++ first ++ 46 ∷ []) others refl dotted.4
    ∙ ap (λ l. draft place S.Word l []) (append_assoc (local ++ first) (46 ∷ []) others ∙ append_assoc local first (46 ∷ others) ∙ ap (λ v. local ++ v) (sym dotted.5))

-- atoms with dots between are read to a name's end
atoms-read : (place : BracketState) (stage : AddrSpecState) (atoms : List AddrPiece) (local domain value : List ℕ) → is_name_due stage ≡ true → Dotted IsAtom atoms value → reads (draft place stage local domain) atoms ≡ draft place S.Name local (domain ++ value)
atoms-read place stage [] local domain value due dotted = absurd dotted
atoms-read place stage (atom ∷ []) local domain value due dotted = atom-read place stage atom.kind local domain atom.text value due dotted
atoms-read place stage (atom ∷ (dot ∷ more)) local domain value due dotted =
    let first = dotted.0 in
    let others = dotted.1 in
    ap (λ d. reads (after_spec_token d dot.kind dot.text) more) (atom-read place stage atom.kind local domain atom.text first due dotted.2)
    ∙ ap (λ k. reads (after_spec_token (draft place S.Name local (domain ++ first)) k dot.text) more) dotted.3
    ∙ atoms-read place S.NameDot more local (domain ++ first ++ 46 ∷ []) others refl dotted.4
    ∙ ap (λ d. draft place S.Name local d) (append_assoc (domain ++ first) (46 ∷ []) others ∙ append_assoc domain first (46 ∷ others) ∙ ap (λ v. domain ++ v) (sym dotted.5))

-- a draft that has been read to its end
pub record IsDone (place : BracketState) (address : Addr) (d : Draft) : Type 0 where
  pub stage : AddrSpecState
  pub is : d ≡ draft place stage address.local address.domain
  pub ends : may_end_spec stage ≡ true

literal-read : (place : BracketState) (kind : AddrPieceKind) (local text : List ℕ) → kind ≡ K.Literal → after_spec_token (draft place S.At local []) kind text ≡ draft place S.Literal local text
literal-read place kind local text is = ap (λ k. after_spec_token (draft place S.At local []) k text) is

host-read : (place : BracketState) (local : List ℕ) (domain : List AddrPiece) (value : List ℕ) → Dotted IsAtom domain value ⊎ IsDomainLiteral domain value → IsDone place (record { local = local; domain = value }) (reads (draft place S.At local []) domain)
host-read place local domain value (inl atoms) = record { stage = S.Name; is = atoms-read place S.At domain local [] value refl atoms; ends = refl }
host-read place local domain value (inr l) = record {
  stage = S.Literal;
  is = ap (reads (draft place S.At local [])) l.alone ∙ literal-read place l.literal.kind local l.literal.text l.kind ∙ ap (λ v. draft place S.Literal local v) (sym l.text);
  ends = refl;
}

done-as : (place : BracketState) (address : Addr) (d e : Draft) → d ≡ e → IsDone place address e → IsDone place address d
done-as place address d e same done = record { stage = done.stage; is = same ∙ done.is; ends = done.ends }

-- an addr-spec is read to its end
pub spec-again : (place : BracketState) (tokens : List AddrPiece) (address : Addr) → IsAddrSpec tokens address → IsDone place address (reads (empty_draft_at place) tokens)
spec-again place tokens address spec =
    done-as place address (reads (empty_draft_at place) tokens) (reads (draft place S.At address.local []) spec.domain)
    (ap (reads (empty_draft_at place)) spec.cut ∙ reads-append (empty_draft_at place) spec.local (spec.at ∷ spec.domain)
    ∙ ap (λ d. reads (after_spec_token d spec.at.kind spec.at.text) spec.domain) (words-read place S.Start spec.local [] address.local refl spec.words)
    ∙ ap (λ k. reads (after_spec_token (draft place S.Word address.local []) k spec.at.text) spec.domain) spec.mark)
    (host-read place address.local spec.domain address.domain spec.host)

-- what is wrong stays wrong
pub wrong-stays : (d : Draft) (tokens : List AddrPiece) → d.stage ≡ S.Wrong → (reads d tokens).stage ≡ S.Wrong
wrong-stays d [] wrong = wrong
wrong-stays d (token ∷ more) wrong = wrong-stays (after_spec_token d token.kind token.text) more (ap (λ s. (draft_with (spec_state_after s token.kind) d (token_value token.kind token.text)).stage) wrong)

wrong-never : (place : BracketState) (local domain : List ℕ) (tokens : List AddrPiece) → may_end_spec (reads (draft place S.Wrong local domain) tokens).stage ≡ true → ⊥
wrong-never place local domain tokens ends = false≢true (sym (ap may_end_spec (wrong-stays (draft place S.Wrong local domain) tokens refl)) ∙ ends)

-- what may follow an item of a dotted list
abbrev Tail : (AddrPieceKind → List ℕ → List ℕ → Type 0) → List AddrPiece → List ℕ → Type 0
Tail IsItem [] value = value ≡ []
Tail IsItem (dot ∷ more) value = (others : List ℕ) × ((dot.kind ≡ K.Dot) × (Dotted IsItem more others × (value ≡ 46 ∷ others)))

dotted-join : (IsItem : AddrPieceKind → List ℕ → List ℕ → Type 0) (item : AddrPiece) (more : List AddrPiece) (first others : List ℕ) → IsItem item.kind item.text first → Tail IsItem more others → Dotted IsItem (item ∷ more) (first ++ others)
dotted-join IsItem item [] first others is tail = subst (IsItem item.kind item.text) (sym (ap (λ v. first ++ v) tail ∙ append-nil first)) is
dotted-join IsItem item (dot ∷ more) first others is (rest, (dots, (dotted, same))) = (first, rest, is, dots, dotted, ap (λ v. first ++ v) same)

-- the atoms after the first, and where reading them ends
record NameEnd (place : BracketState) (local domain : List ℕ) (tokens : List AddrPiece) : Type 0 where
  value : List ℕ
  tail : Tail IsAtom tokens value
  is_local : (reads (draft place S.Name local domain) tokens).local ≡ local
  is_domain : (reads (draft place S.Name local domain) tokens).domain ≡ domain ++ value

record AtomsEnd (place : BracketState) (stage : AddrSpecState) (local domain : List ℕ) (tokens : List AddrPiece) : Type 0 where
  value : List ℕ
  dotted : Dotted IsAtom tokens value
  is_local : (reads (draft place stage local domain) tokens).local ≡ local
  is_domain : (reads (draft place stage local domain) tokens).domain ≡ domain ++ value

atom-then : (place : BracketState) (local domain text : List ℕ) (more : List AddrPiece) → NameEnd place local (domain ++ text) more → AtomsEnd place S.NameDot local domain ((record { kind = K.Atom; text = text }) ∷ more)
atom-then place local domain text more n = record {
  value = text ++ n.value;
  dotted = dotted-join IsAtom (record { kind = K.Atom; text = text }) more text n.value refl n.tail;
  is_local = n.is_local;
  is_domain = n.is_domain ∙ append_assoc domain text n.value;
}

dot-then : (place : BracketState) (local domain text : List ℕ) (more : List AddrPiece) → AtomsEnd place S.NameDot local (domain ++ 46 ∷ []) more → NameEnd place local domain ((record { kind = K.Dot; text = text }) ∷ more)
dot-then place local domain text more n = record {
  value = 46 ∷ n.value;
  tail = (n.value, (refl, (n.dotted, refl)));
  is_local = n.is_local;
  is_domain = n.is_domain ∙ append_assoc domain (46 ∷ []) n.value;
}

name-two : (place : BracketState) (local domain : List ℕ) (kind kind' : AddrPieceKind) (text text' : List ℕ) (more : List AddrPiece) → ((domain' : List ℕ) → may_end_spec (reads (draft place S.Name local domain') more).stage ≡ true → NameEnd place local domain' more) → may_end_spec (reads (draft place S.Name local domain) ((record { kind = kind; text = text }) ∷ ((record { kind = kind'; text = text' }) ∷ more))).stage ≡ true → NameEnd place local domain ((record { kind = kind; text = text }) ∷ ((record { kind = kind'; text = text' }) ∷ more))
name-two place local domain K.Dot K.Atom text text' more rec ends = dot-then place local domain text ((record { kind = K.Atom; text = text' }) ∷ more) (atom-then place local (domain ++ 46 ∷ []) text' more (rec (domain ++ 46 ∷ [] ++ text') ends))
name-two place local domain K.Dot kind' text text' more rec ends = absurd (wrong-never place local (domain ++ 46 ∷ []) more ends)
name-two place local domain kind kind' text text' more rec ends = absurd (wrong-never place local domain ((record { kind = kind'; text = text' }) ∷ more) ends)

name-one : (place : BracketState) (local domain : List ℕ) (kind : AddrPieceKind) (text : List ℕ) → may_end_spec (after_spec_token (draft place S.Name local domain) kind text).stage ≡ true → ⊥
name-one place local domain K.Dot text ends = false≢true ends
name-one place local domain _ text ends = false≢true ends

-- what is read to an end after an atom of the domain
name-is : (place : BracketState) (local domain : List ℕ) (tokens : List AddrPiece) → may_end_spec (reads (draft place S.Name local domain) tokens).stage ≡ true → NameEnd place local domain tokens
name-is place local domain [] ends = record { value = []; tail = refl; is_local = refl; is_domain = sym (append-nil domain) }
name-is place local domain (token ∷ []) ends = absurd (name-one place local domain token.kind token.text ends)
name-is place local domain (token ∷ (next ∷ more)) ends = name-two place local domain token.kind next.kind token.text next.text more (λ domain' rest. name-is place local domain' more rest) ends

record HostEnd (place : BracketState) (local : List ℕ) (tokens : List AddrPiece) : Type 0 where
  value : List ℕ
  host : Dotted IsAtom tokens value ⊎ IsDomainLiteral tokens value
  is_local : (reads (draft place S.At local []) tokens).local ≡ local
  is_domain : (reads (draft place S.At local []) tokens).domain ≡ value

literal-end : (place : BracketState) (local text : List ℕ) (more : List AddrPiece) → may_end_spec (reads (draft place S.Literal local text) more).stage ≡ true → HostEnd place local ((record { kind = K.Literal; text = text }) ∷ more)
literal-end place local text [] ends = record { value = text; host = inr (record { literal = record { kind = K.Literal; text = text }; alone = refl; kind = refl; text = refl }); is_local = refl; is_domain = refl }
literal-end place local text (token ∷ more) ends = absurd (wrong-never place local text more ends)

name-end : (place : BracketState) (local text : List ℕ) (more : List AddrPiece) → NameEnd place local text more → HostEnd place local ((record { kind = K.Atom; text = text }) ∷ more)
name-end place local text more n = record {
  value = text ++ n.value;
  host = inl (dotted-join IsAtom (record { kind = K.Atom; text = text }) more text n.value refl n.tail);
  is_local = n.is_local;
  is_domain = n.is_domain;
}

host-first : (place : BracketState) (local : List ℕ) (kind : AddrPieceKind) (text : List ℕ) (more : List AddrPiece) → may_end_spec (reads (after_spec_token (draft place S.At local []) kind text) more).stage ≡ true → HostEnd place local ((record { kind = kind; text = text }) ∷ more)
host-first place local K.Atom text more ends = name-end place local text more (name-is place local text more ends)
host-first place local K.Literal text more ends = literal-end place local text more ends
host-first place local _ text more ends = absurd (wrong-never place local [] more ends)

-- what is read to an end after the `@`
host-is : (place : BracketState) (local : List ℕ) (tokens : List AddrPiece) → may_end_spec (reads (draft place S.At local []) tokens).stage ≡ true → HostEnd place local tokens
host-is place local [] ends = absurd (false≢true ends)
host-is place local (token ∷ more) ends = host-first place local token.kind token.text more ends

-- the words after the first, the `@` and the domain
record WordEnd (place : BracketState) (local : List ℕ) (tokens : List AddrPiece) : Type 0 where
  words : List AddrPiece
  at : AddrPiece
  domain : List AddrPiece
  cut : tokens ≡ words ++ at ∷ domain
  mark : at.kind ≡ K.At
  value : List ℕ
  tail : Tail IsWordToken words value
  host_value : List ℕ
  host : Dotted IsAtom domain host_value ⊎ IsDomainLiteral domain host_value
  is_local : (reads (draft place S.Word local []) tokens).local ≡ local ++ value
  is_domain : (reads (draft place S.Word local []) tokens).domain ≡ host_value

at-end : (place : BracketState) (local text : List ℕ) (more : List AddrPiece) → HostEnd place local more → WordEnd place local ((record { kind = K.At; text = text }) ∷ more)
at-end place local text more h = record {
  words = [];
  at = record { kind = K.At; text = text };
  domain = more;
  cut = refl;
  mark = refl;
  value = [];
  tail = refl;
  host_value = h.value;
  host = h.host;
  is_local = h.is_local ∙ sym (append-nil local);
  is_domain = h.is_domain;
}

word-end : (place : BracketState) (local text : List ℕ) (word : AddrPiece) (value : List ℕ) (more : List AddrPiece) → IsWordToken word.kind word.text value → after_spec_token (draft place S.Dot (local ++ 46 ∷ []) []) word.kind word.text ≡ draft place S.Word (local ++ 46 ∷ [] ++ value) [] → WordEnd place (local ++ 46 ∷ [] ++ value) more → WordEnd place local ((record { kind = K.Dot; text = text }) ∷ (word ∷ more))
word-end place local text word value more is_word step w = record {
  words = (record { kind = K.Dot; text = text }) ∷ (word ∷ w.words);
  at = w.at;
  domain = w.domain;
  cut = ap (λ ts. (record { kind = K.Dot; text = text }) ∷ (word ∷ ts)) w.cut;
  mark = w.mark;
  value = 46 ∷ (value ++ w.value);
  tail = (value ++ w.value, (refl, (dotted-join IsWordToken word w.words value w.value is_word w.tail, refl)));
  host_value = w.host_value;
  host = w.host;
  is_local = ap (λ d. (reads d more).local) step ∙ w.is_local ∙ append_assoc (local ++ 46 ∷ []) value w.value ∙ append_assoc local (46 ∷ []) (value ++ w.value);
  is_domain = ap (λ d. (reads d more).domain) step ∙ w.is_domain;
}

word-two : (place : BracketState) (local : List ℕ) (kind kind' : AddrPieceKind) (text text' : List ℕ) (more : List AddrPiece) → ((local' : List ℕ) → may_end_spec (reads (draft place S.Word local' []) more).stage ≡ true → WordEnd place local' more) → may_end_spec (reads (draft place S.Word local []) ((record { kind = kind; text = text }) ∷ ((record { kind = kind'; text = text' }) ∷ more))).stage ≡ true → WordEnd place local ((record { kind = kind; text = text }) ∷ ((record { kind = kind'; text = text' }) ∷ more))
word-two place local K.At kind' text text' more rec ends = at-end place local text ((record { kind = kind'; text = text' }) ∷ more) (host-is place local ((record { kind = kind'; text = text' }) ∷ more) ends)
word-two place local K.Dot K.Atom text text' more rec ends = word-end place local text (record { kind = K.Atom; text = text' }) text' more refl refl (rec (local ++ 46 ∷ [] ++ text') ends)
word-two place local K.Dot K.Quoted text text' more rec ends = word-end place local text (record { kind = K.Quoted; text = text' }) (unquoted_text text') more refl refl (rec (local ++ 46 ∷ [] ++ unquoted_text text') ends)
word-two place local K.Dot kind' text text' more rec ends = absurd (wrong-never place (local ++ 46 ∷ []) [] more ends)
word-two place local kind kind' text text' more rec ends = absurd (wrong-never place local [] ((record { kind = kind'; text = text' }) ∷ more) ends)

word-one : (place : BracketState) (local : List ℕ) (kind : AddrPieceKind) (text : List ℕ) → may_end_spec (after_spec_token (draft place S.Word local []) kind text).stage ≡ true → ⊥
word-one place local K.At text ends = false≢true ends
word-one place local K.Dot text ends = false≢true ends
word-one place local _ text ends = false≢true ends

-- what is read to an end after a word
word-is : (place : BracketState) (local : List ℕ) (tokens : List AddrPiece) → may_end_spec (reads (draft place S.Word local []) tokens).stage ≡ true → WordEnd place local tokens
word-is place local [] ends = absurd (false≢true ends)
word-is place local (token ∷ []) ends = absurd (word-one place local token.kind token.text ends)
word-is place local (token ∷ (next ∷ more)) ends = word-two place local token.kind next.kind token.text next.text more (λ local' rest. word-is place local' more rest) ends

-- the address that has been read
abbrev pub read_address : Draft → Addr
read_address d = record { local = d.local; domain = d.domain }

spec-first : (place : BracketState) (first : AddrPiece) (value : List ℕ) (more : List AddrPiece) → IsWordToken first.kind first.text value → after_spec_token (empty_draft_at place) first.kind first.text ≡ draft place S.Word value [] → may_end_spec (reads (draft place S.Word value []) more).stage ≡ true → IsAddrSpec (first ∷ more) (read_address (reads (empty_draft_at place) (first ∷ more)))
spec-first place first value more is_word step ends =
    let w = word-is place value more ends in
    let local : (reads (empty_draft_at place) (first ∷ more)).local ≡ value ++ w.value = ap (λ d. (reads d more).local) step ∙ w.is_local in
    let domain : (reads (empty_draft_at place) (first ∷ more)).domain ≡ w.host_value = ap (λ d. (reads d more).domain) step ∙ w.is_domain in
    record {
      local = first ∷ w.words;
      at = w.at;
      domain = w.domain;
      cut = ap (λ ts. first ∷ ts) w.cut;
      mark = w.mark;
      words = subst (λ v. Dotted IsWordToken (first ∷ w.words) v) (sym local) (dotted-join IsWordToken first w.words value w.value is_word w.tail);
      host = subst (λ v. Dotted IsAtom w.domain v ⊎ IsDomainLiteral w.domain v) (sym domain) w.host;
    }

spec-begin : (place : BracketState) (kind : AddrPieceKind) (text : List ℕ) (more : List AddrPiece) → may_end_spec (reads (after_spec_token (empty_draft_at place) kind text) more).stage ≡ true → IsAddrSpec ((record { kind = kind; text = text }) ∷ more) (read_address (reads (after_spec_token (empty_draft_at place) kind text) more))
spec-begin place K.Atom text more ends = spec-first place (record { kind = K.Atom; text = text }) text more refl refl ends
spec-begin place K.Quoted text more ends = spec-first place (record { kind = K.Quoted; text = text }) (unquoted_text text) more refl refl ends
spec-begin place _ text more ends = absurd (wrong-never place [] [] more ends)

-- what is read to an end is an addr-spec
pub spec-is : (place : BracketState) (tokens : List AddrPiece) → may_end_spec (reads (empty_draft_at place) tokens).stage ≡ true → IsAddrSpec tokens (read_address (reads (empty_draft_at place) tokens))
spec-is place [] ends = absurd (false≢true ends)
spec-is place (token ∷ more) ends = spec-begin place token.kind token.text more ends
