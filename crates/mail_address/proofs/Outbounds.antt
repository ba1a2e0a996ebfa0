-- The reading of a text is the address that it names.
use Rattle.std.proofs.Common.{◌≡◌, ℕ, Result, Ok, Err, IfOk, IfSome, ◌+◌, ◌⊎◌, Bool, true, false, cond, Option, Some, None, List, [], ◌∷◌, ◌++◌, take, length, append_assoc, refl, ap, sym, ◌∙◌, subst, inl, inr, arith, length-append}
use Rattle.std.specs.List.{flat_map}
use Rattle.std.proofs.lemmas.List.{take_at}
use Rattle.std.proofs.lemmas.Bool.{false≢true, cases_Bool}
use Rattle.octets.proofs.Lists.{fork, some_pair}
use Rattle.octets.specs.Ascii.{trimmed}
use Rattle.mail_address.specs.declared.scanner.AddrPieceKind.{AddrPieceKind}
use Rattle.mail_address.specs.declared.scanner.AddrPieceKind.TheVariants as K
use Rattle.mail_address.specs.declared.draft.BracketState.TheVariants as P
use Rattle.mail_address.specs.declared.draft.Draft.{Draft}
use Rattle.mail_address.specs.declared.address.Addr.{Addr}
use Rattle.mail_address.specs.Pieces.{AddrPiece, Cut, unquoted_text}
use Rattle.mail_address.specs.Parts.{is_token, tokens, Each, IsAddrSpec, IsNameAddr}
use Rattle.mail_address.specs.Outbound.{is_fit, is_no_comment, is_phrase, BeginsWithWord, IsBare, IsPhrased, IsOutbound, IsBareAddress}
use Rattle.mail_address.specs.Drafts.{empty_draft, empty_draft_at, after_token, draft_address}
use Rattle.mail_address.specs.Reading.{addr_spec_only, display_opening, with_display, outbound_at, outbound_fit, outbound, bare, pieces}
use Rattle.mail_address.proofs.Cuts.{cut-only, cut-all}
use Rattle.mail_address.proofs.PartLemmas.{runs, Each-append, is_inner, spec-inner, bare-again, inside-again}
use Rattle.mail_address.proofs.Shapes.{shape-is, closed-is}
use Rattle.mail_address.proofs.Lists.{tokens-each}

-- the piece opens no bracket
abbrev is_no_less : AddrPieceKind → Bool
is_no_less K.Less = false
is_no_less _ = true

-- without comment and opening bracket a text is read as its tokens are
addr_spec_only-step : (d : Draft) (kind : AddrPieceKind) (text : List ℕ) (more : List AddrPiece) → is_no_comment kind ≡ true → is_no_less kind ≡ true → addr_spec_only d ((record { kind = kind; text = text }) ∷ more) ≡ addr_spec_only (after_token d kind text) more
addr_spec_only-step d K.Comment text more plain closed = absurd (false≢true plain)
addr_spec_only-step d K.Less text more plain closed = absurd (false≢true closed)
addr_spec_only-step d _ text more plain closed = refl

blank-taken : (d : Draft) (kind : AddrPieceKind) (text : List ℕ) → is_token kind ≡ false → after_token d kind text ≡ d
blank-taken d K.Blank text gap = refl
blank-taken d K.Comment text gap = refl
blank-taken d _ text gap = absurd (false≢true (sym gap))

addr_spec_only-tokens : (all : List AddrPiece) (d : Draft) → Each is_no_comment all → Each is_no_less all → addr_spec_only d all ≡ draft_address (runs d (tokens all))
addr_spec_only-tokens [] d plain closed = refl
addr_spec_only-tokens (piece ∷ more) d plain closed = elim (cases_Bool (is_token piece.kind)) [
  | inl token ↦ addr_spec_only-step d piece.kind piece.text more plain.0 closed.0 ∙ addr_spec_only-tokens more (after_token d piece.kind piece.text) plain.1 closed.1 ∙ ap (λ b. draft_address (runs d (cond b (piece ∷ tokens more) (tokens more)))) (sym token)
  | inr gap ↦ addr_spec_only-step d piece.kind piece.text more plain.0 closed.0 ∙ ap (λ e. addr_spec_only e more) (blank-taken d piece.kind piece.text gap) ∙ addr_spec_only-tokens more d plain.1 closed.1 ∙ ap (λ b. draft_address (runs d (cond b (piece ∷ tokens more) (tokens more)))) (sym gap)
]

-- what is read so has no comment and opens no bracket
record IsSole (d : Draft) (all : List AddrPiece) (address : Addr) : Type 0 where
  plain : Each is_no_comment all
  closed : Each is_no_less all

addr_spec_only-first : (d : Draft) (kind : AddrPieceKind) (text : List ℕ) (more : List AddrPiece) (address : Addr) → ((e : Draft) → addr_spec_only e more ≡ Some address → IsSole e more address) → addr_spec_only d ((record { kind = kind; text = text }) ∷ more) ≡ Some address → IsSole d ((record { kind = kind; text = text }) ∷ more) address
addr_spec_only-first d K.Comment text more address rec is = absurd (cc)
addr_spec_only-first d K.Less text more address rec is = absurd (cc)
addr_spec_only-first d kind text more address rec is = let s = rec (after_token d kind text) is in record { plain = (refl, s.plain); closed = (refl, s.closed) }

addr_spec_only-is : (all : List AddrPiece) (d : Draft) (address : Addr) → addr_spec_only d all ≡ Some address → IsSole d all address
addr_spec_only-is [] d address is = record { plain = tt; closed = tt }
addr_spec_only-is (piece ∷ more) d address is = addr_spec_only-first d piece.kind piece.text more address (λ e rest. addr_spec_only-is more e address rest) is

-- tokens of an addr-spec open no bracket
inner-closed : (kind : AddrPieceKind) → is_inner kind ≡ true → is_no_less kind ≡ true
inner-closed K.Less inner = absurd (false≢true inner)
inner-closed _ inner = refl

gap-closed : (kind : AddrPieceKind) → is_token kind ≡ false → is_no_less kind ≡ true
gap-closed K.Less gap = absurd (false≢true (sym gap))
gap-closed _ gap = refl

tokens-closed : (all : List AddrPiece) → Each is_no_less (tokens all) → Each is_no_less all
tokens-closed [] closed = tt
tokens-closed (piece ∷ more) closed = elim (cases_Bool (is_token piece.kind)) [
  | inl token ↦ let both = (subst (λ b. Each is_no_less (cond b (piece ∷ tokens more) (tokens more))) token closed) in (both.0, tokens-closed more both.1)
  | inr gap ↦ (gap-closed piece.kind gap, tokens-closed more (subst (λ b. Each is_no_less (cond b (piece ∷ tokens more) (tokens more))) gap closed))
]

closed-tokens : (all : List AddrPiece) → Each is_no_less all → Each is_no_less (tokens all)
closed-tokens [] closed = tt
closed-tokens (piece ∷ more) closed = elim (cases_Bool (is_token piece.kind)) [
  | inl token ↦ subst (λ b. Each is_no_less (cond b (piece ∷ tokens more) (tokens more))) (sym token) (closed.0, closed-tokens more closed.1)
  | inr gap ↦ subst (λ b. Each is_no_less (cond b (piece ∷ tokens more) (tokens more))) (sym gap) (closed-tokens more closed.1)
]

Each-weaker : (test other : AddrPieceKind → Bool) → ((kind : AddrPieceKind) → test kind ≡ true → other kind ≡ true) → (all : List AddrPiece) → Each test all → Each other all
Each-weaker test other implies [] each = tt
Each-weaker test other implies (piece ∷ more) each = (implies piece.kind each.0, Each-weaker test other implies more each.1)

-- without an opening bracket there is no display name
opening-none : (seen : Bool) (at : ℕ) (all : List AddrPiece) → Each is_no_less all → display_opening seen at all ≡ None
opening-none seen at [] closed = refl
opening-none seen at (piece ∷ more) closed = by_kind piece.kind piece.text seen closed.0 (opening-none seen (at + length piece.text) more closed.1) (opening-none true (at + length piece.text) more closed.1)
  where
    by_kind : (kind : AddrPieceKind) (text : List ℕ) (seen' : Bool) → is_no_less kind ≡ true → display_opening seen' (at + length text) more ≡ None → display_opening true (at + length text) more ≡ None → display_opening seen' at ((record { kind = kind; text = text }) ∷ more) ≡ None
    by_kind K.Less text seen' plain same word = absurd (false≢true plain)
    by_kind K.Blank text seen' plain same word = same
    by_kind K.Atom text seen' plain same word = word
    by_kind K.Quoted text seen' plain same word = word
    by_kind K.Dot text true plain same word = same
    by_kind K.Dot text false plain same word = refl
    by_kind _ text seen' plain same word = refl

-- an addr-spec opens no bracket
spec-closed : (all : List AddrPiece) (address : Addr) → IsAddrSpec (tokens all) address → Each is_no_less all
spec-closed all address spec = tokens-closed all (Each-weaker is_inner is_no_less inner-closed (tokens all) (spec-inner (tokens all) address spec))

-- an addr-spec alone is read as one
spec-read : (all : List AddrPiece) (address : Addr) → Each is_no_comment all → IsAddrSpec (tokens all) address → addr_spec_only empty_draft all ≡ Some address
spec-read all address plain spec = addr_spec_only-tokens all empty_draft plain (spec-closed all address spec) ∙ bare-again (tokens all) address spec

bare-read : (text display_name : List ℕ) (address : Addr) → Each is_no_comment (pieces text) → IsBare (pieces text) display_name address → outbound_fit text ≡ Some (display_name, address)
bare-read text display_name address plain bare =
    let all = pieces text in
    ap (outbound_at text) (opening-none false 0 all (spec-closed all address bare.spec)) ∙ ap (with_display []) (spec-read all address plain bare.spec) ∙ ap (λ d. shown d address) (sym bare.shown)
  where
    shown : List ℕ → Addr → Option (List ℕ × Addr)
    shown d a = Some (d, a)

-- the texts of pieces, one after the other
abbrev pub texts : List AddrPiece → List ℕ
texts all = flat_map (λ piece. piece.text) all

texts-append : (front back : List AddrPiece) → texts (front ++ back) ≡ texts front ++ texts back
texts-append [] back = refl
texts-append (piece ∷ more) back = ap (λ t. piece.text ++ t) (texts-append more back) ∙ sym (append_assoc piece.text (texts more) (texts back))

cut-texts : (value : List ℕ) (cut : List AddrPiece) → Cut value cut → value ≡ texts cut
cut-texts value [] none = none
cut-texts value (piece ∷ more) (rest, (is, (shape, others))) = is ∙ ap (λ t. piece.text ++ t) (cut-texts rest more others)

-- words and dots are passed up to the bracket
abbrev here : ℕ → List AddrPiece → Option (ℕ × List AddrPiece)
here at others = Some (at, others)

opening-words : (phrase : List AddrPiece) (at : ℕ) (less : AddrPiece) (others : List AddrPiece) → less.kind ≡ K.Less → Each is_phrase phrase → display_opening true at (phrase ++ less ∷ others) ≡ here (at + length (texts phrase)) others
opening-words [] at less others opens words = ap (λ k. display_opening true at ((record { kind = k; text = less.text }) ∷ others)) opens ∙ ap (λ n. here n others) (omega arith)
opening-words (piece ∷ more) at less others opens words = by_kind piece.kind words.0 ∙ opening-words more (at + length piece.text) less others opens words.1 ∙ ap (λ n. here n others) (omega (arith, length-append piece.text (texts more)))
  where
    by_kind : (kind : AddrPieceKind) → is_phrase kind ≡ true → display_opening true at ((record { kind = kind; text = piece.text }) ∷ (more ++ less ∷ others)) ≡ display_opening true (at + length piece.text) (more ++ less ∷ others)
    by_kind K.Blank is = refl
    by_kind K.Atom is = refl
    by_kind K.Quoted is = refl
    by_kind K.Dot is = refl
    by_kind _ is = absurd (false≢true is)

opening-phrase : (phrase : List AddrPiece) (at : ℕ) (less : AddrPiece) (others : List AddrPiece) → less.kind ≡ K.Less → Each is_phrase phrase → BeginsWithWord phrase → display_opening false at (phrase ++ less ∷ others) ≡ here (at + length (texts phrase)) others
opening-phrase [] at less others opens words begins = absurd begins
opening-phrase (piece ∷ more) at less others opens words begins = by_kind piece.kind words.0 begins (λ word. opening-phrase more (at + length piece.text) less others opens words.1 word)
  where
    long : at + length piece.text + length (texts more) ≡ at + length (texts (piece ∷ more))
    long = omega (arith, length-append piece.text (texts more))

    by_kind : (kind : AddrPieceKind) → is_phrase kind ≡ true → BeginsWithWord ((record { kind = kind; text = piece.text }) ∷ more) → (BeginsWithWord more → display_opening false (at + length piece.text) (more ++ less ∷ others) ≡ here (at + length piece.text + length (texts more)) others) → display_opening false at ((record { kind = kind; text = piece.text }) ∷ (more ++ less ∷ others)) ≡ here (at + length (texts (piece ∷ more))) others
    by_kind K.Blank is word rec = rec word ∙ ap (λ n. here n others) long
    by_kind K.Atom is word rec = opening-words more (at + length piece.text) less others opens words.1 ∙ ap (λ n. here n others) long
    by_kind K.Quoted is word rec = opening-words more (at + length piece.text) less others opens words.1 ∙ ap (λ n. here n others) long
    by_kind _ is word rec = absurd word

Each-back : (test : AddrPieceKind → Bool) (front back : List AddrPiece) → Each test (front ++ back) → Each test back
Each-back test [] back all = all
Each-back test (token ∷ more) back all = Each-back test more back all.1

-- words and an addr-spec in brackets are read so
phrased-read : (text display_name : List ℕ) (address : Addr) → text ≡ texts (pieces text) → Each is_no_comment (pieces text) → IsPhrased (pieces text) display_name address → outbound_fit text ≡ Some (display_name, address)
phrased-read text display_name address whole plain p =
    let n = length (texts p.phrase) in
    let before : take n text ≡ texts p.phrase = ap (take n) (whole ∙ ap texts p.cut ∙ texts-append p.phrase (p.less ∷ p.others)) ∙ take_at (texts p.phrase) (texts (p.less ∷ p.others)) n refl in
    let found : display_opening false 0 (pieces text) ≡ here n p.others = ap (display_opening false 0) p.cut ∙ opening-phrase p.phrase 0 p.less p.others p.opens p.words p.begins ∙ ap (λ m. here m p.others) (omega arith) in
    let plain' : Each is_no_comment p.others = (Each-back is_no_comment p.phrase (p.less ∷ p.others) (subst (Each is_no_comment) p.cut plain)).1 in
    let closed : Each is_no_less p.others = tokens-closed p.others (subst (Each is_no_less) (sym p.rest) (Each-append is_no_less p.inside (p.greater ∷ []) (Each-weaker is_inner is_no_less inner-closed p.inside (spec-inner p.inside address p.spec)) (ap is_no_less p.closes, tt))) in
    let read : addr_spec_only (empty_draft_at P.Inside) p.others ≡ Some address = addr_spec_only-tokens p.others (empty_draft_at P.Inside) plain' closed ∙ ap (λ ts. draft_address (runs (empty_draft_at P.Inside) ts)) p.rest ∙ inside-again p.inside address p.greater p.closes p.spec in
    ap (outbound_at text) found ∙ ap (with_display (unquoted_text (trimmed (take n text)))) read ∙ ap (λ t. shown (unquoted_text (trimmed t)) address) before ∙ ap (λ d. shown d address) (sym p.shown)
  where
    shown : List ℕ → Addr → Option (List ℕ × Addr)
    shown d a = Some (d, a)

-- each text that names an address is read as that one
pub outbound-again : (text display_name : List ℕ) (address : Addr) → IsOutbound text display_name address → outbound text ≡ Some (display_name, address)
unfolding outbound
outbound-again text display_name address o =
    let same = cut-only text o.pieces o.cut in
    let plain : Each is_no_comment (pieces text) = subst (Each is_no_comment) (sym same) o.no_comment in
    ap (λ b. cond b (outbound_fit text) None) o.fit ∙ (elim o.shape [
      | inl bare ↦ bare-read text display_name address plain (subst (λ ps. IsBare ps display_name address) (sym same) bare)
      | inr phrased ↦ phrased-read text display_name address (cut-texts text (pieces text) (cut-all text)) plain (subst (λ ps. IsPhrased ps display_name address) (sym same) phrased)
    ])

-- words and dots up to a bracket, and what stands after it
record IsOpening (seen : Bool) (at : ℕ) (all : List AddrPiece) (n : ℕ) (others : List AddrPiece) : Type 0 where
  phrase : List AddrPiece
  less : AddrPiece
  cut : all ≡ phrase ++ less ∷ others
  opens : less.kind ≡ K.Less
  words : Each is_phrase phrase
  begins : (seen ≡ true) ⊎ BeginsWithWord phrase
  long : at + length (texts phrase) ≡ n

opening-more : (seen seen' : Bool) (at : ℕ) (piece : AddrPiece) (more : List AddrPiece) (n : ℕ) (others : List AddrPiece) → is_phrase piece.kind ≡ true → ((phrase : List AddrPiece) → (seen' ≡ true) ⊎ BeginsWithWord phrase → (seen ≡ true) ⊎ BeginsWithWord (piece ∷ phrase)) → IsOpening seen' (at + length piece.text) more n others → IsOpening seen at (piece ∷ more) n others
opening-more seen seen' at piece more n others is begins o = record {
  phrase = piece ∷ o.phrase;
  less = o.less;
  cut = ap (λ ps. piece ∷ ps) o.cut;
  opens = o.opens;
  words = (is, o.words);
  begins = begins o.phrase o.begins;
  long = omega (arith, length-append piece.text (texts o.phrase), o.long);
}

opening-here : (at : ℕ) (text : List ℕ) (more : List AddrPiece) (n : ℕ) (others : List AddrPiece) → here at more ≡ here n others → IsOpening true at ((record { kind = K.Less; text = text }) ∷ more) n others
opening-here at text more n others is =
    let both = some_pair (at, more) (n, others) is in
    record { phrase = []; less = record { kind = K.Less; text = text }; cut = ap (λ ps. (record { kind = K.Less; text = text }) ∷ ps) both.1; opens = refl; words = tt; begins = inl refl; long = omega (arith, both.0) }

opening-is : (seen : Bool) (at : ℕ) (all : List AddrPiece) (n : ℕ) (others : List AddrPiece) → display_opening seen at all ≡ here n others → IsOpening seen at all n others
opening-is seen at [] n others is = absurd (cc)
opening-is seen at (piece ∷ more) n others is = by_kind piece.kind piece.text seen (λ s rest. opening-is s (at + length piece.text) more n others rest) is
  where
    by_kind : (kind : AddrPieceKind) (text : List ℕ) (s : Bool) → ((s' : Bool) → display_opening s' (at + length text) more ≡ here n others → IsOpening s' (at + length text) more n others) → display_opening s at ((record { kind = kind; text = text }) ∷ more) ≡ here n others → IsOpening s at ((record { kind = kind; text = text }) ∷ more) n others
    by_kind K.Blank text s rec found = opening-more s s at (record { kind = K.Blank; text = text }) more n others refl (λ phrase begins. begins) (rec s found)
    by_kind K.Atom text s rec found = opening-more s true at (record { kind = K.Atom; text = text }) more n others refl (λ phrase begins. inr tt) (rec true found)
    by_kind K.Quoted text s rec found = opening-more s true at (record { kind = K.Quoted; text = text }) more n others refl (λ phrase begins. inr tt) (rec true found)
    by_kind K.Dot text true rec found = opening-more true true at (record { kind = K.Dot; text = text }) more n others refl (λ phrase begins. inl refl) (rec true found)
    by_kind K.Dot text false rec found = absurd (cc)
    by_kind K.Less text true rec found = opening-here at text more n others found
    by_kind K.Less text false rec found = absurd (cc)
    by_kind _ text s rec found = absurd (cc)

-- what a display name adds to
record IsShown (display_name : List ℕ) (read : Option Addr) (shown : List ℕ) (address : Addr) : Type 0 where
  found : read ≡ Some address
  same : shown ≡ display_name

shown-is : (display_name : List ℕ) (read : Option Addr) (shown : List ℕ) (address : Addr) → with_display display_name read ≡ Some (shown, address) → IsShown display_name read shown address
shown-is display_name None shown address is = absurd (cc)
shown-is display_name (Some found) shown address is =
    let both = some_pair (display_name, found) (shown, address) is in
    record { found = ap Some both.1; same = sym both.0 }

no-less : (front back : List AddrPiece) (less : AddrPiece) → less.kind ≡ K.Less → Each is_no_less (front ++ less ∷ back) → ⊥
no-less front back less is closed = false≢true (sym (ap is_no_less is) ∙ (Each-back is_no_less front (less ∷ back) closed).0)

bare-shape : (all : List AddrPiece) (address : Addr) → Each is_no_less (tokens all) → IsAddrSpec (tokens all) address ⊎ IsNameAddr (tokens all) address → IsAddrSpec (tokens all) address
bare-shape all address closed (inl spec) = spec
bare-shape all address closed (inr n) = absurd (no-less n.display_name (n.inside ++ n.greater ∷ []) n.less n.opens (subst (Each is_no_less) n.cut closed))

-- what is read alone is an addr-spec
record IsAlone (all : List AddrPiece) (address : Addr) : Type 0 where
  plain : Each is_no_comment all
  spec : IsAddrSpec (tokens all) address

alone-is : (all : List AddrPiece) (address : Addr) → addr_spec_only empty_draft all ≡ Some address → IsAlone all address
alone-is all address found =
    let read = addr_spec_only-is all empty_draft address found in
    let outcome-is : draft_address (runs empty_draft (tokens all)) ≡ Some address = sym (addr_spec_only-tokens all empty_draft read.plain read.closed) ∙ found in
    record { plain = read.plain; spec = bare-shape all address (closed-tokens all read.closed) (shape-is (tokens all) address (tokens-each all) outcome-is) }

bare-is : (text shown : List ℕ) (address : Addr) → is_fit text ≡ true → with_display [] (addr_spec_only empty_draft (pieces text)) ≡ Some (shown, address) → IsOutbound text shown address
bare-is text shown address fit is =
    let s = shown-is [] (addr_spec_only empty_draft (pieces text)) shown address is in
    let alone = alone-is (pieces text) address s.found in
    record { fit = fit; pieces = pieces text; cut = cut-all text; no_comment = alone.plain; shape = inl (record { spec = alone.spec; shown = s.same }) }

phrase-plain : (kind : AddrPieceKind) → is_phrase kind ≡ true → is_no_comment kind ≡ true
phrase-plain K.Comment is = absurd (false≢true is)
phrase-plain _ is = refl

with-word : (phrase : List AddrPiece) → (false ≡ true) ⊎ BeginsWithWord phrase → BeginsWithWord phrase
with-word phrase (inl seen) = absurd (false≢true seen)
with-word phrase (inr word) = word

phrased-is : (text shown : List ℕ) (address : Addr) (n : ℕ) (others : List AddrPiece) → is_fit text ≡ true → display_opening false 0 (pieces text) ≡ here n others → with_display (unquoted_text (trimmed (take n text))) (addr_spec_only (empty_draft_at P.Inside) others) ≡ Some (shown, address) → IsOutbound text shown address
phrased-is text shown address n others fit found is =
    let all = pieces text in
    let o = opening-is false 0 all n others found in
    let s = shown-is (unquoted_text (trimmed (take n text))) (addr_spec_only (empty_draft_at P.Inside) others) shown address is in
    let read = addr_spec_only-is others (empty_draft_at P.Inside) address s.found in
    let outcome-is : draft_address (runs (empty_draft_at P.Inside) (tokens others)) ≡ Some address = sym (addr_spec_only-tokens others (empty_draft_at P.Inside) read.plain read.closed) ∙ s.found in
    let c = closed-is (tokens others) address (tokens-each others) outcome-is in
    let long : length (texts o.phrase) ≡ n = omega (arith, o.long) in
    let before : take n text ≡ texts o.phrase = ap (take n) (cut-texts text all (cut-all text) ∙ ap texts o.cut ∙ texts-append o.phrase (o.less ∷ others)) ∙ take_at (texts o.phrase) (texts (o.less ∷ others)) n long in
    let plain : Each is_no_comment (o.phrase ++ o.less ∷ others) = Each-append is_no_comment o.phrase (o.less ∷ others) (Each-weaker is_phrase is_no_comment phrase-plain o.phrase o.words) (ap is_no_comment o.opens, read.plain) in
    record {
      fit = fit;
      pieces = all;
      cut = cut-all text;
      no_comment = subst (Each is_no_comment) (sym o.cut) plain;
      shape = inr (record {
        phrase = o.phrase;
        less = o.less;
        others = others;
        cut = o.cut;
        opens = o.opens;
        words = o.words;
        begins = with-word o.phrase o.begins;
        inside = c.inside;
        greater = c.greater;
        rest = c.cut;
        closes = c.closes;
        spec = c.spec;
        shown = s.same ∙ ap (λ t. unquoted_text (trimmed t)) before;
      });
    }

fit-is : (text shown : List ℕ) (address : Addr) (found : Option (ℕ × List AddrPiece)) → is_fit text ≡ true → display_opening false 0 (pieces text) ≡ found → outbound_at text found ≡ Some (shown, address) → IsOutbound text shown address
fit-is text shown address None fit same is = bare-is text shown address fit is
fit-is text shown address (Some (n, others)) fit same is = phrased-is text shown address n others fit same is

-- what is read is named by the text
pub outbound-is : (text display_name : List ℕ) (address : Addr) → outbound text ≡ Some (display_name, address) → IsOutbound text display_name address
unfolding outbound
outbound-is text display_name address is = elim (fork (is_fit text) (outbound_fit text) None (Some (display_name, address)) is) [
  | inl p ↦ fit-is text display_name address (display_opening false 0 (pieces text)) p.0 refl p.1
  | inr p ↦ absurd (cc)
]

-- the clauses of a result that is what the text is read as
pub result-named : {E : Type 0} (text : List ℕ) (result : Result (Option (List ℕ × Addr)) E) → IfOk result (λ found. found ≡ outbound text) → IfOk result (λ found. IfSome found (λ r. IsOutbound text r.0 r.1))
result-named text (Err e) is = is
result-named text (Ok None) is = tt
result-named text (Ok (Some found)) is = outbound-is text found.0 found.1 (sym is)

pub result-only : {E : Type 0} (text : List ℕ) (result : Result (Option (List ℕ × Addr)) E) → IfOk result (λ found. found ≡ outbound text) → IfOk result (λ found. (display_name : List ℕ) (address : Addr) → IsOutbound text display_name address → found ≡ Some (display_name, address))
result-only text (Err e) is = is
result-only text (Ok found) is = λ display_name address o. is ∙ outbound-again text display_name address o

-- a text without display name is read as its address
pub bare-found : (text : List ℕ) (address : Addr) → IsBareAddress text address → bare text ≡ Some address
unfolding bare
bare-found text address b =
    let same = cut-only text b.pieces b.cut in
    ap (λ fit. cond fit (addr_spec_only empty_draft (pieces text)) None) b.fit
    ∙ spec-read (pieces text) address (subst (Each is_no_comment) (sym same) b.no_comment) (subst (λ all. IsAddrSpec (tokens all) address) (sym same) b.spec)

-- and what is read without display name is a text's address
pub bare-named : (text : List ℕ) (address : Addr) → bare text ≡ Some address → IsBareAddress text address
unfolding bare
bare-named text address is = elim (fork (is_fit text) (addr_spec_only empty_draft (pieces text)) None (Some address) is) [
  | inl p ↦ let alone = alone-is (pieces text) address p.1 in record { fit = p.0; pieces = pieces text; cut = cut-all text; no_comment = alone.plain; spec = alone.spec }
  | inr p ↦ absurd (cc)
]

-- it names that address, with an empty display name
pub bare-outbound : (text : List ℕ) (address : Addr) → IsBareAddress text address → IsOutbound text [] address
bare-outbound text address b = record { fit = b.fit; pieces = b.pieces; cut = b.cut; no_comment = b.no_comment; shape = inl (record { spec = b.spec; shown = refl }) }

-- the clauses of a result that is what the text is without display name
pub result-bare : {E : Type 0} (text : List ℕ) (result : Result (Option Addr) E) → IfOk result (λ found. found ≡ bare text) → IfOk result (λ found. IfSome found (λ address. IsBareAddress text address))
result-bare text (Err e) is = is
result-bare text (Ok None) is = tt
result-bare text (Ok (Some found)) is = bare-named text found (sym is)

pub result-bare_only : {E : Type 0} (text : List ℕ) (result : Result (Option Addr) E) → IfOk result (λ found. found ≡ bare text) → IfOk result (λ found. (address : Addr) → IsBareAddress text address → found ≡ Some address)
result-bare_only text (Err e) is = is
result-bare_only text (Ok found) is = λ address b. is ∙ bare-found text address b
