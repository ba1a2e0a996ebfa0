-- The token that comes next.
use Rattle.std.proofs.Common.{◌≡◌, ℕ, ◌+◌, ◌-◌, ◌<◌, ◌≤◌, inl, inr, List, [], ◌∷◌, Some, None, length, take, drop, ap, sym, ◌∙◌, subst, arith}
use Rattle.std.proofs.lemmas.Bool.{cases_lt}
use Rattle.std.proofs.lemmas.List.{length-drop, drop-drop, nil_from_length}
use Rattle.std.proofs.lemmas.List.Sums.{sum_by-append}
use Rattle.octets.proofs.Lists.{some_is}
use Rattle.sieve_lex.specs.declared.space.SpaceState.TheVariants.{Between}
use Rattle.sieve_lex.specs.declared.token.Token.{Token}
use Rattle.sieve_lex.specs.declared.front.Front.{Front}
use Rattle.sieve_lex.specs.Text.{line_ends}
use Rattle.sieve_lex.specs.Front.{IsFront}
use Rattle.sieve_lex.specs.Space.{IsTail}
use Rattle.sieve_lex.specs.Skip.{space_from}
use Rattle.sieve_lex.specs.declared.scanner.Piece.{Piece}
use Rattle.sieve_lex.specs.Spelling.{IsToken, IsNextToken, IsPlaced, SpellsFrom, placed}
use Rattle.sieve_lex.specs.Shape.{IsTokenShape}
use Rattle.sieve_lex.proofs.Prefixes.{take_sum}
use Rattle.sieve_lex.proofs.Gaps.{gap_is, gap_only, tail_is, tail_all, empty_none, shape_some}

-- the lines up to the end of a gap
pub lines_on : (text : List ℕ) (m n : ℕ) → line_ends (take (m + n) text) ≡ line_ends (take m text) + line_ends (take n (drop m text))
lines_on text m n = ap line_ends (take_sum m n text) ∙ sum_by-append _ (take m text) (take n (drop m text))

-- white space stands from one place on up to another, and these octets follow
pub record IsAhead (text : List ℕ) (at start : ℕ) (octets : List ℕ) : Type 0 where
  pub order : at ≤ start
  pub inside : start ≤ length text
  pub octets_are : octets ≡ drop start text
  pub skipped : space_from Between (drop at text) ≡ Some octets

pub ahead_is : (text ahead octets : List ℕ) (at w : ℕ) → at ≤ length text → ahead ≡ drop at text → (w ≤ length ahead) × (space_from Between ahead ≡ Some (drop w ahead)) → octets ≡ drop w ahead → IsAhead text at (at + w) octets
ahead_is text ahead octets at w inside ae we oe =
    let within : w ≤ length ahead = we.0 in
    record {
      order = omega arith;
      inside = omega (arith, ap length ae, length-drop at text);
      octets_are = oe ∙ ap (drop w) ae ∙ drop-drop w at text;
      skipped = ap (space_from Between) (sym ae) ∙ we.1 ∙ ap (λ x. Some x) (sym oe);
    }

-- the line after the gap
pub line_is : (text ahead gap : List ℕ) (at w line feeds : ℕ) → ahead ≡ drop at text → gap ≡ take w ahead → line ≡ 1 + line_ends (take at text) → feeds ≡ line_ends gap → line + feeds ≡ 1 + line_ends (take (at + w) text)
line_is text ahead gap at w line feeds ae ge le fe =
    let gaps : line_ends gap ≡ line_ends (take w (drop at text)) = ap line_ends (ge ∙ ap (take w) ae) in
    omega (arith, lines_on text at w)

-- the same up to a place after the gap
pub gap_line : (text ahead gap : List ℕ) (at start line feeds : ℕ) → at ≤ start → ahead ≡ drop at text → gap ≡ take (start - at) ahead → line ≡ 1 + line_ends (take at text) → feeds ≡ line_ends gap → line + feeds ≡ 1 + line_ends (take start text)
gap_line text ahead gap at start line feeds order ae ge le fe = line_is text ahead gap at (start - at) line feeds ae ge le fe ∙ ap (λ i. 1 + line_ends (take i text)) (omega arith)

-- the next token stands within the text
pub next_inside : (text : List ℕ) (at : ℕ) (t : Token) → IsNextToken text at t → t.start < length text
next_inside text at t h = elim (cases_lt t.start (length text)) [
  | inl l ↦ l
  | inr ge ↦ absurd (empty_none (drop t.start text) t.content _ _ (omega (arith, length-drop t.start text)) h.token.shape)
]

-- after the white space
pub next_start : (text : List ℕ) (at : ℕ) (t : Token) → IsNextToken text at t → space_from Between (drop at text) ≡ Some (drop t.start text)
next_start text at t h =
    let ahead : at ≤ t.start = h.ahead in
    let n : ℕ = t.end - t.start in
    let same : drop t.start text ≡ drop (t.start - at) (drop at text) = ap (λ i. drop i text) (omega arith) ∙ sym (drop-drop (t.start - at) at text) in
    let P : List ℕ → Type 0 = λ x. IsTokenShape t.content (take n x) (drop n x) in
    gap_only (drop at text) (t.start - at) t.content n _ h.gap (subst P same h.token.shape) ∙ ap (λ x. Some x) (sym same)

same_start : (text octets : List ℕ) (at start : ℕ) (t : Token) → IsAhead text at start octets → IsNextToken text at t → t.start ≡ start
same_start text octets at start t a h =
    let inside : t.start < length text = next_inside text at t h in
    let within : start ≤ length text = a.inside in
    let e : drop t.start text ≡ drop start text = some_is _ _ (sym (next_start text at t h) ∙ a.skipped) ∙ a.octets_are in
    omega (arith, ap length e, length-drop start text, length-drop t.start text)

-- and it is not empty
pub next_further : (text : List ℕ) (at : ℕ) (t : Token) → IsNextToken text at t → (at < t.end) × (t.end ≤ length text)
next_further text at t h =
    let some : 0 < t.end - t.start = shape_some (drop t.start text) t.content _ _ h.token.shape in
    let ahead : at ≤ t.start = h.ahead in
    let within : t.end - t.start ≤ length (drop t.start text) = h.token.within in
    let inside : t.start < length text = next_inside text at t h in
    (omega arith, omega (arith, length-drop t.start text))

pub next_found : (text octets : List ℕ) (at start line : ℕ) (f : Front) → IsAhead text at start octets → (length octets ≡ 0 → ⊥) → line ≡ 1 + line_ends (take start text) → IsFront octets f
    → IsNextToken text at (record { content = f.content; start = start; end = start + f.len; line = line })
next_found text octets at start line f a some le h =
    let order : at ≤ start = a.order in
    let same : octets ≡ drop (start - at) (drop at text) = a.octets_are ∙ ap (λ i. drop i text) (omega arith) ∙ sym (drop-drop (start - at) at text) in
    let T : List ℕ → Type 0 = λ x. IsToken x f.content f.len in
    let N : ℕ → Type 0 = λ i. IsToken (drop start text) f.content i in
    record {
      ahead = order;
      gap = gap_is (drop at text) (start - at) (a.skipped ∙ ap (λ x. Some x) same) (λ e. some (ap length same ∙ e));
      forward = omega arith;
      token = subst N (omega arith) (subst T a.octets_are h);
      line = le;
    }

pub next_only : (text octets : List ℕ) (at start line : ℕ) (f : Front) → IsAhead text at start octets → line ≡ 1 + line_ends (take start text) → ((g : Front) → IsFront octets g → g ≡ f)
    → (t : Token) → IsNextToken text at t → Some (record { content = f.content; start = start; end = start + f.len; line = line }) ≡ Some t
next_only text octets at start line f a le only t h =
    let same : t.start ≡ start = same_start text octets at start t a h in
    let octets_are : drop t.start text ≡ octets = ap (λ i. drop i text) same ∙ sym a.octets_are in
    let g : Front = record { content = t.content; len = t.end - t.start } in
    let T : List ℕ → Type 0 = λ x. IsFront x g in
    let fe : g ≡ f = only g (subst T octets_are h.token) in
    let len : t.end - t.start ≡ f.len = ap (λ x. x.len) fe in
    let forward : t.start ≤ t.end = h.forward in
    let end_is : start + f.len ≡ t.end = omega arith in
    let line_is : line ≡ t.line = le ∙ ap (λ i. 1 + line_ends (take i text)) (sym same) ∙ sym h.line in
    ap Some (λ i. record { content = (sym fe i).content; start = sym same i; end = end_is i; line = line_is i })

-- only white space is left
pub next_empty : (text octets : List ℕ) (at start : ℕ) → IsAhead text at start octets → length octets ≡ 0 → IsTail (drop at text)
next_empty text octets at start a e = tail_is (drop at text) octets a.skipped (nil_from_length octets e)

-- after white space up to the end of the text no token comes
pub tail_no_next : (text : List ℕ) (at : ℕ) (t : Token) → IsTail (drop at text) → IsNextToken text at t → ⊥
tail_no_next text at t g h =
    let inside : t.start < length text = next_inside text at t h in
    let e : drop t.start text ≡ [] = some_is _ _ (sym (next_start text at t h) ∙ tail_all (drop at text) g) in
    omega (arith, ap length e, length-drop t.start text)

-- where no token stands after the white space there are none
pub next_none : (text octets : List ℕ) (at start : ℕ) → IsAhead text at start octets → (length octets ≡ 0 → ⊥) → ((g : Front) → IsFront octets g → ⊥) → (ts : List Token) → SpellsFrom text at ts → ⊥
next_none text octets at start a some without [] g = some (ap length (some_is octets [] (sym a.skipped ∙ tail_all (drop at text) g)))
next_none text octets at start a some without (t ∷ ts) h =
    let same : drop t.start text ≡ octets = ap (λ i. drop i text) (same_start text octets at start t a h.0) ∙ sym a.octets_are in
    let g : Front = record { content = t.content; len = t.end - t.start } in
    let T : List ℕ → Type 0 = λ x. IsFront x g in
    without g (subst T same h.0.token)

-- where a comment is not closed there are none
pub open_none : (text ahead : List ℕ) (at : ℕ) → ahead ≡ drop at text → space_from Between ahead ≡ None → (ts : List Token) → SpellsFrom text at ts → ⊥
open_none text ahead at ae h [] g = let e : None ≡ Some [] = sym h ∙ ap (space_from Between) ae ∙ tail_all (drop at text) g in cc
open_none text ahead at ae h (t ∷ ts) g = let e : None ≡ Some (drop t.start text) = sym h ∙ ap (space_from Between) ae ∙ next_start text at t g.0 in cc

-- it stands at its place
pub next_placed : (text : List ℕ) (at : ℕ) (t : Token) → IsNextToken text at t → (at < t.end) × IsPlaced text t
next_placed text at t h =
    let further : (at < t.end) × (t.end ≤ length text) = next_further text at t h in
    (further.0, record { forward = h.forward; inside = further.1; line = h.line })

-- the line on which a token ends
pub line_after : (text rest spelled : List ℕ) (feeds : ℕ) (t : Token) → IsPlaced text t → rest ≡ drop t.start text → spelled ≡ take (t.end - t.start) rest → feeds ≡ line_ends spelled → t.line + feeds ≡ 1 + line_ends (take t.end text)
line_after text rest spelled feeds t h re se fe =
    let lines : line_ends spelled ≡ line_ends (take (t.end - t.start) (drop t.start text)) = ap line_ends (se ∙ ap (take (t.end - t.start)) re) in
    let before : t.line ≡ 1 + line_ends (take t.start text) = h.line in
    let forward : t.start ≤ t.end = h.forward in
    let e : line_ends (take (t.start + (t.end - t.start)) text) ≡ line_ends (take t.end text) = ap (λ i. line_ends (take i text)) (omega arith) in
    omega (arith, lines_on text t.start (t.end - t.start))

-- a token with its line
pub lined : (text : List ℕ) (at line : ℕ) (p : Piece) → line ≡ 1 + line_ends (take p.start text) → IsNextToken text at (placed text p)
    → IsNextToken text at (record { content = p.content; start = p.start; end = p.end; line = line })
lined text at line p le h = record { ahead = h.ahead; gap = h.gap; forward = h.forward; token = h.token; line = le }
