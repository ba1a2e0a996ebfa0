-- The body of a string of several lines, read from the left.
use Rattle.std.proofs.Common.{◌≡◌, ◌⊎◌, ℕ, ◌+◌, ◌<◌, ◌≤◌, suc, zero, Bool, true, false, not, ◌==◌, ◌||◌, Option, Some, None, List, [], ◌∷◌, ◌++◌, length, drop, get_or, refl, ap, sym, ◌∙◌, subst, inl, inr, arith, append_assoc, length-append}
use Rattle.std.specs.List.{list_all, flat_map}
use Rattle.std.proofs.lemmas.List.{drop_more}
use Rattle.std.proofs.lemmas.Bool.{eqb-true, eqb-false, not-true}
use Rattle.octets.specs.Ascii.{is_blank}
use Rattle.octets.proofs.Lists.{some_pair}
use Rattle.sieve_lex.specs.declared.multiline.BodyState.{BodyState}
use Rattle.sieve_lex.specs.declared.multiline.BodyState.TheVariants.{Opening, Comment, OpeningReturn, Start, Dot, DotReturn, Inside, Return, Done, Broken}
use Rattle.sieve_lex.specs.Inside.{onto}
use Rattle.sieve_lex.specs.Body.{body_state_after, emitted, body_from}
use Rattle.sieve_lex.specs.Text.{is_line_feed}
use Rattle.sieve_lex.specs.Space.{IsInLine, IsLastComment}
use Rattle.sieve_lex.specs.Lines.{BodyLine, body_line_end, is_inside, IsBodyLine, AreBodyLines, unstuffed, line_spelling, line_value, IsFinal}
use Rattle.sieve_lex.proofs.Prefixes.{both}
use Rattle.sieve_lex.proofs.Spaces.{tests, in_line_more}

pub onto_nil : (o : Option (List ℕ × List ℕ)) → onto [] o ≡ o
onto_nil None = refl
onto_nil (Some r) = refl

pub onto_onto : (a b : List ℕ) (o : Option (List ℕ × List ℕ)) → onto a (onto b o) ≡ onto (a ++ b) o
onto_onto a b None = refl
onto_onto a b (Some r) = ap (λ x. Some (x, r.1)) (sym (append_assoc a b r.0))

pub body_step : (stage : BodyState) (b : ℕ) (s : List ℕ) → (stage ≡ Done → ⊥) → body_from stage (b ∷ s) ≡ onto (emitted stage b) (body_from (body_state_after stage b) s)
body_step Opening b s h = refl
body_step Comment b s h = refl
body_step OpeningReturn b s h = refl
body_step Start b s h = refl
body_step Dot b s h = refl
body_step DotReturn b s h = refl
body_step Inside b s h = refl
body_step Return b s h = refl
body_step Done b s h = absurd (h refl)
body_step Broken b s h = refl

-- a step of the reader
pub body_next : (octets value next_value : List ℕ) (i : ℕ) (stage next : BodyState) (r : Option (List ℕ × List ℕ)) → i < length octets → (stage ≡ Done → ⊥) → next_value ≡ value ++ emitted stage (get_or octets i 0)
    → next ≡ body_state_after stage (get_or octets i 0) → onto value (body_from stage (drop i octets)) ≡ r → onto next_value (body_from next (drop (i + 1) octets)) ≡ r
body_next octets value next_value i stage next r within going ve ne h =
    let b : ℕ = get_or octets i 0 in
    let here : body_from stage (drop i octets) ≡ onto (emitted stage b) (body_from (body_state_after stage b) (drop (i + 1) octets)) = ap (body_from stage) (drop_more octets i 0 within) ∙ body_step stage b (drop (i + 1) octets) going in
    (λ k. onto (ve k) (body_from (ne k) (drop (i + 1) octets))) ∙ sym (onto_onto value (emitted stage b) (body_from (body_state_after stage b) (drop (i + 1) octets))) ∙ ap (onto value) (sym here) ∙ h

-- steps by what the octet is
at_stage : (p q : BodyState) (e f s : List ℕ) → p ≡ q → e ≡ f → onto e (body_from p s) ≡ onto f (body_from q s)
at_stage p q e f s pe ee = λ i. onto (ee i) (body_from (pe i) s)

none_or : (a b : Bool) → (a || b) ≡ false → (a ≡ false) × (b ≡ false)
none_or true b h = absurd (cc)
none_or false b h = (refl, h)

-- neither CR nor LF
inside_is : (b : ℕ) → is_inside b ≡ true → ((b == 13) ≡ false) × ((b == 10) ≡ false)
inside_is b h = none_or (b == 13) (b == 10) (not-true _ h)

in_inside : (b : ℕ) (s : List ℕ) → is_inside b ≡ true → body_from Inside (b ∷ s) ≡ onto (b ∷ []) (body_from Inside s)
in_inside b s h = let p : ((b == 13) ≡ false) × ((b == 10) ≡ false) = inside_is b h in at_stage (body_state_after Inside b) Inside (emitted Inside b) (b ∷ []) s (rw (p.0, p.1) refl) (rw (p.0, p.1) refl)

in_start : (b : ℕ) (s : List ℕ) → is_inside b ≡ true → (b == 46) ≡ false → body_from Start (b ∷ s) ≡ onto (b ∷ []) (body_from Inside s)
in_start b s h d = let p : ((b == 13) ≡ false) × ((b == 10) ≡ false) = inside_is b h in at_stage (body_state_after Start b) Inside (emitted Start b) (b ∷ []) s (rw (d, p.0, p.1) refl) (rw (d, p.0, p.1) refl)

in_dot : (b : ℕ) (s : List ℕ) → is_inside b ≡ true → (b == 46) ≡ false → body_from Dot (b ∷ s) ≡ onto (46 ∷ (b ∷ [])) (body_from Inside s)
in_dot b s h d = let p : ((b == 13) ≡ false) × ((b == 10) ≡ false) = inside_is b h in at_stage (body_state_after Dot b) Inside (emitted Dot b) (46 ∷ (b ∷ [])) s (rw (p.0, p.1) refl) (rw (p.0, p.1, d) refl)

-- a line is read up to its end
inside_again : (content : List ℕ) (bare : Bool) (rest : List ℕ) → list_all is_inside content ≡ true → body_from Inside (content ++ (body_line_end bare ++ rest)) ≡ onto (content ++ 13 ∷ (10 ∷ [])) (body_from Start rest)
inside_again [] true rest h = refl
inside_again [] false rest h = onto_nil (onto (13 ∷ (10 ∷ [])) (body_from Start rest))
inside_again (b ∷ s) bare rest h =
    let parts : (is_inside b ≡ true) × (list_all is_inside s ≡ true) = both _ _ h in
    in_inside b (s ++ (body_line_end bare ++ rest)) parts.0 ∙ ap (onto (b ∷ [])) (inside_again s bare rest parts.1) ∙ onto_onto (b ∷ []) (s ++ 13 ∷ (10 ∷ [])) (body_from Start rest)

unstuffed_other : (b : ℕ) (s : List ℕ) → (b == 46) ≡ false → unstuffed (b ∷ s) ≡ b ∷ s
unstuffed_other b s e = rw e refl

dot_other : (c : ℕ) (s : List ℕ) → (c == 46) ≡ false → unstuffed (46 ∷ (c ∷ s)) ≡ 46 ∷ (c ∷ s)
dot_other c s e = rw e refl

dotted_line : (c : ℕ) (s : List ℕ) (bare : Bool) (rest : List ℕ) → is_inside c ≡ true → list_all is_inside s ≡ true → body_from Dot (c ∷ (s ++ (body_line_end bare ++ rest))) ≡ onto (unstuffed (46 ∷ (c ∷ s)) ++ 13 ∷ (10 ∷ [])) (body_from Start rest)
dotted_line c s bare rest h all = elim (tests (c == 46)) [
  | inl e ↦ (let same : c ≡ 46 = eqb-true c 46 e in
      let P : ℕ → Type 0 = λ x. body_from Dot (x ∷ (s ++ (body_line_end bare ++ rest))) ≡ onto (unstuffed (46 ∷ (x ∷ s)) ++ 13 ∷ (10 ∷ [])) (body_from Start rest) in
      subst P (sym same) (ap (onto (46 ∷ [])) (inside_again s bare rest all) ∙ onto_onto (46 ∷ []) (s ++ 13 ∷ (10 ∷ [])) (body_from Start rest)))
  | inr e ↦ in_dot c (s ++ (body_line_end bare ++ rest)) h e ∙ ap (onto (46 ∷ (c ∷ []))) (inside_again s bare rest all) ∙ onto_onto (46 ∷ (c ∷ [])) (s ++ 13 ∷ (10 ∷ [])) (body_from Start rest)
      ∙ ap (λ x. onto (x ++ 13 ∷ (10 ∷ [])) (body_from Start rest)) (sym (dot_other c s e))
]

dotted : (b : ℕ) (s : List ℕ) (bare : Bool) (rest : List ℕ) → b ≡ 46 → list_all is_inside s ≡ true → (s ≡ [] → ⊥) → body_from Start (b ∷ (s ++ (body_line_end bare ++ rest))) ≡ onto (unstuffed (b ∷ s) ++ 13 ∷ (10 ∷ [])) (body_from Start rest)
dotted b [] bare rest e all some = absurd (some refl)
dotted b (c ∷ s) bare rest e all some =
    let parts : (is_inside c ≡ true) × (list_all is_inside s ≡ true) = both _ _ all in
    let P : ℕ → Type 0 = λ x. body_from Start (x ∷ (c ∷ (s ++ (body_line_end bare ++ rest)))) ≡ onto (unstuffed (x ∷ (c ∷ s)) ++ 13 ∷ (10 ∷ [])) (body_from Start rest) in
    subst P (sym e) (onto_nil (body_from Dot (c ∷ (s ++ (body_line_end bare ++ rest)))) ∙ dotted_line c s bare rest parts.0 parts.1)

start_again : (content : List ℕ) (bare : Bool) (rest : List ℕ) → list_all is_inside content ≡ true → (content ≡ 46 ∷ [] → ⊥) → body_from Start (content ++ (body_line_end bare ++ rest)) ≡ onto (unstuffed content ++ 13 ∷ (10 ∷ [])) (body_from Start rest)
start_again [] true rest h d = refl
start_again [] false rest h d = onto_nil (onto (13 ∷ (10 ∷ [])) (body_from Start rest))
start_again (b ∷ s) bare rest h d =
    let parts : (is_inside b ≡ true) × (list_all is_inside s ≡ true) = both _ _ h in
    elim (tests (b == 46)) [
      | inl e ↦ dotted b s bare rest (eqb-true b 46 e) parts.1 (λ alone. d (λ i. eqb-true b 46 e i ∷ alone i))
      | inr e ↦ in_start b (s ++ (body_line_end bare ++ rest)) parts.0 e ∙ ap (onto (b ∷ [])) (inside_again s bare rest parts.1) ∙ onto_onto (b ∷ []) (s ++ 13 ∷ (10 ∷ [])) (body_from Start rest)
          ∙ ap (λ x. onto (x ++ 13 ∷ (10 ∷ [])) (body_from Start rest)) (sym (unstuffed_other b s e))
    ]

final_line : (bare : Bool) (rest : List ℕ) → body_from Dot (body_line_end bare ++ rest) ≡ Some ([], rest)
final_line true rest = refl
final_line false rest = refl

-- the last line ends it
final_again : (final rest : List ℕ) → IsFinal final rest → body_from Dot (final ++ rest) ≡ Some ([], rest)
final_again final rest (inl f) = ap (λ x. body_from Dot (x ++ rest)) f.1 ∙ final_line f.0 rest
final_again final rest (inr f) = (λ i. body_from Dot (f.0 i ++ f.1 i)) ∙ ap (λ x. Some ([], x)) (sym f.1)

-- the lines are read so, whatever follows
pub lines_again : (lines : List BodyLine) (final rest : List ℕ) → AreBodyLines lines → IsFinal final rest → body_from Start (flat_map line_spelling lines ++ (46 ∷ (final ++ rest))) ≡ Some (flat_map line_value lines, rest)
lines_again [] final rest h f = ap (onto []) (final_again final rest f)
lines_again (l ∷ more) final rest h f =
    let e : ((l.content ++ body_line_end l.bare) ++ flat_map line_spelling more) ++ (46 ∷ (final ++ rest)) ≡ l.content ++ (body_line_end l.bare ++ (flat_map line_spelling more ++ (46 ∷ (final ++ rest)))) = simp append_assoc in
    ap (body_from Start) e ∙ start_again l.content l.bare (flat_map line_spelling more ++ (46 ∷ (final ++ rest))) h.0.inside h.0.goes_on ∙ ap (onto (line_value l)) (lines_again more final rest h.1 f)

-- a `#` comment after `text:` is read up to the line's end
comment_again : (body : List ℕ) (bare : Bool) (rest : List ℕ) → IsInLine body → body_from Comment (body ++ (body_line_end bare ++ rest)) ≡ body_from Start rest
comment_again [] true rest h = onto_nil (body_from Start rest)
comment_again [] false rest h = onto_nil (onto [] (body_from Start rest)) ∙ onto_nil (body_from Start rest)
comment_again (b ∷ body) bare rest h =
    let parts : (not (is_line_feed b) ≡ true) × (list_all (λ c. not (is_line_feed c)) body ≡ true) = both _ _ h in
    let other : (b == 10) ≡ false = not-true _ parts.0 in
    at_stage (body_state_after Comment b) Comment [] [] (body ++ (body_line_end bare ++ rest)) (rw other refl) refl ∙ onto_nil (body_from Comment (body ++ (body_line_end bare ++ rest))) ∙ comment_again body bare rest parts.1

line_again : (comment : List ℕ) (bare : Bool) (rest : List ℕ) → IsLastComment comment → body_from Opening (comment ++ (body_line_end bare ++ rest)) ≡ body_from Start rest
line_again [] true rest h = onto_nil (body_from Start rest)
line_again [] false rest h = onto_nil (onto [] (body_from Start rest)) ∙ onto_nil (body_from Start rest)
line_again (b ∷ body) bare rest h =
    let P : ℕ → Type 0 = λ x. body_from Opening (x ∷ (body ++ (body_line_end bare ++ rest))) ≡ body_from Start rest in
    subst P (sym h.0) (onto_nil (body_from Comment (body ++ (body_line_end bare ++ rest))) ∙ comment_again body bare rest h.1)

pub opening_again : (blanks comment : List ℕ) (bare : Bool) (rest : List ℕ) → list_all is_blank blanks ≡ true → IsLastComment comment → body_from Opening (blanks ++ (comment ++ (body_line_end bare ++ rest))) ≡ body_from Start rest
opening_again [] comment bare rest h c = line_again comment bare rest c
opening_again (b ∷ blanks) comment bare rest h c =
    let parts : (is_blank b ≡ true) × (list_all is_blank blanks ≡ true) = both _ _ h in
    at_stage (body_state_after Opening b) Opening [] [] (blanks ++ (comment ++ (body_line_end bare ++ rest))) (rw parts.0 refl) refl ∙ onto_nil (body_from Opening (blanks ++ (comment ++ (body_line_end bare ++ rest)))) ∙ opening_again blanks comment bare rest parts.1 c

-- a line, and what follows it
record IsLineRead (s value rest : List ℕ) : Type 0 where
  content : List ℕ
  bare : Bool
  after : List ℕ
  more : List ℕ
  inside : list_all is_inside content ≡ true
  spelled : s ≡ content ++ (body_line_end bare ++ after)
  read : body_from Start after ≡ Some (more, rest)
  valued : value ≡ content ++ (13 ∷ (10 ∷ more))

onto_some : (front value rest : List ℕ) (o : Option (List ℕ × List ℕ)) → onto front o ≡ Some (value, rest) → (v : List ℕ) × ((o ≡ Some (v, rest)) × (value ≡ front ++ v))
onto_some front value rest None h = absurd (cc)
onto_some front value rest (Some r) h =
    let parts : (front ++ r.0 ≡ value) × (r.1 ≡ rest) = some_pair (front ++ r.0, r.1) (value, rest) h in
    (r.0, (ap (λ x. Some (r.0, x)) parts.1, sym parts.0))

-- after a CR
returned : (s value rest : List ℕ) → body_from Return s ≡ Some (value, rest) → (after : List ℕ) × ((more : List ℕ) × ((s ≡ 10 ∷ after) × (body_from Start after ≡ Some (more, rest)) × (value ≡ 13 ∷ (10 ∷ more))))
returned [] value rest h = absurd (cc)
returned (b ∷ s) value rest h = elim (tests (b == 10)) [
  | inl e ↦ (let o : onto (13 ∷ (10 ∷ [])) (body_from Start s) ≡ Some (value, rest) = sym (at_stage (body_state_after Return b) Start (emitted Return b) (13 ∷ (10 ∷ [])) s (rw e refl) (rw e refl)) ∙ h in
      let v : (w : List ℕ) × ((body_from Start s ≡ Some (w, rest)) × (value ≡ (13 ∷ (10 ∷ [])) ++ w)) = onto_some (13 ∷ (10 ∷ [])) value rest (body_from Start s) o in
      (s, (v.0, (ap (λ x. x ∷ s) (eqb-true b 10 e), v.1.0, v.1.1))))
  | inr e ↦ (let o : onto [] (body_from Broken s) ≡ Some (value, rest) = sym (at_stage (body_state_after Return b) Broken (emitted Return b) [] s (rw e refl) (rw e refl)) ∙ h in absurd (cc))
]

line_here : (s value rest : List ℕ) (bare : Bool) (after more : List ℕ) → s ≡ body_line_end bare ++ after → body_from Start after ≡ Some (more, rest) → value ≡ 13 ∷ (10 ∷ more) → IsLineRead s value rest
line_here s value rest bare after more e r v = record { content = []; bare = bare; after = after; more = more; inside = refl; spelled = e; read = r; valued = v }

-- the octets of a line's end
ends_line : (b : ℕ) (s value rest : List ℕ) → b ≡ 13 → onto [] (body_from Return s) ≡ Some (value, rest) → IsLineRead (b ∷ s) value rest
ends_line b s value rest e h =
    let r : (after : List ℕ) × ((more : List ℕ) × ((s ≡ 10 ∷ after) × (body_from Start after ≡ Some (more, rest)) × (value ≡ 13 ∷ (10 ∷ more)))) = returned s value rest (sym (onto_nil (body_from Return s)) ∙ h) in
    line_here (b ∷ s) value rest false r.0 r.1.0 (λ i. e i ∷ r.1.1.0 i) r.1.1.1 r.1.1.2

feeds_line : (b : ℕ) (s value rest : List ℕ) → b ≡ 10 → onto (13 ∷ (10 ∷ [])) (body_from Start s) ≡ Some (value, rest) → IsLineRead (b ∷ s) value rest
feeds_line b s value rest e h =
    let v : (w : List ℕ) × ((body_from Start s ≡ Some (w, rest)) × (value ≡ (13 ∷ (10 ∷ [])) ++ w)) = onto_some (13 ∷ (10 ∷ [])) value rest (body_from Start s) h in
    line_here (b ∷ s) value rest true s v.0 (ap (λ x. x ∷ s) e) v.1.0 v.1.1

insides : (b : ℕ) → (b == 13) ≡ false → (b == 10) ≡ false → is_inside b ≡ true
insides b p q = rw (p, q) refl

goes_on : (b : ℕ) (s value rest v : List ℕ) → is_inside b ≡ true → IsLineRead s v rest → value ≡ b ∷ v → IsLineRead (b ∷ s) value rest
goes_on b s value rest v h l e = record {
  content = b ∷ l.content;
  bare = l.bare;
  after = l.after;
  more = l.more;
  inside = rw (h, l.inside) refl;
  spelled = ap (λ x. b ∷ x) l.spelled;
  read = l.read;
  valued = e ∙ ap (λ x. b ∷ x) l.valued;
}

-- what is read inside a line is spelled so
line_is : (s value rest : List ℕ) → body_from Inside s ≡ Some (value, rest) → IsLineRead s value rest
line_is [] value rest h = absurd (cc)
line_is (b ∷ s) value rest h = elim (tests (b == 13)) [
  | inl e ↦ ends_line b s value rest (eqb-true b 13 e) (sym (at_stage (body_state_after Inside b) Return (emitted Inside b) [] s (rw e refl) (rw e refl)) ∙ h)
  | inr p ↦ elim (tests (b == 10)) [
    | inl e ↦ feeds_line b s value rest (eqb-true b 10 e) (sym (at_stage (body_state_after Inside b) Start (emitted Inside b) (13 ∷ (10 ∷ [])) s (rw (p, e) refl) (rw (p, e) refl)) ∙ h)
    | inr q ↦ (let v : (w : List ℕ) × ((body_from Inside s ≡ Some (w, rest)) × (value ≡ (b ∷ []) ++ w)) = onto_some (b ∷ []) value rest (body_from Inside s) (sym (in_inside b s (insides b p q)) ∙ h) in
        goes_on b s value rest v.0 (insides b p q) (line_is s v.0 rest v.1.0) v.1.1)
  ]
]

-- a line of the body, and what follows it
record IsStuffed (s value rest : List ℕ) : Type 0 where
  line : BodyLine
  after : List ℕ
  more : List ℕ
  good : IsBodyLine line
  spelled : s ≡ line_spelling line ++ after
  read : body_from Start after ≡ Some (more, rest)
  valued : value ≡ line_value line ++ more

-- the last line
record IsLast (s value rest : List ℕ) : Type 0 where
  final : List ℕ
  ends : IsFinal final rest
  spelled : s ≡ 46 ∷ (final ++ rest)
  valued : value ≡ []

none_dot : ◌≡◌ {A = List ℕ} [] (46 ∷ []) → ⊥
none_dot e = cc

empty_line : (s value rest : List ℕ) (bare : Bool) (after more : List ℕ) → s ≡ body_line_end bare ++ after → body_from Start after ≡ Some (more, rest) → value ≡ 13 ∷ (10 ∷ more) → IsStuffed s value rest
empty_line s value rest bare after more e r v = record { line = record { content = []; bare = bare }; after = after; more = more; good = record { inside = refl; goes_on = none_dot }; spelled = e; read = r; valued = v }

-- a line that begins with no dot
plain_line : (b : ℕ) (s value rest v : List ℕ) → (b == 46) ≡ false → is_inside b ≡ true → IsLineRead s v rest → value ≡ b ∷ v → IsStuffed (b ∷ s) value rest
plain_line b s value rest v d h l e = record {
  line = record { content = b ∷ l.content; bare = l.bare };
  after = l.after;
  more = l.more;
  good = record { inside = rw (h, l.inside) refl; goes_on = λ a. (let same : b ≡ 46 = ap (λ x. get_or x 0 0) a in eqb-false b 46 d same) };
  spelled = ap (λ x. b ∷ x) (l.spelled ∙ sym (append_assoc l.content (body_line_end l.bare) l.after));
  read = l.read;
  valued = e ∙ ap (λ x. b ∷ x) l.valued ∙ ap (λ x. b ∷ x) (sym (append_assoc l.content (13 ∷ (10 ∷ [])) l.more)) ∙ ap (λ x. (x ++ 13 ∷ (10 ∷ [])) ++ l.more) (sym (unstuffed_other b l.content d));
}

-- a line that begins with a dot
dot_line : (b c : ℕ) (s value rest v front : List ℕ) → b ≡ 46 → is_inside c ≡ true → IsLineRead s v rest → value ≡ front ++ v → ((t : List ℕ) → unstuffed (46 ∷ (c ∷ t)) ≡ front ++ t) → IsStuffed (b ∷ (c ∷ s)) value rest
dot_line b c s value rest v front be h l e un = record {
  line = record { content = 46 ∷ (c ∷ l.content); bare = l.bare };
  after = l.after;
  more = l.more;
  good = record { inside = rw (h, l.inside) refl; goes_on = λ a. (let z : suc (suc (length l.content)) ≡ suc zero = ap length a in omega arith) };
  spelled = (λ i. be i ∷ (c ∷ (l.spelled ∙ sym (append_assoc l.content (body_line_end l.bare) l.after)) i));
  read = l.read;
  valued = e ∙ ap (λ x. front ++ x) (l.valued ∙ sym (append_assoc l.content (13 ∷ (10 ∷ [])) l.more)) ∙ sym (append_assoc front (l.content ++ 13 ∷ (10 ∷ [])) l.more)
      ∙ ap (λ x. x ++ l.more) (sym (append_assoc front l.content (13 ∷ (10 ∷ [])))) ∙ ap (λ x. (x ++ 13 ∷ (10 ∷ [])) ++ l.more) (sym (un l.content));
}

last_line : (b : ℕ) (s value rest : List ℕ) (bare : Bool) (after : List ℕ) → b ≡ 46 → s ≡ body_line_end bare ++ after → ◌≡◌ {A = Option (List ℕ × List ℕ)} (Some ([], after)) (Some (value, rest)) → IsLast (b ∷ s) value rest
last_line b s value rest bare after e se h =
    let parts : ([] ≡ value) × (after ≡ rest) = some_pair ([], after) (value, rest) h in
    record { final = body_line_end bare; ends = inl (bare, refl); spelled = (λ i. e i ∷ (se ∙ ap (λ x. body_line_end bare ++ x) parts.1) i); valued = sym parts.0 }

dot_return : (b c : ℕ) (s value rest : List ℕ) → b ≡ 46 → c ≡ 13 → body_from DotReturn s ≡ Some (value, rest) → IsLast (b ∷ (c ∷ s)) value rest
dot_return b c [] value rest e ce h = absurd (cc)
dot_return b c (d ∷ s) value rest e ce h = elim (tests (d == 10)) [
  | inl t ↦ last_line b (c ∷ (d ∷ s)) value rest false s e (λ i. ce i ∷ (eqb-true d 10 t i ∷ s)) (sym (at_stage (body_state_after DotReturn d) Done [] [] s (rw t refl) refl) ∙ h)
  | inr t ↦ (let o : onto [] (body_from Broken s) ≡ Some (value, rest) = sym (at_stage (body_state_after DotReturn d) Broken [] [] s (rw t refl) refl) ∙ h in absurd (cc))
]

last_alone : (b : ℕ) (value rest : List ℕ) → b ≡ 46 → ◌≡◌ {A = Option (List ℕ × List ℕ)} (Some ([], [])) (Some (value, rest)) → IsLast (b ∷ []) value rest
last_alone b value rest e h =
    let parts : ([] ≡ value) × ([] ≡ rest) = some_pair ([], []) (value, rest) h in
    record { final = []; ends = inr (refl, sym parts.1); spelled = (λ i. e i ∷ parts.1 i); valued = sym parts.0 }

stuffed_dot : (c : ℕ) (t : List ℕ) → (c == 46) ≡ true → unstuffed (46 ∷ (c ∷ t)) ≡ 46 ∷ t
stuffed_dot c t e = rw (e) (ap (λ x. x ∷ t) (eqb-true c 46 e))

-- after a dot at the start of a line
dot_is : (b : ℕ) (s value rest : List ℕ) → b ≡ 46 → body_from Dot s ≡ Some (value, rest) → IsStuffed (b ∷ s) value rest ⊎ IsLast (b ∷ s) value rest
dot_is b [] value rest e h = inr (last_alone b value rest e h)
dot_is b (c ∷ s) value rest e h = elim (tests (c == 13)) [
  | inl t ↦ inr (dot_return b c s value rest e (eqb-true c 13 t) (sym (onto_nil (body_from DotReturn s)) ∙ sym (at_stage (body_state_after Dot c) DotReturn (emitted Dot c) [] s (rw t refl) (rw t refl)) ∙ h))
  | inr p ↦ elim (tests (c == 10)) [
    | inl t ↦ inr (last_line b (c ∷ s) value rest true s e (ap (λ x. x ∷ s) (eqb-true c 10 t)) (sym (at_stage (body_state_after Dot c) Done (emitted Dot c) [] s (rw (p, t) refl) (rw (p, t) refl)) ∙ h))
    | inr q ↦ elim (tests (c == 46)) [
      | inl t ↦ (let v : (w : List ℕ) × ((body_from Inside s ≡ Some (w, rest)) × (value ≡ (46 ∷ []) ++ w)) = onto_some (46 ∷ []) value rest (body_from Inside s) (sym (at_stage (body_state_after Dot c) Inside (emitted Dot c) (46 ∷ []) s (rw (p, q) refl) (rw (p, q, t) refl)) ∙ h) in
          inl (dot_line b c s value rest v.0 (46 ∷ []) e (insides c p q) (line_is s v.0 rest v.1.0) v.1.1 (λ x. stuffed_dot c x t)))
      | inr t ↦ (let v : (w : List ℕ) × ((body_from Inside s ≡ Some (w, rest)) × (value ≡ (46 ∷ (c ∷ [])) ++ w)) = onto_some (46 ∷ (c ∷ [])) value rest (body_from Inside s) (sym (in_dot c s (insides c p q) t) ∙ h) in
          inl (dot_line b c s value rest v.0 (46 ∷ (c ∷ [])) e (insides c p q) (line_is s v.0 rest v.1.0) v.1.1 (λ x. dot_other c x t)))
    ]
  ]
]

-- at the start of a line
start_is : (s value rest : List ℕ) → body_from Start s ≡ Some (value, rest) → IsStuffed s value rest ⊎ IsLast s value rest
start_is [] value rest h = absurd (cc)
start_is (b ∷ s) value rest h = elim (tests (b == 46)) [
  | inl e ↦ dot_is b s value rest (eqb-true b 46 e) (sym (onto_nil (body_from Dot s)) ∙ sym (at_stage (body_state_after Start b) Dot (emitted Start b) [] s (rw e refl) (rw e refl)) ∙ h)
  | inr d ↦ elim (tests (b == 13)) [
    | inl e ↦ (let r : (after : List ℕ) × ((more : List ℕ) × ((s ≡ 10 ∷ after) × (body_from Start after ≡ Some (more, rest)) × (value ≡ 13 ∷ (10 ∷ more)))) =
        returned s value rest (sym (onto_nil (body_from Return s)) ∙ sym (at_stage (body_state_after Start b) Return (emitted Start b) [] s (rw (d, e) refl) (rw (d, e) refl)) ∙ h) in
        inl (empty_line (b ∷ s) value rest false r.0 r.1.0 (λ i. eqb-true b 13 e i ∷ r.1.1.0 i) r.1.1.1 r.1.1.2))
    | inr p ↦ elim (tests (b == 10)) [
      | inl e ↦ (let v : (w : List ℕ) × ((body_from Start s ≡ Some (w, rest)) × (value ≡ (13 ∷ (10 ∷ [])) ++ w)) =
          onto_some (13 ∷ (10 ∷ [])) value rest (body_from Start s) (sym (at_stage (body_state_after Start b) Start (emitted Start b) (13 ∷ (10 ∷ [])) s (rw (d, p, e) refl) (rw (d, p, e) refl)) ∙ h) in
          inl (empty_line (b ∷ s) value rest true s v.0 (ap (λ x. x ∷ s) (eqb-true b 10 e)) v.1.0 v.1.1))
      | inr q ↦ (let v : (w : List ℕ) × ((body_from Inside s ≡ Some (w, rest)) × (value ≡ (b ∷ []) ++ w)) = onto_some (b ∷ []) value rest (body_from Inside s) (sym (in_start b s (insides b p q) d) ∙ h) in
          inl (plain_line b s value rest v.0 d (insides b p q) (line_is s v.0 rest v.1.0) v.1.1))
    ]
  ]
]

-- lines, the last one, and what follows
pub record IsBody (s value rest : List ℕ) : Type 0 where
  pub lines : List BodyLine
  pub final : List ℕ
  pub each : AreBodyLines lines
  pub ends : IsFinal final rest
  pub spelled : s ≡ flat_map line_spelling lines ++ (46 ∷ (final ++ rest))
  pub valued : value ≡ flat_map line_value lines

line_some : (bare : Bool) → 0 < length (body_line_end bare)
line_some true = omega arith
line_some false = omega arith

-- what is read so is spelled so
pub body_is : (n : ℕ) (s value rest : List ℕ) → length s ≤ n → body_from Start s ≡ Some (value, rest) → IsBody s value rest
body_is n [] value rest w h = absurd (cc)
body_is zero (b ∷ s) value rest w h = absurd (omega arith)
body_is (suc n) (b ∷ s) value rest w h = elim (start_is (b ∷ s) value rest h) [
  | inr l ↦ record { lines = []; final = l.final; each = tt; ends = l.ends; spelled = l.spelled; valued = l.valued }
  | inl l ↦ (let len : length (b ∷ s) ≡ length ((l.line.content ++ body_line_end l.line.bare) ++ l.after) = ap length l.spelled in
      let m : IsBody l.after l.more rest = body_is n l.after l.more rest
      (omega (arith, length-append (l.line.content ++ body_line_end l.line.bare) l.after, length-append l.line.content (body_line_end l.line.bare), line_some l.line.bare)) l.read in
      record {
        lines = l.line ∷ m.lines;
        final = m.final;
        each = (l.good, m.each);
        ends = m.ends;
        spelled = l.spelled ∙ ap (λ x. line_spelling l.line ++ x) m.spelled ∙ sym (append_assoc (line_spelling l.line) (flat_map line_spelling m.lines) (46 ∷ (m.final ++ rest)));
        valued = l.valued ∙ ap (λ x. line_value l.line ++ x) m.valued;
      })
]

-- blanks, perhaps a comment, a line end, and what follows
pub record IsOpening (s value rest : List ℕ) : Type 0 where
  pub blanks : List ℕ
  pub comment : List ℕ
  pub bare : Bool
  pub after : List ℕ
  pub blank : list_all is_blank blanks ≡ true
  pub commented : IsLastComment comment
  pub spelled : s ≡ blanks ++ (comment ++ (body_line_end bare ++ after))
  pub read : body_from Start after ≡ Some (value, rest)

blank_more : (b : ℕ) (s : List ℕ) → is_blank b ≡ true → list_all is_blank s ≡ true → list_all is_blank (b ∷ s) ≡ true
blank_more b s e h = rw (e, h) refl

opened_here : (s value rest comment : List ℕ) (bare : Bool) (after : List ℕ) → IsLastComment comment → s ≡ comment ++ (body_line_end bare ++ after) → body_from Start after ≡ Some (value, rest) → IsOpening s value rest
opened_here s value rest comment bare after c e r = record { blanks = []; comment = comment; bare = bare; after = after; blank = refl; commented = c; spelled = e; read = r }

comment_line : (s value rest : List ℕ) → body_from Comment s ≡ Some (value, rest) → (body : List ℕ) × ((after : List ℕ) × (IsInLine body × (s ≡ body ++ (10 ∷ after)) × (body_from Start after ≡ Some (value, rest))))
comment_line [] value rest h = absurd (cc)
comment_line (b ∷ s) value rest h = elim (tests (b == 10)) [
  | inl e ↦ ([], (s, (refl, ap (λ x. x ∷ s) (eqb-true b 10 e), sym (onto_nil (body_from Start s)) ∙ sym (at_stage (body_state_after Comment b) Start [] [] s (rw e refl) refl) ∙ h)))
  | inr e ↦ (let r : (body : List ℕ) × ((after : List ℕ) × (IsInLine body × (s ≡ body ++ (10 ∷ after)) × (body_from Start after ≡ Some (value, rest)))) =
      comment_line s value rest (sym (onto_nil (body_from Comment s)) ∙ sym (at_stage (body_state_after Comment b) Comment [] [] s (rw e refl) refl) ∙ h) in
      (b ∷ r.0, (r.1.0, (in_line_more b r.0 e r.1.1.0, ap (λ x. b ∷ x) r.1.1.1, r.1.1.2))))
]

opening_return : (b : ℕ) (s value rest : List ℕ) → b ≡ 13 → body_from OpeningReturn s ≡ Some (value, rest) → IsOpening (b ∷ s) value rest
opening_return b [] value rest e h = absurd (cc)
opening_return b (c ∷ s) value rest e h = elim (tests (c == 10)) [
  | inl t ↦ opened_here (b ∷ (c ∷ s)) value rest [] false s tt (λ i. e i ∷ (eqb-true c 10 t i ∷ s)) (sym (onto_nil (body_from Start s)) ∙ sym (at_stage (body_state_after OpeningReturn c) Start [] [] s (rw t refl) refl) ∙ h)
  | inr t ↦ (let o : onto [] (body_from Broken s) ≡ Some (value, rest) = sym (at_stage (body_state_after OpeningReturn c) Broken [] [] s (rw t refl) refl) ∙ h in absurd (cc))
]

pub opening_is : (s value rest : List ℕ) → body_from Opening s ≡ Some (value, rest) → IsOpening s value rest
opening_is [] value rest h = absurd (cc)
opening_is (b ∷ s) value rest h = elim (tests (is_blank b)) [
  | inl e ↦ (let r : IsOpening s value rest = opening_is s value rest (sym (onto_nil (body_from Opening s)) ∙ sym (at_stage (body_state_after Opening b) Opening [] [] s (rw e refl) refl) ∙ h) in
      record { blanks = b ∷ r.blanks; comment = r.comment; bare = r.bare; after = r.after; blank = blank_more b r.blanks e r.blank; commented = r.commented; spelled = ap (λ x. b ∷ x) r.spelled; read = r.read })
  | inr p ↦ elim (tests (b == 35)) [
    | inl e ↦ (let r : (body : List ℕ) × ((after : List ℕ) × (IsInLine body × (s ≡ body ++ (10 ∷ after)) × (body_from Start after ≡ Some (value, rest)))) =
        comment_line s value rest (sym (onto_nil (body_from Comment s)) ∙ sym (at_stage (body_state_after Opening b) Comment [] [] s (rw (p, e) refl) refl) ∙ h) in
        opened_here (b ∷ s) value rest (b ∷ r.0) true r.1.0 (eqb-true b 35 e, r.1.1.0) (ap (λ x. b ∷ x) r.1.1.1) r.1.1.2)
    | inr q ↦ elim (tests (b == 13)) [
      | inl e ↦ opening_return b s value rest (eqb-true b 13 e) (sym (onto_nil (body_from OpeningReturn s)) ∙ sym (at_stage (body_state_after Opening b) OpeningReturn [] [] s (rw (p, q, e) refl) refl) ∙ h)
      | inr t ↦ elim (tests (b == 10)) [
        | inl e ↦ opened_here (b ∷ s) value rest [] true s tt (ap (λ x. x ∷ s) (eqb-true b 10 e)) (sym (onto_nil (body_from Start s)) ∙ sym (at_stage (body_state_after Opening b) Start [] [] s (rw (p, q, t, e) refl) refl) ∙ h)
        | inr e ↦ (let o : onto [] (body_from Broken s) ≡ Some (value, rest) = sym (at_stage (body_state_after Opening b) Broken [] [] s (rw (p, q, t, e) refl) refl) ∙ h in absurd (cc))
      ]
    ]
  ]
]
