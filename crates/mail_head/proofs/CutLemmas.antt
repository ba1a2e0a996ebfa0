-- A text has one list of lines, and its body is its end.
use Rattle.std.proofs.Common.{◌≡◌, ◌≢◌, ◌⊎◌, ℕ, ◌+◌, Bool, true, false, cond, not, List, [], ◌∷◌, ◌++◌, length, drop, refl, sym, ap, ◌∙◌, inl, inr, arith}
use Rattle.std.proofs.lemmas.Bool.{eqb-true, not-true}
use Rattle.std.proofs.lemmas.List.{append-nil, append_assoc, drop_at, length-append}
use Rattle.std.specs.List.{concat, list_all}
use Rattle.mail_head.specs.Lines.{is_feed, is_other, at_front, lines_of, IsEnded, IsOpen, AreLines, is_empty_line, body_lines}
use Rattle.mail_head.specs.Heads.{body_of, body_start}
use Rattle.mail_head.proofs.LineLemmas.{concat-lines_of}
use Rattle.mail_head.proofs.FoldLemmas.{and_left, and_right, and_true}

other_from : (octet : ℕ) → is_feed octet ≡ false → is_other octet ≡ true
other_from octet not_feed = ap not not_feed

feed_from : (octet : ℕ) → is_other octet ≡ true → is_feed octet ≡ false
feed_from octet is = not-true (is_feed octet) is

longer : (octet : ℕ) (line rest : List ℕ) → is_feed octet ≡ false → IsEnded line ⊎ (IsOpen line × (rest ≡ [])) → IsEnded (octet ∷ line) ⊎ (IsOpen (octet ∷ line) × (rest ≡ []))
longer octet line rest not_feed (inl ended) = inl (record {
  text = octet ∷ ended.text;
  spelled = ap (λ t. octet ∷ t) ended.spelled;
  others = and_true _ _ (other_from octet not_feed) ended.others;
})
longer octet line rest not_feed (inr last) = inr (
  record {
    present = λ none. absurd (cc none);
    others = and_true _ _ (other_from octet not_feed) last.0.others;
  },
  last.1,
)

found_cut : (test : Bool) (octet : ℕ) (rest : List ℕ) (lines : List (List ℕ)) → is_feed octet ≡ test → AreLines lines rest
    → AreLines (cond test ((octet ∷ []) ∷ lines) (at_front octet lines)) (octet ∷ rest)
found_cut true octet rest lines feed are =
    (rest, (refl, (inl (record { text = []; spelled = ap (λ b. b ∷ []) (eqb-true octet 10 feed); others = refl }), are)))
found_cut false octet rest [] not_feed are =
    ([], (ap (λ t. octet ∷ t) are, (inr (record { present = λ none. absurd (cc none); others = and_true _ _ (other_from octet not_feed) refl }, refl), refl)))
found_cut false octet rest (line ∷ more) not_feed are =
    (are.0, (ap (λ t. octet ∷ t) are.1.0, (longer octet line are.0 not_feed are.1.1.0, are.1.1.1)))

-- the lines of a text are its lines
pub lines_found : (text : List ℕ) → AreLines (lines_of text) text
lines_found [] = refl
lines_found (octet ∷ rest) = found_cut (is_feed octet) octet rest (lines_of rest) refl (lines_found rest)

pub cut_ended : (text rest : List ℕ) → list_all is_other text ≡ true → lines_of ((text ++ 10 ∷ []) ++ rest) ≡ (text ++ 10 ∷ []) ∷ lines_of rest
cut_ended [] rest others = refl
cut_ended (octet ∷ text) rest others =
    let not_feed : is_feed octet ≡ false = feed_from octet (and_left _ _ others) in
    let later = cut_ended text rest (and_right _ _ others) in
    rw (not_feed, later) refl

pub cut_open : (line : List ℕ) → line ≢ [] → list_all is_other line ≡ true → lines_of line ≡ line ∷ []
cut_open [] present others = absurd (present refl)
cut_open (octet ∷ []) present others = let not_feed : is_feed octet ≡ false = feed_from octet (and_left _ _ others) in rw not_feed refl
cut_open (octet ∷ (next ∷ rest)) present others =
    let not_feed : is_feed octet ≡ false = feed_from octet (and_left _ _ others) in
    let later = cut_open (next ∷ rest) (λ none. absurd (cc none)) (and_right _ _ others) in
    rw (not_feed, later) refl

cut_line : (line rest : List ℕ) → IsEnded line ⊎ (IsOpen line × (rest ≡ [])) → lines_of (line ++ rest) ≡ line ∷ lines_of rest
cut_line line rest (inl ended) =
    ap (λ t. lines_of (t ++ rest)) ended.spelled ∙ (cut_ended ended.text rest ended.others ∙ ap (λ t. t ∷ lines_of rest) (sym ended.spelled))
cut_line line rest (inr last) =
    ap (λ t. lines_of (line ++ t)) last.1 ∙ (ap lines_of (append-nil line) ∙ (cut_open line last.0.present last.0.others ∙ ap (λ t. line ∷ lines_of t) (sym last.1)))

-- and no other list is
pub lines_only : (text : List ℕ) (lines : List (List ℕ)) → AreLines lines text → lines ≡ lines_of text
lines_only text [] are = ap lines_of (sym are)
lines_only text (line ∷ more) are =
    let later = lines_only are.0 more are.1.1.1 in
    ap (λ t. line ∷ t) later ∙ (sym (cut_line line are.0 are.1.1.0) ∙ ap lines_of (sym are.1.0))

-- a text, and that it stands before another one
pub record Ends (whole tail : List ℕ) : Type 0 where
  pub front : List ℕ
  pub spelled : whole ≡ front ++ tail

body_cut : (test : Bool) (line : List ℕ) (more body : List (List ℕ)) → Ends (concat more) (concat body) → Ends (line ++ concat more) (concat (cond test more body))
body_cut true line more body ends = record { front = line; spelled = refl }
body_cut false line more body ends = record {
  front = line ++ ends.front;
  spelled = ap (λ t. line ++ t) ends.spelled ∙ sym (append_assoc line ends.front (concat body));
}

body_ends : (lines : List (List ℕ)) → Ends (concat lines) (concat (body_lines lines))
body_ends [] = record { front = []; spelled = refl }
body_ends (line ∷ more) = body_cut (is_empty_line line) line more (body_lines more) (body_ends more)

-- the body is the end of the message
pub body_placed : (message : List ℕ) → drop (body_start message) message ≡ body_of message
body_placed message =
    let ends = body_ends (lines_of message) in
    let whole : message ≡ ends.front ++ body_of message = sym (concat-lines_of message) ∙ ends.spelled in
    let size : length message ≡ length ends.front + length (body_of message) = ap length whole ∙ length-append ends.front (body_of message) in
    ap (drop (body_start message)) whole ∙ drop_at ends.front (body_of message) (body_start message) (omega arith)
