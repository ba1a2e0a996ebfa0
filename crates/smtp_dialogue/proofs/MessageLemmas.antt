-- Messages.
use Rattle.std.proofs.Common.{◌≡◌, ℕ, ◌+◌, ◌*◌, ◌≤◌, ◌==◌, Bool, true, false, List, [], ◌∷◌, length, refl, sym, ap, ◌∙◌, inl, inr, arith}
use Rattle.mail_head.specs.Cuts.{CutsLogicalLine}
use Rattle.mail_head.specs.Lines.{lines_of, logical_lines}
use Rattle.mail_head.proofs.FoldLemmas.{logical_lines-folded}
use Rattle.mail_head.proofs.LineLemmas.{goes_on-lines_of}
use Rattle.lmtp_dialogue.specs.Copies.{is_path_line}
use Rattle.smtp_dialogue.specs.Messages.{LeavesPath}
use Rattle.smtp_dialogue.specs.Sent.{text_from, sent_start, begins_feed}
use Rattle.smtp_dialogue.specs.declared.sent.SentState.{SentState}
use Rattle.smtp_dialogue.specs.declared.sent.SentState.TheVariants.{Start, Inside, Over}

-- ---- how many octets there are

-- one more where the line that is counted has no end yet
abbrev pub added : SentState → ℕ
added Start = 0
added Inside = 1
added Over = 0

abbrev pub is_over : SentState → Bool
is_over Over = true
is_over Start = false
is_over Inside = false

pub record Counts (text left : List ℕ) (place : SentState) (size : ℕ) : Type 0 where
  pub goes_on : is_over place ≡ false
  pub whole : size + length (text_from place left) ≡ length (text_from sent_start text)
  pub bound : size + (added place + 2 * length left) ≤ 2 * length text

feed_by : (place : SentState) (octet : ℕ) (rest : List ℕ) → is_over place ≡ false → (octet == 10) ≡ true → length (text_from place (octet ∷ rest)) ≡ 2 + length (text_from Start rest)
feed_by Start octet rest on test = rw test (omega arith)
feed_by Inside octet rest on test = rw test (omega arith)
feed_by Over octet rest on test = absurd (cc on)

plain_by : (place : SentState) (octet : ℕ) (rest : List ℕ) → is_over place ≡ false → (octet == 10) ≡ false → (octet == 13) ≡ false
    → length (text_from place (octet ∷ rest)) ≡ 1 + length (text_from Inside rest)
plain_by Start octet rest on first second = rw (first, second) (omega arith)
plain_by Inside octet rest on first second = rw (first, second) (omega arith)
plain_by Over octet rest on first second = absurd (cc on)

return_by : (place : SentState) (octet : ℕ) (rest : List ℕ) → is_over place ≡ false → (octet == 10) ≡ false → (octet == 13) ≡ true → begins_feed rest ≡ false
    → length (text_from place (octet ∷ rest)) ≡ 1 + length (text_from Inside rest)
return_by Start octet rest on first second third = rw (first, second, third) (omega arith)
return_by Inside octet rest on first second third = rw (first, second, third) (omega arith)
return_by Over octet rest on first second third = absurd (cc on)

pub unlike : (a b : ℕ) → (a ≡ b → ⊥) → (a == b) ≡ false
unlike a b apart = grind (arith, apart)

alike : (a b : ℕ) → a ≡ b → (a == b) ≡ true
alike a b same = grind (arith, same)

pub feed : (text left rest : List ℕ) (octet : ℕ) (place : SentState) (size : ℕ) → Counts text left place size → left ≡ octet ∷ rest → octet ≡ 10 → Counts text rest Start (size + 2)
feed text left rest octet place size counts written is_feed =
    let here : length (text_from place left) ≡ 2 + length (text_from Start rest) = ap (λ l. length (text_from place l)) written ∙ feed_by place octet rest counts.goes_on (alike octet 10 is_feed) in
    let shorter : length left ≡ 1 + length rest = ap length written ∙ omega arith in
    record { goes_on = refl; whole = omega (arith, here, counts.whole); bound = omega (arith, shorter, counts.bound) }

inside : (text left rest : List ℕ) (octet : ℕ) (place : SentState) (size : ℕ) → Counts text left place size → left ≡ octet ∷ rest
    → length (text_from place (octet ∷ rest)) ≡ 1 + length (text_from Inside rest) → Counts text rest Inside (size + 1)
inside text left rest octet place size counts written step =
    let here : length (text_from place left) ≡ 1 + length (text_from Inside rest) = ap (λ l. length (text_from place l)) written ∙ step in
    let shorter : length left ≡ 1 + length rest = ap length written ∙ omega arith in
    record { goes_on = refl; whole = omega (arith, here, counts.whole); bound = omega (arith, shorter, counts.bound) }

pub plain : (text left rest : List ℕ) (octet : ℕ) (place : SentState) (size : ℕ) → Counts text left place size → left ≡ octet ∷ rest → (octet ≡ 10 → ⊥) → (octet ≡ 13 → ⊥)
    → Counts text rest Inside (size + 1)
plain text left rest octet place size counts written first second =
    inside text left rest octet place size counts written (plain_by place octet rest counts.goes_on (unlike octet 10 first) (unlike octet 13 second))

pub bare : (text left rest : List ℕ) (octet : ℕ) (place : SentState) (size : ℕ) → Counts text left place size → left ≡ octet ∷ rest → (octet ≡ 10 → ⊥) → octet ≡ 13 → begins_feed rest ≡ false
    → Counts text rest Inside (size + 1)
bare text left rest octet place size counts written first second third =
    inside text left rest octet place size counts written (return_by place octet rest counts.goes_on (unlike octet 10 first) (alike octet 13 second) third)

-- ---- the field in front

first_logical : (text line after : List ℕ) → CutsLogicalLine text line after → logical_lines (lines_of text) ≡ line ∷ logical_lines (lines_of after)
first_logical text line after cut =
    ap logical_lines cut.lines
    ∙ (logical_lines-folded cut.first cut.others (lines_of after) cut.folded (goes_on-lines_of after ∙ cut.ended)
    ∙ ap (λ t. t ∷ logical_lines (lines_of after)) (sym cut.parts))

abbrev first_or : List (List ℕ) → List ℕ
first_or [] = []
first_or (line ∷ more) = line

one_logical : (text a b x y : List ℕ) → CutsLogicalLine text a x → CutsLogicalLine text b y → a ≡ b
one_logical text a b x y one two = ap first_or (sym (first_logical text a x one) ∙ first_logical text b y two)

pub leaves : (text line after : List ℕ) → CutsLogicalLine text line after → is_path_line line ≡ true → LeavesPath text after
leaves text line after cut path = inl (line, cut, path)

pub keeps : (text line after : List ℕ) → CutsLogicalLine text line after → is_path_line line ≡ false → LeavesPath text text
keeps text line after cut other = inr (refl, λ l a is path. absurd (cc (sym path ∙ (ap is_path_line (one_logical text l line a after is cut) ∙ other))))

pub keeps_none : (text : List ℕ) → (length text == 0) ≡ true → LeavesPath text text
keeps_none [] none = inr (refl, λ line after cut path. absurd (cc (cut.lines)))
keeps_none (octet ∷ text) none = absurd (omega (arith, length_is (octet ∷ text) none))
  where
    length_is : (t : List ℕ) → (length t == 0) ≡ true → length t ≡ 0
    length_is t same = grind (arith)
