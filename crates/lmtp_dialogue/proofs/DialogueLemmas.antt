-- What comes first in a dialogue is one item, and what is answered stays so.
use Rattle.std.proofs.Common.{◌≡◌, ℕ, List, [], ◌∷◌, ◌++◌, refl, sym, ap, ◌∙◌, subst, append_assoc, arith}
use Rattle.std.proofs.lemmas.List.{append_cancel_right}
use Rattle.lmtp_dialogue.specs.Dialogues.{DialoguePhase, Greeted, Ready, Opened, Asking, Sending, Over, Dialogue, dialogue_given, Item, Command, LongLine, Message, IsLineItem, IsTextItem, SpellsItem, IsNextItem, ItemsStand}
use Rattle.lmtp_dialogue.specs.Lines.{line_end, IsCrlfLine}
use Rattle.lmtp_dialogue.specs.Texts.{line_with_crlf, TextEndsAt, after, text_after}
use Rattle.lmtp_dialogue.specs.Turns.{DialogueAnswers, Resolves, DialogueReplies, replied}
use Rattle.lmtp_dialogue.specs.declared.receiver.Lookup.{Lookup}
use Rattle.lmtp_dialogue.specs.declared.recipient_reply.RecipientReply.{RecipientReply}
use Rattle.lmtp_dialogue.specs.declared.message_text.TextState.{TextState}
use Rattle.lmtp_dialogue.specs.declared.message_text.TextState.TheVariants.{Start}
use Rattle.lmtp_dialogue.proofs.TextLemmas.{line_rest, no_feed, same_first, same_others, text_ends, text_same}

-- ---- one line

pub one_line : (a b x y : List ℕ) → IsCrlfLine a → IsCrlfLine b → a ++ (line_end ++ x) ≡ b ++ (line_end ++ y) → (a ≡ b) × (x ≡ y)
one_line [] [] x y is_a is_b same =
    (refl, same_others 10 10 x y (same_others 13 13 (10 ∷ x) (10 ∷ y) same))
one_line [] (b ∷ []) x y is_a is_b same =
    let next = same_first 10 13 x (10 ∷ y) (same_others 13 b (10 ∷ x) (line_end ++ y) same) in absurd (omega arith)
one_line [] (b ∷ c ∷ mb) x y is_a is_b same =
    let first = same_first 13 b (10 ∷ x) (c ∷ mb ++ (line_end ++ y)) same in
    let second = same_first 10 c x (mb ++ (line_end ++ y)) (same_others 13 b (10 ∷ x) (c ∷ mb ++ (line_end ++ y)) same) in
    absurd (no_feed mb (subst (λ o. IsCrlfLine (o ∷ 10 ∷ mb)) (sym first) (subst (λ o. IsCrlfLine (b ∷ o ∷ mb)) (sym second) is_b)))
one_line (a ∷ []) [] x y is_a is_b same =
    let next = same_first 13 10 (10 ∷ x) y (same_others a 13 (line_end ++ x) (10 ∷ y) same) in absurd (omega arith)
one_line (a ∷ c ∷ ma) [] x y is_a is_b same =
    let first = same_first a 13 (c ∷ ma ++ (line_end ++ x)) (10 ∷ y) same in
    let second = same_first c 10 (ma ++ (line_end ++ x)) y (same_others a 13 (c ∷ ma ++ (line_end ++ x)) (10 ∷ y) same) in
    absurd (no_feed ma (subst (λ o. IsCrlfLine (o ∷ 10 ∷ ma)) first (subst (λ o. IsCrlfLine (a ∷ o ∷ ma)) second is_a)))
one_line (a ∷ ma) (b ∷ mb) x y is_a is_b same =
    let rest = one_line ma mb x y (line_rest a ma is_a) (line_rest b mb is_b) (same_others a b (ma ++ (line_end ++ x)) (mb ++ (line_end ++ y)) same) in
    let first = same_first a b (ma ++ (line_end ++ x)) (mb ++ (line_end ++ y)) same in
    (ap (λ o. o ∷ ma) first ∙ ap (λ t. b ∷ t) rest.0, rest.1)

-- ---- one text

one_end : (from : TextState) (a b x y : List ℕ) → TextEndsAt from a → TextEndsAt from b → a ++ x ≡ b ++ y → (a ≡ b) × (x ≡ y)
one_end from [] [] x y is_a is_b same = (refl, same)
one_end from [] (b ∷ mb) x y is_a is_b same = absurd (is_b.0 is_a)
one_end from (a ∷ ma) [] x y is_a is_b same = absurd (is_a.0 is_b)
one_end from (a ∷ ma) (b ∷ mb) x y is_a is_b same =
    let first = same_first a b (ma ++ x) (mb ++ y) same in
    let rest = one_end (after from a) ma mb x y is_a.1 (subst (λ o. TextEndsAt (after from o) mb) (sym first) is_b.1) (same_others a b (ma ++ x) (mb ++ y) same) in
    (ap (λ o. o ∷ ma) first ∙ ap (λ t. b ∷ t) rest.0, rest.1)

-- ---- one item

-- the line that an item is
record HasLine (octets : List ℕ) : Type 0 where
  line : List ℕ
  whole : IsCrlfLine line
  written : octets ≡ line_with_crlf line

line_of_item : (item : Item) (octets : List ℕ) → IsLineItem item octets → HasLine octets
line_of_item (Command line) octets is = record { line = line; whole = is.0; written = is.1 }
line_of_item LongLine octets is = record { line = is.0; whole = is.1; written = is.2 }
line_of_item (Message text) octets is = absurd is

same_item : (a b : Item) (octets : List ℕ) → IsLineItem a octets → IsLineItem b octets → a ≡ b
same_item (Command a) (Command b) octets is_a is_b = ap Command (append_cancel_right a b line_end (sym is_a.1 ∙ is_b.1))
same_item (Command a) LongLine octets is_a is_b = absurd (omega (arith, is_a.2, is_b.3))
same_item (Command a) (Message text) octets is_a is_b = absurd is_b
same_item LongLine (Command b) octets is_a is_b = absurd (omega (arith, is_a.3, is_b.2))
same_item LongLine LongLine octets is_a is_b = refl
same_item LongLine (Message text) octets is_a is_b = absurd is_b
same_item (Message text) b octets is_a is_b = absurd is_a

-- octets in front of a stream, and what stands behind them
abbrev One : (Item → List ℕ → Type 0) → Type 0
One Is = (a b : Item) (p q x y : List ℕ) → Is a p → Is b q → p ++ x ≡ q ++ y → (a ≡ b) × (x ≡ y)

joined : (octets line rest : List ℕ) → octets ≡ line_with_crlf line → octets ++ rest ≡ line ++ (line_end ++ rest)
joined octets line rest written = ap (λ o. o ++ rest) written ∙ append_assoc line line_end rest

one_line_item : One IsLineItem
one_line_item a b p q x y is_a is_b same =
    let l = line_of_item a p is_a in
    let m = line_of_item b q is_b in
    let both = one_line l.line m.line x y l.whole m.whole (sym (joined p l.line x l.written) ∙ (same ∙ joined q m.line y m.written)) in
    let octets : q ≡ p = m.written ∙ (ap line_with_crlf (sym both.0) ∙ sym l.written) in
    (same_item a b p is_a (subst (IsLineItem b) octets is_b), both.1)

one_text_item : One IsTextItem
one_text_item (Message a) (Message b) p q x y is_a is_b same =
    let both = one_end Start p q x y (text_ends p a is_a) (text_ends q b is_b) same in
    (ap Message (sym (text_same p a is_a) ∙ (ap (text_after Start) both.0 ∙ text_same q b is_b)), both.1)
one_text_item (Message a) (Command b) p q x y is_a is_b same = absurd is_b
one_text_item (Message a) LongLine p q x y is_a is_b same = absurd is_b
one_text_item (Command a) b p q x y is_a is_b same = absurd is_a
one_text_item LongLine b p q x y is_a is_b same = absurd is_a

one_spelled : (phase : DialoguePhase) → One (SpellsItem phase)
one_spelled Greeted = one_line_item
one_spelled Ready = one_line_item
one_spelled (Opened sender taken) = one_line_item
one_spelled (Sending sender left) = one_text_item
one_spelled (Asking sender taken address) = λ a b p q x y is_a is_b same. absurd is_a
one_spelled Over = λ a b p q x y is_a is_b same. absurd is_a

pub one_item : (d : Dialogue) (a b : Item) (x y : List ℕ) → IsNextItem d a x → IsNextItem d b y → (a ≡ b) × (x ≡ y)
one_item d a b x y is_a is_b =
    one_spelled d.phase a b is_a.octets is_b.octets x y is_a.spelled is_b.spelled (sym is_a.written ∙ is_b.written)

-- ---- whatever follows

pub item_stays : (d : Dialogue) (item : Item) (rest more : List ℕ) → IsNextItem d item rest → IsNextItem (dialogue_given more d) item (rest ++ more)
item_stays d item rest more is = record {
  octets = is.octets;
  spelled = is.spelled;
  written = ap (λ t. t ++ more) is.written ∙ append_assoc is.octets rest more;
}

pub items_stand : ItemsStand
items_stand = record {
  one = one_item;
  stays = item_stays;
  pieces = λ d a b. ap (λ t. let e : Dialogue = record d { unread = t } in e) (append_assoc d.unread a b);
}

pub line_stays : (hello : List ℕ) (d e : Dialogue) (said more : List ℕ) → DialogueAnswers hello d said e → DialogueAnswers hello (dialogue_given more d) said (dialogue_given more e)
line_stays hello d e said more is = record {
  item = is.item;
  rest = is.rest ++ more;
  turn = is.turn;
  first = item_stays d is.item is.rest more is.first;
  takes = is.takes;
  told = is.told;
  leaves = ap (dialogue_given more) is.leaves;
}

pub lookup_stays : (d e : Dialogue) (lookup : Lookup) (said more : List ℕ) → Resolves d lookup said e → Resolves (dialogue_given more d) lookup said (dialogue_given more e)
lookup_stays d e lookup said more is = record {
  sender = is.sender;
  taken = is.taken;
  address = is.address;
  asked = is.asked;
  told = is.told;
  leaves = ap (dialogue_given more) is.leaves;
}

replied_stays : (sender : List ℕ) (left : List (List ℕ)) (d : Dialogue) (rest more : List ℕ)
    → dialogue_given more (replied sender left d rest) ≡ replied sender left (dialogue_given more d) (rest ++ more)
replied_stays sender [] d rest more = refl
replied_stays sender (next ∷ left) d rest more = refl

pub outcome_stays : (d e : Dialogue) (outcome : RecipientReply) (said more : List ℕ) → DialogueReplies d outcome said e → DialogueReplies (dialogue_given more d) outcome said (dialogue_given more e)
outcome_stays d e outcome said more is = record {
  sender = is.sender;
  recipient = is.recipient;
  left = is.left;
  text = is.text;
  rest = is.rest ++ more;
  owed = is.owed;
  first = item_stays d (Message is.text) is.rest more is.first;
  told = is.told;
  leaves = ap (dialogue_given more) is.leaves ∙ replied_stays is.sender is.left d is.rest more;
}
