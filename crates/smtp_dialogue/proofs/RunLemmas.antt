-- Octets inside a line, up to its end.
use Rattle.std.proofs.Common.{◌≡◌, ℕ, zero, suc, ◌<◌, ◌≤◌, ◌==◌, Bool, true, false, List, [], ◌∷◌, ◌++◌, length, take, drop, get_or, refl, sym, ap, ◌∙◌, subst, arith}
use Rattle.std.proofs.lemmas.Bool.{false_from_ne_true}
use Rattle.std.specs.Borrow.{Bor}
use Rattle.lmtp_dialogue.specs.Lines.{line_end}
use Rattle.smtp_dialogue.specs.Sent.{sent_from, is_break, BeginsBreak, IsWithinLine, HandsPart}
use Rattle.smtp_dialogue.specs.declared.sent.SentState.TheVariants.{Start, Inside}
use Rattle.smtp_dialogue.specs.declared.sent.DotStuffed.{DotStuffed}

-- an octet that is no CR and no LF
no_return : (octet : ℕ) (other : Bool) → (octet == 13) ≡ other → is_break octet ≡ false → (octet == 13) ≡ false
no_return octet true test plain = let is : is_break octet ≡ true = rw test refl in absurd (cc (sym is ∙ plain))
no_return octet false test plain = test

no_feed : (octet : ℕ) → (octet == 13) ≡ false → is_break octet ≡ false → (octet == 10) ≡ false
no_feed octet other plain = let is : is_break octet ≡ (octet == 10) = rw other refl in sym is ∙ plain

-- it is sent as it stands
pub plain_run : (octets : List ℕ) (count : ℕ) → count ≤ length octets → ((j : ℕ) → j < count → is_break (get_or octets j 0) ≡ true → ⊥)
    → sent_from Inside octets ≡ take count octets ++ sent_from Inside (drop count octets)
plain_run octets zero short plain = refl
plain_run [] (suc count) short plain = absurd (omega arith)
plain_run (octet ∷ octets) (suc count) short plain =
    let here : is_break octet ≡ false = false_from_ne_true (is_break octet) (plain 0 (omega arith)) in
    let other = no_return octet (octet == 13) refl here in
    rw (no_feed octet other here) (rw other (ap (λ t. octet ∷ t) (plain_run octets count (omega arith) (λ j less. plain (suc j) (omega arith)))))

-- where none stands in front, the line ends
pub break_first : (octets : List ℕ) (count : ℕ) → count ≡ 0 → (count < length octets → is_break (get_or octets count 0) ≡ true) → BeginsBreak octets
break_first [] count none next = tt
break_first (octet ∷ octets) count none next = subst (λ n. is_break (get_or (octet ∷ octets) n 0) ≡ true) none (next (omega (arith, none)))

some_taken : (octets : List ℕ) (count : ℕ) → (count ≡ 0 → ⊥) → count ≤ length octets → take count octets ≡ [] → ⊥
some_taken octets zero some short same = some refl
some_taken [] (suc count) some short same = absurd (omega arith)
some_taken (octet ∷ octets) (suc count) some short same = grind (arith, same)

-- octets before the next CR or LF are handed out
pub run_passes : (s t : DotStuffed) (part : Bor (List ℕ)) (count : ℕ) → IsWithinLine s → (count ≡ 0 → ⊥) → count ≤ length s.left.now
    → ((j : ℕ) → j < count → is_break (get_or s.left.now j 0) ≡ true → ⊥) → part.now ≡ take count s.left.now → t.left.now ≡ drop count s.left.now → t.place ≡ Inside
    → HandsPart part s t
run_passes s t part count within some short plain is rest place = (
  within
      ∙ (plain_run s.left.now count short plain
      ∙ (ap (λ octets. octets ++ sent_from Inside (drop count s.left.now)) (sym is)
      ∙ (ap (λ octets. part.now ++ sent_from Inside octets) (sym rest) ∙ ap (λ p. part.now ++ sent_from p t.left.now) (sym place)))),
  λ none. some_taken s.left.now count some short (sym is ∙ none),
)

-- an LF that comes first is sent as CRLF
pub feed_passes : (s t : DotStuffed) (part : Bor (List ℕ)) (octet : ℕ) (rest : List ℕ) → IsWithinLine s → s.left.now ≡ octet ∷ rest → BeginsBreak s.left.now → (octet ≡ 13 → ⊥)
    → part.now ≡ line_end → t.left.now ≡ rest → t.place ≡ Start → HandsPart part s t
feed_passes s t part octet rest within first at other is left place =
    let broken : is_break octet ≡ true = subst BeginsBreak first at in
    let apart : (octet == 13) ≡ false = false_from_ne_true (octet == 13) (λ same. other (is_the octet 13 same)) in
    let same : is_break octet ≡ (octet == 10) = rw apart refl in
    let feed : (octet == 10) ≡ true = sym same ∙ broken in
    let step : sent_from Inside (octet ∷ rest) ≡ line_end ++ sent_from Start rest = rw feed refl in (
      within
          ∙ (ap (sent_from Inside) first
          ∙ (step
          ∙ (ap (λ octets. octets ++ sent_from Start rest) (sym is)
          ∙ (ap (λ octets. part.now ++ sent_from Start octets) (sym left) ∙ ap (λ p. part.now ++ sent_from p t.left.now) (sym place))))),
      λ none. no_end (sym is ∙ none),
    )
  where
    is_the : (octet wanted : ℕ) → (octet == wanted) ≡ true → octet ≡ wanted
    is_the octet wanted same = grind (arith)

    no_end : line_end ≡ [] → ⊥
    no_end same = grind (arith, same)
