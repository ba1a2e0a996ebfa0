-- What lines of a reply offer.
use Rattle.std.proofs.Common.{◌≡◌, ℕ, Bool, true, false, ◌||◌, List, [], ◌∷◌, length, drop, take, refl, sym, ap, ◌∙◌, subst, arith}
use Rattle.lmtp_dialogue.specs.Lines.{LineFinds}
use Rattle.lmtp_dialogue.specs.declared.command_line.Found.{Found}
use Rattle.lmtp_dialogue.specs.declared.command_line.Found.TheVariants as found
use Rattle.lmtp_dialogue.proofs.LineLemmas.{one_found}
use Rattle.smtp_dialogue.specs.Replies.{IsHere}
use Rattle.smtp_dialogue.specs.Extensions.{AreReplyLines, OffersExtensions, OffersMore, with_line, with_lines, no_extensions}
use Rattle.smtp_dialogue.specs.declared.extension.Extensions.{Extensions}
use Rattle.smtp_dialogue.proofs.ReplyLemmas.{here_found, same_line, dropped}

or_assoc : (a b c : Bool) → ((a || b) || c) ≡ (a || (b || c))
or_assoc true b c = refl
or_assoc false b c = refl

or_false : (a : Bool) → (a || false) ≡ a
or_false true = refl
or_false false = refl

joins : (it : Extensions) (line : List ℕ) (lines : List (List ℕ)) → with_lines (with_line it line) lines ≡ with_lines it (line ∷ lines)
joins it line lines = simp or_assoc

none_more : (it : Extensions) → it ≡ with_lines it []
none_more it = sym (simp or_false)

-- no line stands first where none is found
pub no_line : (octets line behind : List ℕ) (other : Found) → LineFinds other octets → ((count : ℕ) → other ≡ found.Line count → ⊥) → IsHere octets line behind → ⊥
no_line octets line behind other finds apart is = apart (length line) (one_found other (found.Line (length line)) octets finds (here_found octets line behind is))

-- nothing stands first in no octets
pub no_here : (line behind : List ℕ) → IsHere [] line behind → ⊥
no_here [] behind is = let no = is.first.written in absurd (cc no)
no_here (octet ∷ line) behind is = let no = is.first.written in absurd (cc no)

found_none : (octets : List ℕ) (count : ℕ) → octets ≡ [] → LineFinds (found.Line count) octets → ⊥
found_none octets count none finds = let size : length octets ≡ 0 = ap length none in absurd (omega (arith, size, finds.2))

-- a line more
pub more : (octets left after_end : List ℕ) (count : ℕ) (line : List ℕ) (self offered next : Extensions) → LineFinds (found.Line count) left → line ≡ take count left → after_end ≡ drop 2 (drop count left) → next ≡ with_line offered line
    → ((after : Extensions) → OffersMore left offered after → OffersMore octets self after) → (after : Extensions) → OffersMore after_end next after → OffersMore octets self after
more octets left after_end count line self offered next finds front back grown whole after offers = whole after by_lines
  where
    by_lines : OffersMore left offered after
    by_lines [] are = absurd (found_none left count are finds)
    by_lines (first ∷ lines) are =
        let same = same_line left first are.0 count are.1 finds in
        let here : are.0 ≡ after_end = same.back ∙ (sym (dropped left count 2) ∙ sym back) in
        let is : after ≡ with_lines next lines = offers lines (subst (AreReplyLines lines) here are.2) in
        is ∙ (ap (λ it. with_lines it lines) grown ∙ joins offered line lines ∙ ap (λ l. with_lines offered (l ∷ lines)) (front ∙ sym same.front))

-- and where there is none
pub ended : (octets left : List ℕ) (self offered : Extensions) (other : Found) → LineFinds other left → ((count : ℕ) → other ≡ found.Line count → ⊥)
    → ((after : Extensions) → OffersMore left offered after → OffersMore octets self after) → OffersMore octets self offered
ended octets left self offered other finds apart whole = whole offered by_lines
  where
    by_lines : OffersMore left offered offered
    by_lines [] are = none_more offered
    by_lines (line ∷ lines) are = absurd (no_line left line are.0 other finds apart are.1)

-- behind the first line
pub offers : (octets behind : List ℕ) (count : ℕ) (it : Extensions) → LineFinds (found.Line count) octets → behind ≡ drop 2 (drop count octets) → OffersMore behind no_extensions it → OffersExtensions octets it
offers octets behind count it finds back more first lines are =
    let same = same_line octets first are.0 count are.1 finds in
    more lines (subst (AreReplyLines lines) (same.back ∙ (sym (dropped octets count 2) ∙ sym back)) are.2)

pub offers_none : (octets : List ℕ) (it : Extensions) (other : Found) → LineFinds other octets → ((count : ℕ) → other ≡ found.Line count → ⊥) → OffersExtensions octets it
offers_none octets it other finds apart first lines are = absurd (no_line octets first are.0 other finds apart are.1)
