-- Lemmas on the count of LFs without CR.
use Rattle.std.proofs.Common.{◌≡◌, ℕ, zero, suc, ◌+◌, ◌-◌, ◌<◌, ◌≤◌, Bool, true, false, cond, ◌==◌, ◌&&◌, not, List, [], ◌∷◌, length, take, drop, get_or, refl, sym, ap, ◌∙◌, add-one, arith}
use Rattle.std.proofs.lemmas.List.{drop_more}
use Rattle.mail_head.specs.Lines.{is_feed}
use Rattle.mail_head.specs.Heads.{size_after}
use Rattle.mail_head.specs.Sizes.{bare_at, bare_after, bare_in}

two_one : (test : Bool) (m n : ℕ) → cond test 2 1 + (m + n) ≡ suc m + (cond test 1 0 + n)
two_one true m n = omega arith
two_one false m n = omega arith

-- the size is the length and this count
pub size_after-is : (before : ℕ) (text : List ℕ) → size_after before text ≡ length text + bare_after before text
size_after-is before [] = refl
size_after-is before (octet ∷ rest) =
    let later = size_after-is octet rest in
    ap (λ n. cond (is_feed octet && not (before == 13)) 2 1 + n) later ∙ two_one (is_feed octet && not (before == 13)) (length rest) (bare_after octet rest)

bare_at-le : (test : Bool) → cond test 1 0 ≤ 1
bare_at-le true = omega arith
bare_at-le false = omega arith

-- the count is at most the length
pub bare_after-le : (before : ℕ) (text : List ℕ) → bare_after before text ≤ length text
bare_after-le before [] = omega arith
bare_after-le before (octet ∷ rest) =
    let later = bare_after-le octet rest in
    let one = bare_at-le (is_feed octet && not (before == 13)) in
    omega arith

-- the count of a text is that of its first octets and of what is left, which begins with the last of them
pub bare_after-split : (n before : ℕ) (text : List ℕ) → n ≤ length text → bare_after before text ≡ bare_after before (take n text) + bare_in (drop n (before ∷ text))
bare_after-split zero before text short = omega arith
bare_after-split (suc n) before [] short = absurd (omega arith)
bare_after-split (suc n) before (octet ∷ rest) short =
    let later = bare_after-split n octet rest (omega arith) in
    omega arith

-- the same of a block
pub bare_in-split : (n : ℕ) (text : List ℕ) → n < length text → bare_in text ≡ bare_in (take (n + 1) text) + bare_in (drop n text)
bare_in-split n [] short = absurd (omega arith)
bare_in-split n (octet ∷ rest) short = rw add-one (bare_after-split n octet rest (omega arith))

-- one octet more is counted
pub bare_after-more : (text : List ℕ) (i : ℕ) → 0 < i → i < length text
    → bare_after (get_or text (i - 1) 0) (drop i text) ≡ bare_at (get_or text (i - 1) 0) (get_or text i 0) + bare_after (get_or text i 0) (drop (i + 1) text)
bare_after-more text i present short = ap (bare_after (get_or text (i - 1) 0)) (drop_more text i 0 short)

-- the octets of a block before i are counted
pub record IsCounted (block : List ℕ) (i bare : ℕ) : Type 0 where
  pub small : bare < i
  pub left : bare + bare_after (get_or block (i - 1) 0) (drop i block) ≡ bare_in block

-- a block was counted
pub block_step : (n count : ℕ) (rest block after : List ℕ) → n < length rest → block ≡ take (n + 1) rest → after ≡ drop n rest → count ≡ bare_in block
    → count + bare_in after ≡ bare_in rest
block_step n count rest block after short front back counted =
    let split = bare_in-split n rest short in
    rw (counted, front, back) (sym split)

-- what is left to count is no more than the message
pub left_small : (message : List ℕ) (bare left : ℕ) → bare + left ≡ bare_after 0 message → bare + left ≤ length message
left_small message bare left is = let small = bare_after-le 0 message in omega arith
