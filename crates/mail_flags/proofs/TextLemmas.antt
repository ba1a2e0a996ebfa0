-- Texts that are cut at blanks.
use Rattle.std.proofs.Common.{◌≡◌, ◌≤◌, ◌+◌, ◌-◌, ℕ, Bool, true, false, cond, fold, List, [], ◌∷◌, ◌++◌, length, take, drop, nat_lt, Some, None, refl, sym, ap, ◌∙◌, arith}
use Rattle.std.specs.List.{slice_split, position, position_or_len, All, join_with_byte}
use Rattle.std.proofs.lemmas.List.Splits.{slice_split_first, slice_split_none, slice_split_at}
use Rattle.std.proofs.lemmas.List.Quantifiers.{position-Some}
use Rattle.std.proofs.lemmas.List.Sums.{position_or_len_is, fails_before_first}
use Rattle.std.proofs.lemmas.Bool.Decides.{nat_tests}
use Rattle.std.proofs.lemmas.List.{take_all, length-drop, append_assoc}
use Rattle.octets.specs.Ascii.{is_blank}
use Rattle.std.proofs.lemmas.List.Elements.{All-from_get_or, All-tail}

-- the text up to the first octet that passes, and what stands behind it
pub cut_there : (p : ℕ → Bool) (text : List ℕ) (at : ℕ) → position p text ≡ Some at → slice_split p text ≡ take at text ∷ slice_split p (drop (at + 1) text)
cut_there p text at is =
    let here = position-Some p text at 0 is in
    let first : position_or_len p text ≡ at = position_or_len_is p text at 0 (omega arith) here.2 (λ within. here.1) in
    slice_split_first p text 0 (omega arith) ∙ ap (λ n. take n text ∷ slice_split p (drop (n + 1) text)) first

none_below : (p : ℕ → Bool) (text : List ℕ) (b : Bool) → nat_lt (position_or_len p text) (length text) ≡ b → cond b (Some (position_or_len p text)) None ≡ None → length text ≤ position_or_len p text
none_below p text true so is = absurd cc
none_below p text false so is = grind (arith, nat_tests)

-- a text in which none passes is one
pub uncut : (p : ℕ → Bool) (text : List ℕ) → position p text ≡ None → slice_split p text ≡ text ∷ []
uncut p text is =
    let far = none_below p text _ refl is in
    slice_split_none p text (All-from_get_or (λ x. p x ≡ false) text 0 (λ i within. fails_before_first p text i 0 (omega arith)))

-- all that is behind a place
pub rest_whole : (text : List ℕ) (from : ℕ) → drop from text ≡ take (length text - from) (drop from text)
rest_whole text from = sym (take_all _ _ (omega (arith, length-drop from text)))

-- names that are written behind a text, each after a blank
abbrev pub behind : List ℕ → List (List ℕ) → List ℕ
behind = fold (λ text name. text ++ 32 ∷ name)

-- the first name and a blank stand in front of the others
in_front : (first name : List ℕ) (more : List (List ℕ)) → join_with_byte 32 ((first ++ 32 ∷ name) ∷ more) ≡ join_with_byte 32 (first ∷ name ∷ more)
in_front first name [] = refl
in_front first name (next ∷ more) = append_assoc first (32 ∷ name) (32 ∷ join_with_byte 32 (next ∷ more))

-- names are written one behind the other
pub written_behind : (first : List ℕ) (more : List (List ℕ)) → behind first more ≡ join_with_byte 32 (first ∷ more)
written_behind first [] = refl
written_behind first (name ∷ more) = written_behind (first ++ 32 ∷ name) more ∙ in_front first name more

-- names without blanks are what stands between the blanks
pub read_again : (first : List ℕ) (more : List (List ℕ)) → All (All (λ octet. is_blank octet ≡ false)) (first ∷ more) → slice_split is_blank (join_with_byte 32 (first ∷ more)) ≡ first ∷ more
read_again first [] plain = slice_split_none is_blank first (plain 0 first (omega arith))
read_again first (name ∷ more) plain =
    slice_split_at is_blank first 32 (join_with_byte 32 (name ∷ more)) (plain 0 first (omega arith)) refl
    ∙ ap (λ names. first ∷ names) (read_again name more (All-tail (All (λ octet. is_blank octet ≡ false)) first (name ∷ more) plain))
