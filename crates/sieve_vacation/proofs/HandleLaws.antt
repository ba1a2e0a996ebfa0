-- A key tells the handle that it is of.
use Rattle.std.proofs.Common.{◌≡◌, ◌↔◌, ℕ, Bool, true, false, cond, List, [], ◌∷◌, ◌++◌, length, refl, ap, arith}
use Rattle.std.specs.Prelude.{Option, Some, None}
use Rattle.sieve_vacation.specs.Handles.{Handle, Named, Same, key_part_of, handle_key_of, IsShort, HasShortTexts}

head_is : (x y : ℕ) (u v : List ℕ) → x ∷ u ≡ y ∷ v → x ≡ y
head_is x y u v same = cc

tail_is : (x y : ℕ) (u v : List ℕ) → x ∷ u ≡ y ∷ v → u ≡ v
tail_is x y u v same = cc

-- of two fronts of one length before equal texts each is the other
append_both : (one two tail after : List ℕ) → length one ≡ length two → one ++ tail ≡ two ++ after → (one ≡ two) × (tail ≡ after)
append_both [] [] tail after even same = (refl, same)
append_both [] (y ∷ two) tail after even same = absurd (omega arith)
append_both (x ∷ one) [] tail after even same = absurd (omega arith)
append_both (x ∷ one) (y ∷ two) tail after even same =
    let rest = append_both one two tail after (omega arith) (tail_is x y _ _ same) in
    let first : x ≡ y = head_is x y _ _ same in
    let others : one ≡ two = rest.0 in
    (cc, rest.1)

-- of two parts before equal texts each is the other
part_both : (one two : Option (List ℕ)) (tail after : List ℕ) → IsShort one → IsShort two
    → key_part_of one ++ tail ≡ key_part_of two ++ after → (one ≡ two) × (tail ≡ after)
part_both None None tail after short few same = (refl, tail_is 0 0 _ _ same)
part_both None (Some text) tail after short few same = absurd (omega (arith, head_is 0 1 _ _ same))
part_both (Some text) None tail after short few same = absurd (omega (arith, head_is 1 0 _ _ same))
part_both (Some text) (Some other) tail after short few same =
    let a = tail_is 1 1 _ _ same in
    let b = tail_is _ _ _ _ a in
    let c = tail_is _ _ _ _ b in
    let d = tail_is _ _ _ _ c in
    let e = tail_is _ _ _ _ d in
    let even : length text ≡ length other = omega (arith, head_is _ _ _ _ a, head_is _ _ _ _ b, head_is _ _ _ _ c, head_is _ _ _ _ d) in
    let both = append_both text other tail after even e in
    (ap Some both.0, both.1)

mark_tells : (one two : Bool) → ◌≡◌ {A = ℕ} (cond one 1 0) (cond two 1 0) → one ≡ two
mark_tells true true same = refl
mark_tells true false same = absurd (omega arith)
mark_tells false true same = absurd (omega arith)
mark_tells false false same = refl

key_tells : (one two : Handle) → HasShortTexts one → HasShortTexts two → handle_key_of one ≡ handle_key_of two → one ≡ two
key_tells (Named name) (Named other) short few same = ap Named (tail_is 1 1 _ _ same)
key_tells (Named name) (Same subject from mime reason) short few same = absurd (omega (arith, head_is 1 2 _ _ same))
key_tells (Same subject from mime reason) (Named name) short few same = absurd (omega (arith, head_is 2 1 _ _ same))
key_tells (Same subject from mime reason) (Same s f m r) short few same =
    let subjects = part_both subject s _ _ short.0 few.0 (tail_is 2 2 _ _ same) in
    let froms = part_both from f _ _ short.1 few.1 subjects.1 in
    let marks : mime ≡ m = mark_tells mime m (head_is _ _ _ _ froms.1) in
    let reasons : reason ≡ r = tail_is _ _ _ _ froms.1 in
    let a : subject ≡ s = subjects.0 in
    let b : from ≡ f = froms.0 in
    cc

-- two handles have one key exactly where they are the same
pub keys_tell : (one two : Handle) → HasShortTexts one → HasShortTexts two → (handle_key_of one ≡ handle_key_of two) ↔ (one ≡ two)
keys_tell one two short few = (key_tells one two short few, ap handle_key_of)
