-- Lemmas on how a value stands in a field.
use Rattle.std.proofs.Common.{◌≡◌, ◌≢◌, ℕ, ◌+◌, ◌*◌, ◌<◌, ◌≤◌, List, [], ◌∷◌, ◌++◌, length, take, get_or, Option, Some, None, refl, sym, ap, ◌∙◌, append-nil, append_assoc, arith}
use Rattle.std.proofs.lemmas.List.{take_more, length-append}
use Rattle.std.proofs.lemmas.Grind.{flat_map-append}
use Rattle.dovecot_userdb.specs.Escapes.{escape_mark, octet_marked, with_mark, tab_escaped_octet, tab_escaped, IsNoOctet}

pub escaped-append : (a b : List ℕ) → tab_escaped (a ++ b) ≡ tab_escaped a ++ tab_escaped b
escaped-append a b = flat_map-append tab_escaped_octet a b

-- one octet more
pub escaped_more : (value : List ℕ) (i : ℕ) → i < length value → tab_escaped (take (i + 1) value) ≡ tab_escaped (take i value) ++ tab_escaped_octet (get_or value i 0)
escaped_more value i h =
    ap tab_escaped (take_more value i 0 h) ∙ (escaped-append (take i value) (get_or value i 0 ∷ []) ∙ ap (λ l. tab_escaped (take i value) ++ l) (append-nil (tab_escaped_octet (get_or value i 0))))

pub length_with : (octet : ℕ) (mark : Option ℕ) → length (with_mark octet mark) ≤ 2
length_with octet None = omega arith
length_with octet (Some mark) = omega arith

pub length_octet : (octet : ℕ) → length (tab_escaped_octet octet) ≤ 2
length_octet octet = length_with octet (escape_mark octet)

pub length_escaped : (value : List ℕ) → length (tab_escaped value) ≤ 2 * length value
length_escaped [] = omega arith
length_escaped (octet ∷ rest) = omega (arith, length-append (tab_escaped_octet octet) (tab_escaped rest), length_octet octet, length_escaped rest)

-- a mark is that of its octet alone
pub marked_back : (octet mark : ℕ) → escape_mark octet ≡ Some mark → octet_marked mark ≡ Some octet
marked_back octet mark is = grind arith

pub escape_is_marked : (octet : ℕ) → escape_mark octet ≡ None → octet ≢ 1
escape_is_marked octet none is = grind arith

-- ---- one way

with_front : (a b : ℕ) (m n : Option ℕ) (x y : List ℕ) → escape_mark a ≡ m → escape_mark b ≡ n → with_mark a m ++ x ≡ with_mark b n ++ y → (a ≡ b) × (x ≡ y)
with_front a b None None x y ma mb is = (cc, cc)
with_front a b (Some m) (Some n) x y ma mb is =
    let one = marked_back a m ma in
    let two = marked_back b n mb in
    let same : m ≡ n = cc in
    let octets : Some a ≡ Some b = sym one ∙ (ap octet_marked same ∙ two) in
    (cc, cc)
with_front a b None (Some n) x y ma mb is = let one : a ≡ 1 = cc in absurd (escape_is_marked a ma one)
with_front a b (Some m) None x y ma mb is = let one : b ≡ 1 = cc in absurd (escape_is_marked b mb one)

pub octet_front : (a b : ℕ) (x y : List ℕ) → tab_escaped_octet a ++ x ≡ tab_escaped_octet b ++ y → (a ≡ b) × (x ≡ y)
octet_front a b x y is = with_front a b (escape_mark a) (escape_mark b) x y refl refl is

with_some : (octet : ℕ) (mark : Option ℕ) (x : List ℕ) → with_mark octet mark ++ x ≡ [] → ⊥
with_some octet None x is = cc
with_some octet (Some mark) x is = cc

pub no_value : (value left v : List ℕ) → IsNoOctet left → left ≢ [] → tab_escaped value ++ left ≡ tab_escaped v → ⊥
no_value [] left [] none some is = some is
no_value [] left (o ∷ w) none some is = none o (tab_escaped w) is
no_value (a ∷ value) left [] none some is = with_some a (escape_mark a) (tab_escaped value ++ left) (sym (append_assoc (tab_escaped_octet a) (tab_escaped value) left) ∙ is)
no_value (a ∷ value) left (o ∷ w) none some is =
    no_value value left w none some (octet_front a o (tab_escaped value ++ left) (tab_escaped w) (sym (append_assoc (tab_escaped_octet a) (tab_escaped value) left) ∙ is)).1

pub escaped_same : (a b : List ℕ) → tab_escaped a ≡ tab_escaped b → a ≡ b
escaped_same [] [] is = refl
escaped_same [] (y ∷ b) is = absurd (with_some y (escape_mark y) (tab_escaped b) (sym is))
escaped_same (x ∷ a) [] is = absurd (with_some x (escape_mark x) (tab_escaped a) is)
escaped_same (x ∷ a) (y ∷ b) is =
    let it = octet_front x y (tab_escaped a) (tab_escaped b) is in
    let head : x ≡ y = it.0 in
    let tail : a ≡ b = escaped_same a b it.1 in
    cc (head, tail)

with_least : (octet : ℕ) (mark : Option ℕ) → 1 ≤ length (with_mark octet mark)
with_least octet None = omega arith
with_least octet (Some mark) = omega arith

pub escaped_least : (value : List ℕ) → length value ≤ length (tab_escaped value)
escaped_least [] = omega arith
escaped_least (octet ∷ rest) = omega (arith, length-append (tab_escaped_octet octet) (tab_escaped rest), with_least octet (escape_mark octet), escaped_least rest)
