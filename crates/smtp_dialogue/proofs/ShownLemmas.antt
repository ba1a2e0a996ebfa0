-- A mailbox has no controls.
use Rattle.std.proofs.Common.{codes, Some, ◌≡◌, ℕ, ◌<◌, ◌≤◌, ◌==◌, ◌&&◌, ◌||◌, Bool, true, false, List, [], ◌∷◌, ◌++◌, inl, inr, length, refl, ap, ◌∙◌, arith}
use Rattle.std.specs.Char.{is_ascii_hexdigit, to_ascii_lowercase}
use Rattle.std.specs.Cmp.Lexicographic.{pointwise}
use Rattle.std.specs.List.{list_all, slice_split}
use Rattle.std.proofs.lemmas.List.Folds.{list_all-append}
use Rattle.std.specs.Prelude.{nat_le, nat_eq}
use Rattle.octets.specs.Ascii.{is_printable, is_digit, lowered}
use Rattle.octets.specs.Decimal.{number_of}
use Rattle.smtp_dialogue.specs.Addresses.{AreGroupsAndIpv4, EndsInIpv4, IsIpv6, between_colons, groups_of, is_colon, is_group, is_ipv4, some_groups_of, is_dot, is_ipv4_number, is_filled}
use Rattle.smtp_dialogue.specs.Mailboxes.{ClosesQuotes, IsLocal, IsHost, IsInner, IsIpv6Tagged, IsTagged, MailboxStands, is_no_control_octet, is_smtp_atom, is_atext, is_let_dig, is_high, is_atext_mark, is_octet_between, is_qcontent, is_qtext, is_label, is_label_octet, is_tag_octet, is_dcontent, begins_well, ends_well, joined_parts}
use Rattle.smtp_dialogue.proofs.AddressLemmas.{are_groups}
use Rattle.smtp_dialogue.proofs.MailboxLemmas.{both, same_octet}
use Rattle.smtp_dialogue.proofs.SplitLemmas.{all_by, each_by, split_all}

abbrev are_shown : List ℕ → Bool
are_shown text = list_all is_no_control_octet text

-- ---- octets

either : {P : Type 0} (a b : Bool) → (a ≡ true → P) → (b ≡ true → P) → (a || b) ≡ true → P
either true b one two is = one refl
either false b one two is = two is

let_dig : (octet : ℕ) → is_let_dig octet ≡ true → is_no_control_octet octet ≡ true
let_dig octet is = grind (arith, is)

high : (octet : ℕ) → is_high octet ≡ true → is_no_control_octet octet ≡ true
high octet is = grind (arith, is)

is_it : (n octet : ℕ) → is_no_control_octet n ≡ true → (octet == n) ≡ true → is_no_control_octet octet ≡ true
is_it n octet shown is = ap is_no_control_octet (same_octet octet n is) ∙ shown

between : (low top octet : ℕ) → 32 ≤ low → top < 127 → is_octet_between low top octet ≡ true → is_no_control_octet octet ≡ true
between low top octet least most is = grind (arith, is, least, most)

-- a mark of atext
mark : (octet : ℕ) → is_atext_mark octet ≡ true → is_no_control_octet octet ≡ true
mark octet =
    either _ (is_octet_between 123 126 octet)
    (either _ (is_octet_between 94 96 octet)
    (either _ (octet == 63)
    (either _ (octet == 61)
    (either _ (octet == 47) (either _ (octet == 45) (either _ (is_octet_between 42 43 octet) (either (octet == 33) (is_octet_between 35 39 octet) (is_it 33 octet refl) (between 35 39 octet (omega arith) (omega arith))) (between 42 43 octet (omega arith) (omega arith))) (is_it 45 octet refl)) (is_it 47 octet refl))
    (is_it 61 octet refl)) (is_it 63 octet refl)) (between 94 96 octet (omega arith) (omega arith))) (between 123 126 octet (omega arith) (omega arith))

atext : (octet : ℕ) → is_atext octet ≡ true → is_no_control_octet octet ≡ true
atext octet = either (is_let_dig octet || is_high octet) (is_atext_mark octet) (either (is_let_dig octet) (is_high octet) (let_dig octet) (high octet)) (mark octet)

qtext : (octet : ℕ) → is_qtext octet ≡ true → is_no_control_octet octet ≡ true
qtext octet is = grind (arith, is)

printable : (octet : ℕ) → is_printable octet ≡ true → is_no_control_octet octet ≡ true
printable octet is = grind (arith, is)

label : (octet : ℕ) → is_label_octet octet ≡ true → is_no_control_octet octet ≡ true
label octet is = grind (arith, is)

tag : (octet : ℕ) → is_tag_octet octet ≡ true → is_no_control_octet octet ≡ true
tag octet is = grind (arith, is)

dcontent : (octet : ℕ) → is_dcontent octet ≡ true → is_no_control_octet octet ≡ true
dcontent octet is = grind (arith, is)

digit : (octet : ℕ) → is_digit octet ≡ true → is_no_control_octet octet ≡ true
digit octet is = grind (arith, is)

-- ---- lists

append : (front rest : List ℕ) → are_shown front ≡ true → are_shown rest ≡ true → are_shown (front ++ rest) ≡ true
append front rest one two = list_all-append is_no_control_octet front rest ∙ rw one two

dot_shown : (octet : ℕ) → is_dot octet ≡ true → is_no_control_octet octet ≡ true
dot_shown octet is = grind (arith, is)

-- parts between dots
dots_shown : (text : List ℕ) → list_all are_shown (slice_split is_dot text) ≡ true → are_shown text ≡ true
dots_shown = split_all is_dot is_no_control_octet dot_shown

colon_shown : (octet : ℕ) → is_colon octet ≡ true → is_no_control_octet octet ≡ true
colon_shown octet is = grind (arith, is)

-- ---- local parts

atom : (part : List ℕ) → is_smtp_atom part ≡ true → are_shown part ≡ true
atom part is = all_by is_atext is_no_control_octet atext part (both (is_filled part) (list_all is_atext part) is).1

quoted_part : (part : List ℕ) → is_qcontent part ≡ true → are_shown part ≡ true
quoted_part [] is = absurd (cc is)
quoted_part (octet ∷ []) is = rw (qtext octet is) refl
quoted_part (first ∷ octet ∷ []) is =
    let here = both (first == 92) (is_printable octet) is in
    let slash : is_no_control_octet first ≡ true = grind (arith, here.0) in
    rw (slash, printable octet here.1) refl
quoted_part (first ∷ second ∷ third ∷ rest) is = absurd (cc is)

joined_shown : (parts : List (List ℕ)) → list_all are_shown parts ≡ true → are_shown (joined_parts parts) ≡ true
joined_shown [] each = refl
joined_shown (part ∷ parts) each =
    let here = both (are_shown part) (list_all are_shown parts) each in
    append part (joined_parts parts) here.0 (joined_shown parts here.1)

closed : (text : List ℕ) → ClosesQuotes text [] → are_shown text ≡ true
closed text closes =
    ap are_shown closes.written ∙ append (joined_parts closes.parts) (34 ∷ []) (joined_shown closes.parts (each_by is_no_control_octet is_qcontent quoted_part closes.parts closes.each)) refl

local_shown : (local : List ℕ) → IsLocal local → are_shown local ≡ true
local_shown local (inl is) = dots_shown local (each_by is_no_control_octet is_smtp_atom atom (slice_split is_dot local) is)
local_shown local (inr (text, is, closes)) = ap are_shown is ∙ closed text closes

-- ---- hosts

label_shown : (part : List ℕ) → is_label part ≡ true → are_shown part ≡ true
label_shown part is =
    let front = both (begins_well part && list_all is_label_octet part) (ends_well part) is in
    all_by is_label_octet is_no_control_octet label part (both (begins_well part) (list_all is_label_octet part) front.0).1

number_shown : (part : List ℕ) → is_ipv4_number part ≡ true → are_shown part ≡ true
number_shown part is =
    let front = both (is_filled part && nat_le (length part) 3 && list_all is_digit part) (nat_le (number_of part) 255) is in
    all_by is_digit is_no_control_octet digit part (both (is_filled part && nat_le (length part) 3) (list_all is_digit part) front.0).1

tagged_shown : (text : List ℕ) → IsTagged text → are_shown text ≡ true
tagged_shown text is =
    let content = both (is_filled is.content) (list_all is_dcontent is.content) is.each in
    ap are_shown is.written ∙ append is.tag (58 ∷ is.content)
    (all_by is_tag_octet is_no_control_octet tag is.tag (both (list_all is_tag_octet is.tag) (ends_well is.tag) is.named).0) (all_by is_dcontent is_no_control_octet dcontent is.content content.1)

-- ---- IPv6

hex_shown : (octet : ℕ) → is_ascii_hexdigit octet ≡ true → is_no_control_octet octet ≡ true
hex_shown octet is = grind (arith, is)

group_shown : (part : List ℕ) → is_group part ≡ true → are_shown part ≡ true
group_shown part is = all_by is_ascii_hexdigit is_no_control_octet hex_shown part (both (is_filled part && nat_le (length part) 4) (list_all is_ascii_hexdigit part) is).1

groups_shown : (text : List ℕ) (n : ℕ) → groups_of text ≡ Some n → are_shown text ≡ true
groups_shown text n is = split_all is_colon is_no_control_octet colon_shown text (each_by is_no_control_octet is_group group_shown (between_colons text) (are_groups text n is))

some_shown : (text : List ℕ) (n : ℕ) → some_groups_of text ≡ Some n → are_shown text ≡ true
some_shown [] n is = refl
some_shown (octet ∷ text) n is = groups_shown (octet ∷ text) n is

ipv4_shown : (text : List ℕ) → is_ipv4 text ≡ true → are_shown text ≡ true
ipv4_shown text is = dots_shown text (each_by is_no_control_octet is_ipv4_number number_shown (slice_split is_dot text) (both (length (slice_split is_dot text) == 4) (list_all is_ipv4_number (slice_split is_dot text)) is).1)

mixed_shown : (text : List ℕ) (n : ℕ) → AreGroupsAndIpv4 text n → are_shown text ≡ true
mixed_shown text n is = ap are_shown is.written ∙ append is.groups (58 ∷ is.address) (groups_shown is.groups n is.counted) (ipv4_shown is.address is.is)

ends_shown : (text : List ℕ) (n : ℕ) → EndsInIpv4 text n → are_shown text ≡ true
ends_shown text n (inl is) = ipv4_shown text is.0
ends_shown text n (inr is) = mixed_shown text n is

ipv6_shown : (text : List ℕ) → IsIpv6 text → are_shown text ≡ true
ipv6_shown text (inl is) = groups_shown text 8 is
ipv6_shown text (inr (inl is)) = ap are_shown is.written ∙ append is.front (58 ∷ 58 ∷ is.rest) (some_shown is.front is.before is.ahead) (some_shown is.rest is.behind is.after)
ipv6_shown text (inr (inr (inl is))) = mixed_shown text 6 is
ipv6_shown text (inr (inr (inr is))) = ap are_shown is.written ∙ append is.front (58 ∷ 58 ∷ is.rest) (some_shown is.front is.before is.ahead) (ends_shown is.rest is.behind is.after)

-- the tag of one
ipv6_tag_shown : (word tag : List ℕ) → are_shown word ≡ true → pointwise nat_eq (lowered tag) word ≡ true → are_shown tag ≡ true
ipv6_tag_shown word [] shown is = refl
ipv6_tag_shown [] (octet ∷ tag) shown is = absurd (cc is)
ipv6_tag_shown (letter ∷ word) (octet ∷ tag) shown is =
    let here = both (nat_eq (to_ascii_lowercase octet) letter) (pointwise nat_eq (lowered tag) word) is in
    let all = both (is_no_control_octet letter) (are_shown word) shown in
    rw (lower_shown octet letter all.0 here.0) (ipv6_tag_shown word tag all.1 here.1)
  where
    lower_shown : (octet letter : ℕ) → is_no_control_octet letter ≡ true → nat_eq (to_ascii_lowercase octet) letter ≡ true → is_no_control_octet octet ≡ true
    lower_shown octet letter shown is = grind (arith, shown, is)

ipv6_tagged_shown : (text : List ℕ) → IsIpv6Tagged text → are_shown text ≡ true
ipv6_tagged_shown text is =
    ap are_shown is.written ∙ append is.tag (58 ∷ is.address) (ipv6_tag_shown (codes "ipv6") is.tag refl is.named) (ipv6_shown is.address is.is)

inner_shown : (text : List ℕ) → IsInner text → are_shown text ≡ true
inner_shown text (inl is) = ipv4_shown text is
inner_shown text (inr (inl is)) = ipv6_tagged_shown text is
inner_shown text (inr (inr is)) = tagged_shown text is

host_shown : (text : List ℕ) → IsHost text → are_shown text ≡ true
host_shown text (inl is) = dots_shown text (each_by is_no_control_octet is_label label_shown (slice_split is_dot text) is)
host_shown text (inr is) = ap are_shown is.written ∙ append (91 ∷ is.inner) (93 ∷ []) (inner_shown is.inner is.is) refl

pub mailbox_stands : MailboxStands
mailbox_stands = record {
  shown = λ text is. ap are_shown is.cut.written ∙ append is.cut.local (64 ∷ is.host) (local_shown is.cut.local is.cut.is) (host_shown is.host is.is);
}
