-- Mailboxes, octet by octet.
use Rattle.std.proofs.Common.{codes, ◌⊎◌, ◌≡◌, ℕ, suc, ◌-◌, ◌<◌, ◌≤◌, ◌==◌, ◌&&◌, ◌||◌, not, Bool, true, false, List, [], ◌∷◌, ◌++◌, length, take, drop, get_or, Option, Some, None, Result, Ok, Err, is_ok, Bor, inl, inr, refl, sym, ap, ◌∙◌, subst, append-nil, append_assoc, arith}
use Rattle.std.proofs.lemmas.Bool.{false_from_ne_true}
use Rattle.std.specs.Prelude.{nat_eq, MatchResult, IsUtf8, IfSome, IfNone}
use Rattle.std.specs.Str.{is_utf8, IsValidUpTo}
use Rattle.std.proofs.lemmas.Str.{IsUtf8-from_is_utf8, is_utf8-from_IsUtf8}
use Rattle.std.specs.List.{list_all, slice_split, onto_first, prefix_len}
use Rattle.mail_head.proofs.FormLemmas.{list_all-prefix}
use Rattle.std.proofs.Math.Seq.{drop-cons}
use Rattle.std.proofs.lemmas.List.{take-append-drop, length-drop}
use Rattle.std.proofs.lemmas.List.Folds.{list_all-append}
use Rattle.std.proofs.lemmas.List.Sums.{passes_at_first}
use Rattle.octets.specs.Ascii.{is_printable, lowered}
use Rattle.std.specs.Char.{to_ascii_lowercase}
use Rattle.std.specs.Cmp.Lexicographic.{pointwise}
use Rattle.smtp_dialogue.specs.Addresses.{IsIpv6, is_dot}
use Rattle.smtp_dialogue.specs.Mailboxes.{CutsAtOctet, HasNoMark, CutsLocal, CutsDotted, ClosesQuotes, IsLocal, IsHost, IsSmtpMailbox, IsIpv6Tagged, IsTagged, TagSays, is_ipv6_tag, is_smtp_atom, is_atext, is_high, is_dot_string, is_qcontent, is_label_end, is_tag_octet, is_tag, is_content, ends_well, joined_parts, behind_quotes}

-- ---- truth values

pub both : (a b : Bool) → (a && b) ≡ true → (a ≡ true) × (b ≡ true)
both true true is = (refl, refl)
both true false is = absurd (cc)
both false true is = absurd (cc)
both false false is = absurd (cc)

pub same_octet : (a b : ℕ) → (a == b) ≡ true → a ≡ b
same_octet a b is = grind (arith, is)

own : (a : ℕ) → (a == a) ≡ true
own a = grind arith

-- ---- lists

pub head_of : (a b : ℕ) (xs ys : List ℕ) → a ∷ xs ≡ b ∷ ys → a ≡ b
head_of a b xs ys same = grind (arith, same)

pub tail_of : (a b : ℕ) (xs ys : List ℕ) → a ∷ xs ≡ b ∷ ys → xs ≡ ys
tail_of a b xs ys same = grind (arith, same)

pub no_octets : (text : List ℕ) → length text ≡ 0 → text ≡ []
no_octets [] none = refl
no_octets (octet ∷ text) none = absurd (omega (arith, none))

pub ends-snoc : (front : List ℕ) (octet : ℕ) → ends_well (front ++ octet ∷ []) ≡ is_label_end octet
ends-snoc [] octet = refl
ends-snoc (a ∷ []) octet = refl
ends-snoc (a ∷ b ∷ front) octet = ends-snoc (b ∷ front) octet

-- ---- the first such octet

abbrev other : ℕ → ℕ → Bool
other mark octet = not (octet == mark)

abbrev is : ℕ → ℕ → Bool
is mark octet = octet == mark

pub first_cut : (mark : ℕ) (text front rest : List ℕ) (octet count : ℕ) → count ≡ prefix_len (other mark) text → count ≤ length text → front ≡ take count text → drop count text ≡ octet ∷ rest
    → CutsAtOctet mark text front rest
first_cut mark text front rest octet count value within ahead behind =
    let some : length (drop count text) ≡ length (octet ∷ rest) = ap length behind in
    let size : length (drop count text) ≡ length text - count = length-drop count text in
    let less : count < length text = omega (arith, some, size) in
    let there : get_or text count 0 ≡ octet = sym (head_of octet (get_or text count 0) rest (drop (suc count) text) (sym behind ∙ drop-cons text count 0 less)) in
    let at : prefix_len (other mark) text < length text = omega (arith, value) in
    let passes : (get_or text (prefix_len (other mark) text) 0 == mark) ≡ true = passes_at_first (is mark) text 0 at in
    let same : octet ≡ mark = same_octet octet mark (ap (λ n. n == mark) (sym there ∙ ap (λ n. get_or text n 0) value) ∙ passes) in
    record {
      written = sym (take-append-drop count text) ∙ (ap (λ t. take count text ++ t) (behind ∙ ap (λ o. o ∷ rest) same) ∙ ap (λ t. t ++ mark ∷ rest) (sym ahead));
      first = ap (list_all (other mark)) (ahead ∙ ap (λ n. take n text) value) ∙ list_all-prefix (other mark) text;
    }

pub no_cut : (mark : ℕ) (text : List ℕ) (count : ℕ) → count ≡ prefix_len (other mark) text → drop count text ≡ [] → HasNoMark mark text
no_cut mark text count value behind = λ front rest written.
    let whole : take count text ≡ text = sym (append-nil (take count text)) ∙ (ap (λ t. take count text ++ t) (sym behind) ∙ take-append-drop count text) in
    let all : list_all (other mark) text ≡ true = ap (list_all (other mark)) (sym whole ∙ ap (λ n. take n text) value) ∙ list_all-prefix (other mark) text in
    let parts = both (list_all (other mark) front) (list_all (other mark) (mark ∷ rest)) (sym (list_all-append (other mark) front (mark ∷ rest)) ∙ (ap (list_all (other mark)) (sym written) ∙ all)) in
    let here = both (other mark mark) (list_all (other mark) rest) parts.1 in
    absurd (cc (sym here.0 ∙ ap not (own mark)))

-- a text is cut at an octet in one way
pub one_cut : (mark : ℕ) (a c b d : List ℕ) → a ++ mark ∷ b ≡ c ++ mark ∷ d → list_all (other mark) a ≡ true → list_all (other mark) c ≡ true → (a ≡ c) × (b ≡ d)
one_cut mark [] [] b d same one two = (refl, tail_of mark mark b d same)
one_cut mark [] (y ∷ c) b d same one two =
    let here = both (other mark y) (list_all (other mark) c) two in
    let first : mark ≡ y = head_of mark y b (c ++ mark ∷ d) same in
    absurd (cc (sym here.0 ∙ (ap (other mark) (sym first) ∙ ap not (own mark))))
one_cut mark (x ∷ a) [] b d same one two =
    let here = both (other mark x) (list_all (other mark) a) one in
    let first : x ≡ mark = head_of x mark (a ++ mark ∷ b) d same in
    absurd (cc (sym here.0 ∙ (ap (other mark) first ∙ ap not (own mark))))
one_cut mark (x ∷ a) (y ∷ c) b d same one two =
    let first : x ≡ y = head_of x y (a ++ mark ∷ b) (c ++ mark ∷ d) same in
    let later = one_cut mark a c b d (tail_of x y (a ++ mark ∷ b) (c ++ mark ∷ d) same) (both (other mark x) (list_all (other mark) a) one).1 (both (other mark y) (list_all (other mark) c) two).1 in
    (ap (λ o. o ∷ a) first ∙ ap (λ t. y ∷ t) later.0, later.1)

-- octets of a kind that a mark isn't of
other_by : (p : ℕ → Bool) (mark octet : ℕ) (same : Bool) → p mark ≡ false → p octet ≡ true → (octet == mark) ≡ same → other mark octet ≡ true
other_by p mark octet true apart is_one test = absurd (cc (sym is_one ∙ (ap p (same_octet octet mark test) ∙ apart)))
other_by p mark octet false apart is_one test = ap not test

pub all_other : (p : ℕ → Bool) (mark : ℕ) → p mark ≡ false → (text : List ℕ) → list_all p text ≡ true → list_all (other mark) text ≡ true
all_other p mark apart [] each = refl
all_other p mark apart (octet ∷ text) each =
    let here = both (p octet) (list_all p text) each in
    let one = other_by p mark octet (octet == mark) apart here.0 refl in
    rw one (all_other p mark apart text here.1)

-- ---- a Dot-string

abbrev dotted_octet : ℕ → Bool
dotted_octet octet = is_atext octet || is_dot octet

abbrev all_atext : List ℕ → Bool
all_atext text = list_all is_atext text

atoms : (parts : List (List ℕ)) → list_all is_smtp_atom parts ≡ true → list_all all_atext parts ≡ true
atoms [] each = refl
atoms ([] ∷ parts) each = absurd (cc each)
atoms ((octet ∷ part) ∷ parts) each =
    let here = both (is_smtp_atom (octet ∷ part)) (list_all is_smtp_atom parts) each in
    rw here.0 (atoms parts here.1)

or_true : (a : Bool) → (a || true) ≡ true
or_true true = refl
or_true false = refl

joins : (octet : ℕ) (parts : List (List ℕ)) → list_all all_atext (onto_first octet parts) ≡ true → (is_atext octet ≡ true) × (list_all all_atext parts ≡ true)
joins octet [] each = let here = both (all_atext (octet ∷ [])) true each in ((both (is_atext octet) true here.0).0, refl)
joins octet (part ∷ parts) each =
    let here = both (all_atext (octet ∷ part)) (list_all all_atext parts) each in
    let first = both (is_atext octet) (all_atext part) here.0 in
    (first.0, rw first.1 here.1)

split_by : (octet : ℕ) (text : List ℕ) (dot : Bool) → is_dot octet ≡ dot → list_all all_atext (slice_split is_dot (octet ∷ text)) ≡ true
    → (dotted_octet octet ≡ true) × (list_all all_atext (slice_split is_dot text) ≡ true)
split_by octet text true test each =
    let here : list_all all_atext ([] ∷ slice_split is_dot text) ≡ true = rw test at each in
    (rw test (or_true (is_atext octet)), here)
split_by octet text false test each =
    let here : list_all all_atext (onto_first octet (slice_split is_dot text)) ≡ true = rw test at each in
    let parts = joins octet (slice_split is_dot text) here in
    (rw parts.0 refl, parts.1)

octets_of : (text : List ℕ) → list_all all_atext (slice_split is_dot text) ≡ true → list_all dotted_octet text ≡ true
octets_of [] each = refl
octets_of (octet ∷ text) each =
    let here = split_by octet text (is_dot octet) refl each in
    rw here.0 (octets_of text here.1)

dotted : (text : List ℕ) → is_dot_string text ≡ true → list_all dotted_octet text ≡ true
dotted text each = octets_of text (atoms (slice_split is_dot text) each)

-- it has no `@`
no_at : (text : List ℕ) → is_dot_string text ≡ true → list_all (other 64) text ≡ true
no_at text each = all_other dotted_octet 64 refl text (dotted text each)

pub one_dotted : (text front rest host : List ℕ) → CutsAtOctet 64 text front rest → CutsDotted text host → (host ≡ rest) × (is_dot_string front ≡ true)
one_dotted text front rest host cut is_one =
    let same = one_cut 64 is_one.local front host rest (sym is_one.written ∙ cut.written) (no_at is_one.local is_one.is) cut.first in
    (same.1, ap is_dot_string (sym same.0) ∙ is_one.is)

-- nor does it begin with a quotation mark
pub no_dotted : (inner host : List ℕ) → CutsDotted (34 ∷ inner) host → ⊥
no_dotted inner host cut = by_local cut.local cut.written cut.is
  where
    by_local : (local : List ℕ) → 34 ∷ inner ≡ local ++ 64 ∷ host → is_dot_string local ≡ true → ⊥
    by_local [] written each = let h : 34 ≡ 64 = head_of 34 64 inner host written in absurd (omega (arith, h))
    by_local (octet ∷ local) written each =
        let first : 34 ≡ octet = head_of 34 octet inner (local ++ 64 ∷ host) written in
        let here = both (dotted_octet octet) (list_all dotted_octet local) (dotted (octet ∷ local) each) in
        let no : dotted_octet 34 ≡ true = ap dotted_octet first ∙ here.0 in
        absurd (cc no)

-- ---- a tag

no_colon : (tag : List ℕ) → is_tag tag ≡ true → list_all (other 58) tag ≡ true
no_colon tag named = all_other is_tag_octet 58 refl tag (both (list_all is_tag_octet tag) (ends_well tag) named).0

-- a word in upper or lower case has no colon where the word has none
word_octet : (octet letter : ℕ) → other 58 letter ≡ true → nat_eq (to_ascii_lowercase octet) letter ≡ true → other 58 octet ≡ true
word_octet octet letter apart is = grind (arith, apart, is)

word_colon : (word tag : List ℕ) → list_all (other 58) word ≡ true → pointwise nat_eq (lowered tag) word ≡ true → list_all (other 58) tag ≡ true
word_colon word [] apart is = refl
word_colon [] (octet ∷ tag) apart is = absurd (cc is)
word_colon (letter ∷ word) (octet ∷ tag) apart is =
    let here = both (nat_eq (to_ascii_lowercase octet) letter) (pointwise nat_eq (lowered tag) word) is in
    let all = both (other 58 letter) (list_all (other 58) word) apart in
    rw (word_octet octet letter all.0 here.0) (word_colon word tag all.1 here.1)

ipv6_colon : (tag : List ℕ) → is_ipv6_tag tag ≡ true → list_all (other 58) tag ≡ true
ipv6_colon tag named = word_colon (codes "ipv6") tag refl named

pub one_tagged : (text front rest : List ℕ) → CutsAtOctet 58 text front rest → IsIpv6Tagged text ⊎ IsTagged text → TagSays front rest
one_tagged text front rest cut (inl is) =
    let same = one_cut 58 is.tag front is.address rest (sym is.written ∙ cut.written) (ipv6_colon is.tag is.named) cut.first in
    inl (ap is_ipv6_tag (sym same.0) ∙ is.named, subst IsIpv6 same.1 is.is)
one_tagged text front rest cut (inr is) =
    let same = one_cut 58 is.tag front is.content rest (sym is.written ∙ cut.written) (no_colon is.tag is.named) cut.first in
    inr (ap is_ipv6_tag (sym same.0) ∙ is.other, ap is_tag (sym same.0) ∙ is.named, ap is_content (sym same.1) ∙ is.each)

pub is_tagged : (text front rest : List ℕ) → CutsAtOctet 58 text front rest → TagSays front rest → IsIpv6Tagged text ⊎ IsTagged text
is_tagged text front rest cut (inl says) = inl (record { tag = front; address = rest; written = cut.written; named = says.0; is = says.1 })
is_tagged text front rest cut (inr says) = inr (record { tag = front; content = rest; written = cut.written; other = says.0; named = says.1; each = says.2 })

-- ---- a quoted string

plain : (octet : ℕ) (more : List ℕ) (mark slash : Bool) → (octet == 34) ≡ mark → (octet == 92) ≡ slash → (is_printable octet || is_high octet) ≡ true
    → not (octet == 34 || octet == 92) ≡ true → behind_quotes false (octet ∷ more) ≡ behind_quotes false more
plain octet more false false first second shown none = rw (first, second, shown) refl
plain octet more true slash first second shown none = let no : not true ≡ true = rw first at none in absurd (cc no)
plain octet more false true first second shown none = let no : not true ≡ true = rw (first, second) at none in absurd (cc no)

-- one part in front
part_first : (part more : List ℕ) → is_qcontent part ≡ true → behind_quotes false (part ++ more) ≡ behind_quotes false more
part_first [] more is_part = absurd (cc is_part)
part_first (octet ∷ []) more is_part =
    let parts = both (is_printable octet || is_high octet) (not (octet == 34 || octet == 92)) is_part in
    plain octet more (octet == 34) (octet == 92) refl refl parts.0 parts.1
part_first (first ∷ octet ∷ []) more is_part =
    let parts = both (first == 92) (is_printable octet) is_part in
    let slash : first ≡ 92 = same_octet first 92 parts.0 in
    ap (λ o. behind_quotes false (o ∷ octet ∷ more)) slash ∙ rw parts.1 refl
part_first (first ∷ second ∷ third ∷ part) more is_part = absurd (cc is_part)

parts_first : (parts : List (List ℕ)) (more : List ℕ) → list_all is_qcontent parts ≡ true → behind_quotes false (joined_parts parts ++ more) ≡ behind_quotes false more
parts_first [] more each = refl
parts_first (part ∷ parts) more each =
    let here = both (is_qcontent part) (list_all is_qcontent parts) each in
    ap (behind_quotes false) (append_assoc part (joined_parts parts) more) ∙ (part_first part (joined_parts parts ++ more) here.0 ∙ parts_first parts more here.1)

pub closes_forth : (text rest : List ℕ) → ClosesQuotes text rest → behind_quotes false text ≡ Some rest
closes_forth text rest closes = ap (behind_quotes false) closes.written ∙ parts_first closes.parts (34 ∷ rest) closes.each

-- from behind a backslash on
record Escaped (text rest : List ℕ) : Type 0 where
  octet : ℕ
  behind : List ℕ
  written : text ≡ octet ∷ behind
  shown : is_printable octet ≡ true
  closes : ClosesQuotes behind rest

abbrev ClosesFrom : Bool → List ℕ → List ℕ → Type 0
ClosesFrom false text rest = ClosesQuotes text rest
ClosesFrom true text rest = Escaped text rest

with_part : (part text rest : List ℕ) → is_qcontent part ≡ true → ClosesQuotes text rest → ClosesQuotes (part ++ text) rest
with_part part text rest is_part closes = record {
  parts = part ∷ closes.parts;
  each = rw is_part closes.each;
  written = ap (λ t. part ++ t) closes.written ∙ sym (append_assoc part (joined_parts closes.parts) (34 ∷ rest));
}

escaped_by : (octet : ℕ) (text rest : List ℕ) (shown : Bool) → is_printable octet ≡ shown → behind_quotes true (octet ∷ text) ≡ Some rest
    → ((behind_quotes false text ≡ Some rest) × (is_printable octet ≡ true))
escaped_by octet text rest true test is_one = let here : behind_quotes false text ≡ Some rest = rw test at is_one in (here, test)
escaped_by octet text rest false test is_one = let here : None ≡ Some rest = rw test at is_one in absurd (cc here)

some_of : (a b : List ℕ) → Some a ≡ Some b → a ≡ b
some_of a b same = grind (arith, same)

with_pair : (octet : ℕ) (text rest : List ℕ) → octet ≡ 92 → Escaped text rest → ClosesQuotes (octet ∷ text) rest
with_pair octet text rest slash it =
    let whole : octet ∷ text ≡ (92 ∷ it.octet ∷ []) ++ it.behind = ap (λ o. o ∷ text) slash ∙ ap (λ t. 92 ∷ t) it.written in
    subst (λ t. ClosesQuotes t rest) (sym whole) (with_part (92 ∷ it.octet ∷ []) it.behind rest it.shown it.closes)

closes_back_by : (octet : ℕ) (text rest : List ℕ) (mark slash shown : Bool) → (octet == 34) ≡ mark → (octet == 92) ≡ slash → (is_printable octet || is_high octet) ≡ shown
    → behind_quotes false (octet ∷ text) ≡ Some rest
    → (behind_quotes false text ≡ Some rest → ClosesQuotes text rest) → (behind_quotes true text ≡ Some rest → Escaped text rest) → ClosesQuotes (octet ∷ text) rest
closes_back_by octet text rest true slash shown first second third is_one later escaped =
    let here : Some text ≡ Some rest = rw first at is_one in
    record { parts = []; each = refl; written = ap (λ o. o ∷ text) (same_octet octet 34 first) ∙ ap (λ t. 34 ∷ t) (some_of text rest here) }
closes_back_by octet text rest false true shown first second third is_one later escaped =
    let here : behind_quotes true text ≡ Some rest = rw (first, second) at is_one in
    with_pair octet text rest (same_octet octet 92 second) (escaped here)
closes_back_by octet text rest false false true first second third is_one later escaped =
    let here : behind_quotes false text ≡ Some rest = rw (first, second, third) at is_one in
    with_part (octet ∷ []) text rest (rw (first, second, third) refl) (later here)
closes_back_by octet text rest false false false first second third is_one later escaped =
    let here : None ≡ Some rest = rw (first, second, third) at is_one in absurd (cc here)

closes_from : (escaped : Bool) (text rest : List ℕ) → behind_quotes escaped text ≡ Some rest → ClosesFrom escaped text rest
closes_from false [] rest is_one = absurd (cc is_one)
closes_from true [] rest is_one = absurd (cc is_one)
closes_from true (octet ∷ text) rest is_one =
    let here = escaped_by octet text rest (is_printable octet) refl is_one in
    record { octet = octet; behind = text; written = refl; shown = here.1; closes = closes_from false text rest here.0 }
closes_from false (octet ∷ text) rest is_one =
    closes_back_by octet text rest (octet == 34) (octet == 92) (is_printable octet || is_high octet) refl refl refl is_one (closes_from false text rest) (closes_from true text rest)

pub closes_back : (text rest : List ℕ) → behind_quotes false text ≡ Some rest → ClosesQuotes text rest
closes_back text rest is_one = closes_from false text rest is_one

-- a quoted string closes in one way
pub one_close : (inner behind host : List ℕ) → behind_quotes false inner ≡ Some behind → ClosesQuotes inner (64 ∷ host) → behind ≡ 64 ∷ host
one_close inner behind host is_one closes = some_of behind (64 ∷ host) (sym is_one ∙ closes_forth inner (64 ∷ host) closes)

pub same_host : (a b : List ℕ) → 64 ∷ a ≡ 64 ∷ b → b ≡ a
same_host a b same = sym (tail_of 64 64 a b same)

-- ---- local parts

pub dotted_cut : (text host : List ℕ) → CutsDotted text host → CutsLocal text host
dotted_cut text host cut = record { local = cut.local; written = cut.written; is = inl cut.is }

pub quoted_cut : (inner host : List ℕ) → ClosesQuotes inner (64 ∷ host) → CutsLocal (34 ∷ inner) host
quoted_cut inner host closes =
    let local = joined_parts closes.parts ++ 34 ∷ [] in
    record {
      local = 34 ∷ local;
      written = ap (λ t. 34 ∷ t) (closes.written ∙ sym (append_assoc (joined_parts closes.parts) (34 ∷ []) (64 ∷ host)));
      is = inr (local, refl, record { parts = closes.parts; each = closes.each; written = refl });
    }

quoted_back : (text host local inner : List ℕ) → text ≡ local ++ 64 ∷ host → local ≡ 34 ∷ inner → ClosesQuotes inner [] → (rest : List ℕ) × (text ≡ 34 ∷ rest) × ClosesQuotes rest (64 ∷ host)
quoted_back text host local inner written quoted closes = (
  inner ++ 64 ∷ host,
  written ∙ ap (λ l. l ++ 64 ∷ host) quoted,
  record {
    parts = closes.parts;
    each = closes.each;
    written = ap (λ t. t ++ 64 ∷ host) closes.written ∙ append_assoc (joined_parts closes.parts) (34 ∷ []) (64 ∷ host);
  },
)

-- behind a quotation mark it is a quoted string
pub cut_quoted : (inner host : List ℕ) → CutsLocal (34 ∷ inner) host → ClosesQuotes inner (64 ∷ host)
cut_quoted inner host cut = by_kind cut.is
  where
    by_kind : IsLocal cut.local → ClosesQuotes inner (64 ∷ host)
    by_kind (inl each) = absurd (no_dotted inner host (record { local = cut.local; written = cut.written; is = each }))
    by_kind (inr quoted) =
        let it = quoted_back (34 ∷ inner) host cut.local quoted.0 cut.written quoted.1 quoted.2 in
        subst (λ t. ClosesQuotes t (64 ∷ host)) (sym (tail_of 34 34 inner it.0 it.1)) it.2

-- and elsewhere a Dot-string
pub cut_dotted : (text host : List ℕ) → ((inner : List ℕ) → text ≡ 34 ∷ inner → ⊥) → CutsLocal text host → CutsDotted text host
cut_dotted text host unquoted cut = by_kind cut.is
  where
    by_kind : IsLocal cut.local → CutsDotted text host
    by_kind (inl each) = record { local = cut.local; written = cut.written; is = each }
    by_kind (inr quoted) = let it = quoted_back text host cut.local quoted.0 cut.written quoted.1 quoted.2 in absurd (unquoted it.0 it.1)

-- ---- results

pub some_by : {A : Type 0} {P Q : A → Type 0} (o : Option A) → IfSome o P → ((x : A) → P x → Q x) → IfSome o Q
some_by None is_one by = tt
some_by (Some x) is_one by = by x is_one

pub none_by : {A : Type 0} {P Q : Type 0} (o : Option A) → IfNone o P → (P → Q) → IfNone o Q
none_by None is_one by = by is_one
none_by (Some x) is_one by = tt

-- ---- all of it

pub not_by_host : (text host : List ℕ) → ((other : List ℕ) → CutsLocal text other → other ≡ host) → (IsHost host → ⊥) → IsSmtpMailbox text → ⊥
not_by_host text host one none box = none (subst IsHost (one box.host box.cut) box.is)

-- what `from_utf8` says
pub utf8_found : {E : Type 0} (valid : E → ℕ) (octets : List ℕ) (found : Result (Bor (List ℕ)) E)
    → MatchResult found (λ s. (s.now ≡ octets) × IsUtf8 octets) (λ e. ¬ (IsUtf8 octets) × IsValidUpTo octets (valid e)) → is_ok found ≡ is_utf8 octets
utf8_found valid octets (Ok s) read = sym (is_utf8-from_IsUtf8 octets read.1)
utf8_found valid octets (Err e) read = sym (false_from_ne_true (is_utf8 octets) (λ yes. read.0 (IsUtf8-from_is_utf8 octets yes)))
