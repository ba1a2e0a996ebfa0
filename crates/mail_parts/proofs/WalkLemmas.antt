-- Lemmas on reading the parts one by one.
use Rattle.std.proofs.Common.{◌≡◌, ℕ, zero, suc, ◌+◌, ◌-◌, ◌<◌, ◌≤◌, ◌==◌, ◌≢◌, Bool, true, false, ◌&&◌, ◌||◌, not, Option, None, Some, List, [], ◌∷◌, ◌++◌, length, take, refl, sym, ap, ◌∙◌, arith}
use Rattle.std.proofs.lemmas.List.{append_assoc, append-nil, take_at, take_all, length-append}
use Rattle.std.proofs.lemmas.List.Folds.{list_any-append}
use Rattle.std.proofs.lemmas.Bool.{false_from_ne_true, eqb-true, eq-eqb, false≢true}
use Rattle.std.specs.List.{list_any}
use Rattle.std.specs.Prelude.{IsTrue, ◌↔◌, is_some}
use Rattle.mail_parts.specs.Entities.{entity_type, entity_encoding}
use Rattle.mail_parts.specs.Parts.{PartText, part_of, entity_parts, entity_texts, is_multipart_digest, inner_texts, has_texts, is_cut}
use Rattle.mail_parts.specs.PartReading.{texts_by, texts_left, maybe_texts, texts_below, ReadsEntity}
use Rattle.mail_parts.specs.Walks.{parts_in, parts_pending}
use Rattle.mail_parts.specs.declared.media_type.MediaType.{MediaType}
use Rattle.mail_parts.specs.declared.transfer_encoding.TransferEncoding.{TransferEncoding}
use Rattle.mail_parts.specs.declared.sections.Sections.{Sections}
use Rattle.mail_parts.specs.declared.walk.Pending.{Pending}

-- an entity is its own part, and then come those below it
pub parts-cut : (left : ℕ) (digest : Bool) (text : List ℕ)
    → entity_parts left digest text ≡ part_of text digest left ∷ parts_in (left - 1) (is_multipart_digest (entity_type digest text)) (texts_below (part_of text digest left))
unfolding entity_parts parts_in
parts-cut zero digest text = refl
parts-cut (suc left) digest text =
    let own = part_of text digest (suc left) in
    let inner = is_multipart_digest (entity_type digest text) in
    let down : left ≡ suc left - 1 = omega arith in
    let more : (suc left == 0) ≡ false = false_from_ne_true (suc left == 0) (λ yes. omega (arith, eqb-true (suc left) 0 yes)) in
    let below : texts_below own ≡ inner_texts digest text = rw more refl in
    ap (λ n. own ∷ parts_in n inner (inner_texts digest text)) down ∙ ap (λ texts. own ∷ parts_in (suc left - 1) inner texts) (sym below)

pub parts_in-cons : (left : ℕ) (digest : Bool) (text : List ℕ) (more : List (List ℕ)) → parts_in left digest (text ∷ more) ≡ entity_parts left digest text ++ parts_in left digest more
unfolding parts_in
parts_in-cons left digest text more = refl

pub parts_in-none : (left : ℕ) (digest : Bool) → parts_in left digest [] ≡ []
unfolding parts_in
parts_in-none left digest = refl

-- the last entry comes first
pub pending-push : (entries : List Pending) (entry : Pending) → parts_pending (entries ++ entry ∷ []) ≡ parts_in entry.left entry.digest (texts_left entry.sections) ++ parts_pending entries
pending-push [] entry = sym (append-nil (parts_in entry.left entry.digest (texts_left entry.sections)))
pending-push (first ∷ entries) entry =
    ap (λ parts. parts ++ parts_in first.left first.digest (texts_left first.sections)) (pending-push entries entry)
    ∙ append_assoc (parts_in entry.left entry.digest (texts_left entry.sections)) (parts_pending entries) (parts_in first.left first.digest (texts_left first.sections))

regroup : (front inner later rest : List PartText) (part : PartText) → (front ++ part ∷ []) ++ (inner ++ (later ++ rest)) ≡ front ++ (((part ∷ inner) ++ later) ++ rest)
regroup front inner later rest part = append_assoc front (part ∷ []) (inner ++ (later ++ rest)) ∙ ap (λ t. front ++ part ∷ t) (sym (append_assoc inner later rest))

-- a part was read, and what lies below it comes next
pub part_read : (read pushed all : List PartText) (entries : List Pending) (entry : Pending) (text : List ℕ) (later : List (List ℕ)) (others inner : List PartText)
    → read ++ parts_pending (entries ++ entry ∷ []) ≡ all
    → texts_left entry.sections ≡ text ∷ later
    → others ≡ parts_in entry.left entry.digest later ++ parts_pending entries
    → inner ≡ parts_in (entry.left - 1) (is_multipart_digest (entity_type entry.digest text)) (texts_below (part_of text entry.digest entry.left)) ++ others
    → pushed ≡ read ++ part_of text entry.digest entry.left ∷ []
    → pushed ++ inner ≡ all
part_read read pushed all entries entry text later others inner before cut others_are inner_are is =
    let below = parts_in (entry.left - 1) (is_multipart_digest (entity_type entry.digest text)) (texts_below (part_of text entry.digest entry.left)) in
    let rest = parts_in entry.left entry.digest later in
    let own : parts_in entry.left entry.digest (texts_left entry.sections) ≡ (part_of text entry.digest entry.left ∷ below) ++ rest =
    ap (parts_in entry.left entry.digest) cut
    ∙ (parts_in-cons entry.left entry.digest text later
    ∙ ap (λ t. t ++ rest) (parts-cut entry.left entry.digest text)) in
    ap (λ t. t ++ inner) is
    ∙ (ap (λ t. (read ++ part_of text entry.digest entry.left ∷ []) ++ t) (inner_are ∙ ap (λ t. below ++ t) others_are)
    ∙ (regroup read below rest (parts_pending entries) (part_of text entry.digest entry.left)
    ∙ (ap (λ t. read ++ (t ++ parts_pending entries)) (sym own)
    ∙ (ap (λ t. read ++ t) (sym (pending-push entries entry)) ∙ before))))

texts_some : (boundary : Option (List ℕ)) (text : List ℕ) → 0 < length (texts_by boundary text)
texts_some None text = omega arith
texts_some (Some b) text = omega arith

parts_some : (left : ℕ) (digest : Bool) (texts : List (List ℕ)) → 0 < length texts → 0 < length (parts_in left digest texts)
parts_some left digest [] some = absurd (omega arith)
parts_some left digest (text ∷ more) some =
    let cut = parts_in-cons left digest text more ∙ ap (λ t. t ++ parts_in left digest more) (parts-cut left digest text) in
    let size = ap length cut in
    omega (arith, size)

-- entries that are still to be read are parts
pub pending_some : (entries : List Pending) (entry : Pending) → 0 < length (parts_pending (entries ++ entry ∷ []))
pending_some entries entry =
    let size = ap length (pending-push entries entry) ∙ length-append (parts_in entry.left entry.digest (texts_left entry.sections)) (parts_pending entries) in
    let some = parts_some entry.left entry.digest (texts_left entry.sections) (texts_some entry.sections.boundary entry.sections.text.now) in
    omega (arith, size, some)

-- the message is the first entry
pub pending_first : (left : ℕ) (digest : Bool) (text : List ℕ) (pending : List PartText) → pending ≡ parts_in left digest (text ∷ []) ++ [] → pending ≡ entity_parts left digest text
pending_first left digest text pending is =
    is ∙ (append-nil (parts_in left digest (text ∷ []))
    ∙ (parts_in-cons left digest text []
    ∙ (ap (λ t. entity_parts left digest text ++ t) (parts_in-none left digest) ∙ append-nil (entity_parts left digest text))))

neither : (a b : Bool) → (not a && not b) ≡ not (a || (b || false))
neither true b = refl
neither false true = refl
neither false false = refl

some_by : (boundary : Option (List ℕ)) (text : List ℕ) → true ≡ has_texts (texts_by boundary text)
some_by None text = refl
some_by (Some boundary) text = refl

not_true : (test : Bool) → not test ≡ true → test ≡ false
not_true true is = absurd (cc is)
not_true false is = refl

-- nothing is left to be read
pub read_all : (most : ℕ) (complete : Bool) (parts pending all : List PartText) → parts ++ pending ≡ all → pending ≡ [] → length parts ≤ most
    → complete ≡ not (list_any is_cut parts)
    → (parts ≡ take most all) × (IsTrue complete ↔ ((length all ≤ most) × (list_any is_cut all ≡ false)))
read_all most complete parts pending all is none small flag =
    let same : all ≡ parts = sym is ∙ (ap (λ t. parts ++ t) none ∙ append-nil parts) in
    let cut : list_any is_cut all ≡ list_any is_cut parts = ap (list_any is_cut) same in (
      sym (ap (take most) same ∙ take_all most parts small),
      (
        λ yes. (omega (arith, ap length same, small), cut ∙ not_true (list_any is_cut parts) (sym flag ∙ yes)),
        λ both. flag ∙ ap not (sym cut ∙ both.1),
      ),
    )

-- as many as are read
pub read_first : (most : ℕ) (parts pending all : List PartText) → parts ++ pending ≡ all → 0 < length pending → length parts ≡ most
    → (parts ≡ take most all) × (IsTrue false ↔ ((length all ≤ most) × (list_any is_cut all ≡ false)))
read_first most parts pending all is some full =
    let size : length all ≡ length parts + length pending = ap length (sym is) ∙ length-append parts pending in
    (sym (ap (take most) (sym is) ∙ take_at parts pending most full), (λ no. absurd (false≢true no), λ both. absurd (omega (arith, size, some, full, both.0))))

-- one more part was read
pub flag_more : (parts pushed : List PartText) (part : PartText) (before after cut : Bool) → pushed ≡ parts ++ part ∷ []
    → before ≡ not (list_any is_cut parts) → cut ≡ is_cut part → after ≡ (before && not cut) → after ≡ not (list_any is_cut pushed)
flag_more parts pushed part before after cut is flag cut_is after_is =
    let any : list_any is_cut pushed ≡ (list_any is_cut parts || (is_cut part || false)) = ap (list_any is_cut) is ∙ list_any-append is_cut parts (part ∷ []) in
    let own : after ≡ (not (list_any is_cut parts) && not (is_cut part)) = after_is ∙ (ap (λ b. b && not cut) flag ∙ ap (λ b. not (list_any is_cut parts) && not b) cut_is) in
    own ∙ (neither (list_any is_cut parts) (is_cut part) ∙ ap not (sym any))

-- texts that were found are one at least
pub found_some : (found : Option Sections) → is_some found ≡ has_texts (maybe_texts found)
found_some None = refl
found_some (Some sections) = some_by sections.boundary sections.text.now

-- the answer of a part on the last level
pub cut_is : (digest : Bool) (text body : List ℕ) (left : ℕ) (media : MediaType) (encoding : TransferEncoding) (part : PartText) (found : Option Sections)
    → ReadsEntity digest text body media encoding → left ≡ 0 → part_of text digest left ≡ part → maybe_texts found ≡ entity_texts media encoding body
    → is_some found ≡ is_cut part
unfolding inner_texts
cut_is digest text body left media encoding part found reads none is texts =
    let last : (left == 0) ≡ true = eq-eqb left 0 none in
    let own : entity_texts media encoding body ≡ inner_texts digest text =
    ap (λ m. entity_texts m encoding body) reads.media_read
    ∙ (ap (λ e. entity_texts (entity_type digest text) e body) reads.encoding_read
    ∙ ap (λ b. entity_texts (entity_type digest text) (entity_encoding text) b) reads.body_read) in
    let flag : is_cut (part_of text digest left) ≡ has_texts (inner_texts digest text) = ap (λ t. t && has_texts (inner_texts digest text)) last in
    found_some found ∙ (ap has_texts (texts ∙ own) ∙ (sym flag ∙ ap is_cut is))

-- what is held of a part says what lies right below it
pub below_is : (digest : Bool) (text body : List ℕ) (left : ℕ) (media : MediaType) (encoding : TransferEncoding) (part : PartText)
    → ReadsEntity digest text body media encoding → left ≢ 0 → part_of text digest left ≡ part → entity_texts media encoding body ≡ texts_below part
unfolding inner_texts
below_is digest text body left media encoding part reads some is =
    let more : (left == 0) ≡ false = false_from_ne_true (left == 0) (λ yes. some (eqb-true left 0 yes)) in
    let own : entity_texts media encoding body ≡ inner_texts digest text =
    ap (λ m. entity_texts m encoding body) reads.media_read
    ∙ (ap (λ e. entity_texts (entity_type digest text) e body) reads.encoding_read
    ∙ ap (λ b. entity_texts (entity_type digest text) (entity_encoding text) b) reads.body_read) in
    let below : texts_below (part_of text digest left) ≡ inner_texts digest text = rw more refl in
    own ∙ (sym below ∙ ap texts_below is)

-- what lies right below a part that was read comes next
pub inner_from : (left level : ℕ) (flag digest : Bool) (part : PartText) (text : List ℕ) (media : MediaType) (texts : List (List ℕ)) (pending others : List PartText)
    → pending ≡ parts_in level flag texts ++ others → level ≡ left - 1 → flag ≡ is_multipart_digest media → media ≡ entity_type part.digest part.text
    → texts ≡ texts_below part → part ≡ part_of text digest left
    → pending ≡ parts_in (left - 1) (is_multipart_digest (entity_type digest text)) (texts_below (part_of text digest left)) ++ others
inner_from left level flag digest part text media texts pending others is level_is flag_is media_is texts_are part_is =
    let inner = is_multipart_digest (entity_type digest text) in
    let flagged : flag ≡ inner = flag_is ∙ ap is_multipart_digest (media_is ∙ ap (λ p. entity_type p.digest p.text) part_is) in
    let below : texts ≡ texts_below (part_of text digest left) = texts_are ∙ ap texts_below part_is in
    is
    ∙ (ap (λ k. parts_in k flag texts ++ others) level_is
    ∙ (ap (λ b. parts_in (left - 1) b texts ++ others) flagged
    ∙ ap (λ t. parts_in (left - 1) inner t ++ others) below))
