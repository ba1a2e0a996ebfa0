-- Lemmas on tests of texts.
use Rattle.std.proofs.Common.{◌≡◌, ◌↔◌, ℕ, zero, suc, ◌+◌, ◌<◌, ◌≤◌, Bool, true, false, ◌==◌, ◌&&◌, ◌||◌, Option, None, Some, List, [], ◌∷◌, length, get_or, map, refl, sym, ap, ◌∙◌, take, codes, arith, IsTrue}
use Rattle.mail_head.proofs.FoldLemmas.{and_left, and_right}
use Rattle.std.proofs.lemmas.Bool.{false_from_ne_true, eqb-true, false≢true}
use Rattle.std.proofs.lemmas.Slice.Eq.{bytes_eq-Decides}
use Rattle.std.specs.Char.{to_ascii_lowercase}
use Rattle.std.specs.Str.{str_eq_ignore_ascii_case}
use Rattle.memchr.specs.Find.{FindsNeedle}
use Rattle.std.specs.Option.{is_some}
use Rattle.std.proofs.Common.{Result, Ok, Err, Bor, is_ok}
use Rattle.std.specs.Prelude.{MatchResult, IsUtf8}
use Rattle.std.specs.Str.{is_utf8, IsValidUpTo}
use Rattle.std.proofs.lemmas.Str.{is_utf8-from_IsUtf8, IsUtf8-from_is_utf8}
use Rattle.mail_words.specs.Charsets.{charset_of}
use Rattle.mail_words.specs.Headers.{begins_question, has_mark}

-- texts that a comparison without ASCII case found different
pub differ : (test : Bool) (xs ys : List ℕ) → (IsTrue test ↔ (map to_ascii_lowercase xs ≡ map to_ascii_lowercase ys)) → test ≡ false → str_eq_ignore_ascii_case xs ys ≡ false
differ test xs ys iff fails =
    false_from_ne_true (str_eq_ignore_ascii_case xs ys) (λ same.
    let equal = (bytes_eq-Decides (map to_ascii_lowercase xs) (map to_ascii_lowercase ys)).0 same in
    false≢true (sym fails ∙ iff.1 equal))

or_right : (a b : Bool) → b ≡ true → (a || b) ≡ true
or_right true b holds = refl
or_right false b holds = holds

-- `=?` at a place of a text
pub mark_at : (text : List ℕ) (k : ℕ) → k + 2 ≤ length text → get_or text k 0 ≡ 61 → get_or text (suc k) 0 ≡ 63 → has_mark text ≡ true
mark_at [] k fits mark question = absurd (omega arith)
mark_at (octet ∷ []) k fits mark question = absurd (omega arith)
mark_at (octet ∷ (next ∷ rest)) zero fits mark question = rw (mark, question) refl
mark_at (octet ∷ (next ∷ rest)) (suc k) fits mark question =
    or_right (octet == 61 && next == 63) (has_mark (next ∷ rest)) (mark_at (next ∷ rest) k (omega arith) mark question)

-- a name that is none of them
pub unnamed : (name : List ℕ) → str_eq_ignore_ascii_case name (codes "utf-8") ≡ false → str_eq_ignore_ascii_case name (codes "us-ascii") ≡ false
    → str_eq_ignore_ascii_case (take 9 name) (codes "iso-8859-") ≡ false → charset_of name ≡ None
unnamed name utf8 ascii iso = rw (utf8, ascii, iso) refl

mark_cond : (a b : Bool) → a ≡ false → b ≡ false → (a || b) ≡ false
mark_cond a b p q = rw (p, q) refl

no_mark_here : (octet : ℕ) (rest : List ℕ) → (2 ≤ length (octet ∷ rest) → octet ≡ 61 → get_or rest 0 0 ≡ 63 → ⊥) → (octet == 61 && begins_question rest) ≡ false
no_mark_here octet [] none = and_no (octet == 61) where
  and_no : (a : Bool) → (a && false) ≡ false
  and_no true = refl
  and_no false = refl
no_mark_here octet (next ∷ rest) none =
    false_from_ne_true (octet == 61 && next == 63) (λ both. none (omega arith) (eqb-true octet 61 (and_left _ _ both)) (eqb-true next 63 (and_right (octet == 61) (next == 63) both)))

-- `=?` at no place
pub mark_none : (text : List ℕ) → ((k : ℕ) → k + 2 ≤ length text → get_or text k 0 ≡ 61 → get_or text (suc k) 0 ≡ 63 → ⊥) → has_mark text ≡ false
mark_none [] none = refl
mark_none (octet ∷ rest) none =
    mark_cond (octet == 61 && begins_question rest) (has_mark rest)
    (no_mark_here octet rest (λ long mark question. none 0 (omega arith) mark question))
    (mark_none rest (λ k fits mark question. none (suc k) (omega arith) mark question))

mark_reads : (text : List ℕ) (k : ℕ) → get_or text k 0 ≡ 61 → get_or text (suc k) 0 ≡ 63 → (j : ℕ) → j < 2 → get_or text (k + j) 0 ≡ get_or (61 ∷ 63 ∷ []) j 0
mark_reads text k mark question zero small = let here : k + 0 ≡ k = omega arith in ap (λ i. get_or text i 0) here ∙ mark
mark_reads text k mark question (suc zero) small = let here : k + 1 ≡ suc k = omega arith in ap (λ i. get_or text i 0) here ∙ question
mark_reads text k mark question (suc (suc j)) small = absurd (omega arith)

-- what a search for `=?` says
pub mark_found : (text : List ℕ) (found : Option ℕ) → FindsNeedle text (61 ∷ 63 ∷ []) 0 found → is_some found ≡ has_mark text
mark_found text None none =
    sym (mark_none text (λ k fits mark question. none k (omega arith) (omega arith) (record { fits = fits; reads = mark_reads text k mark question })))
mark_found text (Some k) found =
    let here : k ≡ k + 0 = omega arith in
    let next : suc k ≡ k + 1 = omega arith in
    sym (mark_at text k found.1.fits (ap (λ i. get_or text i 0) here ∙ found.1.reads 0 (omega arith)) (ap (λ i. get_or text i 0) next ∙ found.1.reads 1 (omega arith)))

-- what `from_utf8` says
pub utf8_found : {E : Type 0} (valid : E → ℕ) (octets : List ℕ) (found : Result (Bor (List ℕ)) E)
    → MatchResult found (λ s. (s.now ≡ octets) × IsUtf8 octets) (λ e. ¬ (IsUtf8 octets) × IsValidUpTo octets (valid e)) → is_ok found ≡ is_utf8 octets
utf8_found valid octets (Ok s) is = sym (is_utf8-from_IsUtf8 octets is.1)
utf8_found valid octets (Err e) is = sym (false_from_ne_true (is_utf8 octets) (λ yes. is.0 (IsUtf8-from_is_utf8 octets yes)))
