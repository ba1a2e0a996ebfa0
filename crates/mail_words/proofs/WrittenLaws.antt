-- Texts that are written with the words that their writer encoded.
use Rattle.std.proofs.Common.{◌≡◌, ℕ, Bool, true, false, ◌==◌, ◌&&◌, List, [], ◌∷◌, take, drop, refl, sym, ap, ◌∙◌, arith}
use Rattle.std.proofs.lemmas.Bool.Decides.{nat_tests}
use Rattle.std.specs.Prelude.{IsUtf8}
use Rattle.std.specs.List.{list_all, prefix_len}
use Rattle.octets.specs.Ascii.{is_blank, is_printable}
use Rattle.base64.specs.GeneralPurpose.{IsBytes}
use Rattle.mail_head.specs.Heads.{unfold_of}
use Rattle.mail_head.proofs.FoldLemmas.{and_left, and_right}
use Rattle.mail_words.specs.Runs.{is_nonblank, runs_of}
use Rattle.mail_words.specs.Values.{decoded_text}
use Rattle.mail_words.specs.Headers.{has_mark}
use Rattle.mail_words.specs.Written.{is_written_run, has_written_words, is_phrase_run, has_phrase_words, IsWrittenText}
use Rattle.mail_words.specs.Laws.{IsSaid}
use Rattle.mail_words.proofs.PieceLaws.{one_value}
use Rattle.mail_words.proofs.ReadBackLemmas.{read_back}
use Rattle.mail_words.proofs.FoldingLemmas.{unfold_lines}
use Rattle.mail_words.proofs.RunLemmas.{front_cut, passes_both, passes_step}

said_at : (stands : Bool) (text value : List ℕ) → has_written_words text ≡ stands → IsBytes text → IsUtf8 text → IsSaid text value
said_at true text value is bytes valid written =
    let printable : list_all is_printable text ≡ true = and_left _ _ (and_right (has_mark text) (list_all is_printable text && list_all is_written_run (runs_of text)) is) in
    let same : decoded_text (unfold_of value) ≡ decoded_text text = ap (λ t. decoded_text (unfold_of t)) (written.stands is) ∙ ap decoded_text (unfold_lines text printable) in
    rw is same
said_at false text value is bytes valid written = rw is (read_back text value bytes valid (written.encoded is))

-- what was written says what it is to say
pub written_said : (text value : List ℕ) → IsBytes text → IsUtf8 text → IsSaid text value
written_said text value = said_at (has_written_words text) text value refl

written_at : (stands : Bool) (text one two : List ℕ) → has_written_words text ≡ stands → IsWrittenText text one → IsWrittenText text two → one ≡ two
written_at true text one two is first second = first.stands is ∙ sym (second.stands is)
written_at false text one two is first second = one_value text one two (first.encoded is) (second.encoded is)

-- a text is written in one way
pub one_written : (text one two : List ℕ) → IsWrittenText text one → IsWrittenText text two → one ≡ two
one_written text one two = written_at (has_written_words text) text one two refl

-- a front more was looked at, by a test that the empty run passes
pub runs_step : (p : List ℕ → Bool) (text blanks rest run after : List ℕ) → p [] ≡ true
    → blanks ≡ take (prefix_len is_blank text) text → rest ≡ drop (prefix_len is_blank text) text
    → run ≡ take (prefix_len is_nonblank rest) rest → after ≡ drop (prefix_len is_nonblank rest) rest
    → list_all p (runs_of text) ≡ (p blanks && (p run && list_all p (runs_of after)))
runs_step p text blanks rest run after none b r d a = passes_both p text blanks run after (front_cut text blanks rest run after b r d a) none

two_pass : (one two more : Bool) → one && two ≡ true → (one && (two && more)) ≡ more
two_pass true true more pass = refl
two_pass true false more pass = absurd (cc pass)
two_pass false two more pass = absurd (cc pass)

two_fail : (one two more : Bool) → one && two ≡ false → (one && (two && more)) ≡ false
two_fail true true more fail = absurd (cc fail)
two_fail true false more fail = refl
two_fail false two more fail = refl

-- and passed
pub runs_passed : (p : List ℕ → Bool) (text blanks rest run after : List ℕ) (passed : Bool) → p [] ≡ true
    → blanks ≡ take (prefix_len is_blank text) text → rest ≡ drop (prefix_len is_blank text) text
    → run ≡ take (prefix_len is_nonblank rest) rest → after ≡ drop (prefix_len is_nonblank rest) rest → passed ≡ (p blanks && p run) → passed ≡ true
    → list_all p (runs_of after) ≡ list_all p (runs_of text)
runs_passed p text blanks rest run after passed none b r d a test holds =
    sym (runs_step p text blanks rest run after none b r d a ∙ two_pass (p blanks) (p run) (list_all p (runs_of after)) (sym test ∙ holds))

-- and failed
pub runs_failed : (p : List ℕ → Bool) (text blanks rest run after : List ℕ) (passed : Bool) → p [] ≡ true
    → blanks ≡ take (prefix_len is_blank text) text → rest ≡ drop (prefix_len is_blank text) text
    → run ≡ take (prefix_len is_nonblank rest) rest → after ≡ drop (prefix_len is_nonblank rest) rest → passed ≡ (p blanks && p run) → passed ≡ false
    → false ≡ list_all p (runs_of text)
runs_failed p text blanks rest run after passed none b r d a test fails =
    sym (runs_step p text blanks rest run after none b r d a ∙ two_fail (p blanks) (p run) (list_all p (runs_of after)) (sym test ∙ fails))

-- ---- words in a phrase

blank_mark : (octet : ℕ) → is_blank octet ≡ true → (octet == 61) ≡ false
blank_mark octet blank = grind (arith, nat_tests)

-- no `=?` stands in blanks
blanks_unmarked : (blanks : List ℕ) → list_all is_blank blanks ≡ true → has_mark blanks ≡ false
blanks_unmarked [] all = refl
blanks_unmarked (blank ∷ blanks) all =
    let other = blank_mark blank (and_left _ _ all) in
    let later = blanks_unmarked blanks (and_right (is_blank blank) (list_all is_blank blanks) all) in
    rw (other, later) refl

-- a front more was looked at
pub phrase_step : (text blanks rest run after : List ℕ) → blanks ≡ take (prefix_len is_blank text) text → rest ≡ drop (prefix_len is_blank text) text
    → run ≡ take (prefix_len is_nonblank rest) rest → after ≡ drop (prefix_len is_nonblank rest) rest
    → has_phrase_words text ≡ (is_phrase_run run && has_phrase_words after)
phrase_step text blanks rest run after b r d a =
    let front = front_cut text blanks rest run after b r d a in
    let unmarked = blanks_unmarked blanks front.blank in
    let pass : is_phrase_run blanks ≡ true = rw unmarked refl in
    passes_step is_phrase_run text blanks run after front refl pass

-- and passed
pub phrase_passed : (text blanks rest run after : List ℕ) (passed : Bool) → blanks ≡ take (prefix_len is_blank text) text → rest ≡ drop (prefix_len is_blank text) text
    → run ≡ take (prefix_len is_nonblank rest) rest → after ≡ drop (prefix_len is_nonblank rest) rest → passed ≡ is_phrase_run run → passed ≡ true
    → has_phrase_words after ≡ has_phrase_words text
phrase_passed text blanks rest run after passed b r d a test holds =
    sym (phrase_step text blanks rest run after b r d a ∙ ap (λ t. t && has_phrase_words after) (sym test ∙ holds))

-- and failed
pub phrase_failed : (text blanks rest run after : List ℕ) (passed : Bool) → blanks ≡ take (prefix_len is_blank text) text → rest ≡ drop (prefix_len is_blank text) text
    → run ≡ take (prefix_len is_nonblank rest) rest → after ≡ drop (prefix_len is_nonblank rest) rest → passed ≡ is_phrase_run run → passed ≡ false
    → false ≡ has_phrase_words text
phrase_failed text blanks rest run after passed b r d a test fails =
    sym (phrase_step text blanks rest run after b r d a ∙ ap (λ t. t && has_phrase_words after) (sym test ∙ fails))
