-- Texts on lines of their own.
use Rattle.std.proofs.Common.{◌≡◌, ℕ, ◌==◌, Bool, true, false, ◌&&◌, ◌||◌, cond, not, List, [], ◌∷◌, ◌++◌, length, take, drop, refl, sym, ap, ◌∙◌, nat_le, arith}
use Rattle.std.proofs.lemmas.List.{append-nil, append_assoc}
use Rattle.std.proofs.lemmas.List.Folds.{list_all-append}
use Rattle.std.specs.List.{list_all, prefix_len}
use Rattle.octets.specs.Ascii.{is_blank, is_printable}
use Rattle.mail_head.specs.Lines.{is_other, begins_blank}
use Rattle.mail_head.specs.Heads.{unfold_of}
use Rattle.mail_head.proofs.FoldLemmas.{and_left, and_right, and_true}
use Rattle.mail_words.specs.Runs.{is_nonblank, begins_nonblank}
use Rattle.mail_words.specs.Written.{has_nonblank, fold_before, folded, lines_for}
use Rattle.mail_words.proofs.RunLemmas.{IsFront, front_cut}
use Rattle.mail_words.proofs.ReadBackLemmas.{printable_other, unfold_plain, unfold_printable, unfold_crlf}

-- ---- what is folded says the text again

begins_folded : (text : List ℕ) → begins_blank (folded text) ≡ begins_blank text
begins_folded [] = refl
begins_folded (octet ∷ rest) = refl

others_on : (front : List ℕ) (octet : ℕ) → list_all is_other front ≡ true → is_printable octet ≡ true → list_all is_other (front ++ octet ∷ []) ≡ true
others_on front octet others printable = list_all-append is_other front (octet ∷ []) ∙ and_true _ _ others (and_true _ _ (printable_other octet printable) refl)

-- CRLF stands behind an octet or not
mark_at : (nonblank blank more test : Bool) → (nonblank && (blank && more)) ≡ test
    → cond nonblank (cond {A = List ℕ} (blank && more) (13 ∷ 10 ∷ []) []) [] ≡ cond {A = List ℕ} test (13 ∷ 10 ∷ []) []
mark_at true blank more test is = ap (λ t. cond {A = List ℕ} t (13 ∷ 10 ∷ []) []) is
mark_at false blank more test is = ap (λ t. cond {A = List ℕ} t (13 ∷ 10 ∷ []) []) is

marked : (octet : ℕ) (rest : List ℕ) (test : Bool) → (is_nonblank octet && (begins_blank rest && has_nonblank rest)) ≡ test
    → cond (is_nonblank octet) (fold_before rest) [] ≡ cond {A = List ℕ} test (13 ∷ 10 ∷ []) []
marked octet rest test is = mark_at (is_nonblank octet) (begins_blank rest) (has_nonblank rest) test is

unfold_at : (front : List ℕ) (octet : ℕ) (rest : List ℕ) (test : Bool) → (is_nonblank octet && (begins_blank rest && has_nonblank rest)) ≡ test
    → list_all is_other (front ++ octet ∷ []) ≡ true → unfold_of ([] ++ folded rest) ≡ [] ++ rest
    → unfold_of ((front ++ octet ∷ []) ++ folded rest) ≡ (front ++ octet ∷ []) ++ rest → unfold_of (front ++ folded (octet ∷ rest)) ≡ front ++ octet ∷ rest
unfold_at front octet rest true is longer anew on =
    let blank : begins_blank (folded rest) ≡ true = begins_folded rest ∙ and_left _ _ (and_right (is_nonblank octet) (begins_blank rest && has_nonblank rest) is) in
    let spelled : front ++ folded (octet ∷ rest) ≡ ((front ++ octet ∷ []) ++ (13 ∷ 10 ∷ [])) ++ folded rest =
    ap (λ t. front ++ octet ∷ (t ++ folded rest)) (marked octet rest true is)
    ∙ (sym (append_assoc front (octet ∷ []) (13 ∷ 10 ∷ folded rest)) ∙ sym (append_assoc (front ++ octet ∷ []) (13 ∷ 10 ∷ []) (folded rest))) in
    ap unfold_of spelled ∙ (unfold_crlf (front ++ octet ∷ []) (folded rest) longer blank
    ∙ (ap (λ t. (front ++ octet ∷ []) ++ t) anew ∙ append_assoc front (octet ∷ []) rest))
unfold_at front octet rest false is longer anew on =
    let spelled : front ++ folded (octet ∷ rest) ≡ (front ++ octet ∷ []) ++ folded rest =
    ap (λ t. front ++ octet ∷ (t ++ folded rest)) (marked octet rest false is) ∙ sym (append_assoc front (octet ∷ []) (folded rest)) in
    ap unfold_of spelled ∙ (on ∙ append_assoc front (octet ∷ []) rest)

unfold_after : (front text : List ℕ) → list_all is_other front ≡ true → list_all is_printable text ≡ true → unfold_of (front ++ folded text) ≡ front ++ text
unfold_after front [] others printable =
    ap unfold_of (append-nil front) ∙ (unfold_plain front others ∙ sym (append-nil front))
unfold_after front (octet ∷ rest) others printable =
    let longer = others_on front octet others (and_left _ _ printable) in
    let more = and_right (is_printable octet) (list_all is_printable rest) printable in
    unfold_at front octet rest (is_nonblank octet && (begins_blank rest && has_nonblank rest)) refl longer
    (unfold_after [] rest refl more) (unfold_after (front ++ octet ∷ []) rest longer more)

lines_at : (short : Bool) (text : List ℕ) → list_all is_printable text ≡ true → unfold_of (cond short text (folded text)) ≡ text
lines_at true text printable = unfold_printable text printable
lines_at false text printable = unfold_after [] text refl printable

-- a text on its lines unfolds to the text
pub unfold_lines : (text : List ℕ) → list_all is_printable text ≡ true → unfold_of (lines_for text) ≡ text
unfold_lines text = lines_at (nat_le (length text) 200) text

-- ---- how it is folded, from run to run

-- blanks stand as they are
blanks_folded : (blanks rest : List ℕ) → list_all is_blank blanks ≡ true → folded (blanks ++ rest) ≡ blanks ++ folded rest
blanks_folded [] rest all = refl
blanks_folded (blank ∷ blanks) rest all =
    let blank_is : is_blank blank ≡ true = and_left _ _ all in
    let later = blanks_folded blanks rest (and_right (is_blank blank) (list_all is_blank blanks) all) in
    rw (blank_is, later) refl

-- a run is folded behind its last octet
run_folded : (octet : ℕ) (run after : List ℕ) → list_all is_nonblank (octet ∷ run) ≡ true → folded ((octet ∷ run) ++ after) ≡ (octet ∷ run) ++ (fold_before after ++ folded after)
run_folded octet [] after all =
    let first : is_nonblank octet ≡ true = and_left _ _ all in
    ap (λ t. octet ∷ (cond t (fold_before after) [] ++ folded after)) first
run_folded octet (next ∷ run) after all =
    let first : is_nonblank octet ≡ true = and_left _ _ all in
    let rest : list_all is_nonblank (next ∷ run) ≡ true = and_right (is_nonblank octet) (list_all is_nonblank (next ∷ run)) all in
    let begins : is_blank next ≡ false = other next (and_left _ _ rest) in
    let none : fold_before ((next ∷ run) ++ after) ≡ [] = rw begins refl in
    ap (λ t. octet ∷ (cond t (fold_before ((next ∷ run) ++ after)) [] ++ folded ((next ∷ run) ++ after))) first
    ∙ (ap (λ t. octet ∷ (t ++ folded ((next ∷ run) ++ after))) none ∙ ap (λ t. octet ∷ t) (run_folded next run after rest)) where
      other : (o : ℕ) → is_nonblank o ≡ true → is_blank o ≡ false
      other o nonblank = turned (is_blank o) nonblank where
        turned : (test : Bool) → not test ≡ true → test ≡ false
        turned true none = absurd (cc none)
        turned false is = refl

-- no other octet stands in blanks
blanks_alone : (blanks rest : List ℕ) → list_all is_blank blanks ≡ true → has_nonblank (blanks ++ rest) ≡ has_nonblank rest
blanks_alone [] rest all = refl
blanks_alone (blank ∷ blanks) rest all =
    let blank_is : is_blank blank ≡ true = and_left _ _ all in
    let later = blanks_alone blanks rest (and_right (is_blank blank) (list_all is_blank blanks) all) in
    rw (blank_is, later) refl

abbrev pub empty : List ℕ → Bool
empty [] = true
empty (octet ∷ rest) = false

-- where it is folded before blanks and a run
before_front : (blanks run after : List ℕ) → list_all is_blank blanks ≡ true → list_all is_nonblank run ≡ true → begins_nonblank after ≡ false → (run ≡ [] → after ≡ [])
    → fold_before (blanks ++ (run ++ after)) ≡ cond {A = List ℕ} (not (empty blanks || empty run)) (13 ∷ 10 ∷ []) []
before_front [] [] after blank nonblank ends last = let end = last refl in rw end refl
before_front [] (octet ∷ run) after blank nonblank ends last =
    let first : is_nonblank octet ≡ true = and_left _ _ nonblank in
    turned (is_blank octet) refl first where
      turned : (test : Bool) → is_blank octet ≡ test → not test ≡ true → cond {A = List ℕ} (is_blank octet && has_nonblank ((octet ∷ run) ++ after)) (13 ∷ 10 ∷ []) [] ≡ []
      turned true is none = absurd (cc none)
      turned false is some = rw is refl
before_front (octet ∷ blanks) [] after blank nonblank ends last =
    let end = last refl in
    let first : is_blank octet ≡ true = and_left _ _ blank in
    let none : has_nonblank ((octet ∷ blanks) ++ []) ≡ false = blanks_alone (octet ∷ blanks) [] blank in
    let spelled : fold_before ((octet ∷ blanks) ++ ([] ++ after)) ≡ fold_before ((octet ∷ blanks) ++ []) = ap (λ t. fold_before ((octet ∷ blanks) ++ t)) end in
    spelled ∙ (ap (λ t. cond {A = List ℕ} (t && has_nonblank ((octet ∷ blanks) ++ [])) (13 ∷ 10 ∷ []) []) first
    ∙ ap (λ t. cond {A = List ℕ} t (13 ∷ 10 ∷ []) []) none)
before_front (octet ∷ blanks) (next ∷ run) after blank nonblank ends last =
    let first : is_blank octet ≡ true = and_left _ _ blank in
    let other : is_nonblank next ≡ true = and_left _ _ nonblank in
    let some : has_nonblank ((octet ∷ blanks) ++ ((next ∷ run) ++ after)) ≡ true = blanks_alone (octet ∷ blanks) ((next ∷ run) ++ after) blank ∙ ap (λ t. t || has_nonblank (run ++ after)) other in
    ap (λ t. cond {A = List ℕ} (t && has_nonblank ((octet ∷ blanks) ++ ((next ∷ run) ++ after))) (13 ∷ 10 ∷ []) []) first
    ∙ ap (λ t. cond {A = List ℕ} t (13 ∷ 10 ∷ []) []) some

-- what was written of a text, and what is to follow
abbrev pub to_follow : List ℕ → List ℕ → List ℕ
to_follow value rest = cond (not (empty value)) (fold_before rest) [] ++ folded rest

front_folded : (blanks run after : List ℕ) → list_all is_blank blanks ≡ true → list_all is_nonblank run ≡ true → begins_nonblank after ≡ false → (run ≡ [] → after ≡ [])
    → folded (blanks ++ (run ++ after)) ≡ blanks ++ (run ++ (cond (not (empty run)) (fold_before after) [] ++ folded after))
front_folded blanks [] after blank nonblank ends last = let end = last refl in blanks_folded blanks after blank ∙ rw end refl
front_folded blanks (octet ∷ run) after blank nonblank ends last =
    blanks_folded blanks ((octet ∷ run) ++ after) blank ∙ ap (λ t. blanks ++ t) (run_folded octet run after nonblank)

-- where it is known which are empty, what ends the line
ended_by : (v b r : Bool) → cond (not v) (cond {A = List ℕ} (not (b || r)) (13 ∷ 10 ∷ []) []) [] ≡ cond {A = List ℕ} (v || (b || r)) [] (13 ∷ 10 ∷ [])
ended_by true b r = refl
ended_by false true r = refl
ended_by false false true = refl
ended_by false false false = refl

appended : (text : List ℕ) (octet : ℕ) (rest : List ℕ) → empty (text ++ octet ∷ rest) ≡ false
appended [] octet rest = refl
appended (first ∷ text) octet rest = refl

-- what follows a run, said of all that was written
goes_on_at : (with_blanks run after : List ℕ) → (run ≡ [] → after ≡ [])
    → cond (not (empty (with_blanks ++ run))) (fold_before after) [] ++ folded after ≡ cond (not (empty run)) (fold_before after) [] ++ folded after
goes_on_at with_blanks [] after last = let end = last refl in none (empty (with_blanks ++ [])) after end where
  none : (test : Bool) (after : List ℕ) → after ≡ [] → cond (not test) (fold_before after) [] ++ folded after ≡ folded after
  none true after end = refl
  none false after end = rw end refl
goes_on_at with_blanks (octet ∷ run) after last = ap (λ t. cond (not t) (fold_before after) [] ++ folded after) (appended with_blanks octet run)

pub no_octets : (text : List ℕ) → (length text == 0) ≡ empty text
no_octets [] = refl
no_octets (octet ∷ rest) = grind arith

-- a front more was written
pub fold_step : (text value with_end with_blanks with_run rest blanks tail run after ended : List ℕ)
    → value ++ to_follow value rest ≡ folded text
    → blanks ≡ take (prefix_len is_blank rest) rest → tail ≡ drop (prefix_len is_blank rest) rest
    → run ≡ take (prefix_len is_nonblank tail) tail → after ≡ drop (prefix_len is_nonblank tail) tail
    → ended ≡ cond ((length value == 0) || ((length blanks == 0) || (length run == 0))) [] (13 ∷ 10 ∷ [])
    → with_end ≡ value ++ ended → with_blanks ≡ with_end ++ blanks → with_run ≡ with_blanks ++ run
    → with_run ++ to_follow with_run after ≡ folded text
fold_step text value with_end with_blanks with_run rest blanks tail run after ended so_far b r d a e first second third =
    let front : IsFront rest blanks run after = front_cut rest blanks tail run after b r d a in
    let follows = cond (not (empty run)) (fold_before after) [] ++ folded after in
    let marked_front : fold_before rest ≡ cond {A = List ℕ} (not (empty blanks || empty run)) (13 ∷ 10 ∷ []) [] =
    ap fold_before front.whole ∙ before_front blanks run after front.blank front.nonblank front.ends front.last in
    let said : ended ≡ cond {A = List ℕ} (empty value || (empty blanks || empty run)) [] (13 ∷ 10 ∷ []) =
    e ∙ (ap (λ t. cond {A = List ℕ} (t || ((length blanks == 0) || (length run == 0))) [] (13 ∷ 10 ∷ [])) (no_octets value)
    ∙ (ap (λ t. cond {A = List ℕ} (empty value || (t || (length run == 0))) [] (13 ∷ 10 ∷ [])) (no_octets blanks)
    ∙ ap (λ t. cond {A = List ℕ} (empty value || (empty blanks || t)) [] (13 ∷ 10 ∷ [])) (no_octets run))) in
    let end : cond (not (empty value)) (fold_before rest) [] ≡ ended =
    ap (λ t. cond (not (empty value)) t []) marked_front ∙ (ended_by (empty value) (empty blanks) (empty run) ∙ sym said) in
    let rests : folded rest ≡ blanks ++ (run ++ follows) = ap folded front.whole ∙ front_folded blanks run after front.blank front.nonblank front.ends front.last in
    let whole : value ++ (ended ++ (blanks ++ (run ++ follows))) ≡ folded text =
    ap (λ t. value ++ (t ++ (blanks ++ (run ++ follows)))) (sym end) ∙ (ap (λ t. value ++ (cond (not (empty value)) (fold_before rest) [] ++ t)) (sym rests) ∙ so_far) in
    let spelled : with_run ≡ ((value ++ ended) ++ blanks) ++ run = third ∙ ap (λ t. t ++ run) (second ∙ ap (λ t. t ++ blanks) first) in
    ap (λ t. with_run ++ t) (ap (λ t. cond (not (empty t)) (fold_before after) [] ++ folded after) third ∙ goes_on_at with_blanks run after front.last)
    ∙ (ap (λ t. t ++ follows) spelled
    ∙ (append_assoc ((value ++ ended) ++ blanks) run follows
    ∙ (append_assoc (value ++ ended) blanks (run ++ follows)
    ∙ (append_assoc value ended (blanks ++ (run ++ follows)) ∙ whole))))

-- nothing is left
pub fold_ends : (value rest text : List ℕ) → value ++ to_follow value rest ≡ folded text → (length rest == 0) ≡ true → value ≡ folded text
fold_ends value [] text so_far ends = sym (append-nil value) ∙ (ap (λ t. value ++ t) (sym (nothing (empty value))) ∙ so_far) where
  nothing : (test : Bool) → cond (not test) (fold_before []) [] ++ folded [] ≡ []
  nothing true = refl
  nothing false = refl
fold_ends value (octet ∷ rest) text so_far ends = absurd (cc (sym ends ∙ no_octets (octet ∷ rest)))
