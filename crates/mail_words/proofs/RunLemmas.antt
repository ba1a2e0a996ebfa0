-- Lemmas on the runs of a text, and on what they give.
use Rattle.std.proofs.Common.{◌≡◌, ◌≢◌, ℕ, ◌+◌, ◌<◌, Bool, true, false, cond, ◌==◌, ◌&&◌, not, Option, None, Some, List, [], ◌∷◌, ◌++◌, length, take, drop, refl, sym, ap, ◌∙◌, arith}
use Rattle.std.proofs.lemmas.List.{append_assoc, take-append-drop, length-drop}
use Rattle.std.specs.List.{list_all, prefix_len}
use Rattle.std.specs.Option.{unwrap_or, is_some, option_map}
use Rattle.std.proofs.lemmas.Bool.{true≢false}
use Rattle.std.proofs.Math.Numerals.{one-add}
use Rattle.octets.specs.Ascii.{is_blank}
use Rattle.mail_head.specs.Lines.{begins_blank}
use Rattle.mail_head.proofs.FoldLemmas.{and_left, and_right}
use Rattle.mail_head.proofs.FormLemmas.{list_all-prefix, begins}
use Rattle.mail_words.specs.Runs.{is_nonblank, begins_nonblank, before_runs, runs_of}
use Rattle.mail_words.specs.Words.{encoded_word_text, is_encoded_word}
use Rattle.mail_words.specs.Values.{given_from}

-- the first run begins as the text does
pub record StartsRuns (octet : ℕ) (runs : List (List ℕ)) : Type 0 where
  pub run : List ℕ
  pub more : List (List ℕ)
  pub is : runs ≡ (octet ∷ run) ∷ more

start_cond : (test : Bool) (octet : ℕ) (run : List ℕ) (more : List (List ℕ)) → StartsRuns octet (cond test ((octet ∷ run) ∷ more) ((octet ∷ []) ∷ run ∷ more))
start_cond true octet run more = record { run = run; more = more; is = refl }
start_cond false octet run more = record { run = []; more = run ∷ more; is = refl }

start_before : (octet : ℕ) (runs : List (List ℕ)) → StartsRuns octet (before_runs octet runs)
start_before octet [] = record { run = []; more = []; is = refl }
start_before octet (run ∷ more) = start_cond (cond (is_blank octet) (begins_blank run) (begins_nonblank run)) octet run more

not_blank_from : (octet : ℕ) → is_nonblank octet ≡ true → is_blank octet ≡ false
not_blank_from octet nonblank = not_true (is_blank octet) nonblank where
  not_true : (test : Bool) → not test ≡ true → test ≡ false
  not_true true h = absurd (cc h)
  not_true false h = refl

apart_nonblank : (octet : ℕ) (after : List ℕ) → is_nonblank octet ≡ true → begins_nonblank after ≡ false → before_runs octet (runs_of after) ≡ (octet ∷ []) ∷ runs_of after
apart_nonblank octet [] nonblank ends = refl
apart_nonblank octet (next ∷ rest) nonblank ends =
    let start = start_before next (runs_of rest) in
    let blank = not_blank_from octet nonblank in
    rw (start.is, blank, ends) refl

-- a run of other octets is the first run
pub runs_nonblank : (run after : List ℕ) → run ≢ [] → list_all is_nonblank run ≡ true → begins_nonblank after ≡ false → runs_of (run ++ after) ≡ run ∷ runs_of after
runs_nonblank [] after present all ends = absurd (present refl)
runs_nonblank (octet ∷ []) after present all ends = apart_nonblank octet after (and_left _ _ all) ends
runs_nonblank (octet ∷ (next ∷ run)) after present all ends =
    let later = runs_nonblank (next ∷ run) after (λ none. absurd (cc none)) (and_right _ _ all) ends in
    let blank = not_blank_from octet (and_left _ _ all) in
    let nonblank : is_nonblank next ≡ true = and_left _ _ (and_right (is_nonblank octet) (list_all is_nonblank (next ∷ run)) all) in
    rw (later, blank, nonblank) refl

apart_blank : (octet : ℕ) (after : List ℕ) → is_blank octet ≡ true → begins_blank after ≡ false → before_runs octet (runs_of after) ≡ (octet ∷ []) ∷ runs_of after
apart_blank octet [] blank ends = refl
apart_blank octet (next ∷ rest) blank ends =
    let start = start_before next (runs_of rest) in
    rw (start.is, blank, ends) refl

-- a run of blanks is the first run
pub runs_blank : (run after : List ℕ) → run ≢ [] → list_all is_blank run ≡ true → begins_blank after ≡ false → runs_of (run ++ after) ≡ run ∷ runs_of after
runs_blank [] after present all ends = absurd (present refl)
runs_blank (octet ∷ []) after present all ends = apart_blank octet after (and_left _ _ all) ends
runs_blank (octet ∷ (next ∷ run)) after present all ends =
    let later = runs_blank (next ∷ run) after (λ none. absurd (cc none)) (and_right _ _ all) ends in
    let blank : is_blank octet ≡ true = and_left _ _ all in
    let other : is_blank next ≡ true = and_left _ _ (and_right (is_blank octet) (list_all is_blank (next ∷ run)) all) in
    rw (later, blank, other) refl

nonblank_not_blank : (run : List ℕ) → list_all is_nonblank run ≡ true → begins_blank run ≡ false
nonblank_not_blank [] all = refl
nonblank_not_blank (octet ∷ run) all = not_blank_from octet (and_left _ _ all)

begins-append : (run after : List ℕ) → run ≢ [] → begins_blank (run ++ after) ≡ begins_blank run
begins-append [] after present = absurd (present refl)
begins-append (octet ∷ run) after present = refl

-- what a run of other octets gives, and what follows it
given_nonblank : (after_word : Bool) (run after : List ℕ) → run ≢ [] → list_all is_nonblank run ≡ true → begins_nonblank after ≡ false
    → given_from after_word (runs_of (run ++ after)) ≡ unwrap_or (encoded_word_text run) run ++ given_from (is_encoded_word run) (runs_of after)
given_nonblank after_word run after present all ends =
    let runs = runs_nonblank run after present all ends in
    let nonblank = nonblank_not_blank run all in
    rw (runs, nonblank) refl

choice_nil : (test : Bool) → cond test [] (let none : List ℕ = [] in none) ≡ []
choice_nil true = refl
choice_nil false = refl

-- the blanks of a front and the other octets after_word them give this
pub given_front : (after_word : Bool) (blanks run after : List ℕ) → list_all is_blank blanks ≡ true → list_all is_nonblank run ≡ true → begins_nonblank after ≡ false → (run ≡ [] → after ≡ [])
    → given_from after_word (runs_of (blanks ++ (run ++ after))) ≡ cond (after_word && is_encoded_word run) [] blanks ++ (unwrap_or (encoded_word_text run) run ++ given_from (is_encoded_word run) (runs_of after))
given_front after_word [] [] after blank nonblank ends last = let none = last refl in rw (none, choice_nil (after_word && is_encoded_word [])) refl
given_front after_word [] (octet ∷ run) after blank nonblank ends last =
    let rest = given_nonblank after_word (octet ∷ run) after (λ none. absurd (cc none)) nonblank ends in
    rest ∙ ap (λ t. t ++ (unwrap_or (encoded_word_text (octet ∷ run)) (octet ∷ run) ++ given_from (is_encoded_word (octet ∷ run)) (runs_of after))) (sym (choice_nil (after_word && is_encoded_word (octet ∷ run))))
given_front after_word (blank ∷ blanks) [] after all nonblank ends last =
    let none = last refl in
    let runs = runs_blank (blank ∷ blanks) [] (λ empty. absurd (cc empty)) all refl in
    let first : is_blank blank ≡ true = and_left _ _ all in
    rw (none, runs, first) refl
given_front after_word (blank ∷ blanks) (octet ∷ run) after all nonblank ends last =
    let other : is_blank octet ≡ false = not_blank_from octet (and_left _ _ nonblank) in
    let runs = runs_blank (blank ∷ blanks) ((octet ∷ run) ++ after) (λ empty. absurd (cc empty)) all other in
    let more = runs_nonblank (octet ∷ run) after (λ empty. absurd (cc empty)) nonblank ends in
    let first : is_blank blank ≡ true = and_left _ _ all in
    rw (runs, more, first, other) refl

stops : (p : ℕ → Bool) (text : List ℕ) → begins p (drop (prefix_len p text) text) ≡ false
stops p [] = refl
stops p (octet ∷ rest) = stop (p octet) octet rest (prefix_len p rest) refl (stops p rest) where
  stop : (test : Bool) (octet : ℕ) (rest : List ℕ) (n : ℕ) → p octet ≡ test → begins p (drop n rest) ≡ false → begins p (drop (cond test (1 + n) 0) (octet ∷ rest)) ≡ false
  stop true octet rest n is later = rw one-add later
  stop false octet rest n is later = is

begins_nonblank-is : (text : List ℕ) → begins_nonblank text ≡ begins is_nonblank text
begins_nonblank-is [] = refl
begins_nonblank-is (octet ∷ rest) = refl

-- where no octet but a blank begins what follows the blanks, nothing follows
nothing_left : (tail : List ℕ) → begins is_blank tail ≡ false → take (prefix_len is_nonblank tail) tail ≡ [] → drop (prefix_len is_nonblank tail) tail ≡ []
nothing_left [] begins none = refl
nothing_left (octet ∷ rest) begins none = let nonblank : is_nonblank octet ≡ true = ap not begins in absurd (present (rw (nonblank, one-add) at none)) where
  present : {run : List ℕ} → octet ∷ run ≡ [] → ⊥
  present same = cc same

-- a text is blanks, then other octets, then what begins with a blank or is nothing
pub record IsFront (text blanks run after : List ℕ) : Type 0 where
  pub blank : list_all is_blank blanks ≡ true
  pub nonblank : list_all is_nonblank run ≡ true
  pub ends : begins_nonblank after ≡ false
  pub last : run ≡ [] → after ≡ []
  pub whole : text ≡ blanks ++ (run ++ after)

-- the blanks at the front of a text and the other octets after them
pub front_cut : (text blanks rest run after : List ℕ) → blanks ≡ take (prefix_len is_blank text) text → rest ≡ drop (prefix_len is_blank text) text
    → run ≡ take (prefix_len is_nonblank rest) rest → after ≡ drop (prefix_len is_nonblank rest) rest → IsFront text blanks run after
front_cut text blanks rest run after b r d a =
    let left : begins is_blank rest ≡ false = ap (begins is_blank) r ∙ stops is_blank text in
    let past_blanks : rest ≡ run ++ after = sym (take-append-drop (prefix_len is_nonblank rest) rest) ∙ (ap (λ t. t ++ drop (prefix_len is_nonblank rest) rest) (sym d) ∙ ap (λ t. run ++ t) (sym a)) in
    record {
      blank = ap (list_all is_blank) b ∙ list_all-prefix is_blank text;
      nonblank = ap (list_all is_nonblank) d ∙ list_all-prefix is_nonblank rest;
      ends = begins_nonblank-is after ∙ (ap (begins is_nonblank) a ∙ stops is_nonblank rest);
      last = λ none. a ∙ nothing_left rest left (sym d ∙ none);
      whole = sym (take-append-drop (prefix_len is_blank text) text) ∙ (ap (λ t. t ++ drop (prefix_len is_blank text) text) (sym b) ∙ ap (λ t. blanks ++ t) (sym r ∙ past_blanks));
    }

-- they give this
pub given_step : (after_word : Bool) (text blanks run after : List ℕ) → IsFront text blanks run after
    → given_from after_word (runs_of text) ≡ cond (after_word && is_encoded_word run) [] blanks ++ (unwrap_or (encoded_word_text run) run ++ given_from (is_encoded_word run) (runs_of after))
given_step after_word text blanks run after front =
    ap (λ t. given_from after_word (runs_of t)) front.whole ∙ given_front after_word blanks run after front.blank front.nonblank front.ends front.last

-- what passes of the runs that they begin
passes_front : (p : List ℕ → Bool) (blanks run after : List ℕ) → list_all is_blank blanks ≡ true → list_all is_nonblank run ≡ true → begins_nonblank after ≡ false → (run ≡ [] → after ≡ [])
    → p [] ≡ true → list_all p (runs_of (blanks ++ (run ++ after))) ≡ (p blanks && (p run && list_all p (runs_of after)))
passes_front p [] [] after blank nonblank ends last none = let end = last refl in rw (end, none) refl
passes_front p [] (octet ∷ run) after blank nonblank ends last none =
    ap (list_all p) (runs_nonblank (octet ∷ run) after (λ empty. absurd (cc empty)) nonblank ends)
    ∙ ap (λ t. t && (p (octet ∷ run) && list_all p (runs_of after))) (sym none)
passes_front p (blank ∷ blanks) [] after all nonblank ends last none =
    let end = last refl in
    let runs = runs_blank (blank ∷ blanks) [] (λ empty. absurd (cc empty)) all refl in
    rw (end, runs, none) refl
passes_front p (blank ∷ blanks) (octet ∷ run) after all nonblank ends last none =
    let other : is_blank octet ≡ false = not_blank_from octet (and_left _ _ nonblank) in
    let runs = runs_blank (blank ∷ blanks) ((octet ∷ run) ++ after) (λ empty. absurd (cc empty)) all other in
    let more = runs_nonblank (octet ∷ run) after (λ empty. absurd (cc empty)) nonblank ends in
    rw (runs, more) refl

pub passes_both : (p : List ℕ → Bool) (text blanks run after : List ℕ) → IsFront text blanks run after → p [] ≡ true
    → list_all p (runs_of text) ≡ (p blanks && (p run && list_all p (runs_of after)))
passes_both p text blanks run after front none =
    ap (λ t. list_all p (runs_of t)) front.whole ∙ passes_front p blanks run after front.blank front.nonblank front.ends front.last none

-- where blanks pass
pub passes_step : (p : List ℕ → Bool) (text blanks run after : List ℕ) → IsFront text blanks run after → p [] ≡ true → p blanks ≡ true
    → list_all p (runs_of text) ≡ (p run && list_all p (runs_of after))
passes_step p text blanks run after front none pass =
    passes_both p text blanks run after front none ∙ ap (λ t. t && (p run && list_all p (runs_of after))) pass

-- one front more was read
pub read_front : (value text with_blanks with_run rest blanks tail run after kept shown : List ℕ) (after_word before now : Bool) (word : Option (List ℕ))
    → text ++ given_from after_word (runs_of rest) ≡ value
    → blanks ≡ take (prefix_len is_blank rest) rest → tail ≡ drop (prefix_len is_blank rest) rest
    → run ≡ take (prefix_len is_nonblank tail) tail → after ≡ drop (prefix_len is_nonblank tail) tail
    → word ≡ encoded_word_text run → before ≡ is_some word → now ≡ is_some word
    → kept ≡ cond (after_word && before) [] blanks → shown ≡ unwrap_or word run → with_blanks ≡ text ++ kept → with_run ≡ with_blanks ++ shown
    → with_run ++ given_from now (runs_of after) ≡ value
read_front value text with_blanks with_run rest blanks tail run after kept shown after_word before now word so_far b r d a w f n k s first second =
    let step = given_step after_word rest blanks run after (front_cut rest blanks tail run after b r d a) in
    let more = given_from (is_encoded_word run) (runs_of after) in
    let known : is_some word ≡ is_encoded_word run = ap is_some w in
    let keeps : kept ≡ cond (after_word && is_encoded_word run) [] blanks = k ∙ ap (λ t. cond (after_word && t) [] blanks) (f ∙ known) in
    let shows : shown ≡ unwrap_or (encoded_word_text run) run = s ∙ ap (λ t. unwrap_or t run) w in
    ap (λ t. with_run ++ given_from t (runs_of after)) (n ∙ known)
    ∙ (ap (λ t. t ++ more) (second ∙ ap (λ t. t ++ shown) first)
    ∙ (append_assoc (text ++ kept) shown more
    ∙ (append_assoc text kept (shown ++ more)
    ∙ (ap (λ t. text ++ (t ++ (shown ++ more))) keeps
    ∙ (ap (λ t. text ++ (cond (after_word && is_encoded_word run) [] blanks ++ (t ++ more))) shows
    ∙ (ap (λ t. text ++ t) (sym step) ∙ so_far))))))

-- a mapped value is there where the value is
pub is_some-map : {X Y : Type 0} (f : X → Y) (found : Option X) → is_some found ≡ is_some (option_map f found)
is_some-map f None = refl
is_some-map f (Some x) = refl

-- a text that isn't empty
pub filled : (text : List ℕ) (test : Bool) → test ≡ (length text == 0) → test ≡ false → 0 < length text
filled [] test is fails = absurd (true≢false (sym is ∙ fails))
filled (octet ∷ rest) test is fails = omega arith

shorter_drop : (text : List ℕ) → 0 < length text → length (drop (prefix_len is_nonblank (drop (prefix_len is_blank text) text)) (drop (prefix_len is_blank text) text)) < length text
shorter_drop [] present = absurd (omega arith)
shorter_drop (octet ∷ rest) present = way (is_blank octet) (prefix_len is_blank rest) refl where
  way : (test : Bool) (n : ℕ) → is_blank octet ≡ test
      → length (drop (prefix_len is_nonblank (drop (cond test (1 + n) 0) (octet ∷ rest))) (drop (cond test (1 + n) 0) (octet ∷ rest))) < length (octet ∷ rest)
  way true n is =
      let tail = drop n rest in
      let a = length-drop n rest in
      let b = length-drop (prefix_len is_nonblank tail) tail in
      rw one-add (omega (arith, a, b))
  way false n is =
      let nonblank : is_nonblank octet ≡ true = ap not is in
      let a = length-drop (prefix_len is_nonblank rest) rest in
      rw (nonblank, one-add) (omega (arith, a))

-- what follows a front is shorter
pub shorter : (text tail after : List ℕ) → tail ≡ drop (prefix_len is_blank text) text → after ≡ drop (prefix_len is_nonblank tail) tail → 0 < length text → length after < length text
shorter text tail after b a present = rw (a, b) (shorter_drop text present)
