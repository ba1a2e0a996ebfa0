-- A value has one text: what its runs give, each by the runs before it and after it.
use Rattle.std.proofs.Common.{◌≡◌, ℕ, Bool, true, false, cond, ◌&&◌, Option, None, Some, List, [], ◌∷◌, ◌++◌, refl, sym, ap, ◌∙◌}
use Rattle.std.specs.List.{concat}
use Rattle.mail_head.specs.Lines.{begins_blank}
use Rattle.mail_words.specs.Runs.{runs_of}
use Rattle.mail_words.specs.Words.{encoded_word_text, is_encoded_word}
use Rattle.mail_words.specs.Values.{word_first, IsBetweenWords, RunGives, AreGiven, IsDecodedText, given_by, given_from, decoded_text}
use Rattle.mail_words.proofs.RunLaws.{runs_found, runs_only}
use Rattle.mail_words.proofs.WordLaws.{blank_no_word}

-- whether the last of these runs is a recognised word
word_last : List (List ℕ) → Bool
word_last [] = false
word_last (run ∷ []) = is_encoded_word run
word_last (run ∷ next ∷ more) = word_last (next ∷ more)

word_last-append : (before : List (List ℕ)) (run : List ℕ) → word_last (before ++ run ∷ []) ≡ is_encoded_word run
unfolding word_last
word_last-append [] run = refl
word_last-append (first ∷ []) run = refl
word_last-append (first ∷ next ∷ before) run = word_last-append (next ∷ before) run

between_from : (before after : List (List ℕ)) → word_last before ≡ true → word_first after ≡ true → IsBetweenWords before after
unfolding word_last
between_from [] after last first = absurd (cc last)
between_from (run ∷ []) after last first = record { others = []; word = run; stands_before = refl; word_before = last; word_after = first }
between_from (run ∷ next ∷ before) after last first =
    let later = between_from (next ∷ before) after last first in
    record { others = run ∷ later.others; word = later.word; stands_before = ap (λ t. run ∷ t) later.stands_before; word_before = later.word_before; word_after = first }

last_from : (before after : List (List ℕ)) → IsBetweenWords before after → word_last before ≡ true
last_from before after is = ap word_last is.stands_before ∙ (word_last-append is.others is.word ∙ is.word_before)

not_blank : (run text : List ℕ) → encoded_word_text run ≡ Some text → begins_blank run ≡ false
not_blank run text is = way (begins_blank run) refl where
  way : (blank : Bool) → begins_blank run ≡ blank → blank ≡ false
  way true b = absurd (cc (sym is ∙ blank_no_word run b))
  way false b = refl

-- what a run gives is what it is said to give
given_one : (before : List (List ℕ)) (run : List ℕ) (after : List (List ℕ)) (given : List ℕ) → RunGives before run after given → given ≡ given_by (word_last before) run after
given_one before run after given gives = found (encoded_word_text run) refl where
  blanks : (last first : Bool) → word_last before ≡ last → word_first after ≡ first → encoded_word_text run ≡ None → begins_blank run ≡ true → given ≡ cond (last && first) [] run
  blanks true true l f none b = gives.dropped b (between_from before after l f)
  blanks true false l f none b = gives.kept none (λ blank between. cc (sym f ∙ between.word_after))
  blanks false first l f none b = gives.kept none (λ blank between. cc (sym l ∙ last_from before after between))

  other : (blank : Bool) → begins_blank run ≡ blank → encoded_word_text run ≡ None → given ≡ cond blank (cond (word_last before && word_first after) [] run) run
  other true b none = blanks (word_last before) (word_first after) refl refl none b
  other false b none = gives.kept none (λ blank between. cc (sym b ∙ blank))

  found : (word : Option (List ℕ)) → encoded_word_text run ≡ word → given ≡ given_by (word_last before) run after
  found None is = let same = other (begins_blank run) refl is in rw is same
  found (Some text) is = let no = not_blank run text is in rw (no, is) (gives.recognised text is)

-- and gives it
gives_one : (before : List (List ℕ)) (run : List ℕ) (after : List (List ℕ)) → RunGives before run after (given_by (word_last before) run after)
gives_one before run after = record {
  recognised = λ text is. let no = not_blank run text is in rw (no, is) refl;
  dropped = λ blank between. let last = last_from before after between in let first = between.word_after in rw (blank, last, first) refl;
  kept = λ none not_between. other (begins_blank run) refl none not_between;
} where
  blanks : (last first : Bool) → word_last before ≡ last → word_first after ≡ first → (IsBetweenWords before after → ⊥) → cond (last && first) [] run ≡ run
  blanks true true l f not_between = absurd (not_between (between_from before after l f))
  blanks true false l f not_between = refl
  blanks false first l f not_between = refl

  other : (blank : Bool) → begins_blank run ≡ blank → encoded_word_text run ≡ None → (begins_blank run ≡ true → IsBetweenWords before after → ⊥) → given_by (word_last before) run after ≡ run
  other true b none not_between = rw b (blanks (word_last before) (word_first after) refl refl (not_between b))
  other false b none not_between = rw (b, none) refl

given_all : (before runs givens : List (List ℕ)) → AreGiven before runs givens → concat givens ≡ given_from (word_last before) runs
given_all before [] givens given = ap concat given
given_all before (run ∷ after) [] given = absurd given
given_all before (run ∷ after) (first ∷ more) given =
    ap (λ t. t ++ concat more) (given_one before run after first given.0)
    ∙ ap (λ t. given_by (word_last before) run after ++ t)
    (given_all (before ++ run ∷ []) after more given.1 ∙ ap (λ w. given_from w after) (word_last-append before run))

-- what the runs of a value give
record Givens (before runs : List (List ℕ)) : Type 0 where
  givens : List (List ℕ)
  are : AreGiven before runs givens

givens_of : (before runs : List (List ℕ)) → Givens before runs
givens_of before [] = record { givens = []; are = refl }
givens_of before (run ∷ after) =
    let later = givens_of (before ++ run ∷ []) after in
    record { givens = given_by (word_last before) run after ∷ later.givens; are = (gives_one before run after, later.are) }

-- the text of a value is its only text
pub text_only : (value text : List ℕ) → IsDecodedText value text → text ≡ decoded_text value
unfolding word_last
text_only value text is = is.joined ∙ (given_all [] is.runs is.givens is.given ∙ ap (given_from false) (runs_only value is.runs is.cut))

text_found : (value : List ℕ) → IsDecodedText value (decoded_text value)
unfolding word_last
text_found value =
    let found = givens_of [] (runs_of value) in
    record { runs = runs_of value; cut = runs_found value; givens = found.givens; given = found.are; joined = sym (given_all [] (runs_of value) found.givens found.are) }

-- and is one
pub text_is : (value text : List ℕ) → text ≡ decoded_text value → IsDecodedText value text
text_is value text same = rw same (text_found value)
