-- The text of a header value with encoded words in it (RFC 2047, section 6.2).
use Rattle.std.specs.Prelude.{◌≡◌, ℕ, Bool, true, false, cond, ◌&&◌, None, Some, List, [], ◌∷◌, ◌++◌, unwrap_or}
use Rattle.std.specs.List.{concat}
use Rattle.mail_head.specs.Lines.{begins_blank}
use Rattle.mail_words.specs.Runs.{AreRuns, runs_of}
use Rattle.mail_words.specs.Words.{encoded_word_text, is_encoded_word}

-- whether the first of these runs is a recognised word
abbrev pub word_first : List (List ℕ) → Bool
word_first [] = false
word_first (run ∷ more) = is_encoded_word run

-- there is a recognised word right before and right after
pub record IsBetweenWords (before after : List (List ℕ)) : Type 0 where
  pub others : List (List ℕ)
  pub word : List ℕ
  pub stands_before : before ≡ others ++ word ∷ []
  pub word_before : is_encoded_word word ≡ true
  pub word_after : word_first after ≡ true

-- what a run gives, depending on the runs before it and after it: a recognised word its text,
-- blanks between two of them nothing, any other run itself
pub record RunGives (before : List (List ℕ)) (run : List ℕ) (after : List (List ℕ)) (given : List ℕ) : Type 0 where
  pub recognised : (text : List ℕ) → encoded_word_text run ≡ Some text → given ≡ text
  pub dropped : begins_blank run ≡ true → IsBetweenWords before after → given ≡ []
  pub kept : encoded_word_text run ≡ None → (begins_blank run ≡ true → IsBetweenWords before after → ⊥) → given ≡ run

-- what each of these runs gives, with the runs before the first of them
abbrev pub AreGiven : List (List ℕ) → List (List ℕ) → List (List ℕ) → Type 0
AreGiven before [] givens = givens ≡ []
AreGiven before (run ∷ after) [] = ⊥
AreGiven before (run ∷ after) (given ∷ more) = RunGives before run after given × AreGiven (before ++ run ∷ []) after more

-- the text of a value: what its runs give, one after the other
pub record IsDecodedText (value text : List ℕ) : Type 0 where
  pub runs : List (List ℕ)
  pub cut : AreRuns runs value
  pub givens : List (List ℕ)
  pub given : AreGiven [] runs givens
  pub joined : text ≡ concat givens

-- what a run gives, by whether a recognised word is right before it, and by the runs after it:
-- a blank run between two of them nothing, a recognised word its text, any other run itself
abbrev pub given_by : Bool → List ℕ → List (List ℕ) → List ℕ
given_by after_word run more = cond (begins_blank run) (cond (after_word && word_first more) [] run) (unwrap_or (encoded_word_text run) run)

-- what runs give, one after the other
abbrev pub given_from : Bool → List (List ℕ) → List ℕ
given_from after_word [] = []
given_from after_word (run ∷ more) = given_by after_word run more ++ given_from (is_encoded_word run) more

-- the text of a value, as `IsDecodedText` has it
abbrev pub decoded_text : List ℕ → List ℕ
decoded_text value = given_from false (runs_of value)
