-- Where no `require` names `encoded-character`, each string is read as it is written.
use Rattle.std.proofs.Common.{◌≡◌, ◌||◌, ℕ, suc, Bool, true, false, cond, List, [], ◌∷◌, ◌++◌, length, Some, refl, sym, ap, ◌∙◌, subst}
use Rattle.std.specs.List.{list_any}
use Rattle.std.proofs.lemmas.List.Folds.{list_any-append}
use Rattle.octets.proofs.Lists.{some_is}
use Rattle.sieve_lex.specs.declared.token.Mark.TheVariants as K
use Rattle.sieve_lex.specs.declared.token.Content.{Content}
use Rattle.sieve_syntax.specs.declared.extension.encoded_character.Decoding.{Decoding}
use Rattle.sieve_syntax.specs.declared.table.keyword.Keyword.{Keyword}
use Rattle.sieve_syntax.specs.declared.table.keyword.Keyword.TheVariants as W
use Rattle.sieve_syntax.specs.declared.parser.argument.Argument.{Argument}
use Rattle.sieve_syntax.specs.declared.parser.argument.Argument.TheVariants as A
use Rattle.sieve_syntax.specs.declared.extension.encoded_character.Decoding.TheVariants.{Open, Named, Off}
use Rattle.sieve_syntax.specs.Arguments.{IsOther, AreStrings, IsArgument}
use Rattle.sieve_syntax.specs.Chains.{Chain}
use Rattle.sieve_syntax.specs.Extension.EncodedCharacter.{is_encoded_character, decoding_after, lexemes_as_read, as_read}
use Rattle.sieve_syntax.specs.Grammar.{IsStatement, AreCommands, ReadsCommand, ReadsScript}
use Rattle.sieve_syntax.specs.Lexemes.{Lexeme, keyword, text, mark, lexeme_of, lexemes_of}
use Rattle.sieve_syntax.specs.Steps.{TakesRequire, IsPastRequires, all_names}
use Rattle.sieve_syntax.specs.Rows.{IsList}
use Rattle.sieve_syntax.specs.Positional.{one_list}
use Rattle.sieve_syntax.specs.declared.table.tag_group.TagValue.{TagValue}
use Rattle.sieve_syntax.specs.Tags.{IsAllowed, strings_of}
use Rattle.sieve_syntax.specs.Tree.{require, Commands, no_commands, command}
use Rattle.sieve_syntax.specs.Capabilities.{granted_by}
use Rattle.sieve_syntax.specs.Valid.{required, after_requires, IsValid}
use Rattle.sieve_syntax.proofs.RequireLemmas.{require_keyword, requires_of, required_of, parted}
use Rattle.sieve_syntax.proofs.TagLemmas.{none_there}

-- as many lexemes are read as there are
pub seen_length : (decoding : Decoding) (contents : List Content) → length (lexemes_as_read decoding (lexemes_of contents)) ≡ length contents
seen_length decoding [] = refl
seen_length decoding (first ∷ more) = ap suc (seen_length (decoding_after decoding (lexeme_of first)) more)

-- the requires are over
off_kept : (lexemes : List Lexeme) → lexemes_as_read Off lexemes ≡ lexemes
off_kept [] = refl
off_kept (first ∷ more) = ap (λ l. first ∷ l) (off_kept more)

-- a lexeme after which nothing is decoded yet
kept : (first : Lexeme) (more : List Lexeme) → decoding_after Open first ≡ Open → as_read more ≡ more → as_read (first ∷ more) ≡ first ∷ more
kept first more stays e = ap (λ d. first ∷ lexemes_as_read d more) stays ∙ ap (λ l. first ∷ l) e

-- the same where it stands first
kept_first : (first : Lexeme) (from to : List Lexeme) → from ≡ first ∷ to → decoding_after Open first ≡ Open → as_read to ≡ to → as_read from ≡ from
kept_first first from to is stays e = subst (λ l. as_read l ≡ l) (sym is) (kept first to stays e)

-- a string that isn't the name of the extension
kept_text : (name : List ℕ) (from to : List Lexeme) → from ≡ text name ∷ to → is_encoded_character name ≡ false → as_read to ≡ to → as_read from ≡ from
kept_text name from to is other e = kept_first (text name) from to is (ap (λ b. cond b Named Open) other) e

or_left : (a b : Bool) → (a || b) ≡ false → a ≡ false
or_left true b is = absurd (cc is)
or_left false b is = refl

or_right : (a b : Bool) → (a || b) ≡ false → b ≡ false
or_right true b is = absurd (cc is)
or_right false b is = is

kept_others : (names : List (List ℕ)) (from to : List Lexeme) → Chain IsOther names from to → list_any is_encoded_character names ≡ false → as_read to ≡ to → as_read from ≡ from
kept_others [] from to is none e = subst (λ l. as_read l ≡ l) (sym is) e
kept_others (name ∷ more) from to (middle, (first, others)) none e =
    kept_first (mark K.Comma) from (text name ∷ middle) first refl
    (kept_text name (text name ∷ middle) middle refl (or_left _ _ none) (kept_others more middle to others (or_right _ _ none) e))

kept_strings : (names : List (List ℕ)) (from to : List Lexeme) → AreStrings names from to → list_any is_encoded_character names ≡ false → as_read to ≡ to → as_read from ≡ from
kept_strings [] from to is none e = absurd is
kept_strings (name ∷ more) from to (rest, (first, others)) none e =
    kept_text name from rest first (or_left _ _ none) (kept_others more rest (mark K.CloseBracket ∷ to) others (or_right _ _ none) (kept (mark K.CloseBracket) to refl e))

kept_argument : (value : Argument) (names : List (List ℕ)) (from to : List Lexeme) → strings_of value ≡ Some names → IsArgument value from to → list_any is_encoded_character names ≡ false → as_read to ≡ to → as_read from ≡ from
kept_argument (A.Tag t) names from to says is none e = absurd (cc says)
kept_argument (A.Number n) names from to says is none e = absurd (cc says)
kept_argument (A.Text name) names from to says is none e =
    let same : names ≡ name ∷ [] = sym (some_is _ _ says) in
    kept_text name from to is (or_left _ _ (subst (λ l. list_any is_encoded_character l ≡ false) same none)) e
kept_argument (A.Strings strings) names from to says (rest, (opens, are)) none e =
    let same : names ≡ strings = sym (some_is _ _ says) in
    kept_first (mark K.OpenBracket) from rest opens refl (kept_strings strings rest to are (subst (λ l. list_any is_encoded_character l ≡ false) same none) e)

-- one argument that says these names
list_argument : (args : List Argument) (names : List (List ℕ)) → IsList args names → (value : Argument) × ((args ≡ value ∷ []) × (strings_of value ≡ Some names))
list_argument args names is = positional is.positional is.says (plain is.tag_values is.split_tags.written)
  where
    plain : (tag_values : List TagValue) → Chain (IsAllowed []) tag_values args is.positional → args ≡ is.positional
    plain [] same = same
    plain (s ∷ more) chain = absurd (none_there _ chain.1.0.1)

    positional : (rest : List Argument) → one_list rest ≡ Some names → args ≡ rest → (value : Argument) × ((args ≡ value ∷ []) × (strings_of value ≡ Some names))
    positional [] says same = absurd (cc says)
    positional (value ∷ []) says same = (value, (same, says))
    positional (_ ∷ (_ ∷ _)) says same = absurd (cc says)

-- a `require` after its word
kept_statement : (names : List (List ℕ)) (after to : List Lexeme) → IsStatement (require names) W.Require after to → list_any is_encoded_character names ≡ false → as_read to ≡ to → as_read after ≡ after
kept_statement names after to (args, (are, row)) none e =
    let tree : require names ≡ require row.value = row.tree_is in
    let same : names ≡ row.value = cc in
    let one = list_argument args row.value row.is in
    let spelled : Chain IsArgument (one.0 ∷ []) after (mark K.Semicolon ∷ to) = subst (λ a. Chain IsArgument a after (mark K.Semicolon ∷ to)) one.1.0 are.spelled in
    let ends : as_read spelled.0 ≡ spelled.0 = kept_first (mark K.Semicolon) spelled.0 to spelled.1.1 refl e in
    kept_argument one.0 row.value after spelled.0 one.1.1 spelled.1.0 (subst (λ l. list_any is_encoded_character l ≡ false) same none) ends

kept_require : (names : List (List ℕ)) (from to : List Lexeme) → ReadsCommand (require names) from to → list_any is_encoded_character names ≡ false → as_read to ≡ to → as_read from ≡ from
kept_require names from to (name, (after, (opens, is))) none e =
    let word : name ≡ W.Require = require_keyword name is.0 names is.1.1 in
    let first : from ≡ keyword W.Require ∷ after = opens ∙ ap (λ w. keyword w ∷ after) word in
    kept_first (keyword W.Require) from after first refl (kept_statement names after to (subst (λ w. IsStatement (require names) w after to) word is) none e)

some_left : (one other : List (List ℕ)) → list_any is_encoded_character (one ++ other) ≡ false → (list_any is_encoded_character one ≡ false) × (list_any is_encoded_character other ≡ false)
some_left one other none = let both = sym (list_any-append is_encoded_character one other) ∙ none in (or_left _ _ both, or_right _ _ both)

kept_requires : (each : List (List (List ℕ))) (from to : List Lexeme) → Chain TakesRequire each from to → list_any is_encoded_character (all_names each) ≡ false → as_read to ≡ to → as_read from ≡ from
kept_requires [] from to is none e = subst (λ l. as_read l ≡ l) (sym is) e
kept_requires (names ∷ more) from to (middle, (first, others)) none e =
    let parts = some_left names (all_names more) none in
    kept_require names from middle first.0 parts.0 (kept_requires more middle to others parts.1 e)

-- any other word ends them
past_word : (name : Keyword) (after : List Lexeme) → IsPastRequires (keyword name ∷ after) → decoding_after Open (keyword name) ≡ Off
past_word W.Require after past = absurd past
past_word _ after past = refl

kept_rest : (commands : Commands) (from : List Lexeme) → AreCommands commands from [] → IsPastRequires from → as_read from ≡ from
kept_rest no_commands from is past = subst (λ l. as_read l ≡ l) (sym is) refl
kept_rest (command first more) from (middle, ((name, (after, (opens, is))), others)) past =
    let ends = past_word name after (subst IsPastRequires opens past) in
    subst (λ l. as_read l ≡ l) (sym opens) (ap (λ d. keyword name ∷ lexemes_as_read d after) ends ∙ ap (λ l. keyword name ∷ l) (off_kept after))

-- a script none of whose requires names the extension
pub read_as_written : (tree : Commands) (lexemes : List Lexeme) → ReadsScript tree lexemes → IsValid tree → list_any is_encoded_character (required tree) ≡ false → ReadsScript tree (as_read lexemes)
read_as_written tree lexemes read valid none =
    let p = parted (granted_by (required tree)) tree lexemes read valid.known valid.stand in
    let same : required tree ≡ all_names (requires_of tree) = required_of tree in
    let kept_all = kept_requires (requires_of tree) lexemes p.0 p.1.0.0 (subst (λ l. list_any is_encoded_character l ≡ false) same none) (kept_rest (after_requires tree) p.0 p.1.1 p.1.0.1) in
    subst (ReadsScript tree) (sym kept_all) read
