-- What is read in a language has no word and no tag that the language hasn't, so more that is offered changes nothing of it.
use Rattle.std.specs.List.{list_any}
use Rattle.std.proofs.Common.{◌≡◌, ◌||◌, ℕ, Bool, true, false, cond, List, [], ◌∷◌, refl, sym, ap, subst, inl, inr}
use Rattle.sieve_lex.specs.declared.token.Content.{Content}
use Rattle.sieve_lex.specs.declared.token.Content.TheVariants as C
use Rattle.sieve_lex.specs.declared.token.Mark.TheVariants as K
use Rattle.sieve_syntax.specs.declared.table.keyword.Keyword.{Keyword}
use Rattle.sieve_syntax.specs.declared.table.keyword.Keyword.TheVariants as W
use Rattle.sieve_syntax.specs.declared.table.tag.Tag.{Tag}
use Rattle.sieve_syntax.specs.declared.table.tag.Tag.TheVariants as T
use Rattle.sieve_syntax.specs.declared.parser.argument.Argument.{Argument}
use Rattle.sieve_syntax.specs.declared.parser.argument.Argument.TheVariants as A
use Rattle.sieve_syntax.specs.Arguments.{IsOther, AreStrings, IsArgument}
use Rattle.sieve_syntax.specs.Chains.{Chain}
use Rattle.sieve_syntax.specs.declared.extension.encoded_character.Decoding.{Decoding}
use Rattle.sieve_syntax.specs.declared.extension.encoded_character.Decoding.TheVariants.{Open, Named, On, Off}
use Rattle.sieve_syntax.specs.Extension.EncodedCharacter.{decoding_after, lexeme_as_read, lexemes_as_read, as_read}
use Rattle.sieve_syntax.specs.Grammar.{Braced, Tested, IsStatement, IsCommand, IsChoice, AreBranches, AreCommands, ReadsScript}
use Rattle.sieve_syntax.specs.declared.capability.Capability.{Capability}
use Rattle.sieve_syntax.specs.Capabilities.{Capabilities, IsWithin, all_capabilities}
use Rattle.sieve_syntax.specs.Extension.{owners_of_word, owners_of_tag}
use Rattle.sieve_syntax.specs.Languages.{is_offered, word_in, tag_in, lexeme_in, lexemes_in}
use Rattle.sieve_syntax.specs.Lexemes.{sieve_keyword_of, tag_of, Lexeme, keyword, tag, number, text, mark, misfit, lexeme_of, lexemes_of}
use Rattle.sieve_syntax.specs.Table.{IsPlainTest, IsPlainCommand}
use Rattle.sieve_syntax.specs.Tests.{IsLeafTest, IsTest, AreTests, AreMoreTests}
use Rattle.sieve_syntax.proofs.KnownLemmas.{IsTag, IsKnown, AreKnown, number_known, text_known, list_known, lists_known, row_known, none_known}
use Rattle.sieve_syntax.proofs.ExtensionLaws.{extension_test_known}
use Rattle.sieve_syntax.specs.Tree.{TestTree, yes, no, looks, not_of, all_of, any_of, Tests, no_tests, test, CommandTree, require, choose, stop, act, Branches, no_branches, branch, Commands, no_commands, command}

-- a word that the grammar knows
abbrev IsWord : Keyword → Type 0
IsWord W.Other = ⊥
IsWord _ = Unit {0}

-- the same of lexemes
abbrev IsKnownLexeme : Lexeme → Type 0
IsKnownLexeme (tag t) = IsTag t
IsKnownLexeme (keyword word) = IsWord word
IsKnownLexeme _ = Unit {0}

abbrev pub AreKnownLexemes : List Lexeme → Type 0
AreKnownLexemes [] = Unit {0}
AreKnownLexemes (first ∷ more) = IsKnownLexeme first × AreKnownLexemes more

-- ---- the rows of the tables

test_known : (name : Keyword) (args : List Argument) (tree : TestTree) → IsPlainTest name args tree → AreKnown args
test_known W.True args tree is = none_known args is.none
test_known W.False args tree is = none_known args is.none
test_known W.Size args tree is = row_known _ _ _ (λ s p size says. number_known p size.limit says.limit) args tree is
test_known W.Exists args tree is = row_known _ _ _ (λ s p fields says. list_known p fields says) args tree is
test_known W.Header args tree is = row_known _ _ _ (λ s p header says. lists_known p (header.fields, header.keys) says.lists) args tree is
test_known W.Address args tree is = row_known _ _ _ (λ s p address says. lists_known p (address.fields, address.keys) says.lists) args tree is
test_known word args tree is = extension_test_known word args is.value is.is

command_known : (name : Keyword) (args : List Argument) (tree : CommandTree) → IsPlainCommand name args tree → AreKnown args
command_known W.Require args tree is = row_known _ _ _ (λ s p names says. list_known p names says) args tree is
command_known W.Stop args tree is = none_known args is.none
command_known W.Keep args tree is = row_known _ _ _ (λ s p given says. none_known p says.none) args tree is
command_known W.Discard args tree is = none_known args is.none
command_known W.FileInto args tree is = row_known _ _ _ (λ s p filing says. text_known p filing.mailbox says.mailbox) args tree is
command_known W.Redirect args tree is = row_known _ _ _ (λ s p redirect says. text_known p says.text says.is_text) args tree is
command_known W.Vacation args tree is = row_known _ _ _ (λ s p vacation says. text_known p vacation.reason says.reason) args tree is
command_known W.SetFlag args tree is = row_known _ _ _ (λ s p texts says. list_known p texts says) args tree is
command_known W.AddFlag args tree is = row_known _ _ _ (λ s p texts says. list_known p texts says) args tree is
command_known W.RemoveFlag args tree is = row_known _ _ _ (λ s p texts says. list_known p texts says) args tree is
command_known _ args tree is = absurd is

-- the words of the table, and those that have a test or a block in them
word_of : (name : Keyword) → (name ≡ W.Other → ⊥) → IsWord name
word_of W.Other other = other refl
word_of _ other = tt

leaf_word : (tree : TestTree) (name : Keyword) (after to : List Lexeme) → IsLeafTest tree name after to → IsWord name
leaf_word tree name after to (args, (spelled, is)) = word_of name (λ other. (subst (λ w. IsPlainTest w args tree) other is).is)

named_word : (name word : Keyword) → name ≡ word → IsWord word → IsWord name
named_word name word e known = subst IsWord (sym e) known

word_of_test : (tree : TestTree) (name : Keyword) (after to : List Lexeme) → IsTest tree name after to → IsWord name
word_of_test yes name after to is = leaf_word yes name after to is
word_of_test no name after to is = leaf_word no name after to is
word_of_test (looks check) name after to is = leaf_word (looks check) name after to is
word_of_test (not_of inner) name after to is = named_word name W.Not is.0 tt
word_of_test (all_of inner) name after to is = named_word name W.AllOf is.0 tt
word_of_test (any_of inner) name after to is = named_word name W.AnyOf is.0 tt

statement_word : (tree : CommandTree) (name : Keyword) (after to : List Lexeme) → IsStatement tree name after to → IsWord name
statement_word tree name after to (args, (spelled, is)) = word_of name (λ other. subst (λ w. IsPlainCommand w args tree) other is)

word_of_command : (tree : CommandTree) (name : Keyword) (after to : List Lexeme) → IsCommand tree name after to → IsWord name
word_of_command (require names) name after to is = statement_word (require names) name after to is
word_of_command (choose no_branches) name after to is = absurd is
word_of_command (choose (branch condition block more)) name after to is = named_word name W.If is.0 tt
word_of_command stop name after to is = statement_word stop name after to is
word_of_command (act action) name after to is = statement_word (act action) name after to is

-- ---- lexemes that are read: where those after it are known, so are those of it

first_read : (l : Lexeme) (from to : List Lexeme) → from ≡ l ∷ to → IsKnownLexeme l → AreKnownLexemes to → AreKnownLexemes from
first_read l from to e known so = subst AreKnownLexemes (sym e) (known, so)

others_read : (strings : List (List ℕ)) (from to : List Lexeme) → Chain IsOther strings from to → AreKnownLexemes to → AreKnownLexemes from
others_read [] from to e so = subst AreKnownLexemes (sym e) so
others_read (string ∷ more) from to (middle, (e, others)) so = first_read _ from _ e tt (tt, others_read more middle to others so)

strings_read : (strings : List (List ℕ)) (from to : List Lexeme) → AreStrings strings from to → AreKnownLexemes to → AreKnownLexemes from
strings_read [] from to is so = absurd is
strings_read (string ∷ more) from to (rest, (e, others)) so = first_read _ from rest e tt (others_read more rest (mark K.CloseBracket ∷ to) others (tt, so))

argument_read : (a : Argument) (from to : List Lexeme) → IsArgument a from to → IsKnown a → AreKnownLexemes to → AreKnownLexemes from
argument_read (A.Tag t) from to e known so = first_read (tag t) from to e known so
argument_read (A.Number n) from to e known so = first_read (number n) from to e tt so
argument_read (A.Text string) from to e known so = first_read (text string) from to e tt so
argument_read (A.Strings strings) from to (rest, (e, others)) known so = first_read _ from rest e tt (strings_read strings rest to others so)

spelled_read : (args : List Argument) (from to : List Lexeme) → Chain IsArgument args from to → AreKnown args → AreKnownLexemes to → AreKnownLexemes from
spelled_read [] from to e known so = subst AreKnownLexemes (sym e) so
spelled_read (a ∷ more) from to (middle, (first, others)) known so = argument_read a from middle first known.0 (spelled_read more middle to others known.1 so)

-- tests
plain_read : (tree : TestTree) (name : Keyword) (after to : List Lexeme) → IsLeafTest tree name after to → AreKnownLexemes to → AreKnownLexemes after
plain_read tree name after to (args, (spelled, is)) so = spelled_read args after to spelled.spelled (test_known name args tree is) so

mutual
  test_read : (tree : TestTree) (name : Keyword) (after to : List Lexeme) → IsTest tree name after to → AreKnownLexemes to → AreKnownLexemes after
  test_read yes name after to is so = plain_read yes name after to is so
  test_read no name after to is so = plain_read no name after to is so
  test_read (looks check) name after to is so = plain_read (looks check) name after to is so
  test_read (not_of inner) name after to (named, (other, (rest, (e, is)))) so = first_read (keyword other) after rest e (word_of_test inner other rest to is) (test_read inner other rest to is so)
  test_read (all_of inner) name after to (named, (inside, (e, is))) so = first_read (mark K.OpenParen) after inside e tt (tests_read inner inside to is so)
  test_read (any_of inner) name after to (named, (inside, (e, is))) so = first_read (mark K.OpenParen) after inside e tt (tests_read inner inside to is so)

  tests_read : (tests : Tests) (from to : List Lexeme) → AreTests tests from to → AreKnownLexemes to → AreKnownLexemes from
  tests_read no_tests from to is so = absurd is
  tests_read (test first more) from to (middle, ((name, (after, (e, is))), others)) so =
      first_read (keyword name) from after e (word_of_test first name after middle is) (test_read first name after middle is (more_read more middle to others so))

  more_read : (tests : Tests) (from to : List Lexeme) → AreMoreTests tests from to → AreKnownLexemes to → AreKnownLexemes from
  more_read no_tests from to e so = first_read (mark K.CloseParen) from to e tt so
  more_read (test first more) from to (start, (comma, (middle, ((name, (after, (e, is))), others)))) so =
      first_read (mark K.Comma) from start comma tt (first_read (keyword name) start after e (word_of_test first name after middle is) (test_read first name after middle is (more_read more middle to others so)))

-- blocks, and what stands before them
module _ (P : List Lexeme → List Lexeme → Type 0) (inner : (from to : List Lexeme) → P from to → AreKnownLexemes to → AreKnownLexemes from) where
  braced_read : (from to : List Lexeme) → Braced P from to → AreKnownLexemes to → AreKnownLexemes from
  braced_read from to (inside, (e, is)) so = first_read (mark K.OpenBrace) from inside e tt (inner inside (mark K.CloseBrace ∷ to) is (tt, so))

  tested_read : (condition : TestTree) (from to : List Lexeme) → Tested condition P from to → AreKnownLexemes to → AreKnownLexemes from
  tested_read condition from to (start, ((name, (after, (e, is))), block)) so = first_read (keyword name) from after e (word_of_test condition name after start is) (test_read condition name after start is (braced_read start to block so))

statement_read : (tree : CommandTree) (name : Keyword) (after to : List Lexeme) → IsStatement tree name after to → AreKnownLexemes to → AreKnownLexemes after
statement_read tree name after to (args, (spelled, is)) so = spelled_read args after (mark K.Semicolon ∷ to) spelled.spelled (command_known name args tree is) (tt, so)

mutual
  command_read : (tree : CommandTree) (name : Keyword) (after to : List Lexeme) → IsCommand tree name after to → AreKnownLexemes to → AreKnownLexemes after
  command_read (require names) name after to is so = statement_read (require names) name after to is so
  command_read (choose branches) name after to is so = choice_read branches name after to is so
  command_read stop name after to is so = statement_read stop name after to is so
  command_read (act action) name after to is so = statement_read (act action) name after to is so

  choice_read : (branches : Branches) (name : Keyword) (after to : List Lexeme) → IsChoice branches name after to → AreKnownLexemes to → AreKnownLexemes after
  choice_read no_branches name after to is so = absurd is
  choice_read (branch condition block more) name after to (named, (next, (first, others))) so =
      tested_read (AreCommands block) (λ l m is known. commands_read block l m is known) condition after next first (branches_read more next to others so)

  branches_read : (branches : Branches) (from to : List Lexeme) → AreBranches branches from to → AreKnownLexemes to → AreKnownLexemes from
  branches_read no_branches from to is so = subst AreKnownLexemes (sym is.0) so
  branches_read (branch condition block more) from to (inl (after, (e, (next, (first, others))))) so =
      first_read (keyword W.Elsif) from after e tt (tested_read (AreCommands block) (λ l m is known. commands_read block l m is known) condition after next first (branches_read more next to others so))
  branches_read (branch condition block more) from to (inr (after, (e, (braced, others)))) so =
      first_read (keyword W.Else) from after e tt (braced_read (AreCommands block) (λ l m is known. commands_read block l m is known) after to braced so)

  commands_read : (commands : Commands) (from to : List Lexeme) → AreCommands commands from to → AreKnownLexemes to → AreKnownLexemes from
  commands_read no_commands from to e so = subst AreKnownLexemes (sym e) so
  commands_read (command first more) from to (middle, ((name, (after, (e, is))), others)) so =
      first_read (keyword name) from after e (word_of_command first name after middle is) (command_read first name after middle is (commands_read more middle to others so))

-- a script that is read has none but words and tags that the grammar knows
pub script_known : (tree : Commands) (lexemes : List Lexeme) → ReadsScript tree lexemes → AreKnownLexemes lexemes
script_known tree lexemes read = commands_read tree lexemes [] read tt

-- no word and no tag is decoded
seen_known : (decoding : Decoding) (first : Lexeme) → IsKnownLexeme (lexeme_as_read decoding first) → IsKnownLexeme first
seen_known Open first known = known
seen_known Named first known = known
seen_known Off first known = known
seen_known On (tag t) known = known
seen_known On (keyword name) known = known
seen_known On (number n) known = tt
seen_known On (text written) known = tt
seen_known On (mark kind) known = tt
seen_known On misfit known = tt

seen_from_known : (decoding : Decoding) (lexemes : List Lexeme) → AreKnownLexemes (lexemes_as_read decoding lexemes) → AreKnownLexemes lexemes
seen_from_known decoding [] known = tt
seen_from_known decoding (first ∷ more) known = (seen_known decoding first known.0, seen_from_known (decoding_after decoding first) more known.1)

-- ---- a language and a larger one

-- what one set has, a larger one has
list_any_grows : {X : Type 0} (few more : X → Bool) → ((x : X) → few x ≡ true → more x ≡ true) → (xs : List X) → list_any few xs ≡ true → list_any more xs ≡ true
list_any_grows few more within [] is = absurd (cc is)
list_any_grows few more within (x ∷ xs) is = step (few x) (more x) (list_any few xs) (list_any more xs) (within x) (list_any_grows few more within xs) is
  where
    step : (a b c d : Bool) → (a ≡ true → b ≡ true) → (c ≡ true → d ≡ true) → (a || c) ≡ true → (b || d) ≡ true
    step true true c d one two is = refl
    step true false c d one two is = let bad : false ≡ true = one refl in absurd (cc bad)
    step false true c d one two is = refl
    step false false c d one two is = two is

module _ (few more : Capabilities) (within : IsWithin few more) where
  offered_grows : (owners : List Capability) → is_offered few owners ≡ true → is_offered more owners ≡ true
  offered_grows [] is = refl
  offered_grows (first ∷ others) is = list_any_grows few more within (first ∷ others) is

  word_same : (word : Keyword) → IsWord (word_in few word) → word_in few word ≡ word_in more word
  word_same word known = step (is_offered few (owners_of_word word)) (is_offered more (owners_of_word word)) (offered_grows (owners_of_word word)) known
    where
      step : (one other : Bool) → (one ≡ true → other ≡ true) → IsWord (cond one word W.Other) → cond one word W.Other ≡ cond other word W.Other
      step true true now known = refl
      step true false now known = let bad : false ≡ true = now refl in absurd (cc bad)
      step false other now known = absurd known

  tag_same : (t : Tag) → IsTag (tag_in few t) → tag_in few t ≡ tag_in more t
  tag_same t known = step (is_offered few (owners_of_tag t)) (is_offered more (owners_of_tag t)) (offered_grows (owners_of_tag t)) known
    where
      step : (one other : Bool) → (one ≡ true → other ≡ true) → IsTag (cond one t T.Other) → cond one t T.Other ≡ cond other t T.Other
      step true true now known = refl
      step true false now known = let bad : false ≡ true = now refl in absurd (cc bad)
      step false other now known = absurd known

  lexeme_same : (content : Content) → IsKnownLexeme (lexeme_in few content) → lexeme_in few content ≡ lexeme_in more content
  lexeme_same (C.Identifier name) known = ap keyword (word_same (sieve_keyword_of name) known)
  lexeme_same (C.Tag name) known = ap tag (tag_same (tag_of name) known)
  lexeme_same (C.Number n) known = refl
  lexeme_same (C.Text value) known = refl
  lexeme_same (C.Mark m) known = refl

  lexemes_same : (contents : List Content) → AreKnownLexemes (lexemes_in few contents) → lexemes_in few contents ≡ lexemes_in more contents
  lexemes_same [] known = refl
  lexemes_same (content ∷ others) known = λ i. lexeme_same content known.0 i ∷ lexemes_same others known.1 i

  -- what is read in a language is read in a larger one
  pub read_grows : (contents : List Content) (tree : Commands) → ReadsScript tree (lexemes_in few contents) → ReadsScript tree (lexemes_in more contents)
  read_grows contents tree read =
      subst (ReadsScript tree) (lexemes_same contents (script_known tree (lexemes_in few contents) read)) read

  -- the same of what is decoded
  pub decoded_grows : (contents : List Content) (tree : Commands) → ReadsScript tree (as_read (lexemes_in few contents)) → ReadsScript tree (as_read (lexemes_in more contents))
  decoded_grows contents tree read =
      let known = seen_from_known Open (lexemes_in few contents) (script_known tree (as_read (lexemes_in few contents)) read) in
      subst (λ lexemes. ReadsScript tree (as_read lexemes)) (lexemes_same contents known) read

-- where all is offered the grammar sees what it knows
offered_all : (owners : List Capability) → is_offered all_capabilities owners ≡ true
offered_all [] = refl
offered_all (first ∷ others) = refl

all_cond : {X : Type 0} (b : Bool) (x y : X) → b ≡ true → cond b x y ≡ x
all_cond true x y is = refl
all_cond false x y is = absurd (cc is)

all_lexeme : (content : Content) → lexeme_in all_capabilities content ≡ lexeme_of content
all_lexeme (C.Identifier name) = ap keyword (all_cond (is_offered all_capabilities (owners_of_word (sieve_keyword_of name))) (sieve_keyword_of name) W.Other (offered_all (owners_of_word (sieve_keyword_of name))))
all_lexeme (C.Tag name) = ap tag (all_cond (is_offered all_capabilities (owners_of_tag (tag_of name))) (tag_of name) T.Other (offered_all (owners_of_tag (tag_of name))))
all_lexeme (C.Number n) = refl
all_lexeme (C.Text value) = refl
all_lexeme (C.Mark m) = refl

pub all_lexemes : (contents : List Content) → lexemes_in all_capabilities contents ≡ lexemes_of contents
all_lexemes [] = refl
all_lexemes (content ∷ others) = λ i. all_lexeme content i ∷ all_lexemes others i
