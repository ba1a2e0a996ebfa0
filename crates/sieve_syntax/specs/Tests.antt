-- The grammar of tests (RFC 5228, 8.2).
use Rattle.std.specs.Prelude.{◌≡◌, List, ◌∷◌}
use Rattle.sieve_lex.specs.declared.token.Mark.{Mark}
use Rattle.sieve_lex.specs.declared.token.Mark.TheVariants as K
use Rattle.sieve_syntax.specs.declared.table.keyword.Keyword.{Keyword}
use Rattle.sieve_syntax.specs.declared.table.keyword.Keyword.TheVariants as W
use Rattle.sieve_syntax.specs.declared.parser.argument.Argument.{Argument}
use Rattle.sieve_syntax.specs.Lexemes.{Lexeme, keyword, mark}
use Rattle.sieve_syntax.specs.Arguments.{AreArguments}
use Rattle.sieve_syntax.specs.Table.{IsPlainTest}
use Rattle.sieve_syntax.specs.Tree.{TestTree, yes, no, looks, not_of, all_of, any_of, Tests, no_tests, test}

-- an identifier comes first, and this holds of it and of what follows it
abbrev pub Headed : (Keyword → List Lexeme → Type 0) → List Lexeme → Type 0
Headed P from = (name : Keyword) × ((after : List Lexeme) × ((from ≡ keyword name ∷ after) × P name after))

-- a mark comes first, and this holds of what follows it
abbrev pub Marked : Mark → (List Lexeme → Type 0) → List Lexeme → Type 0
Marked kind P from = (after : List Lexeme) × ((from ≡ mark kind ∷ after) × P after)

-- test = identifier arguments, after its identifier, for the tests that have no test in them
abbrev pub IsLeafTest : TestTree → Keyword → List Lexeme → List Lexeme → Type 0
IsLeafTest condition name after to = (args : List Argument) × (AreArguments args after to × IsPlainTest name args condition)

-- test = identifier arguments [test / test-list], after its identifier; test-list = "(" test *("," test) ")".
-- That rule alone would accept a test or a test list after the arguments of any test, and `not` without a test. What each test
-- has is said in its section (RFC 5228, 5.2, 5.3, 5.8): `not` has one test and no arguments, `allof` and `anyof` have
-- a test list and no arguments, and every other test has only arguments; so the rule is taken test by test
abbrev mutual
  pub IsTest : TestTree → Keyword → List Lexeme → List Lexeme → Type 0
  IsTest yes name after to = IsLeafTest yes name after to
  IsTest no name after to = IsLeafTest no name after to
  IsTest (looks check) name after to = IsLeafTest (looks check) name after to
  IsTest (not_of inner) name after to = (name ≡ W.Not) × Headed (λ other rest. IsTest inner other rest to) after
  IsTest (all_of inner) name after to = (name ≡ W.AllOf) × Marked K.OpenParen (λ inside. AreTests inner inside to) after
  IsTest (any_of inner) name after to = (name ≡ W.AnyOf) × Marked K.OpenParen (λ inside. AreTests inner inside to) after

  -- the tests of a list, after the open parenthesis
  pub AreTests : Tests → List Lexeme → List Lexeme → Type 0
  AreTests no_tests from to = ⊥
  AreTests (test first more) from to = (middle : List Lexeme) × (Headed (λ name after. IsTest first name after middle) from × AreMoreTests more middle to)

  -- the tests of a list after the first one, and the close parenthesis
  pub AreMoreTests : Tests → List Lexeme → List Lexeme → Type 0
  AreMoreTests no_tests from to = from ≡ mark K.CloseParen ∷ to
  AreMoreTests (test first more) from to =
      Marked K.Comma (λ start. (middle : List Lexeme) × (Headed (λ name after. IsTest first name after middle) start × AreMoreTests more middle to)) from

-- a test comes first
abbrev pub ReadsTest : TestTree → List Lexeme → List Lexeme → Type 0
ReadsTest condition from to = Headed (λ name after. IsTest condition name after to) from
