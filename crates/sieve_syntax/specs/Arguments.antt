-- Arguments, as the grammar alone has them (RFC 5228, 8.2).
use Rattle.std.specs.Prelude.{◌≡◌, ℕ, List, [], ◌∷◌}
use Rattle.sieve_lex.specs.declared.token.Mark.TheVariants as K
use Rattle.sieve_syntax.specs.declared.parser.argument.Argument.{Argument}
use Rattle.sieve_syntax.specs.declared.parser.argument.Argument.TheVariants as A
use Rattle.sieve_syntax.specs.Chains.{Chain}
use Rattle.sieve_syntax.specs.Lexemes.{Lexeme, keyword, tag, number, text, mark, misfit}

-- a string after the first of a list
abbrev pub IsOther : List ℕ → List Lexeme → List Lexeme → Type 0
IsOther string from to = from ≡ mark K.Comma ∷ (text string ∷ to)

-- the one or more strings of a list in brackets, after the open bracket
abbrev pub AreStrings : List (List ℕ) → List Lexeme → List Lexeme → Type 0
AreStrings [] from to = ⊥
AreStrings (first ∷ more) from to = (rest : List Lexeme) × ((from ≡ text first ∷ rest) × Chain IsOther more rest (mark K.CloseBracket ∷ to))

-- an argument comes first: argument = string-list / number / tag
abbrev pub IsArgument : Argument → List Lexeme → List Lexeme → Type 0
IsArgument (A.Tag t) from to = from ≡ tag t ∷ to
IsArgument (A.Number n) from to = from ≡ number n ∷ to
IsArgument (A.Text string) from to = from ≡ text string ∷ to
IsArgument (A.Strings strings) from to = (rest : List Lexeme) × ((from ≡ mark K.OpenBracket ∷ rest) × AreStrings strings rest to)

-- no argument begins here
abbrev pub IsArgumentsEnd : List Lexeme → Type 0
IsArgumentsEnd [] = Unit {0}
IsArgumentsEnd (keyword _ ∷ _) = Unit {0}
IsArgumentsEnd (tag _ ∷ _) = ⊥
IsArgumentsEnd (number _ ∷ _) = ⊥
IsArgumentsEnd (text _ ∷ _) = ⊥
IsArgumentsEnd (misfit ∷ _) = ⊥
IsArgumentsEnd (mark K.OpenBracket ∷ _) = ⊥
IsArgumentsEnd (mark _ ∷ _) = Unit {0}

-- all the arguments that come first
pub record AreArguments (args : List Argument) (from to : List Lexeme) : Type 0 where
  pub spelled : Chain IsArgument args from to
  pub all : IsArgumentsEnd to
