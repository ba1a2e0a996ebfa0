-- The grammar of commands (RFC 5228, 8.2).
use Rattle.std.specs.Prelude.{◌≡◌, ◌⊎◌, List, [], ◌∷◌}
use Rattle.sieve_lex.specs.declared.token.Mark.TheVariants as K
use Rattle.sieve_syntax.specs.declared.table.keyword.Keyword.{Keyword}
use Rattle.sieve_syntax.specs.declared.table.keyword.Keyword.TheVariants as W
use Rattle.sieve_syntax.specs.declared.parser.argument.Argument.{Argument}
use Rattle.sieve_syntax.specs.Lexemes.{Lexeme, keyword, mark}
use Rattle.sieve_syntax.specs.Arguments.{AreArguments}
use Rattle.sieve_syntax.specs.Table.{IsPlainCommand}
use Rattle.sieve_syntax.specs.Tests.{Headed, ReadsTest}
use Rattle.sieve_syntax.specs.Tree.{TestTree, yes, CommandTree, require, choose, stop, act, Branches, no_branches, branch, Commands, no_commands, command}

-- this comes first, in braces
abbrev pub Braced : (List Lexeme → List Lexeme → Type 0) → List Lexeme → List Lexeme → Type 0
Braced P from to = (inside : List Lexeme) × ((from ≡ mark K.OpenBrace ∷ inside) × P inside (mark K.CloseBrace ∷ to))

-- neither `elsif` nor `else` comes first
abbrev pub IsPastBranches : List Lexeme → Type 0
IsPastBranches (keyword W.Elsif ∷ _) = ⊥
IsPastBranches (keyword W.Else ∷ _) = ⊥
IsPastBranches _ = Unit {0}

-- a test and a block come first
abbrev pub Tested : TestTree → (List Lexeme → List Lexeme → Type 0) → List Lexeme → List Lexeme → Type 0
Tested condition block from to = (start : List Lexeme) × (ReadsTest condition from start × Braced block start to)

-- command = identifier arguments ";", after its identifier
abbrev pub IsStatement : CommandTree → Keyword → List Lexeme → List Lexeme → Type 0
IsStatement tree name after to = (args : List Argument) × (AreArguments args after (mark K.Semicolon ∷ to) × IsPlainCommand name args tree)

-- command = identifier arguments (";" / block), after its identifier; block = "{" commands "}"
abbrev mutual
  pub IsCommand : CommandTree → Keyword → List Lexeme → List Lexeme → Type 0
  IsCommand (require names) name after to = IsStatement (require names) name after to
  IsCommand (choose branches) name after to = IsChoice branches name after to
  IsCommand stop name after to = IsStatement stop name after to
  IsCommand (act action) name after to = IsStatement (act action) name after to

  -- `if` with a test and a block, and the branches after it (RFC 5228, 3.1)
  pub IsChoice : Branches → Keyword → List Lexeme → List Lexeme → Type 0
  IsChoice no_branches name after to = ⊥
  IsChoice (branch condition block more) name after to =
      (name ≡ W.If) × ((next : List Lexeme) × (Tested condition (AreCommands block) after next × AreBranches more next to))

  -- each `elsif` with a test and a block, and at the end perhaps an `else` with a block, whose branch has the test
  -- `true`: all of them that are there
  pub AreBranches : Branches → List Lexeme → List Lexeme → Type 0
  AreBranches no_branches from to = (from ≡ to) × IsPastBranches to
  AreBranches (branch condition block more) from to =
      ((after : List Lexeme) × ((from ≡ keyword W.Elsif ∷ after) × ((next : List Lexeme) × (Tested condition (AreCommands block) after next × AreBranches more next to))))
      ⊎ ((after : List Lexeme) × ((from ≡ keyword W.Else ∷ after) × (Braced (AreCommands block) after to × ((condition ≡ yes) × (more ≡ no_branches)))))

  -- commands = *command
  pub AreCommands : Commands → List Lexeme → List Lexeme → Type 0
  AreCommands no_commands from to = from ≡ to
  AreCommands (command first more) from to = (middle : List Lexeme) × (Headed (λ name after. IsCommand first name after middle) from × AreCommands more middle to)

-- a command comes first
abbrev pub ReadsCommand : CommandTree → List Lexeme → List Lexeme → Type 0
ReadsCommand tree from to = Headed (λ name after. IsCommand tree name after to) from

-- the commands of a whole script
abbrev pub ReadsScript : Commands → List Lexeme → Type 0
ReadsScript commands from = AreCommands commands from []
