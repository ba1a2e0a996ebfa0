-- What a text means.
use Rattle.std.specs.Prelude.{ℕ, List}
use Rattle.sieve_lex.specs.declared.token.Token.{Token}
use Rattle.sieve_lex.specs.Spelling.{SpellsTokens}
use Rattle.sieve_lex.specs.Contents.{contents_of}
use Rattle.sieve_syntax.specs.Capabilities.{Capabilities, all_capabilities}
use Rattle.sieve_syntax.specs.Languages.{read_in}
use Rattle.sieve_syntax.specs.Tree.{Commands}
use Rattle.sieve_syntax.specs.Grammar.{ReadsScript}
use Rattle.sieve_syntax.specs.Valid.{IsValidIn}

-- where these capabilities are offered some tokens spell the text, they are read as this tree, and the tree is valid
pub record MeansIn (offered : Capabilities) (text : List ℕ) (tree : Commands) : Type 0 where
  pub tokens : List Token
  pub spelled : SpellsTokens text tokens
  pub read : ReadsScript tree (read_in offered (contents_of tokens))
  pub valid : IsValidIn offered tree

-- what a text means to sieved
abbrev pub Means : List ℕ → Commands → Type 0
Means = MeansIn all_capabilities
