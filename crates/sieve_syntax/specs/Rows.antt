-- Rows of the tables of commands and tests: what a word with its arguments stands for.
use Rattle.std.specs.Prelude.{◌≡◌, ℕ, List, [], Some}
use Rattle.sieve_syntax.specs.declared.parser.argument.Argument.{Argument}
use Rattle.sieve_syntax.specs.Tags.{IsCall}
use Rattle.sieve_syntax.specs.Positional.{one_list}

-- one list of strings and nothing else, as of require <capabilities: string-list> and exists <header-names: string-list>
-- (RFC 5228, 3.2 and 5.5)
abbrev pub IsList : List Argument → List (List ℕ) → Type 0
IsList = IsCall [] (λ tag_values positional texts. one_list positional ≡ Some texts)

-- a word whose arguments say this value stands for the tree made of it
pub record IsTableRow {X T : Type 0} (Is : List Argument → X → Type 0) (make : X → T) (args : List Argument) (tree : T) : Type 0 where
  pub value : X
  pub is : Is args value
  pub tree_is : tree ≡ make value

-- a word without arguments stands for this tree
pub record IsBareWord {T : Type 0} (bare : T) (args : List Argument) (tree : T) : Type 0 where
  pub none : args ≡ []
  pub tree_is : tree ≡ bare
