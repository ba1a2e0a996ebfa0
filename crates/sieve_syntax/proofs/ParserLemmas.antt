-- Lemmas on tests, commands and blocks.
use Rattle.std.proofs.Common.{◌≡◌, ℕ, ◌≤◌, List, ◌∷◌, sym, ◌∙◌, subst, arith}
use Rattle.sieve_lex.specs.declared.token.Mark.TheVariants as K
use Rattle.sieve_syntax.specs.declared.table.keyword.Keyword.{Keyword}
use Rattle.sieve_syntax.specs.declared.table.keyword.Keyword.TheVariants as W
use Rattle.sieve_syntax.specs.declared.parser.argument.Argument.{Argument}
use Rattle.sieve_syntax.specs.Capabilities.{Capabilities}
use Rattle.sieve_syntax.specs.Lexemes.{Lexeme, mark}
use Rattle.sieve_syntax.specs.Arguments.{AreArguments}
use Rattle.sieve_syntax.specs.Table.{IsPlainCommand}
use Rattle.sieve_syntax.specs.Tree.{CommandTree, require, choose, stop, act, Branches, no_branches, branch, depth_of}
use Rattle.sieve_syntax.specs.Valid.{MayStand}
use Rattle.sieve_syntax.specs.Grammar.{IsStatement, IsCommand}
use Rattle.sieve_syntax.specs.Steps.{TakesAfter}

-- an `if` is no statement
not_choose : (name : Keyword) (args : List Argument) (branches : Branches) → IsPlainCommand name args (choose branches) → ⊥
not_choose W.Require args chosen is = let e = is.tree_is in cc
not_choose W.Stop args chosen is = let e = is.tree_is in cc
not_choose W.Keep args chosen is = let e = is.tree_is in cc
not_choose W.Discard args chosen is = let e = is.tree_is in cc
not_choose W.FileInto args chosen is = let e = is.tree_is in cc
not_choose W.Redirect args chosen is = let e = is.tree_is in cc
not_choose W.Vacation args chosen is = let e = is.tree_is in cc
not_choose W.SetFlag args chosen is = let e = is.tree_is in cc
not_choose W.AddFlag args chosen is = let e = is.tree_is in cc
not_choose W.RemoveFlag args chosen is = let e = is.tree_is in cc
not_choose _ args chosen is = is

-- a statement has no block
plain_depth : (name : Keyword) (args : List Argument) (tree : CommandTree) (room : ℕ) → IsPlainCommand name args tree → depth_of tree ≤ room
plain_depth name args (require names) room is = omega arith
plain_depth name args (choose branches) room is = absurd (not_choose name args branches is)
plain_depth name args stop room is = omega arith
plain_depth name args (act action) room is = omega arith

-- a statement is a command
statement_is : (tree : CommandTree) (name : Keyword) (after to : List Lexeme) → IsStatement tree name after to → IsCommand tree name after to
statement_is (require names) name after to is = is
statement_is (choose branches) name after to is = absurd (not_choose name is.0 branches is.1.1)
statement_is stop name after to is = is
statement_is (act action) name after to is = is

-- a command that doesn't begin with `if` is a statement
is_statement : (tree : CommandTree) (name : Keyword) (after to : List Lexeme) → (name ≡ W.If → ⊥) → IsCommand tree name after to → IsStatement tree name after to
is_statement (require names) name after to not_if is = is
is_statement (choose no_branches) name after to not_if is = absurd is
is_statement (choose (branch test block more)) name after to not_if is = absurd (not_if is.0)
is_statement stop name after to not_if is = is
is_statement (act action) name after to not_if is = is

module _ (granted : Capabilities) (room : ℕ) (name : Keyword) (not_if : name ≡ W.If → ⊥) (after : List Lexeme) where
  -- no arguments
  pub statement_no_args : ((args : List Argument) (to : List Lexeme) → AreArguments args after to → ⊥) → (tree : CommandTree) (to : List Lexeme) → TakesAfter granted room name tree after to → ⊥
  statement_no_args none tree to takes = let is = is_statement tree name after to not_if takes.0 in none is.0 (mark K.Semicolon ∷ to) is.1.0

  module _ (args : List Argument) (next : List Lexeme) (only : (other : List Argument) (to : List Lexeme) → AreArguments other after to → (other ≡ args) × (to ≡ next)) where
    -- no command with these arguments
    pub statement_no_row : ((tree : CommandTree) → IsPlainCommand name args tree → MayStand granted tree → ⊥) → (tree : CommandTree) (to : List Lexeme) → TakesAfter granted room name tree after to → ⊥
    statement_no_row none tree to takes =
        let is = is_statement tree name after to not_if takes.0 in
        let same = only is.0 (mark K.Semicolon ∷ to) is.1.0 in
        none tree (subst (λ a. IsPlainCommand name a tree) same.0 is.1.1) takes.1.0

    -- no semicolon
    pub statement_no_end : ((to : List Lexeme) → next ≡ mark K.Semicolon ∷ to → ⊥) → (tree : CommandTree) (to : List Lexeme) → TakesAfter granted room name tree after to → ⊥
    statement_no_end none tree to takes =
        let is = is_statement tree name after to not_if takes.0 in
        let same = only is.0 (mark K.Semicolon ∷ to) is.1.0 in
        none to (sym same.1)

    -- the one statement
    pub statement_found : AreArguments args after next → (tree : CommandTree) → IsPlainCommand name args tree × MayStand granted tree → ((other : CommandTree) → IsPlainCommand name args other → other ≡ tree) → (to : List Lexeme) → next ≡ mark K.Semicolon ∷ to → TakesAfter granted room name tree after to × ((other : CommandTree) (end : List Lexeme) → TakesAfter granted room name other after end → (other ≡ tree) × (end ≡ to))
    statement_found are tree row alone to semicolon = (
      (
        statement_is tree name after to (args, (subst (AreArguments args after) semicolon are, row.0)),
        (row.1, plain_depth name args tree room row.0),
      ),
      λ other end takes.
          let is = is_statement other name after end not_if takes.0 in
          let same = only is.0 (mark K.Semicolon ∷ end) is.1.0 in
          let ends : mark K.Semicolon ∷ end ≡ mark K.Semicolon ∷ to = same.1 ∙ semicolon in
          (alone other (subst (λ a. IsPlainCommand name a other) same.0 is.1.1), cc),
    )
