-- What the steps of the parser read: what comes first by the grammar, if it is permitted there.
use Rattle.std.specs.Prelude.{◌≡◌, ◌≤◌, ◌+◌, ℕ, List, [], ◌∷◌, ◌++◌, map, All}
use Rattle.sieve_lex.specs.declared.token.Mark.TheVariants as K
use Rattle.sieve_syntax.specs.declared.table.keyword.Keyword.{Keyword}
use Rattle.sieve_syntax.specs.declared.table.keyword.Keyword.TheVariants as W
use Rattle.sieve_syntax.specs.Capabilities.{Capabilities, all_capabilities, KnowsName, granted_by}
use Rattle.sieve_syntax.specs.Lexemes.{Lexeme, keyword, mark}
use Rattle.sieve_syntax.specs.Chains.{Chain}
use Rattle.sieve_syntax.specs.Tests.{Marked, IsTest, AreTests, ReadsTest}
use Rattle.sieve_syntax.specs.Grammar.{Braced, IsPastBranches, IsCommand, AreCommands, ReadsCommand}
use Rattle.sieve_syntax.specs.Tree.{TestTree, yes, Tests, lists_depth, nots_depth, CommandTree, require, Commands, depth, depth_of}
use Rattle.sieve_syntax.specs.Valid.{max_lists, max_nots, MayBeCondition, MayAllTest, MayStand, MayAllStand}

-- a test comes first that is permitted there: at most that many test lists and that many `not`s enclose any test
-- within it
abbrev pub TakesTest : Capabilities → ℕ → ℕ → TestTree → List Lexeme → List Lexeme → Type 0
TakesTest granted lists nots condition from to = ReadsTest condition from to × MayBeCondition granted lists nots condition

-- the same after its identifier
abbrev pub AsksAfter : Capabilities → ℕ → ℕ → Keyword → TestTree → List Lexeme → List Lexeme → Type 0
AsksAfter granted lists nots name condition after to = IsTest condition name after to × MayBeCondition granted lists nots condition

-- the same of a comma and a test
abbrev pub TakesNextTest : Capabilities → ℕ → ℕ → TestTree → List Lexeme → List Lexeme → Type 0
TakesNextTest granted lists nots condition from to = Marked K.Comma (λ start. TakesTest granted lists nots condition start to) from

-- the tests of a list after the first one, and the close parenthesis
abbrev pub TakesMoreTests : Capabilities → ℕ → ℕ → List TestTree → List Lexeme → List Lexeme → Type 0
TakesMoreTests granted lists nots more from to = Chain (TakesNextTest granted lists nots) more from (mark K.CloseParen ∷ to)

-- a test list comes first that is permitted there, if that many test lists may enclose a test
abbrev pub TakesTests : Capabilities → ℕ → ℕ → Tests → List Lexeme → List Lexeme → Type 0
TakesTests granted lists nots inner from to =
    Marked K.OpenParen (λ inside. AreTests inner inside to) from
    × (MayAllTest granted inner × ((lists_depth inner + 1 ≤ lists) × (nots_depth inner ≤ nots)))

-- a command comes first that is permitted there: blocks within it are nested no deeper than this
abbrev pub TakesCommand : Capabilities → ℕ → CommandTree → List Lexeme → List Lexeme → Type 0
TakesCommand granted room tree from to = ReadsCommand tree from to × (MayStand granted tree × (depth_of tree ≤ room))

-- the same after its identifier
abbrev pub TakesAfter : Capabilities → ℕ → Keyword → CommandTree → List Lexeme → List Lexeme → Type 0
TakesAfter granted room name tree after to = IsCommand tree name after to × (MayStand granted tree × (depth_of tree ≤ room))

-- a block comes first that is permitted there
abbrev pub TakesBlock : Capabilities → ℕ → Commands → List Lexeme → List Lexeme → Type 0
TakesBlock granted room block from to = Braced (AreCommands block) from to × (MayAllStand granted block × (depth block + 1 ≤ room))

-- a test and a block come first that are permitted there
abbrev pub TakesBranch : Capabilities → ℕ → TestTree × Commands → List Lexeme → List Lexeme → Type 0
TakesBranch granted room one from to = (start : List Lexeme) × (TakesTest granted max_lists max_nots one.0 from start × TakesBlock granted room one.1 start to)

-- an `elsif` comes first that is permitted there
abbrev pub TakesElsif : Capabilities → ℕ → TestTree × Commands → List Lexeme → List Lexeme → Type 0
TakesElsif granted room one from to = (after : List Lexeme) × ((from ≡ keyword W.Elsif ∷ after) × TakesBranch granted room one after to)

-- no `elsif` comes first
abbrev pub IsPastElsif : List Lexeme → Type 0
IsPastElsif (keyword W.Elsif ∷ _) = ⊥
IsPastElsif _ = Unit {0}

-- if no `elsif` comes first, neither does an `else`
abbrev pub IsPastElse : List Lexeme → Type 0
IsPastElse from = IsPastElsif from → IsPastBranches from

-- each `elsif` that comes first and is permitted there
abbrev pub TakesElsifs : Capabilities → ℕ → List (TestTree × Commands) → List Lexeme → List Lexeme → Type 0
TakesElsifs granted room each from to = Chain (TakesElsif granted room) each from to × IsPastElsif to

-- an `else` comes first that is permitted there, or none does
abbrev pub TakesElse : Capabilities → ℕ → List (TestTree × Commands) → List Lexeme → List Lexeme → Type 0
TakesElse granted room [] from to = (from ≡ to) × IsPastBranches from
TakesElse granted room (one ∷ []) from to = (after : List Lexeme) × ((from ≡ keyword W.Else ∷ after) × ((one.0 ≡ yes) × TakesBlock granted room one.1 after to))
TakesElse granted room (_ ∷ (_ ∷ _)) from to = ⊥

-- commands end here: at the close of a block or at the end of the script
abbrev pub IsStop : List Lexeme → Type 0
IsStop [] = Unit {0}
IsStop (mark K.CloseBrace ∷ _) = Unit {0}
IsStop (_ ∷ _) = ⊥

-- commands that are permitted there, up to their end
abbrev pub TakesAll : Capabilities → ℕ → List CommandTree → List Lexeme → List Lexeme → Type 0
TakesAll granted room trees from to = Chain (TakesCommand granted room) trees from to × IsStop to

-- a `require` of known capabilities comes first
abbrev pub TakesRequire : List (List ℕ) → List Lexeme → List Lexeme → Type 0
TakesRequire names from to = ReadsCommand (require names) from to × All (KnowsName all_capabilities) names

-- no `require` comes first
abbrev pub IsPastRequires : List Lexeme → Type 0
IsPastRequires (keyword W.Require ∷ _) = ⊥
IsPastRequires _ = Unit {0}

-- the names of several `require`, in turn
abbrev pub all_names : List (List (List ℕ)) → List (List ℕ)
all_names [] = []
all_names (names ∷ more) = names ++ all_names more

-- requires come first, up to another command or the end
abbrev pub TakesRequires : List (List (List ℕ)) → List Lexeme → List Lexeme → Type 0
TakesRequires each from to = Chain TakesRequire each from to × IsPastRequires to

-- these commands are the requires that come first, and this is what they grant
abbrev pub ReadsRequires : List CommandTree → Capabilities → List Lexeme → List Lexeme → Type 0
ReadsRequires trees granted from to =
    (each : List (List (List ℕ))) × ((trees ≡ map require each) × ((granted ≡ granted_by (all_names each)) × TakesRequires each from to))

-- no others do
abbrev pub ReadsRequiresAlone : List CommandTree → Capabilities → List Lexeme → List Lexeme → Type 0
ReadsRequiresAlone trees granted from to =
    (each : List (List (List ℕ))) (end : List Lexeme) → TakesRequires each from end → (trees ≡ map require each) × ((granted ≡ granted_by (all_names each)) × (end ≡ to))
