-- A text that is a script where some capabilities are offered is one where more are, and says the same.
use Rattle.std.specs.Prelude.{◌≡◌, ℕ, List}
use Rattle.sieve_syntax.specs.declared.tree.action.Action.{Action}
use Rattle.sieve_syntax.specs.declared.tree.checks.MailCheck.{MailCheck}
use Rattle.sieve_syntax.specs.Capabilities.{Capabilities}
use Rattle.sieve_syntax.specs.Means.{MeansIn}
use Rattle.sieve_syntax.specs.Tree.{TestTree, yes, no, looks, not_of, all_of, any_of, Tests, no_tests, test, CommandTree, require, choose, stop, act, Branches, no_branches, branch, Commands, no_commands, command}
use Rattle.sieve_syntax.specs.Valid.{MayAct, MayCheck}

-- this holds of each action in a tree
abbrev mutual
  pub EachAction : (Action → Type 0) → CommandTree → Type 0
  EachAction P (require names) = Unit {0}
  EachAction P (choose branches) = EachInBranches P branches
  EachAction P stop = Unit {0}
  EachAction P (act action) = P action

  pub EachInBranches : (Action → Type 0) → Branches → Type 0
  EachInBranches P no_branches = Unit {0}
  EachInBranches P (branch condition block more) = EachIn P block × EachInBranches P more

  pub EachIn : (Action → Type 0) → Commands → Type 0
  EachIn P no_commands = Unit {0}
  EachIn P (command first more) = EachAction P first × EachIn P more

-- this holds of each test in a tree that looks at a message, its envelope, the moment or the flags
abbrev mutual
  pub EachCheck : (MailCheck → Type 0) → TestTree → Type 0
  EachCheck P yes = Unit {0}
  EachCheck P no = Unit {0}
  EachCheck P (looks check) = P check
  EachCheck P (not_of inner) = EachCheck P inner
  EachCheck P (all_of inner) = EachCheckOf P inner
  EachCheck P (any_of inner) = EachCheckOf P inner

  pub EachCheckOf : (MailCheck → Type 0) → Tests → Type 0
  EachCheckOf P no_tests = Unit {0}
  EachCheckOf P (test first more) = EachCheck P first × EachCheckOf P more

abbrev mutual
  pub EachAsks : (MailCheck → Type 0) → CommandTree → Type 0
  EachAsks P (require names) = Unit {0}
  EachAsks P (choose branches) = EachAsksInBranches P branches
  EachAsks P stop = Unit {0}
  EachAsks P (act action) = Unit {0}

  pub EachAsksInBranches : (MailCheck → Type 0) → Branches → Type 0
  EachAsksInBranches P no_branches = Unit {0}
  EachAsksInBranches P (branch condition block more) = EachCheck P condition × (EachAsksIn P block × EachAsksInBranches P more)

  pub EachAsksIn : (MailCheck → Type 0) → Commands → Type 0
  EachAsksIn P no_commands = Unit {0}
  EachAsksIn P (command first more) = EachAsks P first × EachAsksIn P more

-- a tree has no action and no test but such as are permitted where these capabilities are granted
pub record UsesOnly (offered : Capabilities) (tree : Commands) : Type 0 where
  pub actions : EachIn (MayAct offered) tree
  pub tests : EachAsksIn (MayCheck offered) tree

-- where more are offered the text means this tree and no other, and it uses nothing that came with them
pub record StillMeans (few more : Capabilities) (text : List ℕ) (tree : Commands) : Type 0 where
  pub means : MeansIn more text tree
  pub only : (other : Commands) → MeansIn more text other → other ≡ tree
  pub uses : UsesOnly few tree
