-- What a valid tree has to be besides what the grammar demands.
use Rattle.std.specs.Prelude.{◌≤◌, ℕ, is_some, List, [], ◌++◌, All}
use Rattle.sieve_syntax.specs.declared.tree.action.Action.{Action}
use Rattle.sieve_syntax.specs.declared.tree.action.Action.TheVariants.{Keep, Discard, FileInto, Redirect, Vacation, SetFlag, AddFlag, RemoveFlag}
use Rattle.sieve_syntax.specs.declared.tree.checks.MailCheck.{MailCheck}
use Rattle.sieve_syntax.specs.declared.tree.checks.MailCheck.TheVariants.{Size, Exists, Header, Address, Extension}
use Rattle.sieve_syntax.specs.declared.capability.Capability.TheVariants as C
use Rattle.sieve_syntax.specs.Capabilities.{Capabilities, all_capabilities, KnowsName, granted_by, Permits}
use Rattle.sieve_syntax.specs.Comparators.{MayMatch}
use Rattle.sieve_syntax.specs.Extension.{MayAsk}
use Rattle.sieve_syntax.specs.Extension.FileInto.{MayFileInto}
use Rattle.sieve_syntax.specs.Extension.Imap4flags.{MaySetFlags}
use Rattle.sieve_syntax.specs.Extension.Subaddress.{MayNamePart}
use Rattle.sieve_syntax.specs.Extension.Vacation.{MayReply}
use Rattle.sieve_syntax.specs.Tree.{TestTree, yes, no, looks, not_of, all_of, any_of, Tests, no_tests, test, list_depth, not_depth, CommandTree, require, choose, stop, act, Branches, no_branches, branch, Commands, no_commands, command, depth}

-- an action that is permitted if this is granted
abbrev pub MayAct : Capabilities → Action → Type 0
MayAct granted (Keep given) = Permits (granted C.Imap4flags) (is_some given)
MayAct granted Discard = Unit {0}
MayAct granted (FileInto filing) = MayFileInto granted filing
MayAct granted (Redirect redirect) = Permits (granted C.Copy) redirect.copy
MayAct granted (Vacation args) = MayReply granted args
MayAct granted (SetFlag texts) = MaySetFlags granted
MayAct granted (AddFlag texts) = MaySetFlags granted
MayAct granted (RemoveFlag texts) = MaySetFlags granted

-- a test of the message, or of what has been done so far, that is permitted if this is granted
abbrev pub MayCheck : Capabilities → MailCheck → Type 0
MayCheck granted (Size size) = Unit {0}
MayCheck granted (Exists fields) = Unit {0}
MayCheck granted (Header header) = MayMatch granted header.comparator header.matching
MayCheck granted (Address address) = MayNamePart granted address.part × MayMatch granted address.comparator address.matching
MayCheck granted (Extension extended) = MayAsk granted extended

-- a test that is permitted if this is granted
abbrev mutual
  pub MayTest : Capabilities → TestTree → Type 0
  MayTest granted yes = Unit {0}
  MayTest granted no = Unit {0}
  MayTest granted (looks check) = MayCheck granted check
  MayTest granted (not_of inner) = MayTest granted inner
  MayTest granted (all_of inner) = MayAllTest granted inner
  MayTest granted (any_of inner) = MayAllTest granted inner

  pub MayAllTest : Capabilities → Tests → Type 0
  MayAllTest granted no_tests = Unit {0}
  MayAllTest granted (test first more) = MayTest granted first × MayAllTest granted more

-- how many test lists, and how many `not`s, may enclose a test at most
abbrev pub max_lists : ℕ
max_lists = 32

abbrev pub max_nots : ℕ
max_nots = 32

-- how deep blocks may be nested at most
abbrev pub max_blocks : ℕ
max_blocks = 32

-- a test that is permitted in a branch: besides, at most that many test lists and, counted separately, that many `not`s
-- enclose any test within it
abbrev pub MayBeCondition : Capabilities → ℕ → ℕ → TestTree → Type 0
MayBeCondition granted lists nots condition = MayTest granted condition × ((list_depth condition ≤ lists) × (not_depth condition ≤ nots))

-- commands that are permitted after the last `require`, if this is granted
abbrev mutual
  pub MayStand : Capabilities → CommandTree → Type 0
  MayStand granted (require names) = ⊥
  MayStand granted (choose branches) = MayBranch granted branches
  MayStand granted stop = Unit {0}
  MayStand granted (act action) = MayAct granted action

  pub MayBranch : Capabilities → Branches → Type 0
  MayBranch granted no_branches = Unit {0}
  MayBranch granted (branch condition block more) = MayBeCondition granted max_lists max_nots condition × (MayAllStand granted block × MayBranch granted more)

  pub MayAllStand : Capabilities → Commands → Type 0
  MayAllStand granted no_commands = Unit {0}
  MayAllStand granted (command first more) = MayStand granted first × MayAllStand granted more

-- the names in the requires that come first, in turn
abbrev pub required : Commands → List (List ℕ)
required no_commands = []
required (command (require names) more) = names ++ required more
required (command _ more) = []

-- the commands after the requires that come first
abbrev pub after_requires : Commands → Commands
after_requires no_commands = no_commands
after_requires (command (require names) more) = after_requires more
after_requires (command first more) = command first more

-- a valid script, where these capabilities are offered: `require` precedes every other command and names only what is
-- offered, an extension is used only if it is required, blocks are nested no deeper than they may be, and no more test lists
-- and, counted separately, `not`s enclose a test than may
pub record IsValidIn (offered : Capabilities) (commands : Commands) : Type 0 where
  pub known : All (KnowsName offered) (required commands)
  pub stand : MayAllStand (granted_by (required commands)) (after_requires commands)
  pub shallow : depth commands ≤ max_blocks

-- a valid script
abbrev pub IsValid : Commands → Type 0
IsValid = IsValidIn all_capabilities
