-- Which accounts are sound, and that runs keep them so.
use Rattle.std.specs.Prelude.{◌≡◌, ◌≢◌, ℕ, ◌≤◌, List, [], length, Some, IsSome, IfSome, IsTrue}
use Rattle.std.specs.FinMap.{get, len}
use Rattle.sqlite.specs.State.{State, HasCleanDisk}
use Rattle.store_accounts.specs.Account.{Account, Accounts}
use Rattle.store_accounts.specs.Shows.{Presents}
use Rattle.managesieve_sessions.specs.Limits.{script_limit, scripts_limit, IsScriptName}
use Rattle.managesieve_sessions.specs.Scripts.{IsValidScript}
use Rattle.store_engine.specs.Limits.{IsOwnAddress}

-- a script as it may be kept: its name is a script's, its text is within the limit and means some tree
pub record IsSoundScript (name text : List ℕ) : Type 0 where
  pub named : IsScriptName name
  pub short : length text ≤ script_limit
  pub valid : IsValidScript text

-- an account whose address is an addr-spec, in which each script may be kept, there are no more of them than the limit, the
-- active name is one of theirs, and no folder is empty
pub record IsSoundAccount (a : Account) : Type 0 where
  pub address : IsOwnAddress a.address
  pub scripts : (name text : List ℕ) → get a.scripts name ≡ Some text → IsSoundScript name text
  pub few : len a.scripts ≤ scripts_limit
  pub active : IfSome a.active (λ name. IsSome (get a.scripts name))
  pub filled : (folder : List ℕ) → get a.folders folder ≢ Some []

-- each of the accounts is sound
abbrev pub AreSound : Accounts → Type 0
AreSound accounts = (user : List ℕ) (a : Account) → get accounts user ≡ Some a → IsSoundAccount a

-- if the store showed sound accounts, all that it shows later are sound
abbrev pub KeepsSound : State → State → Type 0
KeepsSound old new =
    HasCleanDisk new → (before later : Accounts) → Presents old.now before → AreSound before → IsTrue new.is_open → Presents new.now later → AreSound later
