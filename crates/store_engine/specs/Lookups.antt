-- What the engine reads of one user's account.
use Rattle.std.specs.Prelude.{◌≡◌, ℕ, cond, List, Option, Some, None, option_map, Result, IfOk, IfErr, IfSome, IsTrue, OnOk}
use Rattle.std.specs.FinMap.{get}
use Rattle.sqlite.specs.State.{State, HasCleanDisk}
use Rattle.mail_address.specs.declared.address.Addr.{Addr}
use Rattle.mail_address.specs.Outbound.{IsBareAddress}
use Rattle.sieve_syntax.specs.Meaning.{Actions}
use Rattle.sieve_exec.specs.Mails.{MailSpec}
use Rattle.sieve_plan.specs.declared.view.AccountView.{AccountView}
use Rattle.sieve_plan.specs.Views.{IsViewOf}
use Rattle.store_accounts.specs.declared.refusal.Refusal.{Refusal}
use Rattle.store_accounts.specs.declared.refusal.Refusal.TheVariants.{NoUser, UserExists, UserHasMail}
use Rattle.store_accounts.specs.Account.{Account, is_closed_account, is_removed, has_mail}
use Rattle.store_accounts.specs.AccountRows.{profile_of}
use Rattle.store_accounts.specs.Promises.{KeepsTables, KeepsSeen, OverAccounts, ReadsOpenAccount}
use Rattle.store_accounts.specs.Refusals.{IsTransient}
use Rattle.store_engine.specs.declared.account.ActiveScript.{ActiveScript}
use Rattle.store_engine.specs.declared.delivery.Lookup.{Lookup}
use Rattle.store_engine.specs.declared.standing.Standing.{Standing}
use Rattle.store_engine.specs.AccountEvents.{active_text}

-- a read of one user's open account; of a store that a fault of the disk has shut it isn't said that the user has none
pub record LooksUp {X : Type 0} (user : List ℕ) (Part : X → Account → Type 0) (old new : State) (result : Result X Refusal) : Type 0 where
  pub reads : ReadsOpenAccount user Part old new result
  pub sure : HasCleanDisk new → IfErr result (λ e. e ≡ NoUser → IsTrue old.is_open)

-- the account's profile, and the text of its active script
pub record IsActiveScript (found : ActiveScript) (a : Account) : Type 0 where
  pub profile : found.profile ≡ profile_of a
  pub text : found.text ≡ active_text a

-- what decides on a delivery: the account's address, and the text of its active script
pub record IsLookup (lookup : Lookup) (a : Account) : Type 0 where
  pub address : IsBareAddress a.address lookup.address
  pub text : lookup.text ≡ active_text a

-- what is read of an account that was entered, by some queries or by none: this holds of the answer and of the account, if there is one;
-- all stays, and a connection that was open is open after Ok; it is refused without visible cause alone
pub record Recalls {X : Type 0} (user : List ℕ) (Part : X → Account → Type 0) (old new : State) (result : Result X Refusal) : Type 0 where
  pub found : HasCleanDisk new → OverAccounts old (λ accounts. IfOk result (λ x. IfSome (get accounts user) (Part x)))
  pub keeps : KeepsSeen old new result
  pub live : HasCleanDisk new → IsTrue old.is_open → OnOk result (IsTrue new.is_open)
  pub shut : HasCleanDisk new → IsTrue new.is_open → IsTrue old.is_open
  pub named : IfErr result IsTransient

-- what a delivery has to know of the account for these deeds, beside this address, which is the account's
pub record IsRecalled (view : AccountView) (address : Addr) (mail : MailSpec) (deeds : Actions) (a : Account) : Type 0 where
  pub same : view.address ≡ address
  pub of : IsBareAddress a.address address → IsViewOf view mail deeds a

-- ---- how an account stands

abbrev pub standing_of : Account → Standing
standing_of a = record { is_closed = is_closed_account a; is_removed = is_removed a; has_mail = has_mail a }

-- a read of how the user's account stands, open or closed; it answers none without an account
pub record ReadsStanding (user : List ℕ) (old new : State) (result : Result (Option Standing) Refusal) : Type 0 where
  pub found : HasCleanDisk new → OverAccounts old (λ accounts. IfOk result (λ standing. standing ≡ option_map standing_of (get accounts user)))
  pub keeps : KeepsTables old new result
  pub named : IfErr result IsTransient

-- why no user can be added over an account that stands so, if it stands against it
abbrev pub over_standing : Option Standing → Option Refusal
over_standing None = None
over_standing (Some standing) = cond standing.is_closed (cond standing.has_mail (Some UserHasMail) None) (Some UserExists)
