-- From the rows that a write makes to the accounts that it leaves.
use Rattle.std.proofs.Common.{◌≡◌, ℕ, ℤ, pos, List, [], ◌∷◌, Option, Some, None, Ok, Err, Result, OnOk, IsSome, refl, subst, ap, ◌∙◌, Bool, cond, nat_eq, option_map, option_copied}
use Rattle.std.specs.Cmp.Lexicographic.{pointwise, texts_ties}
use Rattle.std.specs.Borrow.{Bor}
use Rattle.std.specs.FinMap.{get, insert}
use Rattle.sqlite.specs.Effect.{Database}
use Rattle.sqlite.specs.State.{State, Survives}
use Rattle.sqlite.proofs.StateLemmas.{survives_weaker}
use Rattle.store_tables.specs.Rows.{Tables, HoldsTables}
use Rattle.store_tables.specs.declared.change.Change.{Change}
use Rattle.store_tables.specs.declared.change.Change.TheVariants.{AddAccount, SetActive, AddScript, RemoveScript, RemoveOutgoing}
use Rattle.store_accounts.specs.declared.refusal.Refusal.{Refusal}
use Rattle.store_tables.specs.Schema.{mail_schema}
use Rattle.store_tables.specs.Cells.{borrowed_octets}
use Rattle.store_tables.specs.Changes.{made, CrashLeavesTables, AreOf}
use Rattle.store_accounts.specs.Account.{Account, Accounts, with_user, in_place, new_account, keeps_script, activates, deletes_script, renames_script, other_name, takes_out}
use Rattle.store_accounts.specs.Shows.{rows_of, IsShown, IsShownOrAbsent, ShowsAccounts}
use Rattle.store_accounts.specs.Promises.{HasUser, IsFree, OfUser, ChangesAccounts, CrashLeavesAccounts}
use Rattle.store_accounts.specs.ScriptRows.{IsRenaming}
use Rattle.store_accounts.proofs.ShowLemmas.{shows_after}
use Rattle.store_accounts.proofs.AccountLemmas.{script_put, script_gone, script_moved, none_moved, queue_gone, active_put, account_put}

-- the changes turn tables that show accounts that fit into tables that show them changed
abbrev pub Carries : List Change → (Accounts → Type 0) → (Accounts → Accounts) → Type 0
Carries ds Fit change = (tables : Tables) (accounts : Accounts) → ShowsAccounts tables accounts → Fit accounts → ShowsAccounts (made tables ds) (change accounts)

pub applied : {X : Type 0} (r : Result X Refusal) (old new : Database) (ds : List Change) (Fit : Accounts → Type 0) (change : Accounts → Accounts) → Carries ds Fit change
    → ((tables : Tables) → HoldsTables mail_schema old tables → OnOk r (HoldsTables mail_schema new (made tables ds))) → OnOk r (ChangesAccounts Fit change old new)
applied (Err e) old new ds Fit change carries holds = tt
applied (Ok x) old new ds Fit change carries holds = λ accounts p fit. (made p.0 ds, holds p.0 p.1, carries p.0 accounts p.2 fit)

pub crashed : (old new : State) (ds : List Change) (Fit : Accounts → Type 0) (change : Accounts → Accounts) → Carries ds Fit change → Survives old new (CrashLeavesTables ds old) → Survives old new (CrashLeavesAccounts Fit change old)
crashed old new ds Fit change carries =
    survives_weaker old new (CrashLeavesTables ds old) (CrashLeavesAccounts Fit change old) (λ clean trees may accounts p fit. let left = may p.0 p.1 in (left.0, (made p.0 ds, left.1, carries p.0 accounts p.2 fit), left.2))

-- the user's account changed, where its own rows are those of the changed account
pub carries_user : (user : List ℕ) (ds : List Change) (change : Account → Account) → AreOf user ds → ((own : Tables) (a : Account) → IsShown user own a → IsShown user (made own ds) (change a))
    → Carries ds (HasUser user) (λ all. with_user all user change)
carries_user user ds change are own tables accounts shows has = go (get accounts user) refl has
  where
    go : (o : Option Account) → get accounts user ≡ o → IsSome o → ShowsAccounts (made tables ds) (in_place accounts user change (get accounts user))
    go None is some = absurd (let e = some in cc)
    go (Some a) is some =
        let here = subst (IsShownOrAbsent user (rows_of user tables)) is (shows.users user) in
        rw is (shows_after tables accounts user ds (change a) are shows (own (rows_of user tables) a here))

pub carries_script : (user name text : Bor (List ℕ)) → Carries (RemoveScript user name ∷ AddScript user name text ∷ []) (HasUser user.now) (λ all. with_user all user.now (keeps_script name.now text.now))
carries_script user name text =
    carries_user user.now (RemoveScript user name ∷ AddScript user name text ∷ []) (keeps_script name.now text.now) (refl, (refl, tt)) (λ own a s. script_put user.now own a s name.now text.now)

pub carries_deletion : (user name : Bor (List ℕ)) → Carries (RemoveScript user name ∷ []) (HasUser user.now) (λ all. with_user all user.now (deletes_script name.now))
carries_deletion user name = carries_user user.now (RemoveScript user name ∷ []) (deletes_script name.now) (refl, tt) (λ own a s. script_gone user.now own a s name.now)

pub carries_taking : (user : Bor (List ℕ)) (id : ℤ) (n : ℕ) → id ≡ pos n → Carries (RemoveOutgoing user id ∷ []) (HasUser user.now) (λ all. with_user all user.now (takes_out n))
carries_taking user id n is = carries_user user.now (RemoveOutgoing user id ∷ []) (takes_out n) (refl, tt) (λ own a s. rw is (queue_gone user.now own a s n))

pub carries_active : (user : Bor (List ℕ)) (active : Option (Bor (List ℕ))) → Carries (SetActive user active ∷ []) (HasUser user.now) (λ all. with_user all user.now (activates (borrowed_octets active)))
carries_active user active = carries_user user.now (SetActive user active ∷ []) (activates (borrowed_octets active)) (refl, tt) (λ own a s. active_put user.now own a s (borrowed_octets active))

pub carries_account : (user address salt : Bor (List ℕ)) (rounds : ℕ) (digest : Bor (List ℕ))
    → Carries (AddAccount user address salt rounds digest ∷ []) (IsFree user.now) (λ all. insert all user.now (new_account address.now (record { salt = salt.now; rounds = rounds; digest = digest.now })))
carries_account user address salt rounds digest tables accounts shows free =
    let none = subst (IsShownOrAbsent user.now (rows_of user.now tables)) free (shows.users user.now) in
    shows_after tables accounts user.now (AddAccount user address salt rounds digest ∷ []) _ (refl, tt) shows (account_put user.now address.now salt.now rounds digest.now (rows_of user.now tables) none)

-- where this is known of the account
pub carries_known : (user : List ℕ) (ds : List Change) (change : Account → Account) (Known : Account → Type 0) → AreOf user ds → ((own : Tables) (a : Account) → Known a → IsShown user own a → IsShown user (made own ds) (change a))
    → Carries ds (λ all. OfUser all user Known) (λ all. with_user all user change)
carries_known user ds change Known are own tables accounts shows there =
    let here = subst (IsShownOrAbsent user (rows_of user tables)) there.1 (shows.users user) in
    rw there.1 (shows_after tables accounts user ds (change there.0) are shows (own (rows_of user tables) there.0 there.2 here))

module _ (user name other : Bor (List ℕ)) (active : Option (Bor (List ℕ))) where
  pub carries_renaming : (text : Bor (List ℕ)) → Carries (RemoveScript user name ∷ RemoveScript user other ∷ AddScript user other text ∷ SetActive user active ∷ [])
      (λ all. OfUser all user.now (IsRenaming name.now other.now (Some text.now) (borrowed_octets active))) (λ all. with_user all user.now (renames_script name.now other.now))
  carries_renaming text =
      let ds = RemoveScript user name ∷ RemoveScript user other ∷ AddScript user other text ∷ SetActive user active ∷ [] in
      carries_known user.now ds (renames_script name.now other.now) (IsRenaming name.now other.now (Some text.now) (borrowed_octets active)) (refl, (refl, (refl, (refl, tt))))
      (λ own a known s. script_moved user.now name.now other.now (borrowed_octets active) own a s known.1 text.now known.0)

  pub carries_active_name : Carries (SetActive user active ∷ []) (λ all. OfUser all user.now (IsRenaming name.now other.now None (borrowed_octets active))) (λ all. with_user all user.now (renames_script name.now other.now))
  carries_active_name = carries_known user.now (SetActive user active ∷ []) (renames_script name.now other.now) (IsRenaming name.now other.now None (borrowed_octets active)) (refl, tt)
      (λ own a known s. none_moved user.now name.now other.now (borrowed_octets active) own a s known.1 known.0)

-- one name in place of another, at the test of the program
pub renamed_is : (o : Option (Bor (List ℕ))) (a : Bor (List ℕ)) → o ≡ Some a → (name other : List ℕ) (b : Bool) → b ≡ pointwise nat_eq a.now name → Some (cond b other a.now) ≡ option_map (other_name name other) (borrowed_octets o)
renamed_is o a there name other b told = rw there (ap (λ t. Some (cond t other a.now)) (told ∙ texts_ties a.now name))

-- a text after a reference is the text
pub contents_is : (o : Option (Bor (List ℕ))) → borrowed_octets o ≡ option_copied o
contents_is None = refl
contents_is (Some b) = refl
