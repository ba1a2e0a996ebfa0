-- What was read of an account so far.
use Rattle.std.specs.Prelude.{◌≡◌, ◌++◌, ℕ, true, List, [], ◌∷◌, Result, Some, length, take}
use Rattle.std.specs.FinMap.{empty, get}
use Rattle.std.specs.List.{AllByRecursion}
use Rattle.sqlite.specs.Effect.{Database}
use Rattle.sqlite.specs.State.{State}
use Rattle.store_text.specs.Limits.{MayHave}
use Rattle.store_text.specs.Text.{IsHead}
use Rattle.store_text.specs.declared.part.Part.{Part}
use Rattle.store_tables.specs.Rows.{Tables}
use Rattle.store_accounts.specs.declared.profile.Profile.{Profile}
use Rattle.store_accounts.specs.declared.refusal.Refusal.{Refusal}
use Rattle.store_accounts.specs.Account.{Account, Accounts}
use Rattle.store_accounts.specs.AccountRows.{profile_of}
use Rattle.store_accounts.specs.Promises.{ReadsOpenAccount, ReadsEntered}
use Rattle.store_accounts.specs.Shows.{IsShown, Presents}
use Rattle.store_accounts.specs.Whole.{whole}
use Rattle.store_export.specs.declared.contents.Contents.{Contents}
use Rattle.store_export.specs.Parts.{account_head, account_parts}
use Rattle.store_export.specs.Places.{part_places, has_active_place, OfShown}

-- this is what the account has, as the rows show it
pub record IsListOf (contents : Contents) (a : Account) (own : Tables) (s : IsShown contents.head.owner.name own a) : Type 0 where
  pub head : contents.head ≡ account_head contents.head.owner.name a s.next_copy s.next_notice
  pub places : contents.places ≡ part_places a s.copies.entries s.notices.entries

-- these are the first of the account's parts, in their order
abbrev pub AreFirst : List Part → (user : List ℕ) (a : Account) (own : Tables) → IsShown user own a → Type 0
AreFirst parts user a own s = parts ≡ take (length parts) (account_parts a s.copies.entries s.notices.entries)

-- for the account that the database shows this was listed and these are the first parts, and a text may have them
pub record AreRead (contents : Contents) (parts : List Part) (db : Database) (a : Account) : Type 0 where
  pub listed : OfShown db contents.head.owner.name a (IsListOf contents a)
  pub first : OfShown db contents.head.owner.name a (AreFirst parts contents.head.owner.name a)
  pub head : IsHead contents.head
  pub active : has_active_place contents.head.owner.active contents.places ≡ true
  pub fit : AllByRecursion (MayHave contents.head.numbers) parts

-- if all parts before this place were read, this is the next one
abbrev pub IsNextPart : Contents → ℕ → Part → Database → Account → Type 0
IsNextPart contents at part db a = (parts : List Part) → length parts ≡ at → AreRead contents parts db a → AreRead contents (parts ++ part ∷ []) db a

-- ---- the promises of the calls, for the account that the state before shows

-- the list of what the user's open account has, of whose parts none is read yet
abbrev pub ListsContents : List ℕ → State → State → Result Contents Refusal → Type 0
ListsContents user old new r = ReadsOpenAccount user (λ contents a. AreRead contents [] old.now a) old new r

-- the same for an account that was entered, if this is its profile
abbrev pub ListsEntered : List ℕ → Profile → State → State → Result Contents Refusal → Type 0
ListsEntered user profile old new r = ReadsEntered user (λ contents a. profile ≡ profile_of a → AreRead contents [] old.now a) old new r

-- the read of the part at a place of these contents
abbrev pub ReadsNextPart : Contents → ℕ → State → State → Result Part Refusal → Type 0
ReadsNextPart contents at old new r = ReadsEntered contents.head.owner.name (λ part a. IsNextPart contents at part old.now a) old new r

-- ---- what the parts make

-- these parts were read of the account, which the database shows among the others
pub record HasRead (contents : Contents) (parts : List Part) (db : Database) (accounts : Accounts) (a : Account) : Type 0 where
  pub shown : Presents db accounts
  pub there : get accounts contents.head.owner.name ≡ Some a
  pub read : AreRead contents parts db a

-- some parts make the account again, and these are the first of them
abbrev pub BeginsCopy : Contents → List Part → Account → Type 0
BeginsCopy contents parts a = (all : List Part) × (parts ≡ take (length parts) all) × (whole contents.head all empty ≡ a)
