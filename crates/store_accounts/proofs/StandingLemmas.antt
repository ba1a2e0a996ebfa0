-- Open accounts among all.
use Rattle.std.proofs.Common.{◌≡◌, ◌↔◌, ◌==◌, ◌||◌, IsTrue, not, length, map, [], ◌∷◌, ◌∙◌, suc, ℕ, Bool, true, false, cond, List, Option, Some, None, IsSome, refl, sym, ap}
use Rattle.std.proofs.Math.Dec.{eqb-suc-zero}
use Rattle.std.specs.FinMap.{get, len, entries, len-entries}
use Rattle.store_accounts.specs.declared.folder.Folder.{Folder}
use Rattle.store_accounts.specs.declared.queued_envelope.QueuedEnvelope.{QueuedEnvelope}
use Rattle.store_accounts.specs.HeadRows.{queued_envelope}
use Rattle.store_accounts.specs.Tally.{AreFolders, folder_count, folder_size}
use Rattle.store_accounts.specs.Account.{Account, Accounts, is_closed_account, open_one, open_account_of, has_mail}
use Rattle.store_accounts.specs.Promises.{HasUser, IsFree, OfUser, HasOpen, HasNoOpen, OfOpen}

-- an account that is open is there
pub open_there : (o : Option Account) (a : Account) → open_one o ≡ Some a → o ≡ Some a
open_there None a is = absurd (let no = is in cc)
open_there (Some b) a is = go (is_closed_account b) is
  where
    go : (closed : Bool) → cond closed None (Some b) ≡ Some a → Some b ≡ Some a
    go true told = absurd (let no = told in cc)
    go false told = told

pub user_there : (accounts : Accounts) (user : List ℕ) (P : Account → Type 0) → OfOpen accounts user P → OfUser accounts user P
user_there accounts user P there = (there.0, open_there (get accounts user) there.0 there.1, there.2)

pub has_there : (accounts : Accounts) (user : List ℕ) → HasOpen user accounts → HasUser user accounts
has_there accounts user open_is = go (get accounts user) open_is
  where
    go : (o : Option Account) → IsSome (open_one o) → IsSome o
    go None some = some
    go (Some a) some = refl

-- where there is none, none is open
pub free_shut : (accounts : Accounts) (user : List ℕ) → IsFree user accounts → HasNoOpen user accounts
free_shut accounts user free = ap open_one free

-- an account with rounds is open, and one without is not
pub open_with : (accounts : Accounts) (user : List ℕ) (a : Account) → get accounts user ≡ Some a → is_closed_account a ≡ false → open_account_of accounts user ≡ Some a
open_with accounts user a has is = ap open_one has ∙ ap (λ b. cond b None (Some a)) is

pub shut_with : (accounts : Accounts) (user : List ℕ) (a : Account) → get accounts user ≡ Some a → is_closed_account a ≡ true → HasNoOpen user accounts
shut_with accounts user a has is = ap open_one has ∙ ap (λ b. cond b None (Some a)) is

-- ---- mail

no_more : {X Y : Type 0} (f : X → Y) (xs : List X) → length (map f xs) ≡ length xs
no_more f [] = refl
no_more f (x ∷ xs) = ap suc (no_more f xs)

-- whether a list is empty, by how many it has
pub empty_is : {X : Type 0} (xs : List X) (b : Bool) → (IsTrue b ↔ (xs ≡ [])) → (length xs == 0) ≡ b
empty_is [] b h = sym (h.1 refl)
empty_is (x ∷ xs) true h = absurd (let no = h.0 refl in cc)
empty_is (x ∷ xs) false h = eqb-suc-zero (length xs)

counted_all : (folders : List Folder) (a : Account) → AreFolders folders a → length folders ≡ len a.folders
counted_all folders a are = sym (no_more folder_count folders) ∙ (ap length are ∙ (no_more folder_size (entries a.folders) ∙ sym (len-entries a.folders)))

-- there is mail where a folder is counted
pub mail_filed : (folders : List Folder) (a : Account) → (length folders == 0) ≡ false → AreFolders folders a → true ≡ has_mail a
mail_filed folders a some are = sym (ap (λ b. not b || not (length a.queue == 0)) (sym (ap (λ n. n == 0) (counted_all folders a are)) ∙ some))

-- and where none is, by the rows of the queue
pub mail_queued : (folders : List Folder) (heads : List QueuedEnvelope) (a : Account) → (length folders == 0) ≡ true → AreFolders folders a → heads ≡ map queued_envelope a.queue → not (length heads == 0) ≡ has_mail a
mail_queued folders heads a none are is =
    ap (λ n. not (n == 0)) (ap length is ∙ no_more queued_envelope a.queue) ∙ sym (ap (λ b. not b || not (length a.queue == 0)) (sym (ap (λ n. n == 0) (counted_all folders a are)) ∙ none))
