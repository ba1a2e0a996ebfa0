-- An account's flags lie beside its messages.
use Rattle.std.proofs.Common.{◌≡◌, ℕ, List, length, filter, Some, ap, sym, ◌∙◌, subst}
use Rattle.std.proofs.lemmas.List.{length-map}
use Rattle.std.specs.FinMap.{get}
use Rattle.store_tables.specs.Rows.{Tables}
use Rattle.store_accounts.specs.Account.{Account, Accounts, folder_flags, messages_in}
use Rattle.store_accounts.specs.CopyRows.{Copy, is_in}
use Rattle.store_accounts.specs.Shows.{IsShown, IsShownOrAbsent, ShowsAccounts, rows_of}
use Rattle.store_accounts.proofs.OrderLemmas.{flags_are, messages_are}

-- of an account whose rows these are
beside : (user : List ℕ) (own : Tables) (a : Account) → IsShown user own a → (folder : List ℕ) → length (folder_flags a.flags folder) ≡ length (messages_in a.folders folder)
beside user own a s folder =
    let there = filter (is_in folder) s.copies.entries in
    ap length (ap (λ m. messages_in m folder) s.copies.shown_flags ∙ flags_are s.copies.entries folder) ∙ length-map there (λ (c : Copy). c.flags)
    ∙ sym (length-map there (λ (c : Copy). c.message)) ∙ sym (ap length (ap (λ m. messages_in m folder) s.copies.shown ∙ messages_are s.copies.entries folder))

pub flags_beside : (tables : Tables) (accounts : Accounts) (user : List ℕ) (a : Account) → ShowsAccounts tables accounts → get accounts user ≡ Some a
    → (folder : List ℕ) → length (folder_flags a.flags folder) ≡ length (messages_in a.folders folder)
flags_beside tables accounts user a shown there = beside user (rows_of user tables) a (subst (IsShownOrAbsent user (rows_of user tables)) there (shown.users user))
