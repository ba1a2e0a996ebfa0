-- The next user, by example, and near misses.
use Rattle.std.proofs.Common.{◌≡◌, ℕ, List, [], ◌∷◌, codes, Some, None, refl, sym, ap, ◌∙◌, inl, inr, Less, is_some, true, false, true≢false}
use Rattle.std.specs.FinMap.{get-empty}
use Rattle.store_tables.specs.Rows.{Tables}
use Rattle.store_tables.specs.AccountTable.{account_cells}
use Rattle.store_accounts.specs.Account.{bytes_cmp, no_accounts}
use Rattle.store_accounts.specs.Promises.{HasUser}
use Rattle.store_accounts.specs.Users.{IsLaterName, HasAccountRow, IsNextUser}

-- by octets, and not by letters
by-octets : IsLaterName (codes "Zoe") (codes "alice")
by-octets = refl

longer-later : IsLaterName (codes "a") (codes "a.b")
longer-later = refl

-- near miss: no name comes after itself
not-itself : IsLaterName (codes "a") (codes "a") → ⊥
not-itself h = cc

-- a row says who has an account, by its first cell
abbrev one : Tables
one tree = account_cells (codes "alice") (codes "bob") [] 1 [] ∷ []

is-named : HasAccountRow one (codes "alice")
is-named = inl refl

-- near miss: not by the address
not-named : HasAccountRow one (codes "bob") → ⊥
not-named (inl e) = cc
not-named (inr none) = none

nobody : (name : List ℕ) → HasUser name no_accounts → ⊥
nobody name there = true≢false (sym there ∙ ap is_some (get-empty bytes_cmp name))

-- without accounts there is none
none-next : IsNextUser [] None no_accounts
none-next name there later = nobody name there

-- near miss: a name without an account
other-next : IsNextUser [] (Some (codes "alice")) no_accounts → ⊥
other-next h = nobody (codes "alice") h.0
