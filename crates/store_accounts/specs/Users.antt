-- The users who have an account, one after the other.
use Rattle.std.specs.Prelude.{◌≡◌, ℕ, List, map, codes, Option, Result, IfOk}
use Rattle.std.specs.declared.cmp.Ordering.TheVariants.{Less}
use Rattle.sqlite_value.specs.Order.{Row}
use Rattle.sqlite_rules.specs.Lists.{Has}
use Rattle.sqlite.specs.State.{State, HasCleanDisk}
use Rattle.store_tables.specs.Rows.{Tables}
use Rattle.store_tables.specs.AccountTable.{account_tree}
use Rattle.store_accounts.specs.Account.{Accounts, bytes_cmp}
use Rattle.store_accounts.specs.FirstCells.{first_one, text_cells}
use Rattle.store_accounts.specs.Next.{IsLeast, ShowLeast}
use Rattle.store_accounts.specs.Promises.{HasUser, KeepsTables, OverAccounts}

-- a read over all accounts: this holds of what it finds and of them
pub record FindsOver {X E : Type 0} (Part : X → Accounts → Type 0) (old new : State) (result : Result X E) : Type 0 where
  pub found : HasCleanDisk new → OverAccounts old (λ accounts. IfOk result (λ x. Part x accounts))
  pub keeps : KeepsTables old new result

-- the other name comes after this one, in the order of octets
abbrev pub IsLaterName : List ℕ → List ℕ → Type 0
IsLaterName name other = bytes_cmp name other ≡ Less

-- of the names after this one that have an account, be it open, closed or removed, it is the first; none if there is none
abbrev pub IsNextUser : List ℕ → Option (List ℕ) → Accounts → Type 0
IsNextUser name next accounts = IsLeast bytes_cmp (λ user. HasUser user accounts) (IsLaterName name) next

-- ---- in the tables

-- a row of the table of accounts has the name
abbrev pub HasAccountRow : Tables → List ℕ → Type 0
HasAccountRow tables name = Has (map first_one (tables account_tree)) (text_cells name)

-- whatever the first of the rows shows is the first name after this one
abbrev pub ShowLaterUser : List ℕ → List Row → Tables → Type 0
ShowLaterUser name rows tables = ShowLeast text_cells first_one bytes_cmp (HasAccountRow tables) (IsLaterName name) rows

-- the query
abbrev pub select_later_user : List ℕ
select_later_user = codes "SELECT name FROM account WHERE name > ?1 ORDER BY name LIMIT 1"
