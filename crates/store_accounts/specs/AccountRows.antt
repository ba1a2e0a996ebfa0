-- What the row of a user shows of the account, and what is read of it.
use Rattle.std.specs.Prelude.{◌≡◌, ℕ, pos, List, [], ◌∷◌, Option, Some, None, option_map, slice_get}
use Rattle.sqlite_value.specs.declared.value.Value.TheVariants.{Int, Blob}
use Rattle.sqlite_value.specs.Order.{Row, column}
use Rattle.store_tables.specs.AccountTable.{address_column, salt_column, rounds_column, digest_column, active_column, next_copy_column, next_out_column, next_notice_column}
use Rattle.store_accounts.specs.declared.account.Counters.{Counters}
use Rattle.store_accounts.specs.declared.profile.Profile.{Profile}
use Rattle.store_tables.specs.Cells.{or_null}
use Rattle.store_accounts.specs.Account.{Account}

-- ---- what rows show

-- the row of an account; the counters of copies and of notices are not in an account
abbrev pub account_row : List ℕ → Account → ℕ → ℕ → Row
account_row user a next_copy next_notice =
    Blob user ∷ Blob a.address ∷ Blob a.password.salt ∷ Int (pos a.password.rounds) ∷ Blob a.password.digest ∷ or_null a.active
    ∷ Int (pos next_copy) ∷ Int (pos a.next_out) ∷ Int (pos next_notice) ∷ []

-- ---- what is read of them

-- what the query for an account shows of a row
abbrev pub shown_account : Row → Row
shown_account cells =
    column cells address_column ∷ column cells salt_column ∷ column cells rounds_column ∷ column cells digest_column
    ∷ column cells active_column ∷ []

-- what the query for the counters shows of a row
abbrev pub shown_counters : Row → Row
shown_counters cells = column cells next_copy_column ∷ column cells next_out_column ∷ column cells next_notice_column ∷ []

-- what the query for the counters shows of these
abbrev pub counter_cells : Counters → Row
counter_cells c = Int (pos c.copy) ∷ Int (pos c.out) ∷ Int (pos c.notice) ∷ []

-- what the query for an account shows of an account
abbrev pub profile_row : Account → Row
profile_row a = Blob a.address ∷ Blob a.password.salt ∷ Int (pos a.password.rounds) ∷ Blob a.password.digest ∷ or_null a.active ∷ []

-- what the store returns of an account
abbrev pub profile_of : Account → Profile
profile_of a = record { address = a.address; salt = a.password.salt; rounds = a.password.rounds; digest = a.password.digest; active = a.active }

-- the profile is what the row shows
abbrev pub IsProfileIn : Profile → Row → Type 0
IsProfileIn p row =
    (column row 0 ≡ Blob p.address) × (column row 1 ≡ Blob p.salt) × (column row 2 ≡ Int (pos p.rounds)) × (column row 3 ≡ Blob p.digest)
    × (column row 4 ≡ or_null p.active)

-- the same, and there is one if there is a row
abbrev pub IsProfileRead : Option Profile → Option Row → Type 0
IsProfileRead None None = Unit {0}
IsProfileRead None (Some row) = ⊥
IsProfileRead (Some p) None = ⊥
IsProfileRead (Some p) (Some row) = IsProfileIn p row

-- the first of the rows has these counters
abbrev pub HasCounters : List Row → Counters → Type 0
HasCounters rows c = option_map shown_counters (slice_get rows 0) ≡ Some (counter_cells c)
