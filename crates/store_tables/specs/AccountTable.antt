-- The table of accounts, and the reference to it.
use Rattle.std.specs.Prelude.{false, ℕ, ℤ, pos, List, [], ◌∷◌, codes}
use Rattle.sqlite_schema.specs.declared.schema.Action.TheVariants.{NoAction}
use Rattle.sqlite_schema.specs.declared.schema.Kind.TheVariants as kind
use Rattle.sqlite_schema.specs.declared.schema.Reference.{Reference}
use Rattle.sqlite_schema.specs.declared.schema.Table.{Table}
use Rattle.sqlite_value.specs.declared.value.Value.{Value}
use Rattle.sqlite_value.specs.declared.value.Value.TheVariants.{Null, Int, Blob}
use Rattle.sqlite_value.specs.Order.{Row, column}
use Rattle.store_tables.specs.Forms.{needed, maybe, keyed}

-- the number of the table's tree
abbrev pub account_tree : ℕ
account_tree = 2

-- ---- the columns

abbrev pub address_column : ℕ
address_column = 1

abbrev pub salt_column : ℕ
salt_column = 2

abbrev pub rounds_column : ℕ
rounds_column = 3

abbrev pub digest_column : ℕ
digest_column = 4

abbrev pub active_column : ℕ
active_column = 5

abbrev pub next_copy_column : ℕ
next_copy_column = 6

abbrev pub next_out_column : ℕ
next_out_column = 7

abbrev pub next_notice_column : ℕ
next_notice_column = 8

abbrev pub account : Table
account = keyed (codes "account") account_tree (1 ∷ []) []
    (needed (codes "name") kind.Blob ∷ needed (codes "address") kind.Blob ∷ needed (codes "salt") kind.Blob ∷ needed (codes "rounds") kind.Integer ∷ needed (codes "digest") kind.Blob
    ∷ maybe (codes "active") kind.Blob ∷ needed (codes "next_copy") kind.Integer ∷ needed (codes "next_out") kind.Integer ∷ needed (codes "next_notice") kind.Integer ∷ [])

-- `REFERENCES account (name)` on the first column
abbrev pub account_reference : Reference
account_reference = record { columns = 1 ∷ []; parent = codes "account"; parent_columns = codes "name" ∷ []; on_delete = NoAction; on_update = NoAction; is_deferred = false }

-- the references of a table whose rows have an owner
abbrev pub to_account : List Reference
to_account = account_reference ∷ []

-- ---- its statements

abbrev pub create_account : List ℕ
create_account =
    codes "CREATE TABLE account (name BLOB NOT NULL PRIMARY KEY, address BLOB NOT NULL, salt BLOB NOT NULL, rounds INTEGER NOT NULL, digest BLOB NOT NULL, active BLOB, next_copy INTEGER NOT NULL, next_out INTEGER NOT NULL, next_notice INTEGER NOT NULL) STRICT"

abbrev pub insert_account : List ℕ
insert_account = codes "INSERT INTO account (name, address, salt, rounds, digest, active, next_copy, next_out, next_notice) VALUES (?1, ?2, ?3, ?4, ?5, NULL, 1, 1, 1)"

abbrev pub update_active : List ℕ
update_active = codes "UPDATE account SET active = ?2 WHERE name = ?1"

abbrev pub update_counters : List ℕ
update_counters = codes "UPDATE account SET next_copy = ?2, next_out = ?3, next_notice = ?4 WHERE name = ?1"

abbrev pub update_address : List ℕ
update_address = codes "UPDATE account SET address = ?2 WHERE name = ?1"

abbrev pub update_password : List ℕ
update_password = codes "UPDATE account SET salt = ?2, rounds = ?3, digest = ?4 WHERE name = ?1"

abbrev pub update_rounds : List ℕ
update_rounds = codes "UPDATE account SET rounds = ?2 WHERE name = ?1"

abbrev pub select_account : List ℕ
select_account = codes "SELECT address, salt, rounds, digest, active FROM account WHERE name = ?1"

abbrev pub select_counters : List ℕ
select_counters = codes "SELECT next_copy, next_out, next_notice FROM account WHERE name = ?1"

-- ---- its rows

-- a new account has no active script, and counts from 1
abbrev pub account_cells : List ℕ → List ℕ → List ℕ → ℕ → List ℕ → Row
account_cells name address salt rounds digest = Blob name ∷ Blob address ∷ Blob salt ∷ Int (pos rounds) ∷ Blob digest ∷ Null ∷ Int (pos 1) ∷ Int (pos 1) ∷ Int (pos 1) ∷ []

-- the account's row with another active script
abbrev pub with_active : Value → Row → Row
with_active active cells =
    column cells 0 ∷ column cells address_column ∷ column cells salt_column ∷ column cells rounds_column ∷ column cells digest_column
    ∷ active ∷ column cells next_copy_column ∷ column cells next_out_column ∷ column cells next_notice_column ∷ []

-- the account's row with other counters: of copies, of messages on their way out, and of notices
abbrev pub with_counters : ℤ → ℤ → ℤ → Row → Row
with_counters copy out notice cells =
    column cells 0 ∷ column cells address_column ∷ column cells salt_column ∷ column cells rounds_column ∷ column cells digest_column
    ∷ column cells active_column ∷ Int copy ∷ Int out ∷ Int notice ∷ []

-- the account's row with another address
abbrev pub with_address : List ℕ → Row → Row
with_address address cells =
    column cells 0 ∷ Blob address ∷ column cells salt_column ∷ column cells rounds_column ∷ column cells digest_column
    ∷ column cells active_column ∷ column cells next_copy_column ∷ column cells next_out_column ∷ column cells next_notice_column ∷ []

-- with another stored password
abbrev pub with_password : List ℕ → ℕ → List ℕ → Row → Row
with_password salt rounds digest cells =
    column cells 0 ∷ column cells address_column ∷ Blob salt ∷ Int (pos rounds) ∷ Blob digest
    ∷ column cells active_column ∷ column cells next_copy_column ∷ column cells next_out_column ∷ column cells next_notice_column ∷ []

-- with other rounds of the password
abbrev pub with_rounds : ℕ → Row → Row
with_rounds rounds cells =
    column cells 0 ∷ column cells address_column ∷ column cells salt_column ∷ Int (pos rounds) ∷ column cells digest_column
    ∷ column cells active_column ∷ column cells next_copy_column ∷ column cells next_out_column ∷ column cells next_notice_column ∷ []
