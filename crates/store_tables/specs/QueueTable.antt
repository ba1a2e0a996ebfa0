-- The table of messages on their way out.
use Rattle.std.specs.Prelude.{ℕ, ℤ, pos, List, [], ◌∷◌, codes}
use Rattle.sqlite_schema.specs.declared.schema.Kind.TheVariants as kind
use Rattle.sqlite_schema.specs.declared.schema.Table.{Table}
use Rattle.sqlite_value.specs.declared.value.Value.TheVariants.{Int, Blob}
use Rattle.sqlite_value.specs.Order.{Row}
use Rattle.store_tables.specs.Forms.{needed, keyed}
use Rattle.store_tables.specs.declared.queue.QueuedKind.{QueuedKind}
use Rattle.store_tables.specs.declared.queue.QueuedKind.TheVariants.{Redirect, Reply}
use Rattle.store_tables.specs.AccountTable.{to_account}

-- the number of the table's tree
abbrev pub outgoing_tree : ℕ
outgoing_tree = 6

abbrev pub outgoing : Table
outgoing = keyed (codes "outgoing") outgoing_tree (1 ∷ 2 ∷ []) to_account
    (needed (codes "owner") kind.Blob ∷ needed (codes "id") kind.Integer ∷ needed (codes "kind") kind.Integer ∷ needed (codes "sender") kind.Blob ∷ needed (codes "target") kind.Blob
    ∷ needed (codes "message") kind.Blob ∷ [])

abbrev pub create_outgoing : List ℕ
create_outgoing =
    codes "CREATE TABLE outgoing (owner BLOB NOT NULL REFERENCES account (name), id INTEGER NOT NULL, kind INTEGER NOT NULL, sender BLOB NOT NULL, target BLOB NOT NULL, message BLOB NOT NULL, PRIMARY KEY (owner, id)) STRICT"

-- a redirect, or a vacation reply (RFC 5230)
abbrev pub kind_number : QueuedKind → ℕ
kind_number Redirect = 1
kind_number Reply = 2

abbrev pub queue_cells : List ℕ → ℤ → QueuedKind → List ℕ → List ℕ → List ℕ → Row
queue_cells owner id kind sender target message = Blob owner ∷ Int id ∷ Int (pos (kind_number kind)) ∷ Blob sender ∷ Blob target ∷ Blob message ∷ []

-- the key of a row: the owner and the number
abbrev pub queue_key : List ℕ → ℤ → Row
queue_key owner id = Blob owner ∷ Int id ∷ []

abbrev pub insert_outgoing : List ℕ
insert_outgoing = codes "INSERT INTO outgoing (owner, id, kind, sender, target, message) VALUES (?1, ?2, ?3, ?4, ?5, ?6)"

abbrev pub delete_outgoing : List ℕ
delete_outgoing = codes "DELETE FROM outgoing WHERE owner = ?1 AND id = ?2"

abbrev pub delete_queue : List ℕ
delete_queue = codes "DELETE FROM outgoing WHERE owner = ?1"

-- the queue is sent in the order of its numbers
abbrev pub select_queue : List ℕ
select_queue = codes "SELECT id, kind, sender, target, message FROM outgoing WHERE owner = ?1 ORDER BY id"

-- one message by its number
abbrev pub select_outgoing : List ℕ
select_outgoing = codes "SELECT id, kind, sender, target, message FROM outgoing WHERE owner = ?1 AND id = ?2"

-- the queue in the order of its numbers, with the lengths of its messages
abbrev pub select_heads : List ℕ
select_heads = codes "SELECT id, kind, sender, target, length(message) FROM outgoing WHERE owner = ?1 ORDER BY id"

-- the first row with a higher number in the user's queue; of a later user
abbrev pub select_later_id : List ℕ
select_later_id = codes "SELECT owner, id FROM outgoing WHERE owner = ?1 AND id > ?2 ORDER BY owner, id LIMIT 1"

abbrev pub select_later_queue : List ℕ
select_later_queue = codes "SELECT owner, id FROM outgoing WHERE owner > ?1 ORDER BY owner, id LIMIT 1"
