-- The table of the moments of the last replies.
use Rattle.std.specs.Prelude.{ℕ, ℤ, List, [], ◌∷◌, codes}
use Rattle.sqlite_schema.specs.declared.schema.Kind.TheVariants as kind
use Rattle.sqlite_schema.specs.declared.schema.Table.{Table}
use Rattle.sqlite_value.specs.declared.value.Value.TheVariants.{Int, Blob}
use Rattle.sqlite_value.specs.Order.{Row}
use Rattle.store_tables.specs.Forms.{needed, keyed}
use Rattle.store_tables.specs.AccountTable.{to_account}

-- the number of the table's tree
abbrev pub reply_tree : ℕ
reply_tree = 8

abbrev pub reply : Table
reply = keyed (codes "reply") reply_tree (1 ∷ 2 ∷ 3 ∷ []) to_account
    (needed (codes "owner") kind.Blob ∷ needed (codes "handle") kind.Blob ∷ needed (codes "sender") kind.Blob ∷ needed (codes "moment") kind.Integer ∷ [])

abbrev pub create_reply : List ℕ
create_reply =
    codes "CREATE TABLE reply (owner BLOB NOT NULL REFERENCES account (name), handle BLOB NOT NULL, sender BLOB NOT NULL, moment INTEGER NOT NULL, PRIMARY KEY (owner, handle, sender)) STRICT"

abbrev pub insert_reply : List ℕ
insert_reply = codes "INSERT INTO reply (owner, handle, sender, moment) VALUES (?1, ?2, ?3, ?4)"

abbrev pub delete_reply : List ℕ
delete_reply = codes "DELETE FROM reply WHERE owner = ?1 AND handle = ?2 AND sender = ?3"

abbrev pub select_moment : List ℕ
select_moment = codes "SELECT moment FROM reply WHERE owner = ?1 AND handle = ?2 AND sender = ?3"

-- the replies to one sender are in the order of the octets of their handles' keys
abbrev pub select_replies : List ℕ
select_replies = codes "SELECT handle, moment FROM reply WHERE owner = ?1 AND sender = ?2 ORDER BY handle"

-- ---- its rows

abbrev pub reply_cells : List ℕ → List ℕ → List ℕ → ℤ → Row
reply_cells owner handle sender moment = Blob owner ∷ Blob handle ∷ Blob sender ∷ Int moment ∷ []

-- the key of a row: the owner, the key of the handle, and the sender
abbrev pub reply_key : List ℕ → List ℕ → List ℕ → Row
reply_key owner handle sender = Blob owner ∷ Blob handle ∷ Blob sender ∷ []
