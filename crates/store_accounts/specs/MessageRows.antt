-- A user's messages in their rows: each is stored once.
use Rattle.std.specs.Prelude.{◌≡◌, ◌++◌, ℕ, ℤ, pos, List, [], ◌∷◌}
use Rattle.sqlite_value.specs.Order.{Row}
use Rattle.mail_flags.specs.declared.placement.Placement.{Placement}
use Rattle.store_tables.specs.MessageTable.{message_cells}

-- a message with its number
pub record Message : Type 0 where
  pub id : ℕ
  pub bytes : List ℕ

abbrev pub message_row : List ℕ → Message → Row
message_row user m = message_cells user (pos m.id) m.bytes

-- the row, if there is a folder for it
abbrev pub once_for : List Placement → Row → List Row
once_for [] row = []
once_for (copy ∷ copies) row = row ∷ []

-- the user's message has one row more, however many folders there are, and none if there is no folder
abbrev pub GainsOnce : List ℕ → List ℕ → List Placement → List Row → List Row → Type 0
GainsOnce user bytes copies rows after = (id : ℤ) × (after ≡ rows ++ once_for copies (message_cells user id bytes))
