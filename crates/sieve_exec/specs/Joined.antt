-- An address as one text, with the index of its `@`.
use Rattle.std.specs.Prelude.{◌≡◌, ℕ, ◌+◌, ◌<◌, List, length, take, drop}
use Rattle.mail_address.specs.declared.address.Addr.{Addr}
use Rattle.mail_address.specs.Spelling.{unquoted_address}

-- the address of a text whose `@` is at an index
abbrev pub address_joined : List ℕ → ℕ → Addr
address_joined all at = record { local = take at all; domain = drop (at + 1) all }

-- there is an `@` there
pub record IsJoined (all : List ℕ) (at : ℕ) : Type 0 where
  pub within : at < length all
  pub spelled : unquoted_address (address_joined all at) ≡ all
