-- The state of one client's session: who is logged in, and the octets that came and are not yet taken off (RFC 5804).
use Rattle.std.specs.Prelude.{ℕ, ◌==◌, Bool, true, false, cond, not, ◌&&◌, List, [], ◌++◌, drop, Option, None}
use Rattle.managesieve_protocol.specs.declared.items.ClientItem.{ClientItem}
use Rattle.managesieve_protocol.specs.declared.items.ItemExtent.{ItemExtent}
use Rattle.managesieve_protocol.specs.declared.items.ItemExtent.TheVariants as reach
use Rattle.managesieve_protocol.specs.Scanning.{extent_of, is_reached}
use Rattle.managesieve_protocol.specs.Values.{item_of}

-- one client's session, without its store
pub record Client : Type 0 where
  -- who is logged in, if anybody is
  pub user : Option (List ℕ)
  -- how many logins failed since the session began or the last login ended
  pub failures : ℕ
  -- the octets that came and are not yet taken off
  pub unread : List ℕ
  -- a challenge waits for its answer
  pub pending : Bool
  -- nothing more is taken from the client
  pub closed : Bool

abbrev pub new_client : Client
new_client = record { user = None; failures = 0; unread = []; pending = false; closed = false }

-- a login failed
abbrev pub has_failed : Client → Bool
has_failed c = not (c.failures == 0)

-- ---- the first item in the unread octets

-- the item: the only one that the grammar allows there (the laws `item_is` and `one_item` of managesieve_protocol)
abbrev pub item_in : Client → ClientItem
item_in c = item_of c.pending c.unread

-- the same without a command's value (`reach_is`, `one_reach`)
abbrev pub reach_in : Client → ItemExtent
reach_in c = extent_of c.pending c.unread

-- there is an item, or it is too big; never in a closed session
abbrev pub is_ready : Client → Bool
is_ready c = not c.closed && is_reached (reach_in c)

abbrev pub is_command : ItemExtent → Bool
is_command (reach.Command used) = true
is_command _ = false

-- whether it is an item: a command or a bad line
abbrev pub is_item : ItemExtent → Bool
is_item (reach.Command used) = true
is_item (reach.Bad used) = true
is_item _ = false

-- ---- how a session changes

-- a piece came; a closed session keeps nothing of it
abbrev pub client_given : List ℕ → Client → Client
client_given piece c = cond c.closed c (record c { unread = c.unread ++ piece })

-- an item of that many octets is taken off; a challenge that was pending is over
abbrev pub without_octets : ℕ → Client → Client
without_octets used c = record c { unread = drop used c.unread; pending = false }

-- the first item, if there is one, is taken off, and a challenge waits then or not
abbrev pub without_first : Bool → ItemExtent → Client → Client
without_first pending (reach.Command used) c = record (without_octets used c) { pending = pending }
without_first pending (reach.Bad used) c = record (without_octets used c) { pending = pending }
without_first pending _ c = c

-- the session ends
abbrev pub shut : Client → Client
shut c = record c { closed = true }

-- a challenge waits for its answer
abbrev pub challenged : Client → Client
challenged c = record c { pending = true }

-- nobody is logged in, and no login failed
abbrev pub after_logout : Client → Client
after_logout c = record c { user = None; failures = 0 }
