-- What a store in memory shows, what a crash leaves of it, and what a sink in memory has of mail that moves on.
use Rattle.std.specs.Prelude.{◌≡◌, ⊤, ℕ, List, Contains}
use Rattle.sqlite_trees.specs.declared.memory.MemStore.{MemStore}
use Rattle.sqlite.specs.Held.{Held, state}
use Rattle.sqlite.specs.Steps.{over_memory}
use Rattle.managesieve_sessions.specs.Acts.{HasAccounts}
use Rattle.maildir_files.specs.declared.kept.KeptMail.{KeptMail}
use Rattle.maildir_files.specs.declared.memory_sink.MemorySink.{MemorySink}
use Rattle.maildir_moves.specs.Enduring.{leaves_of}
use Rattle.maildir_moves.specs.Relying.{LeftThere, ReliesOn}
use Rattle.maildir_moves.specs.declared.load.Load.{Load}
use Rattle.maildir_moves.specs.declared.moving.Moving.{Moving}
use Rattle.daemon_core.specs.StoreAccess.{View}
use Rattle.test_daemon.specs.declared.memory.MemShelf.{MemShelf}

abbrev pub memory_view_of : View (Held MemStore)
memory_view_of = record { shows = λ store accounts. HasAccounts (state over_memory store) accounts; leaves = λ store trees. leaves_of (state over_memory store) trees }

abbrev pub shelf_view : View MemShelf
shelf_view = record { shows = λ shelf accounts. HasAccounts (state over_memory shelf.store) accounts; leaves = λ shelf trees. leaves_of (state over_memory shelf.store) trees }

-- it is at any place
abbrev pub is_anywhere : MemorySink → List ℕ → Type 0
is_anywhere sink path = ⊤

-- what it has put, and what it keeps, wherever that is
abbrev pub has_put_anywhere : MemorySink → List ℕ → KeptMail → Type 0
has_put_anywhere sink path mail = Contains sink.unsettled mail

abbrev pub keeps_anywhere : MemorySink → List ℕ → KeptMail → Type 0
keeps_anywhere sink path mail = Contains sink.messages mail

-- these are the messages that it keeps, and of what was put it has what the next step relies on
pub record HasMoved (sink : MemorySink) (load : Load) (mails : List KeptMail) : Type 0 where
  pub told : sink.messages ≡ mails
  pub relies : ReliesOn is_anywhere has_put_anywhere keeps_anywhere load sink

abbrev pub HasMailOn : MemShelf → List KeptMail → Type 0
HasMailOn shelf mails = HasMoved shelf.sink shelf.route.load mails

-- what left is kept
abbrev pub MailLeftThere : MemShelf → Moving → Type 0
MailLeftThere shelf m = LeftThere (keeps_anywhere shelf.sink) shelf.route.load m
