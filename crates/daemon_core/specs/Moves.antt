-- Messages that move on: they are kept, and then, after others' events, the events that take them out.
use Rattle.std.specs.Prelude.{◌≡◌, List, [], ◌++◌, length, Option, Some, None}
use Rattle.sqlite_trees.specs.Tree.{Trees}
use Rattle.maildir_files.specs.declared.kept.KeptMail.{KeptMail}
use Rattle.store_engine.specs.Hosts.{SessionMap}
use Rattle.store_engine.specs.World.{World, Runs}
use Rattle.store_engine.specs.declared.answer.Answer.{Answer}
use Rattle.store_engine.specs.declared.event.Event.{Event}
use Rattle.store_engine.specs.Takings.{times}
use Rattle.maildir_moves.specs.Moving.{LeftAmong, MovesMessage, TriedMoving, takings_of, pause_behind}
use Rattle.maildir_moves.specs.declared.batch.MailBatch.{MailBatch}
use Rattle.maildir_moves.specs.declared.moving.MovePause.{MovePause}
use Rattle.maildir_moves.specs.declared.moving.Moving.{Moving}
use Rattle.maildir_moves.specs.declared.moving.Moving.TheVariants as moving
use Rattle.net_loop.specs.declared.act.Act.TheVariants.{Worked}
use Rattle.net_loop.specs.Told.{Telling, TellsIf}
use Rattle.daemon_core.specs.StoreAccess.{View, StoreFacts, AccessState, AreOthers, AllDoneAt, IsWorld, ComesTo, NothingDone, NoneWhileHad}
use Rattle.daemon_core.specs.declared.note.Note.{Note}
use Rattle.daemon_core.specs.declared.note.Note.TheVariants.{Away, Moved}

-- others' events alone lead there, with sessions of their own that come and go in them
pub record LetAt (others : List Event) (w next : World) : Type 0 where
  pub strangers : AreOthers w.sessions others
  pub told : List Answer
  pub theirs : Runs w others told next
  pub apart : next.sessions ≡ w.sessions

-- the events that take the messages of a batch out of their folder, each answered so
abbrev pub takes_by : MailBatch → List Event
takes_by batch = takings_of batch (length batch.mails)

abbrev pub answers_by : MailBatch → Answer → List Answer
answers_by batch answer = times (length batch.mails) answer

-- after others' events they leave their folder, as one act with this answer, or none does
pub record TakenAt (others : List Event) (batch : MailBatch) (answer : Answer) (w next : World) : Type 0 where
  pub done : AllDoneAt others (takes_by batch) (answers_by batch answer) w next
  pub leave : MovesMessage (moving.Kept batch answer) done.between.accounts next.accounts

-- what became of messages leads from a world to another
abbrev pub MovedAt : List Event → Moving → World → World → Type 0
MovedAt others (moving.Kept batch answer) w next = TakenAt others batch answer w next
MovedAt others other w next = LetAt others w next

-- what was tried in it: the events that take so many of them out, if they were refused, at the world that they met
abbrev pub TriedAt : (others : List Event) (m : Moving) (w next : World) → MovedAt others m w next → Trees → Type 0
TriedAt others (moving.Kept batch answer) w next moved trees = TriedMoving (moving.Kept batch answer) moved.done.between trees
TriedAt others other w next moved trees = ⊥

-- the same, whatever accounts the store showed
abbrev pub IsMessageMoved : {R : Type 0} → View R → List Event → Moving → R → SessionMap → R → SessionMap → Type 0
IsMessageMoved view others moving r before q after =
    (w : World) → IsWorld view r before w
    → (next : World) × (moved : MovedAt others moving w next) × ComesTo view r w (TriedAt others moving w next moved) q after next

-- the events that take messages out come after the sink, which has these then, each at its place; and what it had before
abbrev pub HasKept : {R : Type 0} → (R → List KeptMail → Type 0) → (R → Moving → Type 0) → Moving → R → R → Type 0
HasKept has there m r q = (mails : List KeptMail) → has r mails → (more : List KeptMail) × has q (mails ++ more) × LeftAmong m (mails ++ more) × there q m

-- the events, and answers to them
abbrev pub takes_of : Moving → List Event
takes_of (moving.Kept batch answer) = takes_by batch
takes_of other = []

abbrev pub answers_of : Moving → List Answer
answers_of (moving.Kept batch answer) = answers_by batch answer
answers_of other = []

-- a call on the store; if something is told, it is that
abbrev pub MovesNextMessage : {O R : Type 0} → Telling O Note R → StoreFacts O R → AccessState O → Option MovePause → AccessState O → Type 0
MovesNextMessage told store before (Some pause) after =
    (others : List Event) × (moving : Moving) × (pause ≡ pause_behind moving)
    × (store.clean (told.rest after.outside)
    → IsMessageMoved store.view others moving (told.rest before.outside) before.sessions (told.rest after.outside) after.sessions)
    × HasKept store.has store.there moving (told.rest before.outside) (told.rest after.outside) × TellsIf told before.outside (Worked (Moved others moving)) after.outside
    × NoneWhileHad told store before others
MovesNextMessage told store before None after =
    (store.clean (told.rest after.outside) → NothingDone store.view (told.rest before.outside) before.sessions (told.rest after.outside) after.sessions)
    × TellsIf told before.outside (Worked Away) after.outside
