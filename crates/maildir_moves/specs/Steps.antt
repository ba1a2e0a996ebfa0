-- What becomes of a batch, step by step: it is begun, each of its messages is put, they are settled, and then it waits until it is
-- taken out.
use Rattle.std.specs.Prelude.{◌≡◌, ◌⊎◌, ◌+◌, ◌-◌, ◌<◌, ◌≤◌, ◌&&◌, ◌∷◌, ◌++◌, [], ℕ, not, nat_eq, Bool, false, List, length, take, drop, sum_by, slice_get, Option, Some, None}
use Rattle.std.specs.List.{list_any, position}
use Rattle.std.specs.Cmp.Lexicographic.{pointwise}
use Rattle.sqlite.specs.State.{State, HasCleanDisk}
use Rattle.store_tables.specs.Rows.{Tables}
use Rattle.store_accounts.specs.Account.{Accounts}
use Rattle.store_accounts.specs.Promises.{HasNoOpen, OverTables}
use Rattle.store_accounts.specs.Shows.{rows_of, OfCopies}
use Rattle.store_accounts.specs.declared.taking.NumberedMessage.{NumberedMessage}
use Rattle.managesieve_sessions.specs.Acts.{HasAccounts}
use Rattle.store_engine.specs.Takings.{EndsRun, mails_in, max_together}
use Rattle.store_engine.specs.declared.answer.Answer.TheVariants.{MailTaken, Refused}
use Rattle.maildir_moves.specs.Relying.{SamePlaces}
use Rattle.maildir_moves.specs.Rests.{rests_at}
use Rattle.maildir_moves.specs.declared.batch.BegunBatch.{BegunBatch}
use Rattle.maildir_moves.specs.declared.batch.MailBatch.{MailBatch}
use Rattle.maildir_moves.specs.declared.load.Load.{Load}
use Rattle.maildir_moves.specs.declared.moving.Moving.{Moving}
use Rattle.maildir_moves.specs.declared.moving.Moving.TheVariants as moving
use Rattle.maildir_moves.specs.declared.rest.Rest.{Rest}
use Rattle.maildir_moves.specs.declared.route.Route.{Route}

-- ---- whose batch it is

abbrev pub is_batch_of : List ℕ → List ℕ → MailBatch → Bool
is_batch_of user folder batch = pointwise nat_eq batch.user user && pointwise nat_eq batch.folder folder

abbrev pub IsBatchOf : List ℕ → List ℕ → MailBatch → Type 0
IsBatchOf user folder batch = (batch.user ≡ user) × (batch.folder ≡ folder)

abbrev pub IsBegunOf : List ℕ → List ℕ → Option BegunBatch → Type 0
IsBegunOf user folder (Some begun) = IsBatchOf user folder begun.batch
IsBegunOf user folder None = ⊥

-- ---- its messages, by the rows

-- these are the first of the user's folder, in order, with their numbers, octets and flags
abbrev pub AreFolderFront : List ℕ → List ℕ → List NumberedMessage → Tables → Type 0
AreFolderFront user folder mails tables = OfCopies user (rows_of user tables) (λ copies. take (length mails) (mails_in folder copies) ≡ mails)

-- they were, whatever tables the store had
abbrev pub WereFolderFront : List ℕ → List ℕ → List NumberedMessage → State → State → Type 0
WereFolderFront user folder mails old new = HasCleanDisk new → OverTables old (AreFolderFront user folder mails)

abbrev pub octets_of : List NumberedMessage → ℕ
octets_of mails = sum_by (λ m. length m.message) mails

-- all but the last have less than 1 MiB together
abbrev pub IsSmall : List NumberedMessage → Type 0
IsSmall mails = octets_of (take (length mails - 1) mails) < 1048576

-- the first one of a batch wasn't the first of its folder
abbrev pub HasLostFront : MailBatch → State → State → Type 0
HasLostFront batch old new = HasCleanDisk new → OverTables old (λ tables. OfCopies batch.user (rows_of batch.user tables) (λ copies. EndsRun (mails_in batch.folder copies) batch.mails 0))

-- its user had no open account
abbrev pub HasLostAccount : MailBatch → State → State → Type 0
HasLostAccount batch old new = HasCleanDisk new → (accounts : Accounts) → HasAccounts old accounts → HasNoOpen batch.user accounts

-- ---- those that wait to be taken out

-- of those that wait, which is to be taken out: the first whose folder doesn't rest
abbrev pub due_at : ℕ → List Rest → List MailBatch → Option ℕ
due_at now rests waiting = position (λ batch. not (rests_at now batch.user batch.folder rests)) waiting

-- so many may wait
abbrev pub max_settled : ℕ
max_settled = 4

abbrev pub batch_with : MailBatch → List NumberedMessage → List MailBatch
batch_with batch [] = []
batch_with batch (mail ∷ mails) = record batch { mails = mail ∷ mails } ∷ []

-- a batch without its first n messages; none if it has no more
abbrev pub batch_behind : ℕ → MailBatch → List MailBatch
batch_behind n batch = batch_with batch (drop n batch.mails)

-- those that wait, where the one at place k waits without its first n messages
abbrev pub without_front : ℕ → ℕ → MailBatch → List MailBatch → List MailBatch
without_front k n batch waiting = take k waiting ++ batch_behind n batch ++ drop (k + 1) waiting

-- that is what changed
pub record RemovesFront (k n : ℕ) (before after : Load) : Type 0 where
  pub batch : MailBatch
  pub there : slice_get before.settled.items k ≡ Some batch
  pub settled_is : after.settled.items ≡ without_front k n batch before.settled.items
  pub begun_is : after.begun ≡ before.begun
  pub places : SamePlaces before after

-- its first n messages can't be taken out any more: somebody else took the first one, or the account is away
abbrev pub AreGone : ℕ → MailBatch → State → State → Type 0
AreGone n batch old new = ((n ≡ 1) × HasLostFront batch old new) ⊎ ((n ≡ length batch.mails) × HasLostAccount batch old new)

-- after a try to take out the one at place k: its first messages left, and those after them wait; or it was refused and waits as a
-- whole; or some are gone
abbrev pub TakesFrom : ℕ → MailBatch → List MailBatch → Moving → List MailBatch → State → State → Type 0
TakesFrom k batch waiting (moving.Kept left MailTaken) later old new =
    (left ≡ record batch { mails = take (length left.mails) batch.mails }) × (later ≡ without_front k (length left.mails) batch waiting) × WereFolderFront left.user left.folder left.mails old new
TakesFrom k batch waiting (moving.Kept whole (Refused refusal)) later old new = (whole ≡ batch) × (later ≡ waiting)
TakesFrom k batch waiting moving.Passed later old new = (n : ℕ) × AreGone n batch old new × (later ≡ without_front k n batch waiting)
TakesFrom k batch waiting (moving.Failed refusal) later old new = later ≡ waiting
TakesFrom k batch waiting other later old new = ⊥

-- a batch that waits at place k is tried to be taken out, and no other; none is begun
pub record TakesBatchOut (k : ℕ) (waiting : List MailBatch) (before : Load) (result : Moving) (after : Load) (old new : State) : Type 0 where
  pub batch : MailBatch
  pub there : slice_get waiting k ≡ Some batch
  pub takes : TakesFrom k batch waiting result after.settled.items old new
  pub idle : after.begun ≡ None
  pub places : SamePlaces before after

-- ---- the one that is on its way

-- after it this one is on its way, and these wait
pub record IsLoaded (begun : Option BegunBatch) (waiting : List MailBatch) (before after : Load) : Type 0 where
  pub begun_is : after.begun ≡ begun
  pub settled_is : after.settled.items ≡ waiting
  pub places : SamePlaces before after

-- a batch is begun: the first messages of its folder, of which none waits; nothing is put yet
pub record BeginsBatch (before after : Load) (old new : State) : Type 0 where
  pub begun : BegunBatch
  pub after_is : after ≡ record before { begun = Some begun }
  pub none_put : begun.put ≡ 0
  pub some : 1 ≤ length begun.batch.mails
  pub few : length begun.batch.mails ≤ max_together
  pub small : IsSmall begun.batch.mails
  pub front : WereFolderFront begun.batch.user begun.batch.folder begun.batch.mails old new
  pub apart : list_any (is_batch_of begun.batch.user begun.batch.folder) before.settled.items ≡ false
  pub room : length before.settled.items < max_settled

-- these messages are begun, if there are any; or nothing changes
abbrev pub BeginsWith : List ℕ → List ℕ → List NumberedMessage → Load → Moving → Load → Type 0
BeginsWith user folder mails before moving.Went after =
    (1 ≤ length mails) × (after ≡ record before { begun = Some (record { batch = record { user = user; folder = folder; mails = mails }; put = 0 }) })
BeginsWith user folder mails before other after = after ≡ before

-- where no batch is on its way one is begun, or nothing changes
abbrev pub MayBegin : Load → Moving → Load → State → State → Type 0
MayBegin before moving.Went after old new = BeginsBatch before after old new
MayBegin before (moving.Kept batch answer) after old new = ⊥
MayBegin before other after old new = after ≡ before

-- what is put of a batch, without the rest
abbrev pub cut_batch : BegunBatch → BegunBatch
cut_batch begun = record begun { batch = record begun.batch { mails = take begun.put begun.batch.mails } }

-- none of it is put, or all of it
abbrev pub IsNoneOrAll : BegunBatch → Type 0
IsNoneOrAll begun = (begun.put ≡ 0) ⊎ (length begun.batch.mails ≤ begun.put)

-- the next message of a batch is put; or those that are put are all of it from now on; or, with none or all of it put, it is dropped,
-- and its folder's messages stay
abbrev pub PutsOrDrops : BegunBatch → Load → Moving → Load → Type 0
PutsOrDrops begun before moving.Went after =
    ((begun.put < length begun.batch.mails) × IsLoaded (Some (record begun { put = begun.put + 1 })) before.settled.items before after)
    ⊎ ((0 < begun.put) × IsLoaded (Some (cut_batch begun)) before.settled.items before after)
PutsOrDrops begun before (moving.Stays stay) after =
    (stay.user ≡ begun.batch.user) × (stay.folder ≡ begun.batch.folder) × IsNoneOrAll begun × IsLoaded None before.settled.items before after
PutsOrDrops begun before other after = ⊥

-- that; or, as all are put, it is settled, waits as the last one, and is tried to be taken out
abbrev pub BatchGoesOn : BegunBatch → Load → Moving → Load → State → State → Type 0
BatchGoesOn begun before moving.Went after old new = PutsOrDrops begun before moving.Went after
BatchGoesOn begun before (moving.Stays stay) after old new = PutsOrDrops begun before (moving.Stays stay) after
BatchGoesOn begun before moving.Nothing after old new = ⊥
BatchGoesOn begun before result after old new =
    (length begun.batch.mails ≤ begun.put) × TakesBatchOut (length before.settled.items) (before.settled.items ++ begun.batch ∷ []) before result after old new

-- ---- a call

abbrev pub StepsFrom : Option BegunBatch → Option ℕ → Load → Moving → Load → State → State → Type 0
StepsFrom (Some begun) due before result after old new = BatchGoesOn begun before result after old new
StepsFrom None (Some k) before result after old new = TakesBatchOut k before.settled.items before result after old new
StepsFrom None None before result after old new = MayBegin before result after old new

-- a call goes on with the batch that is on its way; if none is, it tries to take out one that waits; and if none of those may be,
-- one may be begun
abbrev pub Steps : ℕ → Route → Moving → Route → State → State → Type 0
Steps now before result after old new =
    StepsFrom before.load.begun (due_at now before.rests.entries.items before.load.settled.items) before.load result after.load old new
