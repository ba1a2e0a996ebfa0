-- Whose mail a call moves, or tries to move.
use Rattle.std.specs.Prelude.{◌≡◌, ◌⊎◌, ◌+◌, ◌<◌, ℕ, true, false, not, List, filter, Option, Some, None, if◌then◌else◌}
use Rattle.sqlite.specs.State.{State, HasCleanDisk}
use Rattle.store_tables.specs.Rows.{Tables}
use Rattle.store_accounts.specs.Next.{IsFiled}
use Rattle.store_accounts.specs.Promises.{OverTables}
use Rattle.store_accounts.specs.declared.next.CopyKey.{CopyKey}
use Rattle.maildir_moves.specs.Order.{IsFirstFolder, IsNextFolder, IsNextTurnUser, IsRoundOver, is_behind, is_same_user, turn_mark_of, marked}
use Rattle.maildir_moves.specs.Rests.{rests_at, rests_of}
use Rattle.maildir_moves.specs.Steps.{IsBegunOf, due_at}
use Rattle.maildir_moves.specs.declared.batch.BegunBatch.{BegunBatch}
use Rattle.maildir_moves.specs.declared.moving.Moving.{Moving}
use Rattle.maildir_moves.specs.declared.moving.Moving.TheVariants as moving
use Rattle.maildir_moves.specs.declared.order.MoveOrder.{MoveOrder}
use Rattle.maildir_moves.specs.declared.rest.Rest.{Rest}
use Rattle.maildir_moves.specs.declared.route.Route.{Route}

-- ---- one turn

-- the user had their turn, at this folder
pub record TurnEnds (before : MoveOrder) (user folder : List ℕ) (after : MoveOrder) : Type 0 where
  pub last : after.last ≡ Some user
  pub passed : after.passed ≡ 0
  pub marks : after.marks.items ≡ marked before.last user folder before.marks.items

-- nobody had a turn
pub record OrderStays (before after : MoveOrder) : Type 0 where
  pub last : after.last ≡ before.last
  pub passed : after.passed ≡ before.passed

-- it goes on, after this folder
pub record TurnGoesOn (before : MoveOrder) (user folder : List ℕ) (after : MoveOrder) : Type 0 where
  pub last : after.last ≡ before.last
  pub passed : after.passed ≡ before.passed + 1
  pub marks : after.marks.items ≡ marked before.last user folder before.marks.items

-- mail of a folder was tried that doesn't rest
pub record IsTried (now : ℕ) (rests : List Rest) (before : MoveOrder) (user folder : List ℕ) (after : MoveOrder) : Type 0 where
  pub awake : rests_at now user folder rests ≡ false
  pub ends : TurnEnds before user folder after

-- a folder is passed over, and the user's next one has the turn: fewer were passed over in it than rests of the user are known
pub record IsPassedOver (rests : List Rest) (before : MoveOrder) (user folder : List ℕ) (after : MoveOrder) : Type 0 where
  pub few : before.passed < rests_of user rests
  pub goes_on : TurnGoesOn before user folder after

-- or the turn ends without a message
abbrev pub MayPass : List Rest → MoveOrder → List ℕ → List ℕ → MoveOrder → Type 0
MayPass rests before user folder after = IsPassedOver rests before user folder after ⊎ TurnEnds before user folder after

-- only a folder that rests is passed over
abbrev pub IsPassed : ℕ → List Rest → MoveOrder → List ℕ → List ℕ → MoveOrder → Type 0
IsPassed now rests before user folder after = ((rests_at now user folder rests ≡ true) × IsPassedOver rests before user folder after) ⊎ TurnEnds before user folder after

-- what became of a folder's mail: a batch of it is begun, it stays, or it is passed over
abbrev pub IsTurnAt : ℕ → List Rest → MoveOrder → List ℕ → List ℕ → Moving → MoveOrder → Option BegunBatch → Type 0
IsTurnAt now rests before user folder moving.Went after begun = IsBegunOf user folder begun × IsTried now rests before user folder after
IsTurnAt now rests before user folder (moving.Stays stay) after begun = (stay.user ≡ user) × (stay.folder ≡ folder) × IsTried now rests before user folder after
IsTurnAt now rests before user folder moving.Passed after begun = IsPassed now rests before user folder after
IsTurnAt now rests before user folder (moving.Failed refusal) after begun = OrderStays before after ⊎ TurnEnds before user folder after
IsTurnAt now rests before user folder other after begun = ⊥

-- ---- a call

-- a user's turn: nobody with mail is between the user and the one before, and of the user's folders this one's is next
pub record IsUsersTurn (now : ℕ) (tables : Tables) (rests : List Rest) (before : MoveOrder) (result : Moving) (after : MoveOrder) (begun : Option BegunBatch) : Type 0 where
  pub user : List ℕ
  pub folder : List ℕ
  pub next_user : IsNextTurnUser tables before.last user
  pub next_folder : IsNextFolder tables user (turn_mark_of user before.marks.items) folder
  pub turn : IsTurnAt now rests before user folder result after begun

-- the next round begins, and of users after the last one, who have no mail, nothing is remembered
pub record BeginsRound (before after : MoveOrder) : Type 0 where
  pub last : after.last ≡ None
  pub passed : after.passed ≡ 0
  pub marks : after.marks.items ≡ filter (λ m. not (is_behind before.last m.user)) before.marks.items

-- a round ends if nobody comes after the last one
abbrev pub EndsRound : Tables → MoveOrder → Moving → MoveOrder → Type 0
EndsRound tables before moving.Nothing after = IsRoundOver tables before.last × BeginsRound before after
EndsRound tables before moving.Passed after = IsRoundOver tables before.last × BeginsRound before after
EndsRound tables before other after = ⊥

-- it was a turn, or the end of a round; if a call failed nobody had one, or the user whose it was
abbrev pub TurnsTo : ℕ → Tables → List Rest → MoveOrder → Moving → MoveOrder → Option BegunBatch → Type 0
TurnsTo now tables rests before (moving.Failed refusal) after begun = OrderStays before after ⊎ IsUsersTurn now tables rests before (moving.Failed refusal) after begun
TurnsTo now tables rests before result after begun = IsUsersTurn now tables rests before result after begun ⊎ EndsRound tables before result after

-- over a store, whatever tables it had
abbrev pub IsChosenByTurns : ℕ → Route → Moving → Route → State → State → Type 0
IsChosenByTurns now before result after old new = HasCleanDisk new → OverTables old (λ tables. TurnsTo now tables before.rests.entries.items before.order result after.order after.load.begun)

-- while a batch is on its way, or one that waits may be taken out, nobody has a turn
abbrev pub TurnsUnless : Option BegunBatch → Option ℕ → ℕ → Route → Moving → Route → State → State → Type 0
TurnsUnless None None now before result after old new = IsChosenByTurns now before result after old new
TurnsUnless None (Some k) now before result after old new = after.order ≡ before.order
TurnsUnless (Some begun) due now before result after old new = after.order ≡ before.order

-- the turn is of the one whose it is, unless a call goes on with a batch
abbrev pub GoesByTurns : ℕ → Route → Moving → Route → State → State → Type 0
GoesByTurns now before result after old new =
    TurnsUnless before.load.begun (due_at now before.rests.entries.items before.load.settled.items) now before result after old new

-- ---- the parts of a call

-- a batch of this folder is begun, or its mail stays, or is passed over
abbrev pub IsOf : List ℕ → List ℕ → Moving → Option BegunBatch → Type 0
IsOf user folder moving.Went begun = IsBegunOf user folder begun
IsOf user folder (moving.Stays stay) begun = (stay.user ≡ user) × (stay.folder ≡ folder)
IsOf user folder moving.Passed begun = Unit {0}
IsOf user folder other begun = ⊥

abbrev pub IsStayOf : List ℕ → List ℕ → Moving → Type 0
IsStayOf user folder (moving.Stays stay) = (stay.user ≡ user) × (stay.folder ≡ folder)
IsStayOf user folder other = ⊥

abbrev pub PassesFolder : List Rest → MoveOrder → List ℕ → List ℕ → Moving → MoveOrder → Type 0
PassesFolder rests before user folder moving.Passed after = MayPass rests before user folder after
PassesFolder rests before user folder (moving.Failed refusal) after = OrderStays before after
PassesFolder rests before user folder other after = ⊥

abbrev pub IsRoundEnd : MoveOrder → Moving → MoveOrder → Type 0
IsRoundEnd before moving.Nothing after = BeginsRound before after
IsRoundEnd before moving.Passed after = BeginsRound before after
IsRoundEnd before other after = ⊥

-- the message that comes next, if it is of the same user as the first one, and otherwise that
abbrev pub chosen : Option CopyKey → CopyKey → CopyKey
chosen None first = first
chosen (Some next) first = if is_same_user first.user next.user then next else first

-- the first message of a user
abbrev pub IsUsersFirst : Tables → CopyKey → Type 0
IsUsersFirst tables first = IsFiled tables first × IsFirstFolder tables first.user first.folder

-- the turn of a user, whose first message this is, at a folder
abbrev pub IsTurnIn : ℕ → Tables → CopyKey → List Rest → MoveOrder → Moving → MoveOrder → Option BegunBatch → Type 0
IsTurnIn now tables first rests before result after begun =
    IsUsersFirst tables first → (folder : List ℕ) × IsNextFolder tables first.user (turn_mark_of first.user before.marks.items) folder × IsTurnAt now rests before first.user folder result after begun

-- that, or it failed before there was one
abbrev pub IsTurnOf : ℕ → Tables → CopyKey → List Rest → MoveOrder → Moving → MoveOrder → Option BegunBatch → Type 0
IsTurnOf now tables first rests before (moving.Failed refusal) after begun = OrderStays before after ⊎ IsTurnIn now tables first rests before (moving.Failed refusal) after begun
IsTurnOf now tables first rests before result after begun = IsTurnIn now tables first rests before result after begun

abbrev pub HasTurn : ℕ → CopyKey → Route → Moving → Route → State → State → Type 0
HasTurn now first before result after old new = HasCleanDisk new → OverTables old (λ tables. IsTurnOf now tables first before.rests.entries.items before.order result after.order after.load.begun)
