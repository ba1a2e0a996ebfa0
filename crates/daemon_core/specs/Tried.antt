-- What a crash leaves at the end of acts.
use Rattle.std.specs.Prelude.{◌≡◌, ◌⊎◌, ◌≤◌, ℕ, List, [], ◌∷◌, ◌++◌, length}
use Rattle.sqlite_trees.specs.Tree.{Trees}
use Rattle.store_accounts.specs.Shows.{ShowsIn}
use Rattle.store_engine.specs.World.{World}
use Rattle.store_engine.specs.declared.answer.Answer.{Answer}
use Rattle.store_engine.specs.declared.answer.Answer.TheVariants.{Refused}
use Rattle.store_engine.specs.declared.event.Event.{Event}
use Rattle.maildir_moves.specs.Enduring.{ShowsMade}
use Rattle.maildir_moves.specs.Moving.{takings_of}
use Rattle.maildir_moves.specs.declared.moving.Moving.TheVariants as moving
use Rattle.net_loop.specs.declared.act.Act.{Act}
use Rattle.net_loop.specs.declared.act.Act.TheVariants.{Worked, Noted}
use Rattle.daemon_core.specs.Acts.{LeadsOn, RestsOn}
use Rattle.daemon_core.specs.Moves.{LetAt, answers_by, takes_by}
use Rattle.daemon_core.specs.StoreAccess.{DoneAt, AllDoneAt}
use Rattle.daemon_core.specs.declared.note.Note.{Note}
use Rattle.daemon_core.specs.declared.note.Note.TheVariants.{Did, Moved, Parted}

abbrev pub IsRefusal : Answer → Type 0
IsRefusal (Refused refusal) = Unit {0}
IsRefusal answer = ⊥

-- an event was refused, at the world to which others' events had led by then
pub record RefusedAt (others : List Event) (event : Event) (answer : Answer) (w : World) (met : World) (next : World) : Type 0 where
  pub done : DoneAt others event answer w next
  pub met_is : met ≡ done.between
  pub refused : IsRefusal answer

abbrev pub AreRefusals : List Answer → Type 0
AreRefusals [] = Unit {0}
AreRefusals (answer ∷ answers) = IsRefusal answer × AreRefusals answers

-- events that are one act were refused there
pub record AllRefusedAt (others events : List Event) (answers : List Answer) (w : World) (met : World) (next : World) : Type 0 where
  pub done : AllDoneAt others events answers w next
  pub met_is : met ≡ done.between
  pub refused : AreRefusals answers

-- a note tells that these events were tried as one act, and which world they met: an event that was applied, those that take so many
-- messages out, or deliveries that were refused together
abbrev pub TriesBy : World → Note → World → List Event → World → Type 0
TriesBy w (Did others event answer) next tried met = (tried ≡ event ∷ []) × RefusedAt others event answer w met next
TriesBy w (Moved others (moving.Kept batch answer)) next tried met =
    (n : ℕ) × (n ≤ length batch.mails) × (tried ≡ takings_of batch n) × AllRefusedAt others (takes_by batch) (answers_by batch answer) w met next
TriesBy w (Parted others events) next tried met = (tried ≡ events) × LetAt others w next × (met ≡ next)
TriesBy w note next tried met = ⊥

abbrev pub TriesAt : World → Act Note → World → List Event → World → Type 0
TriesAt w (Noted id note) next tried met = TriesBy w note next tried met
TriesAt w (Worked note) next tried met = TriesBy w note next tried met
TriesAt w act next tried met = ⊥

-- after some of the acts one tried the events, at this world, and none since changed an account
pub record TriedIn (start : World) (acts : List (Act Note)) (end : World) (events : List Event) (met : World) : Type 0 where
  pub some : List (Act Note)
  pub act : Act Note
  pub rest : List (Act Note)
  pub front : some ++ act ∷ rest ≡ acts
  pub before : World
  pub leads : LeadsOn start some before
  pub after : World
  pub tries : TriesAt before act after events met
  pub rests : RestsOn after rest end

-- the events of one act are left that were tried: the trees show what they make of the very world that they met
pub record LeavesTried (start : World) (acts : List (Act Note)) (end : World) (trees : Trees) : Type 0 where
  pub events : List Event
  pub met : World
  pub tried : TriedIn start acts end events met
  pub made : ShowsMade events met trees

-- the accounts at the end, or what the events of one act made of them that were tried since they last changed
abbrev pub IsLeftByCrash : World → List (Act Note) → World → Trees → Type 0
IsLeftByCrash start acts end trees = ShowsIn trees end.accounts ⊎ LeavesTried start acts end trees
