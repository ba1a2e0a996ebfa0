-- Messages that move on, behind what others did.
use Rattle.std.proofs.Common.{◌≡◌, inl, inr, ℕ, zero, suc, true, List, [], length, Option, Some, None, IsTrue, refl, sym, ◌∙◌, ap, subst}
use Rattle.sqlite_trees.specs.Tree.{Trees}
use Rattle.store_accounts.specs.Account.{Accounts}
use Rattle.store_engine.specs.Hosts.{SessionMap, HasClients}
use Rattle.store_accounts.specs.Refusals.{IsTransient}
use Rattle.store_accounts.specs.declared.refusal.Refusal.{Refusal}
use Rattle.store_engine.specs.AccountEvents.{MailTaking}
use Rattle.store_engine.specs.Takings.{MailTakings, times}
use Rattle.store_engine.specs.World.{World, Next, Runs}
use Rattle.store_engine.specs.declared.answer.Answer.{Answer}
use Rattle.store_engine.specs.declared.answer.Answer.TheVariants.{MailTaken, Refused}
use Rattle.store_engine.specs.declared.clients.Clients.{Clients}
use Rattle.store_engine.specs.declared.event.Event.{Event}
use Rattle.store_engine.specs.declared.event.Event.TheVariants.{TakeMail}
use Rattle.store_engine.proofs.HostLemmas.{mail_taking_may}
use Rattle.maildir_moves.specs.Enduring.{MayLeave, none_tried}
use Rattle.maildir_moves.specs.Moving.{MovesMessage, TriedMoving}
use Rattle.maildir_moves.proofs.EnduringLemmas.{left_then}
use Rattle.maildir_moves.specs.declared.batch.MailBatch.{MailBatch}
use Rattle.maildir_moves.specs.declared.moving.MovePause.{MovePause}
use Rattle.maildir_moves.specs.declared.moving.Moving.{Moving}
use Rattle.maildir_moves.specs.declared.moving.Moving.TheVariants as moving
use Rattle.net_loop.specs.Rules.{WorksIf, machine_state}
use Rattle.net_loop.specs.Told.{Telling}
use Rattle.daemon_core.specs.DaemonRules.{daemon_rules}
use Rattle.daemon_core.specs.StoreAccess.{View, StoreFacts, access_state, ComesTo}
use Rattle.daemon_core.specs.Holds.{is_move_due, holding_moved}
use Rattle.daemon_core.specs.Moves.{LetAt, MovedAt, TriedAt, MovesNextMessage, takes_by, answers_by}
use Rattle.daemon_core.specs.declared.daemon.Daemon.{Daemon}
use Rattle.daemon_core.specs.declared.daemon.Holding.{Holding}
use Rattle.daemon_core.specs.declared.note.Note.{Note}
use Rattle.daemon_core.specs.declared.note.Note.TheVariants as note

-- the events of the machine: each takes the first message
taken_one : (w : World) (user folder : List ℕ) (later : Accounts) → MailTaking w.accounts user folder MailTaken later → Next w (TakeMail user folder) MailTaken (record { accounts = later; sessions = w.sessions })
taken_one w user folder later row = inl (later, row, refl)

taken_run : (n : ℕ) (w : World) (user folder : List ℕ) (later : Accounts) → MailTakings n user folder w.accounts later → Runs w (times n (TakeMail user folder)) (times n MailTaken) (record { accounts = later; sessions = w.sessions })
taken_run zero w user folder later same = ap (λ (a : Accounts). record { accounts = a; sessions = w.sessions }) same
taken_run (suc n) w user folder later takings =
    let mid : World = record { accounts = takings.0; sessions = w.sessions } in
    (mid, taken_one w user folder takings.0 takings.1, taken_run n mid user folder later takings.2)

-- or each is refused, and nothing changes
refused_run : (n : ℕ) (w : World) (user folder : List ℕ) (refusal : Refusal) → IsTransient refusal → Runs w (times n (TakeMail user folder)) (times n (Refused refusal)) w
refused_run zero w user folder refusal may = refl
refused_run (suc n) w user folder refusal may =
    (w, inr (record { refusal = refusal; may = mail_taking_may user folder w refusal may; refused = refl; stays = refl }), refused_run n w user folder refusal may)

batch_run : (batch : MailBatch) (answer : Answer) (w : World) (later : Accounts) → MovesMessage (moving.Kept batch answer) w.accounts later
    → Runs w (takes_by batch) (answers_by batch answer) (record { accounts = later; sessions = w.sessions })
batch_run batch MailTaken w later moves = taken_run (length batch.mails) w batch.user batch.folder later moves.taken
batch_run batch (Refused refusal) w later moves =
    subst (λ (a : Accounts). Runs w (takes_by batch) (answers_by batch (Refused refusal)) (record { accounts = a; sessions = w.sessions })) (sym moves.1)
    (refused_run (length batch.mails) w batch.user batch.folder refusal moves.0)
batch_run batch _ w later moves = absurd moves

-- nobody came between
pub let_none : (w : World) → LetAt [] w w
let_none w = record { strangers = tt; told = []; theirs = refl; apart = refl }

-- behind what others did, of which nothing is left, and what might be left then
module _ {R : Type 0} (view : View R) (others : List Event) (r q : R) (after : SessionMap) (w mid : World) (between : Trees → Type 0) (lets : LetAt others w mid) (sessions : HasClients after mid.sessions)
    (theirs : MayLeave (view.leaves r) w.accounts between mid.accounts none_tried) where
  nothing_then : (later : Accounts) → later ≡ mid.accounts → view.shows q later → MayLeave between mid.accounts (view.leaves q) later none_tried → (next : World) × LetAt others w next × ComesTo view r w none_tried q after next
  nothing_then later same shown left = (
    mid,
    lets,
    record {
      is = record { shown = subst (λ a. view.shows q a) same shown; sessions = sessions };
      left = left_then (view.leaves r) between (view.leaves q) w.accounts mid.accounts mid.accounts none_tried theirs (subst (λ a. MayLeave between mid.accounts (view.leaves q) a none_tried) same left);
    },
  )

  pub moved_then : (m : Moving) (later : Accounts) → MovesMessage m mid.accounts later → view.shows q later → MayLeave between mid.accounts (view.leaves q) later (TriedMoving m mid)
      → (next : World) × (holding_moved : MovedAt others m w next) × ComesTo view r w (TriedAt others m w next holding_moved) q after next
  moved_then (moving.Kept batch answer) later moves shown left = (
    record { accounts = later; sessions = mid.sessions },
    record {
      done = record {
        strangers = lets.strangers;
        told = lets.told;
        between = mid;
        theirs = lets.theirs;
        apart = lets.apart;
        ours = batch_run batch answer mid later moves;
      };
      leave = moves;
    },
    record {
      is = record { shown = shown; sessions = sessions };
      left = left_then (view.leaves r) between (view.leaves q) w.accounts mid.accounts later (TriedMoving (moving.Kept batch answer) mid) theirs left;
    },
  )
  moved_then moving.Went later moves shown left = nothing_then later moves shown left
  moved_then moving.Nothing later moves shown left = nothing_then later moves shown left
  moved_then moving.Passed later moves shown left = nothing_then later moves shown left
  moved_then (moving.Failed refusal) later moves shown left = nothing_then later moves shown left
  moved_then (moving.Stays stay) later moves shown left = nothing_then later moves shown left

-- what the daemon does by itself
module _ {O R : Type 0} (told : Telling O Note R) (store : StoreFacts O R) (sure : (o : O) → IsTrue (told.tells o) → store.clean (told.rest o))
    (o p : O) (d : Daemon) (now : ℕ) where
  pub works_move : (c : Clients) (pause : Option MovePause) (h : Holding) → is_move_due d.holding now ≡ true → MovesNextMessage told store (access_state o d.clients.sessions) pause (access_state p c.sessions) → h ≡ holding_moved d.holding now pause
      → WorksIf told (daemon_rules store.view) (machine_state o d) now (machine_state p (record d { clients = c; holding = h }))
  works_move c (Some pause) h due moves had = λ tell. record {
    note = note.Moved moves.0 moves.1;
    grows = moves.5 tell;
    works = record { works = (due, moves.3 (sure p tell), had ∙ ap (λ s. holding_moved d.holding now (Some s)) moves.2); states = refl };
  }
  works_move c None h due moves had = λ tell. record {
    note = note.Away;
    grows = moves.1 tell;
    works = record { works = (due, moves.0 (sure p tell), had); states = refl };
  }
