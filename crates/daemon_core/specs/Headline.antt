-- What is true of a daemon's life.
use Rattle.std.specs.Prelude.{◌≡◌, ℕ, List, [], ◌++◌, Option, Some, None, IfSome, IsTrue}
use Rattle.std.specs.FinMap.{empty}
use Rattle.sqlite_trees.specs.Tree.{Trees}
use Rattle.lmtp_dialogue.specs.declared.name.Names.{Names}
use Rattle.store_accounts.specs.Account.{Accounts}
use Rattle.store_accounts.specs.Shows.{ShowsIn}
use Rattle.store_engine.specs.OwnActs.{IsAlone}
use Rattle.store_engine.specs.Sound.{AreSound}
use Rattle.store_engine.specs.Spacing.{IsSpaced}
use Rattle.store_engine.specs.World.{World, Runs}
use Rattle.store_engine.specs.declared.answer.Answer.{Answer}
use Rattle.net_loop.specs.Life.{Fresh, IsPrefixOf}
use Rattle.net_loop.specs.declared.act.Act.{Act}
use Rattle.net_loop.specs.Moves.{LoopState}
use Rattle.net_loop.specs.Told.{Telling}
use Rattle.daemon_core.specs.Acts.{LeadsOn, events_in, AnswersIn, no_line, line_after_acts, AreRight}
use Rattle.daemon_core.specs.StoreAccess.{View, IsWorld}
use Rattle.daemon_core.specs.Holding.{IsBounded}
use Rattle.daemon_core.specs.MailActs.{MailLine, TellsOn}
use Rattle.daemon_core.specs.Tried.{IsLeftByCrash}
use Rattle.daemon_core.specs.declared.mail.MailDaemon.{MailDaemon}
use Rattle.daemon_core.specs.declared.note.Note.{Note}

-- these accounts, and no session
abbrev pub world_of : Accounts → World
world_of accounts = record { accounts = accounts; sessions = empty }

-- what holds after exactly these acts were seen, from a world at a moment to another
pub record HoldsAfter (names : Names) (host : List ℕ) (w : World) (now : ℕ) (acts : List (Act Note)) (v : World) : Type 0 where
  -- each act does what it is to the accounts and the sessions, and so the events of all, with some answers that agree with those noted,
  -- are a run of the machine of store_engine
  pub leads : LeadsOn w acts v
  pub told : List Answer
  pub runs : Runs w (events_in acts) told v
  pub agree : AnswersIn acts told
  -- each user is alone in it, and answers to senders are spaced
  pub alone : IsAlone w (events_in acts) told v runs
  pub spaced : IsSpaced w (events_in acts) told v runs
  -- sound accounts stay sound: each stored script is valid, the active one is there, no folder is empty
  pub sound : AreSound w.accounts → AreSound v.accounts
  -- what is done for a client of ManageSieve is what it allows
  pub right : (id : ℕ) → AreRight id now (Some no_line) acts
  -- what was sent to it since it came is a prefix of what its own acts spell
  pub sent : (id : ℕ) → IfSome (line_after_acts id now (Some no_line) acts) (λ l. IsPrefixOf l.sent l.spelled)
  -- what is done for a client of LMTP is a step that it allows, and what was sent to it since it came is a prefix of what these spell
  pub mail : (id : ℕ) → (o : Option MailLine) × TellsOn names host id now None acts o × IfSome o (λ l. IsPrefixOf l.sent l.spelled)

-- from these accounts and no connection on, at each prefix of the acts, and at the end with the accounts that the store shows then and the
-- daemon's sessions. A crash at the end, while the store is held and no fault of the disk has shut it, leaves these accounts, or what the
-- events of one act make of them that were refused since they last changed, at the very world that they met (`IsLeftByCrash`). So what was
-- acknowledged stays, but for what these events make of it, and nothing is half there
pub record Headline {R : Type 0} (view : View R) (names : Names) (host : List ℕ) (start : Accounts) (now : ℕ) (acts : List (Act Note)) (r : R) (d : MailDaemon) : Type 0 where
  pub each_moment : (some rest : List (Act Note)) → some ++ rest ≡ acts → (v : World) × HoldsAfter names host (world_of start) now some v
  pub end : World
  pub holds : HoldsAfter names host (world_of start) now acts end
  pub shown : IsWorld view r d.daemon.clients.sessions end
  pub left : (trees : Trees) → view.leaves r trees → IsLeftByCrash (world_of start) acts end trees
  -- all connections together hold what they may, but for what each may besides
  pub bounded : IsBounded d

-- a daemon that knows no connection
pub record IsNewDaemon (d : MailDaemon) : Type 0 where
  pub sessions : d.daemon.clients.sessions.entries ≡ []
  pub states : d.daemon.states.entries ≡ []
  pub lmtp_connections : d.lmtp_connections.entries ≡ []

-- of a life, if it is told, that begins with a store that shows these accounts, and of which a crash leaves nothing else: the acts
-- that were added
abbrev pub DaemonServes : {O R : Type 0} → Telling O Note R → View R → LoopState O MailDaemon → LoopState O MailDaemon → Type 0
DaemonServes told view before after =
    IsTrue (told.tells after.outside) → IsNewDaemon before.machine → Fresh before.service
    → (start : Accounts) → view.shows (told.rest before.outside) start → ((trees : Trees) → view.leaves (told.rest before.outside) trees → ShowsIn trees start)
    → (acts : List (Act Note)) × (told.seen after.outside ≡ told.seen before.outside ++ acts)
    × Headline view before.machine.names before.machine.host start before.service.moment acts (told.rest after.outside) after.machine
