-- Steps of a connection, put together from what is brought, told and known.
use Rattle.std.proofs.Common.{◌≡◌, ◌∙◌, ℕ, Bool, true, false, List, [], Some, None, IsTrue, refl, sym, subst}
use Rattle.store_engine.specs.Hosts.{SessionMap, KeepsClients, IsMade, EventAsksStore, IsSessionEvent, clients_of}
use Rattle.store_engine.proofs.HostLemmas.{clients_are}
use Rattle.store_engine.specs.World.{if_open}
use Rattle.managesieve_sessions.specs.Steps.{may_fail}
use Rattle.store_engine.specs.declared.answer.Answer.{Answer}
use Rattle.store_engine.specs.declared.answer.Answer.TheVariants.{Out, Delivered, Added, Imported, Taken, MailTaken, Changed, Stored, Invalid, Edited, Objected, Closed, Opened, Removed, NoticesTaken, Ignored, Refused}
use Rattle.store_engine.specs.declared.clients.Clients.{Clients as CodeClients}
use Rattle.store_engine.specs.declared.event.Event.{Event}
use Rattle.store_engine.specs.declared.event.Event.TheVariants.{Step, GiveUp}
use Rattle.net_loop.specs.declared.act.Act.TheVariants.{Noted}
use Rattle.net_loop.specs.Rules.{StepsIf, machine_state, step_at}
use Rattle.net_loop.specs.Told.{Telling, TellsIf}
use Rattle.daemon_core.specs.DaemonRules.{daemon_rules, client_state_at, AtClientState, NoteAsksFor, NoteMakes, ChangesClientState, DaemonRenews}
use Rattle.daemon_core.specs.Holds.{asked_at}
use Rattle.daemon_core.specs.StoreAccess.{View, StoreFacts, access_state, AppliesEvent, IsEventDone, NothingDone, StillShowsIf}
use Rattle.daemon_core.specs.ClientStates.{client_at, state_renewed, state_told, is_out, has_login}
use Rattle.daemon_core.specs.Waiting.{Allows, SessionMayAsk, MayGiveUp, said_at_once, too_much, waits_after, waits_behind}
use Rattle.daemon_core.specs.declared.daemon.Daemon.{Daemon}
use Rattle.daemon_core.specs.declared.daemon.Holding.{Holding}
use Rattle.daemon_core.specs.declared.note.Note.{Note}
use Rattle.daemon_core.specs.declared.note.Note.TheVariants.{Did, Away, Freed, Spoke, Answered, Asked, Looked, Moved, Gathered, Delivered, Parted, PutOff}
use Rattle.daemon_core.specs.declared.client_state.Fit.TheVariants as fit
use Rattle.daemon_core.specs.declared.client_state.ClientState.{ClientState}
use Rattle.daemon_core.specs.declared.client_state.SessionWait.{SessionWait}
use Rattle.daemon_core.specs.declared.client_state.SessionWait.TheVariants as waits

some_one : {X : Type 0} (a b : X) → Some a ≡ Some b → a ≡ b
some_one a b is = cc

made_out : (answer : Answer) → is_out answer ≡ true → IsMade answer
made_out (Out progress octets) is = tt
made_out (Delivered report) is = tt
made_out Added is = tt
made_out Imported is = tt
made_out (Taken row) is = tt
made_out MailTaken is = tt
made_out Changed is = tt
made_out Stored is = tt
made_out (Invalid fault) is = tt
made_out Edited is = tt
made_out (Objected objection) is = tt
made_out Closed is = tt
made_out Opened is = tt
made_out Removed is = tt
made_out NoticesTaken is = tt
made_out Ignored is = tt
made_out (Refused refusal) is = let never : false ≡ true = is in absurd (let no_one : ⊥ = cc in no_one)

-- a session that is as it was asks for the same
client_kept : (id : ℕ) (before after : SessionMap) → KeepsClients before after → client_at after id ≡ client_at before id
client_kept id before after keeps = keeps (clients_of before) (clients_are before) id ∙ sym (clients_are before id)

asks_before : (id : ℕ) (before after : SessionMap) → KeepsClients before after → EventAsksStore (Step id) after → EventAsksStore (Step id) before
asks_before id before after keeps asks = subst (λ o. if_open may_fail o ≡ true) (client_kept id before after keeps) asks

pub asks_after : (id : ℕ) (before after : SessionMap) → KeepsClients before after → EventAsksStore (Step id) before → EventAsksStore (Step id) after
asks_after id before after keeps asks = subst (λ o. if_open may_fail o ≡ true) (sym (client_kept id before after keeps)) asks

-- the daemon with other sessions, and what is so of the store
abbrev mid_of : Daemon → CodeClients → Holding → Daemon
mid_of d c h = record d { clients = c; holding = h }

-- what is known of the connection, with the session that is there then
state_by : (d e : Daemon) (c : CodeClients) (h : Holding) (now id : ℕ) (w : SessionWait) (answered : Bool) (before : ClientState) → DaemonRenews (mid_of d c h) now id w answered e → client_state_at d id ≡ Some before
    → ChangesClientState d id (Some (state_renewed now before w answered (has_login (client_at e.clients.sessions id)))) e
state_by d e c h now id w answered before r was =
    subst (λ (k : CodeClients). ChangesClientState d id (Some (state_renewed now before w answered (has_login (client_at k.sessions id)))) e) (sym r.clients) (r.state before was)

module _ {O R : Type 0} (told : Telling O Note R) (store : StoreFacts O R) (sure : (o : O) → IsTrue (told.tells o) → store.clean (told.rest o))
    (o p : O) (d e : Daemon) (c : CodeClients) (now id : ℕ) (said : List ℕ) where
  -- an event was done by the store
  pub did : (answer : Answer) → AppliesEvent told store id (Step id) (access_state o d.clients.sessions) (Some answer) (access_state p c.sessions) → EventAsksStore (Step id) d.clients.sessions
      → AtClientState d id (λ state. SessionMayAsk now state.waits) → DaemonRenews (mid_of d c (asked_at now d.holding)) now id (waits_after now answer) (is_out answer) e → said ≡ said_at_once answer → StepsIf told (daemon_rules store.view) (machine_state o d) (step_at now id said) (machine_state p e)
  did answer carries asks may r says tell = record {
    note = Did carries.0 (Step id) answer;
    grows = carries.2 tell;
    steps = record {
      before = may.0;
      was = may.1;
      allows = λ due. (may.2, refl);
      cause = tt;
      asks = asks;
      makes = subst (λ (k : CodeClients). IsEventDone store.view carries.0 (Step id) answer (told.rest o) d.clients.sessions (told.rest p) k.sessions) (sym r.clients) (carries.1 (sure p tell));
      says = says;
      state = state_by d e c (asked_at now d.holding) now id (waits_after now answer) (is_out answer) may.0 r may.1;
      holding = r.holding;
    };
  }

  -- it was away
  pub away : AppliesEvent told store id (Step id) (access_state o d.clients.sessions) None (access_state p c.sessions) → EventAsksStore (Step id) d.clients.sessions
      → (may : AtClientState d id (λ state. SessionMayAsk now state.waits)) → DaemonRenews (mid_of d c d.holding) now id (waits_behind now may.0.waits Away) false e → said ≡ [] → StepsIf told (daemon_rules store.view) (machine_state o d) (step_at now id said) (machine_state p e)
  away carries asks may r says tell = record {
    note = Away;
    grows = carries.1 tell;
    steps = record {
      before = may.0;
      was = may.1;
      allows = λ due. may.2;
      cause = tt;
      asks = asks;
      makes = subst (λ (k : CodeClients). NothingDone store.view (told.rest o) d.clients.sessions (told.rest p) k.sessions) (sym r.clients) (carries.0 (sure p tell));
      says = says;
      state = state_by d e c d.holding now id (waits_behind now may.0.waits Away) false may.0 r may.1;
      holding = r.holding;
    };
  }

  -- an event was answered that asks no store
  pub freed : (event : Event) (answer : Answer) → ((state : ClientState) → client_state_at d id ≡ Some state → Allows now state.waits id (Freed event answer)) → (before : ClientState) → client_state_at d id ≡ Some before
      → IsSessionEvent event answer d.clients.sessions c.sessions → TellsIf told o (Noted id (Freed event answer)) p → StillShowsIf told store.view o p
      → DaemonRenews (mid_of d c d.holding) now id (waits_after now answer) (is_out answer) e → said ≡ said_at_once answer → StepsIf told (daemon_rules store.view) (machine_state o d) (step_at now id said) (machine_state p e)
  freed event answer allows before was made noted still r says tell = record {
    note = Freed event answer;
    grows = noted tell;
    steps = record {
      before = before;
      was = was;
      allows = λ due. allows before was;
      cause = tt;
      asks = tt;
      makes = (still tell, subst (λ (k : CodeClients). IsSessionEvent event answer d.clients.sessions k.sessions) (sym r.clients) made);
      says = says;
      state = state_by d e c d.holding now id (waits_after now answer) (is_out answer) before r was;
      holding = r.holding;
    };
  }

  -- a step from sessions that are as they were
  kept_makes : (note : Note) → KeepsClients d.clients.sessions c.sessions → NoteMakes store.view (told.rest o) (mid_of d c d.holding) note (told.rest p) e → NoteMakes store.view (told.rest o) d note (told.rest p) e
  kept_makes (Did others event answer) keeps makes = λ w stands. makes w (record { shown = stands.shown; sessions = keeps w.sessions stands.sessions })
  kept_makes Away keeps makes = record { shown = makes.shown; kept = λ clients has. makes.kept clients (keeps clients has) }
  kept_makes Spoke keeps makes = record { shown = makes.shown; kept = λ clients has. makes.kept clients (keeps clients has) }
  kept_makes (Freed event answer) keeps makes = (makes.0, λ w has. makes.1 w (keeps w.sessions has))
  kept_makes Answered keeps makes = record { shown = makes.shown; kept = λ clients has. makes.kept clients (keeps clients has) }
  kept_makes (Asked others user lookup) keeps makes = makes
  kept_makes (Looked wanted) keeps makes = makes
  kept_makes (Moved others moving) keeps makes = makes
  kept_makes Gathered keeps makes = makes
  kept_makes (Delivered others told) keeps makes = makes
  kept_makes (Parted others events) keeps makes = makes
  kept_makes (PutOff ids) keeps makes = makes

  kept_asks : (note : Note) → KeepsClients d.clients.sessions c.sessions → NoteAsksFor id note c.sessions → NoteAsksFor id note d.clients.sessions
  kept_asks (Did others event answer) keeps asks = asks_before id d.clients.sessions c.sessions keeps asks
  kept_asks Away keeps asks = asks_before id d.clients.sessions c.sessions keeps asks
  kept_asks Spoke keeps asks = tt
  kept_asks (Freed event answer) keeps asks = tt
  kept_asks Answered keeps asks = tt
  kept_asks (Asked others user lookup) keeps asks = tt
  kept_asks (Looked wanted) keeps asks = tt
  kept_asks (Moved others moving) keeps asks = tt
  kept_asks Gathered keeps asks = tt
  kept_asks (Delivered others told) keeps asks = tt
  kept_asks (Parted others events) keeps asks = tt
  kept_asks (PutOff ids) keeps asks = tt

  pub behind : KeepsClients d.clients.sessions c.sessions → StepsIf told (daemon_rules store.view) (machine_state o (mid_of d c d.holding)) (step_at now id said) (machine_state p e) → StepsIf told (daemon_rules store.view) (machine_state o d) (step_at now id said) (machine_state p e)
  behind keeps steps tell =
      let s = steps tell in
      let g = s.steps in
      record {
        note = s.note;
        grows = s.grows;
        steps = record { before = g.before; was = g.was; allows = g.allows; cause = g.cause; asks = kept_asks s.note keeps g.asks; makes = kept_makes s.note keeps g.makes; says = g.says; state = g.state; holding = g.holding };
      }

-- it was told that there was no room
pub refused : {O R : Type 0} (told : Telling O Note R) (view : View R) (o p : O) (d e : Daemon) (now id : ℕ) (said : List ℕ)
    → AtClientState d id (λ state. (state.waits ≡ waits.Nothing) × (state.fit ≡ fit.Over)) → TellsIf told o (Noted id Answered) p → StillShowsIf told view o p → said ≡ too_much
    → ((before : ClientState) → client_state_at d id ≡ Some before → ChangesClientState d id (Some (state_told now before (has_login (client_at d.clients.sessions id)))) e) → e.clients ≡ d.clients → e.holding ≡ d.holding
    → StepsIf told (daemon_rules view) (machine_state o d) (step_at now id said) (machine_state p e)
refused told view o p d e now id said may noted still says states clients holding tell = record {
  note = Answered;
  grows = noted tell;
  steps = record {
    before = may.0;
    was = may.1;
    allows = λ due. subst (λ w. Allows now w id Answered) (sym may.2.0) tt;
    cause = may.2.1;
    asks = tt;
    makes = record { shown = still tell; kept = subst (λ (k : CodeClients). KeepsClients d.clients.sessions k.sessions) (sym clients) (λ all has. has) };
    says = says;
    state = subst (λ (k : CodeClients). ChangesClientState d id (Some (state_told now may.0 (has_login (client_at k.sessions id)))) e) (sym clients) (states may.0 may.1);
    holding = holding;
  };
}

-- given up, or stepped at once
pub gives_up : (d : Daemon) (now id : ℕ) (answer : Answer) → AtClientState d id (λ state. MayGiveUp now state.waits) → (state : ClientState) → client_state_at d id ≡ Some state → Allows now state.waits id (Freed (GiveUp id) answer)
gives_up d now id answer may state was =
    let one : may.0 ≡ state = some_one may.0 state (sym may.1 ∙ was) in
    by state.waits (subst (λ (x : ClientState). MayGiveUp now x.waits) one may.2)
  where
    by : (w : SessionWait) → MayGiveUp now w → Allows now w id (Freed (GiveUp id) answer)
    by w may = (may, refl)

pub steps_free : (d : Daemon) (now id : ℕ) (answer : Answer) → is_out answer ≡ true → AtClientState d id (λ state. SessionMayAsk now state.waits) → (state : ClientState) → client_state_at d id ≡ Some state
    → Allows now state.waits id (Freed (Step id) answer)
steps_free d now id answer out may state was =
    let one : may.0 ≡ state = some_one may.0 state (sym may.1 ∙ was) in
    (subst (λ (x : ClientState). SessionMayAsk now x.waits) one may.2, refl, made_out answer out)
