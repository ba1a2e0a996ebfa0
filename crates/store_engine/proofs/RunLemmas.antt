-- Runs, one event after the other.
use Rattle.std.proofs.Common.{◌≡◌, ℕ, ◌+◌, ◌<◌, List, [], ◌∷◌, ◌++◌, take, length, get_or, IsTrue, Result, refl, sym, ◌∙◌, ap, subst, inl, inr}
use Rattle.std.proofs.lemmas.List.{take_more}
use Rattle.sqlite.specs.State.{State, HasCleanDisk}
use Rattle.sqlite.proofs.StateLemmas.{survives_then}
use Rattle.sieve_exec.specs.declared.envelope.Envelope.{Envelope}
use Rattle.store_accounts.specs.declared.refusal.Refusal.{Refusal}
use Rattle.store_accounts.specs.declared.report.Report.{Report}
use Rattle.store_accounts.specs.Account.{Accounts}
use Rattle.store_accounts.proofs.OneLemmas.{accounts_one}
use Rattle.store_engine.specs.declared.event.Event.{Event}
use Rattle.store_engine.specs.declared.event.Event.TheVariants.{Deliver}
use Rattle.store_engine.specs.declared.answer.Answer.{Answer}
use Rattle.store_engine.specs.declared.answer.Answer.TheVariants.{Delivered}
use Rattle.store_engine.specs.AccountEvents.{Delivery}
use Rattle.store_engine.specs.World.{World, Next, Runs}
use Rattle.store_engine.specs.Hosts.{clients_of, Host, IsEvent, SurvivesEvent, answered_events, IsHostRun, IsRunAlone, IsRunSpaced, IsSpacedDelivery, SurvivesRun, TurnsBy, MayRefuseDelivery, ActsDelivery, answer_by}
use Rattle.store_engine.specs.Sound.{AreSound, KeepsSound}
use Rattle.store_engine.proofs.AloneLemmas.{projection}
use Rattle.store_engine.proofs.SpacingLemmas.{spacing}
use Rattle.store_engine.proofs.SoundLemmas.{runs_sound}
use Rattle.store_engine.specs.declared.terms.Terms.{Terms}
use Rattle.store_engine.proofs.HostLemmas.{clients_are, delivery_may}

-- a run goes on with one event more
pub runs_more : (events : List Event) (told : List Answer) (w mid end : World) (event : Event) (answer : Answer) → Runs w events told mid → Next mid event answer end → Runs w (events ++ event ∷ []) (told ++ answer ∷ []) end
runs_more [] [] w mid end event answer run next = (end, subst (λ (v : World). Next v event answer end) run next, refl)
runs_more (e ∷ events) (a ∷ told) w mid end event answer run next = (run.0, run.1, runs_more events told run.0 mid end event answer run.2 next)
runs_more [] (a ∷ told) w mid end event answer run next = absurd run
runs_more (e ∷ events) [] w mid end event answer run next = absurd run

-- no event
pub run_none : (h : Host) → IsHostRun [] [] h h
run_none h clean w had = (w, refl, had)

-- one event more
pub run_more : (old mid new : Host) (events : List Event) (told : List Answer) (event : Event) (answer : Answer) → IsHostRun events told old mid → (HasCleanDisk new.store → HasCleanDisk mid.store)
    → IsEvent event answer mid new → IsHostRun (events ++ event ∷ []) (told ++ answer ∷ []) old new
run_more old mid new events told event answer ran was here clean w had =
    let one = ran (was clean) w had in
    let two = here clean one.0 one.2 in
    (two.0, runs_more events told w one.0 two.0 event answer one.1 two.1.is_next, two.1.implements)

module _ (old mid new : Host) (events : List Event) (at : ℕ) (event : Event) (within : at < length events) (item : event ≡ get_or events at event) where
  next_taken : take (at + 1) events ≡ take at events ++ event ∷ []
  next_taken = take_more events at event within ∙ ap (λ e. take at events ++ e ∷ []) (sym item)

  -- the next event of a list has happened
  pub run_goes : (told all : List Answer) (answer : Answer) → IsHostRun (take at events) told old mid → all ≡ told ++ answer ∷ [] → (HasCleanDisk new.store → HasCleanDisk mid.store) → IsEvent event answer mid new
      → IsHostRun (take (at + 1) events) all old new
  run_goes told all answer ran is was here =
      let went : IsHostRun (take at events ++ event ∷ []) (told ++ answer ∷ []) old new = run_more old mid new (take at events) told event answer ran was here in
      subst (λ l. IsHostRun (take (at + 1) events) l old new) (sym is) (subst (λ l. IsHostRun l (told ++ answer ∷ []) old new) (sym next_taken) went)

  -- what a crash leaves after it
  pub crash_goes : (told : List Answer) → IsHostRun (take at events) told old mid → (HasCleanDisk new.store → HasCleanDisk mid.store) → (HasCleanDisk new.store → IsTrue new.store.is_open → IsTrue mid.store.is_open)
      → SurvivesRun events old mid → SurvivesEvent event mid new → SurvivesRun events old new
  crash_goes told ran was shut early late = survives_then old.store mid.store new.store _ _ _ (λ clean trees left live. left (shut clean live))
      (λ clean trees left live w shown has.
      let one = ran (was clean) w (record { accounts = λ o. shown; sessions = has }) in
      let two = left one.0 (one.2.accounts (shut clean live)) one.2.sessions in
      let run : Runs w (take at events ++ event ∷ []) (told ++ two.0 ∷ []) two.1 = runs_more (take at events) told w one.0 two.1 event two.0 one.1 two.2 in
      (at + 1, told ++ two.0 ∷ [], two.1, subst (λ l. Runs w l (told ++ two.0 ∷ []) two.1) (sym next_taken) run, two.3)) early late

-- a run of as many events as there are answers
pub run_counted : (old new : Host) (events : List Event) (at : ℕ) (told all : List Answer) → IsHostRun (take at events) told old new → length told ≡ at → all ≡ told → IsHostRun (answered_events events all) all old new
run_counted old new events at told all ran count is =
    subst (λ l. IsHostRun (take (length l) events) l old new) (sym is) (subst (λ n. IsHostRun (take n events) told old new) (sym count) ran)

-- ---- a delivery alone

-- the event with this answer, by the delivery's row or refused without visible cause
delivery_next : (user : List ℕ) (envelope : Envelope) (message : List ℕ) (terms : Terms) (w : World) (answer : Answer) (later : Accounts)
    → TurnsBy (λ accounts. Delivery accounts user envelope message terms) (MayRefuseDelivery envelope message terms.when.moment) answer w.accounts later
    → Next w (Deliver user envelope message terms) answer (record { accounts = later; sessions = w.sessions })
delivery_next user envelope message terms w answer later (inl row) = inl (later, row, refl)
delivery_next user envelope message terms w answer later (inr (refusal, may, is, same)) =
    inr (record { refusal = refusal; may = delivery_may user message envelope terms w refusal may; refused = is; stays = ap (λ all. record { accounts = all; sessions = w.sessions }) same })

-- a delivery is a run of one event
pub delivery_spaced : (user : List ℕ) (envelope : Envelope) (message : List ℕ) (terms : Terms) (old new : State) (q : Result Report Refusal) → ActsDelivery user envelope message terms old new q
    → IsSpacedDelivery user envelope message terms old new q
delivery_spaced user envelope message terms old new q acts clean w had =
    let turned = acts.carries clean w.accounts had in
    let end : World = record { accounts = turned.0; sessions = w.sessions } in
    let run : Runs w (Deliver user envelope message terms ∷ []) (answer_by Delivered q ∷ []) end = (end, delivery_next user envelope message terms w (answer_by Delivered q) turned.0 turned.1, refl) in
    (end, run, turned.2, spacing (Deliver user envelope message terms ∷ []) (answer_by Delivered q ∷ []) w end run)

-- ---- what every run is

-- a run from a store of sound accounts leaves sound accounts
pub run_sound : (events : List Event) (told : List Answer) (old new : Host) → IsHostRun events told old new → KeepsSound old.store new.store
run_sound events told old new ran clean accounts later was sound live now =
    let w : World = record { accounts = accounts; sessions = clients_of old.sessions } in
    let end = ran clean w (record { accounts = λ o. was; sessions = clients_are old.sessions }) in
    subst AreSound (accounts_one new.store.now end.0.accounts later (end.2.accounts live) now) (runs_sound events told w end.0 sound end.1)

pub run_alone : (events : List Event) (told : List Answer) (old new : Host) → IsHostRun events told old new → IsRunAlone events told old new
run_alone events told old new ran clean w had =
    let end = ran clean w had in
    (end.0, end.1, end.2, projection events told w end.0 end.1)

pub run_spaced : (events : List Event) (told : List Answer) (old new : Host) → IsHostRun events told old new → IsRunSpaced events told old new
run_spaced events told old new ran clean w had =
    let end = ran clean w had in
    (end.0, end.1, end.2, spacing events told w end.0 end.1)
