-- What a store shows that is had now and then, from one call to the next.
use Rattle.std.proofs.Common.{◌≡◌, ℕ, Bool, true, false, List, [], ◌∷◌, ◌++◌, All, Contains, Option, Some, None, Result, IsTrue, IfSome, refl, sym, ◌∙◌, ap, subst, inl, inr}
use Rattle.std.proofs.lemmas.List.Elements.{All-contains_itself, Contains-append_right}
use Rattle.sqlite_trees.specs.declared.store.Store.{Ghosts}
use Rattle.sqlite.specs.Effect.{Database}
use Rattle.sqlite.specs.Held.{Held, state}
use Rattle.store_accounts.specs.Account.{Accounts}
use Rattle.store_accounts.specs.Shows.{Presents, OffersAccounts}
use Rattle.store_accounts.specs.Connection.{IsSettled}
use Rattle.sqlite_trees.specs.Tree.{Trees}
use Rattle.managesieve_sessions.specs.Acts.{HasAccounts}
use Rattle.store_lock.specs.Taken.{IsStoreTaken}
use Rattle.store_lock.specs.HeldStores.{GivesStoreBack, TakesStore}
use Rattle.store_lock.specs.declared.held_store.HeldStore.{HeldStore}
use Rattle.maildir_moves.specs.Enduring.{MayLeave, ShowsTried, none_tried, leaves_of}
use Rattle.maildir_moves.proofs.EnduringLemmas.{left_alone, left_then, settled_left, event_endures}
use Rattle.lmtp_dialogue.specs.declared.receiver.Lookup.{Lookup}
use Rattle.store_accounts.specs.declared.refusal.Refusal.{Refusal}
use Rattle.store_accounts.specs.declared.report.Report.{Report}
use Rattle.sieve_exec.specs.declared.envelope.Envelope.{Envelope}
use Rattle.lmtp_connections.specs.declared.demand.DeliveryRequest.{DeliveryRequest}
use Rattle.sqlite.specs.State.{State, HasCleanDisk}
use Rattle.store_engine.specs.AccountEvents.{Delivery}
use Rattle.store_engine.specs.World.{World}
use Rattle.store_engine.specs.Hosts.{SessionMap, IsEvent, SurvivesEvent, host, ActsDelivery, MayRefuseDelivery, answer_by}
use Rattle.store_engine.specs.declared.answer.Answer.TheVariants.{Delivered}
use Rattle.store_engine.proofs.HostLemmas.{account_crash, account_event, delivery_may}
use Rattle.store_engine.specs.declared.answer.Answer.{Answer}
use Rattle.store_engine.specs.declared.event.Event.{Event}
use Rattle.store_lock.specs.Laws.{never_told}
use Rattle.maildir_files.specs.declared.kept.KeptMail.{KeptMail}
use Rattle.maildir_moves.specs.Moving.{LeftAmong, MovesMessage, TriedMoving, kept_mails}
use Rattle.maildir_moves.specs.Relying.{Grows}
use Rattle.maildir_moves.specs.declared.moving.Moving.{Moving}
use Rattle.maildir_moves.specs.declared.moving.Moving.TheVariants as moving
use Rattle.daemon_core.specs.Moves.{HasKept, IsMessageMoved}
use Rattle.daemon_core.proofs.MoveLemmas.{let_none, moved_then}
use Rattle.daemon_core.proofs.StillLemmas.{still_then}
use Rattle.daemon_core.specs.StoreAccess.{View, ViewStillShows, IsEventDone, IsAccountAsked, IsFoundIn, NothingDone, delivery_of}
use Rattle.daemon_host.specs.Held.{IsThereBy, MailIsThere, MailStays, RouteRelies, SinkHasMail, ShowsBy, LeavesBy}
use Rattle.store_engine.specs.declared.terms.Terms.{Terms}
use Rattle.daemon_host.specs.declared.host_store.HostStore.{HostStore}

-- tables of ours are tables that `open` takes
presented : (db : Database) (accounts : Accounts) → Presents db accounts → OffersAccounts db accounts
presented db accounts shown = inl shown

module _ {S : Type 0} (g : Ghosts S) (tells : Bool) where
  -- a store that was taken shows what its keeper's tables offered, and a crash leaves that alone
  pub taken : (was is : Database) (store : Held S) → (IsTrue tells → IsStoreTaken false was (state g store).now) → (IsTrue tells → IsSettled (state g store)) → (accounts : Accounts) → ShowsBy g tells was None accounts
      → ShowsBy g tells is (Some store) accounts × MayLeave (LeavesBy g None) accounts (LeavesBy g (Some store)) accounts none_tried
  taken was is store took settled accounts shown =
      let presents = (took shown.0).0.shown accounts shown.1 in
      (λ is_open. presents, λ trees may. inl (settled_left (state g store) accounts (settled shown.0) presents trees may.1))

  -- a store that was given back is offered by its keeper's tables, and nothing is left while it isn't had
  pub given : (was is : Database) (store : Held S) → (IsTrue tells → IsTrue (state g store).is_open) → (IsTrue tells → is ≡ (state g store).now) → IsTrue tells → (accounts : Accounts) → ShowsBy g tells was (Some store) accounts
      → ShowsBy g tells is None accounts × MayLeave (LeavesBy g (Some store)) accounts (LeavesBy g None) accounts none_tried
  given was is store sure held told accounts shown = ((told, subst (λ db. OffersAccounts db accounts) (sym (held told)) (presented (state g store).now accounts (shown (sure told)))), λ trees may. absurd may)

  -- what was shown stays so where the tables that are told are as they were
  pub kept : (was is : Database) (store : Option (Held S)) → (IsTrue tells → is ≡ was) → (accounts : Accounts) → ShowsBy g tells was store accounts
      → ShowsBy g tells is store accounts × MayLeave (LeavesBy g store) accounts (LeavesBy g store) accounts none_tried
  kept was is (Some store) same accounts shown = (shown, left_alone (LeavesBy g (Some store)) accounts none_tried)
  kept was is None same accounts shown = ((shown.0, subst (λ db. OffersAccounts db accounts) (sym (same shown.0)) shown.1), left_alone (LeavesBy g None) accounts none_tried)

-- what was shown of a keeper, and of its store if that was held, is shown
module _ {K S : Type 0} (g : Ghosts S) (tells : Bool) (holds : K → Database) where
  abbrev StillBy : Database → Option (Held S) → Database → Option (Held S) → Type 0
  StillBy was store is later = (accounts : Accounts) → ShowsBy g tells was store accounts → ShowsBy g tells is later accounts × MayLeave (LeavesBy g store) accounts (LeavesBy g later) accounts none_tried

  pub still_taken : (old new : HeldStore K S) → TakesStore g tells holds old new → StillBy (holds old.keeper) old.store (holds new.keeper) new.store
  still_taken old new takes = elim takes [
    | inl same ↦ subst (λ o. StillBy (holds old.keeper) old.store (holds new.keeper) o) (sym same.store) (kept g tells (holds old.keeper) (holds new.keeper) old.store same.tables)
    | inr took ↦
        subst (λ o. StillBy (holds old.keeper) o (holds new.keeper) new.store) (sym took.0)
        (subst (λ o. StillBy (holds old.keeper) None (holds new.keeper) o) (sym took.2) (taken g tells (holds old.keeper) (holds new.keeper) took.1 took.3.seen took.3.settled))
  ]

  -- one that tells its tables, and whose store nothing shuts, was asked something else after it
  pub still_given : ((held : Held S) → IsTrue tells → IsTrue (state g held).is_open) → (old new : HeldStore K S) → GivesStoreBack g tells holds old new
      → (last : K) → (IsTrue tells → holds last ≡ holds new.keeper) → IsTrue tells → StillBy (holds old.keeper) old.store (holds last) new.store
  still_given sure old new gives last same told = subst (λ o. StillBy (holds old.keeper) old.store (holds last) o) (sym gives.emptied) (by old.store gives.given gives.none)
    where
      by : (store : Option (Held S)) → IfSome store (λ held. IsTrue tells → holds new.keeper ≡ (state g held).now) → (store ≡ None → IsTrue tells → holds new.keeper ≡ holds old.keeper)
          → StillBy (holds old.keeper) store (holds last) None
      by (Some store) held none = given g tells (holds old.keeper) (holds last) store (sure store) (λ tell. same tell ∙ held tell) told
      by None held none = kept g tells (holds old.keeper) (holds last) None (λ tell. same tell ∙ none refl tell)

-- an event by one call of `apply`: nobody came between
pub done_alone : {R S : Type 0} (g : Ghosts S) (view : View R) (r q : R) (event : Event) (answer : Answer) (old new : Held S) (before after : SessionMap)
    → ((accounts : Accounts) → view.shows r accounts → HasAccounts (state g old) accounts) → ((accounts : Accounts) → HasAccounts (state g new) accounts → view.shows q accounts)
    → ((trees : Trees) → leaves_of (state g old) trees → view.leaves r trees) → ((trees : Trees) → view.leaves q trees → leaves_of (state g new) trees)
    → HasCleanDisk (state g new) → (IsTrue (state g new).is_open → IsTrue (state g old).is_open) → SurvivesEvent event (host (state g old) before) (host (state g new) after)
    → IsEvent event answer (host (state g old) before) (host (state g new) after) → IsEventDone view [] event answer r before q after
done_alone g view r q event answer old new before after was is left may clean shut crash made = λ w at.
    let it = event_endures event (state g old) (state g new) before after clean shut crash w at.sessions (was w.accounts at.shown) answer made in (
      it.0,
      record { strangers = tt; told = []; between = w; theirs = refl; apart = refl; ours = it.1 },
      record {
        is = record { shown = is it.0.accounts it.2.shown; sessions = it.3 };
        left = λ trees leaves. elim (it.2.left trees (may trees leaves)) [ inl shown ↦ inl shown | inr rest ↦ elim rest [ inl old ↦ inr (inl (old.0, left trees old.1)) | inr tried ↦ inr (inr tried) ] ];
      },
    )

-- an event that was done behind a call that changed no account
pub done_behind : {R : Type 0} (view : View R) (r m q : R) (event : Event) (answer : Answer) (before after : SessionMap) → ViewStillShows view r m → IsEventDone view [] event answer m before q after → IsEventDone view [] event answer r before q after
done_behind view r m q event answer before after still done = λ w at.
    let here = still w.accounts at.shown in
    let it = done w (record { shown = here.0; sessions = at.sessions }) in
    (it.0, it.1, record { is = it.2.is; left = left_then (view.leaves r) (view.leaves m) (view.leaves q) w.accounts w.accounts it.0.accounts (ShowsTried (event ∷ []) answer it.1.between) here.1 it.2.left })

-- nothing was done behind such a call
pub nothing_behind : {R : Type 0} (view : View R) (r m q : R) (before after : SessionMap) → ViewStillShows view r m → NothingDone view m before q after → NothingDone view r before q after
nothing_behind view r m q before after still none = record { shown = still_then view r m q still none.shown; kept = none.kept }

-- an account was looked for behind such a call
pub found_behind : {R : Type 0} (view : View R) (r m q : R) (user : List ℕ) (lookup : Lookup) → ViewStillShows view r m
    → ((accounts : Accounts) → view.shows m accounts → IsFoundIn accounts user lookup × view.shows q accounts × MayLeave (view.leaves m) accounts (view.leaves q) accounts none_tried)
    → (accounts : Accounts) → view.shows r accounts → IsFoundIn accounts user lookup × view.shows q accounts × MayLeave (view.leaves r) accounts (view.leaves q) accounts none_tried
found_behind view r m q user lookup still finds accounts shown =
    let here = still accounts shown in
    let it = finds accounts here.0 in
    (it.0, it.1, left_then (view.leaves r) (view.leaves m) (view.leaves q) accounts accounts accounts none_tried here.1 it.2)

-- a message moved on behind such a call
pub moved_behind : {R : Type 0} (view : View R) (r m q : R) (moving : Moving) → ViewStillShows view r m
    → ((w : World) → view.shows m w.accounts → (later : Accounts) × MovesMessage moving w.accounts later × view.shows q later × MayLeave (view.leaves m) w.accounts (view.leaves q) later (TriedMoving moving w))
    → (w : World) → view.shows r w.accounts → (later : Accounts) × MovesMessage moving w.accounts later × view.shows q later × MayLeave (view.leaves r) w.accounts (view.leaves q) later (TriedMoving moving w)
moved_behind view r m q moving still moves w shown =
    let here = still w.accounts shown in
    let it = moves w here.0 in
    (it.0, it.1, it.2, left_then (view.leaves r) (view.leaves m) (view.leaves q) w.accounts w.accounts it.0 (TriedMoving moving w) here.1 it.3)

-- an account was looked for, and nobody came between
pub asked_alone : {R : Type 0} (view : View R) (r q : R) (user : List ℕ) (lookup : Lookup) (kept : SessionMap)
    → ((accounts : Accounts) → view.shows r accounts → IsFoundIn accounts user lookup × view.shows q accounts × MayLeave (view.leaves r) accounts (view.leaves q) accounts none_tried) → IsAccountAsked view [] user lookup r kept q kept
asked_alone view r q user lookup kept finds = λ w at.
    let seen = finds w.accounts at.shown in
    (w, record { strangers = tt; told = []; theirs = refl; apart = refl; found = seen.0 }, record { is = record { shown = seen.1; sessions = at.sessions }; left = seen.2 })

-- a delivery is an event, whatever sessions there are
delivery_acts : (request : DeliveryRequest) (terms : Terms) (user message : List ℕ) (envelope : Envelope) (old new : State) (r : Result Report Refusal)
    → user ≡ request.user → envelope ≡ record { from = request.sender; to = request.recipient } → message ≡ request.message → ActsDelivery user envelope message terms old new r
    → ActsDelivery request.user (record { from = request.sender; to = request.recipient }) request.message terms old new r
delivery_acts request terms user message envelope old new r is_user is_envelope is_message acts =
    let own : Envelope = record { from = request.sender; to = request.recipient } in
    subst (λ u. ActsDelivery u own request.message terms old new r) is_user
    (subst (λ e. ActsDelivery user e request.message terms old new r) is_envelope (subst (λ m. ActsDelivery user envelope m terms old new r) is_message acts))

pub delivered_as : (request : DeliveryRequest) (terms : Terms) (user message : List ℕ) (envelope : Envelope) (old new : State) (kept : SessionMap) (r : Result Report Refusal)
    → user ≡ request.user → envelope ≡ record { from = request.sender; to = request.recipient } → message ≡ request.message → ActsDelivery user envelope message terms old new r
    → IsEvent (delivery_of request terms) (answer_by Delivered r) (host old kept) (host new kept)
delivered_as request terms user message envelope old new kept r is_user is_envelope is_message acts =
    let own : Envelope = record { from = request.sender; to = request.recipient } in
    account_event (delivery_of request terms) (λ accounts. Delivery accounts request.user own request.message terms) (MayRefuseDelivery own request.message terms.when.moment) (λ w answer next done. done)
    (delivery_may request.user request.message own terms) old new kept Delivered r (delivery_acts request terms user message envelope old new r is_user is_envelope is_message acts)

-- and what a crash leaves of it
pub delivered_crash : (request : DeliveryRequest) (terms : Terms) (user message : List ℕ) (envelope : Envelope) (old new : State) (kept : SessionMap) (r : Result Report Refusal)
    → user ≡ request.user → envelope ≡ record { from = request.sender; to = request.recipient } → message ≡ request.message → ActsDelivery user envelope message terms old new r
    → SurvivesEvent (delivery_of request terms) (host old kept) (host new kept)
delivered_crash request terms user message envelope old new kept r is_user is_envelope is_message acts =
    let own : Envelope = record { from = request.sender; to = request.recipient } in
    account_crash (delivery_of request terms) (λ accounts. Delivery accounts request.user own request.message terms) (MayRefuseDelivery own request.message terms.when.moment) (λ w answer next done. done)
    (delivery_may request.user request.message own terms) old new kept r (answer_by Delivered r) (delivery_acts request terms user message envelope old new r is_user is_envelope is_message acts)

-- ---- what a sink keeps, as the daemon sees it

-- what left, as a sink may keep it
abbrev leaving : Moving → List KeptMail
leaving (moving.Kept batch answer) = kept_mails batch
leaving m = []

contains_behind : (before mails : List KeptMail) → All (Contains (before ++ mails)) mails
contains_behind before mails = λ k d less. Contains-append_right before mails _ (All-contains_itself mails k d less)

left_behind : (mails : List KeptMail) (m : Moving) → LeftAmong m (mails ++ leaving m)
left_behind mails (moving.Kept batch answer) = contains_behind mails (kept_mails batch)
left_behind mails moving.Nothing = tt
left_behind mails moving.Passed = tt
left_behind mails moving.Went = tt
left_behind mails (moving.Failed refusal) = tt
left_behind mails (moving.Stays stay) = tt

-- a step of a move, by what it says of the sink and of the route
pub has_kept : {K S T : Type 0} (tells : Bool) (kept : T → List KeptMail) (is_at : T → List ℕ → Type 0) (has_put keeps_at : T → List ℕ → KeptMail → Type 0) (r q : HostStore K T S) (m : Moving)
    → (IsTrue tells → Grows (kept r.sink) (kept q.sink))
    → (RouteRelies is_at has_put keeps_at r.route r.sink → RouteRelies is_at has_put keeps_at q.route q.sink × IsThereBy keeps_at q.route q.sink m)
    → (RouteRelies is_at has_put keeps_at r.route r.sink → IsTrue tells → LeftAmong m (kept q.sink))
    → HasKept (SinkHasMail tells kept is_at has_put keeps_at) (MailIsThere keeps_at) m r q
has_kept true kept is_at has_put keeps_at r q m grows keeps told mails had =
    let more = grows refl in
    let is : kept q.sink ≡ mails ++ more.0 = more.1 ∙ ap (λ l. l ++ more.0) (had.told refl) in
    (more.0, record { told = λ _. is; relies = (keeps had.relies).0 }, subst (LeftAmong m) is (told had.relies refl), (keeps had.relies).1)
has_kept false kept is_at has_put keeps_at r q m grows keeps told mails had =
    (leaving m, record { told = λ no. never_told no; relies = (keeps had.relies).0 }, left_behind mails m, (keeps had.relies).1)

-- what the sink has and the route relies on stays where both are as they were
mover_has : {K S T : Type 0} (tells : Bool) (kept : T → List KeptMail) (is_at : T → List ℕ → Type 0) (has_put keeps_at : T → List ℕ → KeptMail → Type 0) (r q : HostStore K T S) (mails : List KeptMail)
    → q.sink ≡ r.sink → q.route ≡ r.route → SinkHasMail tells kept is_at has_put keeps_at r mails → SinkHasMail tells kept is_at has_put keeps_at q mails
mover_has tells kept is_at has_put keeps_at r q mails sink route has = record {
  told = λ tell. ap kept sink ∙ has.told tell;
  relies = subst (λ s. RouteRelies is_at has_put keeps_at q.route s) (sym sink) (subst (λ o. RouteRelies is_at has_put keeps_at o r.sink) (sym route) has.relies);
}

mover_there : {K S T : Type 0} (keeps_at : T → List ℕ → KeptMail → Type 0) (r q : HostStore K T S) (m : Moving) → q.sink ≡ r.sink → q.route ≡ r.route → MailIsThere keeps_at r m → MailIsThere keeps_at q m
mover_there keeps_at r q m sink route there = subst (λ s. IsThereBy keeps_at q.route s m) (sym sink) (subst (λ o. IsThereBy keeps_at o r.sink m) (sym route) there)

pub mail_stays : {K S T : Type 0} (tells : Bool) (kept : T → List KeptMail) (is_at : T → List ℕ → Type 0) (has_put keeps_at : T → List ℕ → KeptMail → Type 0) (r q : HostStore K T S)
    → q.sink ≡ r.sink → q.route ≡ r.route → MailStays (SinkHasMail tells kept is_at has_put keeps_at) (MailIsThere keeps_at) r q
mail_stays tells kept is_at has_put keeps_at r q sink route = record {
  kept = λ mails. mover_has tells kept is_at has_put keeps_at r q mails sink route;
  left = λ m. mover_there keeps_at r q m sink route;
}

-- two such calls, and one that did nothing
pub stays_then : {R : Type 0} (has : R → List KeptMail → Type 0) (there : R → Moving → Type 0) (r a q : R) → MailStays has there r a → MailStays has there a q → MailStays has there r q
stays_then has there r a q first second = record { kept = λ mails had. second.kept mails (first.kept mails had); left = λ m was. second.left m (first.left m was) }

pub stays_same : {R : Type 0} (has : R → List KeptMail → Type 0) (there : R → Moving → Type 0) (r : R) → MailStays has there r r
stays_same has there r = record { kept = λ mails had. had; left = λ m was. was }

-- what a sink keeps, as the daemon sees it, behind calls that leave it and the route as they are
pub kept_behind : {R : Type 0} (has : R → List KeptMail → Type 0) (there : R → Moving → Type 0) (r a b q : R) (m : Moving) → ((mails : List KeptMail) → has r mails → has a mails) → q ≡ b → HasKept has there m a b → HasKept has there m r q
kept_behind has there r a b q m still same kept = λ mails had.
    let it = kept mails (still mails had) in
    (it.0, subst (λ x. has x (mails ++ it.0)) (sym same) it.1, it.2, subst (λ x. there x m) (sym same) it.3)

-- and before calls that do
pub kept_then : {R : Type 0} (has : R → List KeptMail → Type 0) (there : R → Moving → Type 0) (r a q : R) (m : Moving)
    → ((mails : List KeptMail) → has a mails → has q mails) → (there a m → there q m) → HasKept has there m r a → HasKept has there m r q
kept_then has there r a q m still stays kept = λ mails had.
    let it = kept mails had in
    (it.0, still (mails ++ it.0) it.1, it.2, stays it.3)

-- a message moved on, and nobody came between
pub moved_alone : {R : Type 0} (view : View R) (r q : R) (m : Moving) (kept : SessionMap)
    → ((w : World) → view.shows r w.accounts → (later : Accounts) × MovesMessage m w.accounts later × view.shows q later × MayLeave (view.leaves r) w.accounts (view.leaves q) later (TriedMoving m w)) → IsMessageMoved view [] m r kept q kept
moved_alone view r q m kept moves = λ w is.
    let it = moves w is.shown in
    moved_then view [] r q kept w w (view.leaves r) (let_none w) is.sessions (left_alone (view.leaves r) w.accounts none_tried) m it.0 it.1 it.2 it.3
