-- Events of others, and what follows them, on accounts that are kept in memory.
use Rattle.std.proofs.Common.{◌≡◌, ℕ, true, List, [], ◌∷◌, ◌++◌, refl, sym, subst}
use Rattle.lmtp_dialogue.specs.declared.receiver.Lookup.{Lookup}
use Rattle.store_engine.specs.Hosts.{SessionMap, HasClients}
use Rattle.store_engine.specs.World.{World, Clients}
use Rattle.store_engine.specs.declared.answer.Answer.{Answer}
use Rattle.store_engine.specs.declared.event.Event.{Event}
use Rattle.store_engine.specs.declared.event.Event.TheVariants.{Deliver, AddUser, Import, TakeOut, TakeMail, DoUpkeep}
use Rattle.daemon_core.specs.StoreAccess.{View, ViewStillShows, IsOthers, AreOthers, IsEventDone, IsAccountAsked}
use Rattle.daemon_core.proofs.EventLemmas.{runs_then, runs_one}
use Rattle.maildir_moves.specs.Enduring.{MayLeave, ShowsMade, ShowsTried, none_tried}
use Rattle.maildir_moves.proofs.EnduringLemmas.{left_alone, left_then}
use Rattle.maildir_moves.specs.declared.moving.Moving.{Moving}
use Rattle.maildir_files.specs.declared.kept.KeptMail.{KeptMail}
use Rattle.daemon_core.specs.Moves.{HasKept, IsMessageMoved}
use Rattle.daemon_core.specs.Together.{AreEventsDone, AreEventsTried, deliveries_told, deliveries_of, events_told, answers_told}
use Rattle.daemon_core.specs.declared.gathered.GatheredRequest.{GatheredRequest}
use Rattle.store_engine.specs.declared.terms.Terms.{Terms}
use Rattle.daemon_core.proofs.MoveLemmas.{moved_then}
use Rattle.test_daemon.specs.Shelves.{IsApplied, IsLet, IsSought, DeliversThem, IsMovedOn, LetsOthers, StillHas, is_of_accounts}

-- no event
pub lets_none : {S : Type 0} (view : View S) (s : S) → LetsOthers view [] s s
lets_none view s = λ w shown. (w, record { strangers = tt; told = []; runs = refl; apart = refl }, shown, left_alone (view.leaves s) w.accounts none_tried)

-- an event of accounts names no session
stranger : (sessions : Clients) (event : Event) → is_of_accounts event ≡ true → IsOthers sessions event
stranger sessions (Deliver user envelope message terms) is = tt
stranger sessions (AddUser name address salt password) is = tt
stranger sessions (Import file) is = tt
stranger sessions (TakeOut user id) is = tt
stranger sessions (TakeMail user folder) is = tt
stranger sessions (DoUpkeep user upkeep) is = tt
stranger sessions _ is = let never : ⊥ = cc in absurd never

strangers_then : (sessions : Clients) (others : List Event) (event : Event) → AreOthers sessions others → IsOthers sessions event → AreOthers sessions (others ++ event ∷ [])
strangers_then sessions [] event strangers is = (is, tt)
strangers_then sessions (other ∷ others) event strangers is = (strangers.0, strangers_then sessions others event strangers.1 is)

-- one more
pub lets_then : {S : Type 0} (view : View S) (others : List Event) (event : Event) (r s t : S) → is_of_accounts event ≡ true → LetsOthers view others r s → IsLet view event true s t → LetsOthers view (others ++ event ∷ []) r t
lets_then view others event r s t of_accounts lets let_one = λ w shown.
    let first = lets w shown in
    let made = let_one first.0 first.2 in
    let next : World = record { accounts = made.1; sessions = first.0.sessions } in (
      next,
      record {
        strangers = strangers_then w.sessions others event first.1.strangers (stranger w.sessions event of_accounts);
        told = first.1.told ++ made.0 ∷ [];
        runs = runs_then others (event ∷ []) first.1.told (made.0 ∷ []) w first.0 next first.1.runs (runs_one first.0 next event made.0 made.2);
        apart = first.1.apart;
      },
      made.3,
      left_then (view.leaves r) (view.leaves s) (view.leaves t) w.accounts first.0.accounts made.1 none_tried first.3 made.4,
    )

-- none more
pub lets_still : {S : Type 0} (view : View S) (others : List Event) (r s t : S) → LetsOthers view others r s → ViewStillShows view s t → LetsOthers view others r t
lets_still view others r s t lets still = λ w shown.
    let first = lets w shown in
    let later = still first.0.accounts first.2 in
    (first.0, first.1, later.0, left_then (view.leaves r) (view.leaves s) (view.leaves t) w.accounts first.0.accounts first.0.accounts none_tried first.3 later.1)

has_behind : (kept : SessionMap) (w between : World) → between.sessions ≡ w.sessions → HasClients kept w.sessions → HasClients kept between.sessions
has_behind kept w between apart has = subst (λ c. HasClients kept c) (sym apart) has

-- and then an event of the daemon's
pub done_behind : {S : Type 0} (view : View S) (others : List Event) (event : Event) (answer : Answer) (s mid t : S) (before after : SessionMap) → LetsOthers view others s mid → IsApplied view event answer mid before t after
    → IsEventDone view others event answer s before t after
done_behind view others event answer s mid t before after lets applied = λ w is.
    let let_them = lets w is.shown in
    let made = applied let_them.0 (record { shown = let_them.2; sessions = has_behind before w let_them.0 let_them.1.apart is.sessions }) in (
      made.0,
      record { strangers = let_them.1.strangers; told = let_them.1.told; between = let_them.0; theirs = let_them.1.runs; apart = let_them.1.apart; ours = made.1 },
      record { is = made.2.is; left = left_then (view.leaves s) (view.leaves mid) (view.leaves t) w.accounts let_them.0.accounts made.0.accounts (ShowsTried (event ∷ []) answer let_them.0) let_them.3 made.2.left },
    )

-- and then an account is looked for
pub asked_behind : {S : Type 0} (view : View S) (others : List Event) (user : List ℕ) (lookup : Lookup) (s mid t : S) (kept : SessionMap) → LetsOthers view others s mid → IsSought view user lookup mid t → IsAccountAsked view others user lookup s kept t kept
asked_behind view others user lookup s mid t kept lets sought = λ w is.
    let let_them = lets w is.shown in
    let seen = sought let_them.0.accounts let_them.2 in (
      let_them.0,
      record { strangers = let_them.1.strangers; told = let_them.1.told; theirs = let_them.1.runs; apart = let_them.1.apart; found = seen.0 },
      record {
        is = record { shown = seen.1; sessions = has_behind kept w let_them.0 let_them.1.apart is.sessions };
        left = left_then (view.leaves s) (view.leaves mid) (view.leaves t) w.accounts let_them.0.accounts let_them.0.accounts none_tried let_them.3 seen.2;
      },
    )

-- and then a message moves on
pub moved_behind : {S : Type 0} (view : View S) (others : List Event) (m : Moving) (s mid t : S) (kept : SessionMap) → LetsOthers view others s mid → IsMovedOn view m mid t → IsMessageMoved view others m s kept t kept
moved_behind view others m s mid t kept lets moved = λ w is.
    let let_them = lets w is.shown in
    let it = moved let_them.0 let_them.2 in
    moved_then view others s t kept w let_them.0 (view.leaves mid) (record { strangers = let_them.1.strangers; told = let_them.1.told; theirs = let_them.1.runs; apart = let_them.1.apart })
    (has_behind kept w let_them.0 let_them.1.apart is.sessions) let_them.3 m it.0 it.1 it.2 it.3

-- which the sink has, where others' events leave what it has
pub kept_behind : {S : Type 0} (has : S → List KeptMail → Type 0) (there : S → Moving → Type 0) (m : Moving) (s mid t u : S) → StillHas has s mid → u ≡ t → HasKept has there m mid t → HasKept has there m s u
kept_behind has there m s mid t u still same kept = λ mails had.
    let it = kept mails (still mails had) in
    (it.0, subst (λ x. has x (mails ++ it.0)) (sym same) it.1, it.2, subst (λ x. there x m) (sym same) it.3)

-- and then messages are delivered together, each with an answer of its own
pub delivered_behind : {S : Type 0} (view : View S) (others : List Event) (terms : Terms) (requests : List GatheredRequest) (answers : List Answer) (s mid t : S) (kept : SessionMap) → LetsOthers view others s mid
    → ((w : World) → view.shows mid w.accounts → DeliversThem view terms requests answers mid t w) → AreEventsDone view others (events_told (deliveries_told terms requests answers)) (answers_told (deliveries_told terms requests answers)) s kept t kept
delivered_behind view others terms requests answers s mid t kept lets delivers = λ w is.
    let let_them = lets w is.shown in
    let it = delivers let_them.0 let_them.2 in (
      record { accounts = it.later; sessions = let_them.0.sessions },
      record { strangers = let_them.1.strangers; told = let_them.1.told; between = let_them.0; theirs = let_them.1.runs; apart = let_them.1.apart; ours = it.run },
      record {
        is = record { shown = it.shown; sessions = has_behind kept w let_them.0 let_them.1.apart is.sessions };
        left = left_then (view.leaves s) (view.leaves mid) (view.leaves t) w.accounts let_them.0.accounts it.later none_tried let_them.3 it.left;
      },
    )

-- or are refused together
pub parted_behind : {S : Type 0} (view : View S) (others : List Event) (terms : Terms) (requests : List GatheredRequest) (s mid t : S) (kept : SessionMap) → LetsOthers view others s mid
    → ((w : World) → view.shows mid w.accounts → view.shows t w.accounts × MayLeave (view.leaves mid) w.accounts (view.leaves t) w.accounts (ShowsMade (deliveries_of terms requests) w)) → AreEventsTried view others (deliveries_of terms requests) s kept t kept
parted_behind view others terms requests s mid t kept lets tried = λ w is.
    let let_them = lets w is.shown in
    let it = tried let_them.0 let_them.2 in (
      let_them.0,
      record { strangers = let_them.1.strangers; told = let_them.1.told; theirs = let_them.1.runs; apart = let_them.1.apart },
      record {
        is = record { shown = it.0; sessions = has_behind kept w let_them.0 let_them.1.apart is.sessions };
        left = left_then (view.leaves s) (view.leaves mid) (view.leaves t) w.accounts let_them.0.accounts let_them.0.accounts (ShowsMade (deliveries_of terms requests) let_them.0) let_them.3 it.1;
      },
    )
