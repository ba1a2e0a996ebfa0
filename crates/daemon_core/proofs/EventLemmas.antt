-- Events of sessions: what is left as it was, and what is answered whatever accounts there are.
use Rattle.std.proofs.Common.{◌≡◌, inl, inr, ℕ, Bool, true, false, cond, List, [], ◌∷◌, ◌++◌, Option, Some, None, option_map, is_some, is_err, Result, Ok, Err, IfOk, IfSome, IfNone, OnOk, OnErr, refl, sym, ◌∙◌, ap, subst}
use Rattle.std.specs.declared.alloc.AllocError.{AllocError}
use Rattle.std.specs.Cmp.{nat_cmp_total}
use Rattle.std.specs.FinMap.{get, same_map, empty, get-empty, nat_cmp-IsAntisymmetric}
use Rattle.std.specs.Map.{lookup}
use Rattle.std.specs.Ordering.{nat_cmp}
use Rattle.std.specs.BTreeMap as tree
use Rattle.store_accounts.specs.Account.{no_accounts}
use Rattle.store_accounts.specs.declared.refusal.Refusal.TheVariants.{Memory}
use Rattle.managesieve_sessions.specs.Clients.{Client, client_given}
use Rattle.managesieve_sessions.specs.Steps.{progress_of}
use Rattle.store_engine.specs.Hosts.{SessionMap, HasClients, KeepsClients, IsSessionEvent, EventAsksStore, IsGivenUp, clients_of}
use Rattle.store_engine.proofs.HostLemmas.{clients_are}
use Rattle.managesieve_sessions.specs.declared.progress.Progress.{Progress}
use Rattle.net_loop.specs.Talk.{is_same_id}
use Rattle.store_engine.specs.declared.clients.Clients.{Clients as CodeClients}
use Rattle.daemon_core.specs.DaemonRules.{ChangesClientState, client_state_at}
use Rattle.daemon_core.specs.ClientStates.{is_out}
use Rattle.daemon_core.specs.declared.daemon.Daemon.{Daemon}
use Rattle.daemon_core.specs.declared.client_state.ClientState.{ClientState}
use Rattle.daemon_core.specs.Waiting.{session_greeting, answer_octets}
use Rattle.store_engine.specs.World.{World, Clients, Next, Runs, OpensSession, InSession, WorldBecomes, StepsSession, if_open, is_free_number, with_session}
use Rattle.store_engine.specs.declared.answer.Answer.{Answer}
use Rattle.store_engine.specs.declared.answer.Answer.TheVariants.{Out, Ignored, Refused}
use Rattle.store_engine.specs.declared.event.Event.{Event}
use Rattle.store_engine.specs.declared.event.Event.TheVariants.{Open, Give, Step, Close}

-- ---- runs in turn

pub runs_then : (one two : List Event) (told later : List Answer) (w mid end : World) → Runs w one told mid → Runs mid two later end → Runs w (one ++ two) (told ++ later) end
runs_then [] two [] later w mid end run more = subst (λ (v : World). Runs v two later end) run more
runs_then (e ∷ one) two (a ∷ told) later w mid end run more = (run.0, run.1, runs_then one two told later run.0 mid end run.2 more)
runs_then [] two (a ∷ told) later w mid end run more = absurd run
runs_then (e ∷ one) two [] later w mid end run more = absurd run

pub runs_one : (w end : World) (event : Event) (answer : Answer) → Next w event answer end → Runs w (event ∷ []) (answer ∷ []) end
runs_one w end event answer next = (end, next, refl)

-- ---- maps of sessions

-- those that a map has are one
pub clients_one : (kept : SessionMap) (one two : Clients) → HasClients kept one → HasClients kept two → one ≡ two
clients_one kept one two has also = same_map nat_cmp_total nat_cmp-IsAntisymmetric one two (λ s. sym (has s) ∙ also s)

pub keeps_then : (a b c : SessionMap) → KeepsClients a b → KeepsClients b c → KeepsClients a c
keeps_then a b c one two = λ clients has. two clients (one clients has)

-- none in a map without entries
pub none_open : (kept : SessionMap) → kept.entries ≡ [] → HasClients kept empty
none_open kept none s = ap (λ es. option_map (λ session. session.client) (lookup (tree.is_at (nat_cmp s)) es)) none ∙ sym (get-empty nat_cmp s)

-- ---- a connection for which memory was lacking, as an event

open_lacked : (w : World) (s : ℕ) (o : Option Client) → get w.sessions s ≡ o → (answer : Answer) × Next w (Open s) answer w
open_lacked w s None is = (Refused Memory, inr (record { refusal = Memory; may = ap (λ o. is_free_number o) is; refused = refl; stays = refl }))
open_lacked w s (Some c) is = (Ignored, inl (subst (λ o. OpensSession w s o Ignored w) (sym is) (record { ignored = refl; stays = refl })))

pub open_refused : (w : World) (s : ℕ) → (answer : Answer) × Next w (Open s) answer w
open_refused w s = open_lacked w s (get w.sessions s) refl

give_lacked : (w : World) (s : ℕ) (piece : List ℕ) (o : Option Client) → get w.sessions s ≡ o → (answer : Answer) × Next w (Give s piece) answer w
give_lacked w s piece None is =
    (Ignored, inl (subst (λ o. InSession w o (λ c. WorldBecomes (Out (progress_of c) []) (with_session s (client_given piece c) w)) Ignored w) (sym is) (record { ignored = refl; stays = refl })))
give_lacked w s piece (Some c) is = (Refused Memory, inr (record { refusal = Memory; may = ap (if_open (λ c. true)) is; refused = refl; stays = refl }))

pub give_refused : (w : World) (s : ℕ) (piece : List ℕ) → (answer : Answer) × Next w (Give s piece) answer w
give_refused w s piece = give_lacked w s piece (get w.sessions s) refl

-- octets of a connection without a session
pub give_unheard : (w : World) (s : ℕ) (piece : List ℕ) → get w.sessions s ≡ None → (answer : Answer) × (answer ≡ Ignored) × Next w (Give s piece) answer w
give_unheard w s piece is =
    (Ignored, refl, inl (subst (λ o. InSession w o (λ c. WorldBecomes (Out (progress_of c) []) (with_session s (client_given piece c) w)) Ignored w) (sym is) (record { ignored = refl; stays = refl })))

-- ---- an event of a session that isn't answered by octets changes nothing

abbrev IsOwn : Event → Type 0
IsOwn (Open s) = Unit {0}
IsOwn (Give s piece) = Unit {0}
IsOwn (Step s) = Unit {0}
IsOwn _ = ⊥

no_out : (progress : Progress) (octets : List ℕ) (answer : Answer) → answer ≡ Out progress octets → is_out answer ≡ false → ⊥
no_out progress octets answer is none = let never : true ≡ false = ap is_out (sym is) ∙ none in cc

open_unmade : (w v : World) (s : ℕ) (answer : Answer) (o : Option Client) → OpensSession w s o answer v → is_out answer ≡ false → v ≡ w
open_unmade w v s answer None opens none = absurd (no_out _ _ answer opens.says none)
open_unmade w v s answer (Some c) opens none = opens.stays

give_unmade : (w v : World) (s : ℕ) (piece : List ℕ) (answer : Answer) (o : Option Client)
    → InSession w o (λ c. WorldBecomes (Out (progress_of c) []) (with_session s (client_given piece c) w)) answer v → is_out answer ≡ false → v ≡ w
give_unmade w v s piece answer None gives none = gives.stays
give_unmade w v s piece answer (Some c) gives none = absurd (no_out _ _ answer gives.says none)

step_unmade : (w v : World) (s : ℕ) (answer : Answer) (o : Option Client) → InSession w o (StepsSession w s) answer v → is_out answer ≡ false → v ≡ w
step_unmade w v s answer None steps none = steps.stays
step_unmade w v s answer (Some c) steps none = absurd (no_out _ _ answer steps.says none)

unmade : (w v : World) (event : Event) (answer : Answer) → IsOwn event → is_out answer ≡ false → Next w event answer v → v ≡ w
unmade w v event answer own none (inr refused) = refused.stays
unmade w v (Open s) answer own none (inl made) = open_unmade w v s answer (get w.sessions s) made none
unmade w v (Give s piece) answer own none (inl made) = give_unmade w v s piece answer (get w.sessions s) made none
unmade w v (Step s) answer own none (inl made) = step_unmade w v s answer (get w.sessions s) made none
unmade w v _ answer own none (inl made) = absurd own

unmade_keeps : (event : Event) (answer : Answer) (before after : SessionMap) → IsOwn event → is_out answer ≡ false → IsSessionEvent event answer before after → KeepsClients before after
unmade_keeps event answer before after own none is = λ clients has.
    let w : World = record { accounts = no_accounts; sessions = clients } in
    let made = is w has in
    let stays : made.0 ≡ clients = ap (λ (v : World). v.sessions) (unmade w (record { accounts = no_accounts; sessions = made.0 }) event answer own none made.1) in
    subst (λ c. HasClients after c) stays made.2

pub open_keeps : (s : ℕ) (answer : Answer) (before after : SessionMap) → is_out answer ≡ false → IsSessionEvent (Open s) answer before after → KeepsClients before after
open_keeps s answer before after none is = unmade_keeps (Open s) answer before after tt none is

pub give_keeps : (s : ℕ) (piece : List ℕ) (answer : Answer) (before after : SessionMap) → is_out answer ≡ false → IsSessionEvent (Give s piece) answer before after → KeepsClients before after
give_keeps s piece answer before after none is = unmade_keeps (Give s piece) answer before after tt none is

pub step_keeps : (s : ℕ) (answer : Answer) (before after : SessionMap) → is_out answer ≡ false → IsSessionEvent (Step s) answer before after → KeepsClients before after
step_keeps s answer before after none is = unmade_keeps (Step s) answer before after tt none is

-- ---- a client that comes is greeted

greeted_at : (w v : World) (s : ℕ) (answer : Answer) (o : Option Client) → OpensSession w s o answer v → is_out answer ≡ true → answer_octets answer ≡ session_greeting
greeted_at w v s answer None opens out = ap answer_octets opens.says
greeted_at w v s answer (Some c) opens out = absurd (let never : false ≡ true = ap is_out (sym opens.ignored) ∙ out in cc)

greeted_by : (w v : World) (s : ℕ) (answer : Answer) → Next w (Open s) answer v → is_out answer ≡ true → answer_octets answer ≡ session_greeting
greeted_by w v s answer (inl made) out = greeted_at w v s answer (get w.sessions s) made out
greeted_by w v s answer (inr refused) out = absurd (let never : false ≡ true = ap is_out (sym refused.refused) ∙ out in cc)

pub greeted : (s : ℕ) (answer : Answer) (before after : SessionMap) → is_out answer ≡ true → IsSessionEvent (Open s) answer before after → answer_octets answer ≡ session_greeting
greeted s answer before after out is =
    let w : World = record { accounts = no_accounts; sessions = clients_of before } in
    let made = is w (clients_are before) in
    greeted_by w (record { accounts = no_accounts; sessions = made.0 }) s answer made.1 out

-- ---- calls that have one answer

-- an event that asks no store, and may be refused, has an answer
pub closed : (s : ℕ) (result : Result (Option Answer) AllocError) (before after : SessionMap) → IfOk result (λ told. IfSome told (λ answer. IsSessionEvent (Close s) answer before after))
    → IfOk result (λ told. IfNone told (EventAsksStore (Close s) before)) → OnErr result (IsGivenUp (Close s)) → (answer : Answer) × IsSessionEvent (Close s) answer before after
closed s (Ok (Some answer)) before after made asks lacks = (answer, made)
closed s (Ok None) before after made asks lacks = absurd asks
closed s (Err fault) before after made asks lacks = absurd lacks

-- ---- parts of what is known of connections

pub err_any : {X E P : Type 0} → (r : Result X E) → P → OnErr r P
err_any (Ok x) p = tt
err_any (Err e) p = p

-- a change, and then another, of one connection
pub twice_by : {A : Type 0} → (b : Bool) (one two o : A) → cond b two (cond b one o) ≡ cond b two o
twice_by true one two o = refl
twice_by false one two o = refl

pub known_twice : (d mid e : Daemon) (id : ℕ) (one two : Option ClientState) → ChangesClientState d id one mid → ChangesClientState mid id two e → ChangesClientState d id two e
known_twice d mid e id one two first then = λ k. then k ∙ ap (λ o. cond (is_same_id id k) two o) (first k) ∙ twice_by (is_same_id id k) one two (client_state_at d k)

pub keeps_same : (a : SessionMap) (b c : CodeClients) → KeepsClients a b.sessions → c ≡ b → KeepsClients a c.sessions
keeps_same a b c keeps is = subst (λ (x : CodeClients). KeepsClients a x.sessions) (sym is) keeps

pub some_there : {X : Type 0} → (o : Option X) → true ≡ is_some o → (x : X) × (o ≡ Some x)
some_there None is = absurd (let never : true ≡ false = is in cc)
some_there (Some x) is = (x, refl)

pub ok_then : {X E P Q : Type 0} → (r : Result X E) → OnOk r P → (P → Q) → OnOk r Q
ok_then (Ok x) p f = f p
ok_then (Err e) p f = tt

pub err_then : {X E P Q : Type 0} → (r : Result X E) → OnErr r P → (P → Q) → OnErr r Q
err_then (Ok x) p f = tt
err_then (Err e) p f = f p

pub went_well : {X E P : Type 0} → (r : Result X E) → is_err r ≡ false → OnOk r P → P
went_well (Ok x) is p = p
went_well (Err e) is p = absurd (let never : true ≡ false = is in cc)
