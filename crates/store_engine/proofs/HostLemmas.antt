-- Sessions in a map are the machine's, one event at a time.
use Rattle.std.proofs.Common.{◌≡◌, ℕ, Bool, true, false, cond, List, [], ◌∷◌, ◌++◌, map, Option, Some, None, option_map, is_some, Ok, Err, Result, MatchResult, IsOkAnd, IsTrue, refl, sym, ◌∙◌, ap, subst, inl, inr}
use Rattle.std.specs.declared.cmp.Ordering.{Ordering}
use Rattle.std.specs.declared.cmp.Ordering.TheVariants.{Less, Equal, Greater}
use Rattle.std.specs.Result.{result_and}
use Rattle.std.specs.Ordering.{nat_cmp, is_eq}
use Rattle.std.specs.Cmp.{eq_by_cmp_equiv, nat_cmp_total}
use Rattle.std.specs.FinMap.{get, insert, remove, get-insert, get-remove, get-from_entries, find, nat_cmp-IsAntisymmetric}
use Rattle.std.specs.Map.{lookup}
use Rattle.std.specs.BTreeMap as tree
use Rattle.managesieve_protocol.specs.Replies.{reply_octets}
use Rattle.store_accounts.specs.Account.{Accounts}
use Rattle.store_accounts.specs.Refusals.{IsTransient}
use Rattle.sieve_exec.specs.declared.envelope.Envelope.{Envelope}
use Rattle.store_accounts.specs.declared.refusal.Refusal.{Refusal}
use Rattle.store_accounts.specs.declared.refusal.Refusal.TheVariants.{Memory, Store, NotOurs, NoUser, TooLarge, BadEnvelope, BadMoment, UserExists, BadUser, NoRow, AccountClosed, UserIsOpen, UserHasMail, BadScriptName, ScriptTooLarge, TooManyScripts, BadAccount}
use Rattle.sqlite.specs.State.{State, HasCleanDisk, Survives}
use Rattle.sqlite.proofs.StateLemmas.{survives_weaker}
use Rattle.store_accounts.proofs.OneLemmas.{accounts_one}
use Rattle.store_accounts.specs.Shows.{Presents}
use Rattle.store_tables.proofs.ResultLemmas.{on_ok}
use Rattle.managesieve_sessions.specs.Acts.{Acts, CrashLeaves, HasAccounts, Lasts}
use Rattle.managesieve_sessions.specs.Orders.{SessionStepsTo, MayStep, MayRefuse as MayRefuseStep}
use Rattle.managesieve_sessions.specs.Orders.{MayRefuse as MayRefuseStep}
use Rattle.managesieve_sessions.specs.Clients.{Client, new_client, client_given}
use Rattle.managesieve_sessions.specs.Counts.{SessionView, new_session}
use Rattle.managesieve_sessions.specs.GivenUp.{text_given_up, client_given_up, progress_given_up}
use Rattle.managesieve_sessions.specs.Replies.{capability_reply}
use Rattle.managesieve_sessions.specs.Steps.{IsStep, StepsOver, AsksFor, progress_of, may_lack, may_fail}
use Rattle.managesieve_sessions.specs.declared.progress.Progress.{Progress}
use Rattle.managesieve_sessions.specs.declared.command_class.StoreCommand.{StoreCommand}
use Rattle.managesieve_sessions.specs.declared.progress.Progress.TheVariants as p
use Rattle.store_engine.specs.declared.event.Event.{Event}
use Rattle.store_engine.specs.declared.event.Event.TheVariants.{Open, Give, Step, GiveUp, Close, Deliver, AddUser, Import, TakeOut, TakeMail, DoUpkeep}
use Rattle.store_engine.specs.declared.answer.Answer.{Answer}
use Rattle.store_engine.specs.declared.answer.Answer.TheVariants.{Out, Ignored, Refused}
use Rattle.store_engine.specs.World.{World, Clients, with_accounts, Ignores, WorldBecomes, InSession, OpensSession, StepsSession, EventHappens, MayRefuseEvent, with_session, without_session, MayLack, MayFail, if_open, is_free_number}
use Rattle.store_engine.specs.Hosts.{SessionMap, IsMade, clients_of, EventAsksStore, HasClients, host, IsSessionEvent, KeepsClients, IsEvent, EventLeads, EventCrashLeaves, answer_by, answer_of, TurnsBy, MayTurnBy, MayRefuseDelivery, MayRefuseAddition, MayRefuseImport, MayRefuseKeeping}
use Rattle.store_text.specs.declared.account_file.AccountFile.{AccountFile}
use Rattle.store_engine.specs.declared.terms.Terms.{Terms}
use Rattle.store_engine.specs.declared.upkeep.Upkeep.{Upkeep}

-- ---- maps

turned_round : (n s : ℕ) → is_eq (nat_cmp n s) ≡ is_eq (nat_cmp s n)
turned_round n s = (eq_by_cmp_equiv nat_cmp_total).symm n s

mapped_cond : (b : Bool) (v : Option SessionView) (o : Option SessionView) → option_map (λ session. session.client) (cond b v o) ≡ cond b (option_map (λ session. session.client) v) (option_map (λ session. session.client) o)
mapped_cond true v o = refl
mapped_cond false v o = refl

-- one session more, or another in its place
pub clients_put : (kept after : SessionMap) (n : ℕ) (v : SessionView) (clients : Clients) → tree.Updates nat_cmp kept after n (Some v) → HasClients kept clients → HasClients after (insert clients n v.client)
clients_put kept after n v clients put has s =
    ap (option_map (λ session. session.client)) (put.0 s) ∙ mapped_cond (is_eq (nat_cmp n s)) (Some v) (tree.get nat_cmp kept s)
    ∙ ap (λ o. cond (is_eq (nat_cmp n s)) (Some v.client) o) (has s) ∙ ap (λ b. cond b (Some v.client) (get clients s)) (turned_round n s)
    ∙ sym (get-insert nat_cmp_total clients n v.client s)

-- one session less
pub clients_gone : (kept after : SessionMap) (n : ℕ) (clients : Clients) → tree.Updates nat_cmp kept after n None → HasClients kept clients → HasClients after (remove clients n)
clients_gone kept after n clients gone has s =
    ap (option_map (λ session. session.client)) (gone.0 s) ∙ mapped_cond (is_eq (nat_cmp n s)) None (tree.get nat_cmp kept s)
    ∙ ap (λ o. cond (is_eq (nat_cmp n s)) None o) (has s) ∙ ap (λ b. cond b None (get clients s)) (turned_round n s)
    ∙ sym (get-remove nat_cmp_total clients n s)

-- the same session put back
pub clients_back : (kept after : SessionMap) (n : ℕ) (v : SessionView) (clients : Clients) → Some v ≡ tree.get nat_cmp kept n → tree.Updates nat_cmp kept after n (Some v) → HasClients kept clients → HasClients after clients
clients_back kept after n v clients one put has s = ap (option_map (λ session. session.client)) (put.0 s) ∙ (go (nat_cmp n s) refl ∙ has s)
  where
    go : (o : Ordering) → nat_cmp n s ≡ o → option_map (λ session. session.client) (cond (is_eq o) (Some v) (tree.get nat_cmp kept s)) ≡ option_map (λ session. session.client) (tree.get nat_cmp kept s)
    go Less at = refl
    go Equal at = ap (option_map (λ session. session.client)) (one ∙ ap (λ k. tree.get nat_cmp kept k) (nat_cmp-IsAntisymmetric n s at))
    go Greater at = refl

-- the same sessions
pub clients_same : (kept after : SessionMap) (clients : Clients) → after.entries ≡ kept.entries → HasClients kept clients → HasClients after clients
clients_same kept after clients same has s = ap (λ es. option_map (λ session. session.client) (lookup (tree.is_at (nat_cmp s)) es)) same ∙ has s

-- the sessions of a map, as the machine has them
mapped_find : (s : ℕ) (es : List (ℕ × SessionView)) → option_map (λ session. session.client) (lookup (tree.is_at (nat_cmp s)) es) ≡ find nat_cmp s (map (λ e. (e.0, e.1.client)) es)
mapped_find s [] = refl
mapped_find s (e ∷ es) = mapped_cond (is_eq (nat_cmp s e.0)) (Some e.1) (lookup (tree.is_at (nat_cmp s)) es) ∙ ap (λ o. cond (is_eq (nat_cmp s e.0)) (Some e.1.client) o) (mapped_find s es)

pub clients_are : (kept : SessionMap) → HasClients kept (clients_of kept)
clients_are kept s = mapped_find s kept.entries ∙ sym (get-from_entries nat_cmp_total (map (λ e. (e.0, e.1.client)) kept.entries) s)

-- ---- what is under a number

pub none_there : (kept : SessionMap) (clients : Clients) (n : ℕ) → HasClients kept clients → None ≡ tree.get nat_cmp kept n → get clients n ≡ None
none_there kept clients n has none = sym (has n) ∙ ap (option_map (λ session. session.client)) (sym none)

pub one_there : (kept : SessionMap) (clients : Clients) (n : ℕ) (v : SessionView) → HasClients kept clients → Some v ≡ tree.get nat_cmp kept n → get clients n ≡ Some v.client
one_there kept clients n v has one = sym (has n) ∙ ap (option_map (λ session. session.client)) (sym one)

-- ---- events that change nothing

nothing : (w : World) → Ignores w Ignored w
nothing w = record { ignored = refl; stays = refl }

-- a number that isn't open
pub ignored : (event : Event) (kept after : SessionMap) (n : ℕ) → ((w : World) → get w.sessions n ≡ None → EventHappens w event Ignored w) → None ≡ tree.get nat_cmp kept n → after.entries ≡ kept.entries
    → IsSessionEvent event Ignored kept after
ignored event kept after n row none same w has = (w.sessions, inl (row w (none_there kept w.sessions n has none)), clients_same kept after w.sessions same has)

pub ignored_give : (kept after : SessionMap) (n : ℕ) (piece : List ℕ) → None ≡ tree.get nat_cmp kept n → after.entries ≡ kept.entries → IsSessionEvent (Give n piece) Ignored kept after
ignored_give kept after n piece none same = ignored (Give n piece) kept after n (λ w gone. subst (λ o. InSession w o (λ c. WorldBecomes (Out (progress_of c) []) (with_session n (client_given piece c) w)) Ignored w) (sym gone) (nothing w)) none same

pub ignored_give_up : (kept after : SessionMap) (n : ℕ) → None ≡ tree.get nat_cmp kept n → after.entries ≡ kept.entries → IsSessionEvent (GiveUp n) Ignored kept after
ignored_give_up kept after n none same =
    ignored (GiveUp n) kept after n (λ w gone. subst (λ o. InSession w o (λ c. WorldBecomes (Out (progress_given_up c) (text_given_up c)) (with_session n (client_given_up c) w)) Ignored w) (sym gone) (nothing w)) none same

pub ignored_close : (kept after : SessionMap) (n : ℕ) → None ≡ tree.get nat_cmp kept n → after.entries ≡ kept.entries → IsSessionEvent (Close n) Ignored kept after
ignored_close kept after n none same = ignored (Close n) kept after n (λ w gone. subst (λ o. InSession w o (λ c. WorldBecomes (Out p.Close []) (without_session n w)) Ignored w) (sym gone) (nothing w)) none same

-- lack of memory
pub lacking : (event : Event) (kept after : SessionMap) (answer : Answer) → answer ≡ Refused Memory → ((w : World) → HasClients kept w.sessions → MayLack w event) → after.entries ≡ kept.entries → IsSessionEvent event answer kept after
lacking event kept after answer is may same w has = (w.sessions, inr (record { refusal = Memory; may = may w has; refused = is; stays = refl }), clients_same kept after w.sessions same has)

-- lack of memory, where the session was put back
pub lacking_back : (event : Event) (kept after : SessionMap) (n : ℕ) (v : SessionView) (answer : Answer) → answer ≡ Refused Memory → ((w : World) → HasClients kept w.sessions → MayLack w event) → Some v ≡ tree.get nat_cmp kept n
    → tree.Updates nat_cmp kept after n (Some v) → IsSessionEvent event answer kept after
lacking_back event kept after n v answer is may one put w has =
    (w.sessions, inr (record { refusal = Memory; may = may w has; refused = is; stays = refl }), clients_back kept after n v w.sessions one put has)

-- ---- open

pub open_twice : (kept : SessionMap) (n : ℕ) → is_some (tree.get nat_cmp kept n) ≡ true → IsSessionEvent (Open n) Ignored kept kept
open_twice kept n there w has = (w.sessions, inl (go (tree.get nat_cmp kept n) refl there), has)
  where
    go : (o : Option SessionView) → tree.get nat_cmp kept n ≡ o → is_some o ≡ true → OpensSession w n (get w.sessions n) Ignored w
    go None is some = absurd (let never : false ≡ true = some in cc)
    go (Some v) is some = subst (λ o. OpensSession w n o Ignored w) (sym (one_there kept w.sessions n v has (sym is))) (record { ignored = refl; stays = refl })

absent : (kept : SessionMap) (clients : Clients) (n : ℕ) → HasClients kept clients → is_some (tree.get nat_cmp kept n) ≡ false → get clients n ≡ None
absent kept clients n has none = go (tree.get nat_cmp kept n) refl none
  where
    go : (o : Option SessionView) → tree.get nat_cmp kept n ≡ o → is_some o ≡ false → get clients n ≡ None
    go None is gone = none_there kept clients n has (sym is)
    go (Some v) is gone = absurd (let never : true ≡ false = gone in cc)

pub open_lacks : (kept : SessionMap) (n : ℕ) → is_some (tree.get nat_cmp kept n) ≡ false → (w : World) → HasClients kept w.sessions → MayLack w (Open n)
open_lacks kept n none w has = ap is_free_number (absent kept w.sessions n has none)

pub opened : (kept after : SessionMap) (n : ℕ) (greeting : List ℕ) → is_some (tree.get nat_cmp kept n) ≡ false → greeting ≡ reply_octets (capability_reply None) → tree.Updates nat_cmp kept after n (Some new_session)
    → IsSessionEvent (Open n) (Out p.Done greeting) kept after
opened kept after n greeting none told put w has = (
  insert w.sessions n new_client,
  inl (subst (λ o. OpensSession w n o (Out p.Done greeting) (record { accounts = w.accounts; sessions = insert w.sessions n new_client })) (sym (absent kept w.sessions n has none)) (record { says = ap (λ t. Out p.Done t) told; changed = refl })),
  clients_put kept after n new_session w.sessions put has,
)

-- ---- an open session

-- what it becomes, and what is answered
pub becomes : (event : Event) (kept after : SessionMap) (n : ℕ) (v u : SessionView) (answer : Answer) → ((w : World) → get w.sessions n ≡ Some v.client → EventHappens w event answer (record { accounts = w.accounts; sessions = insert w.sessions n u.client }))
    → Some v ≡ tree.get nat_cmp kept n → tree.Updates nat_cmp kept after n (Some u) → IsSessionEvent event answer kept after
becomes event kept after n v u answer row one put w has =
    (insert w.sessions n u.client, inl (row w (one_there kept w.sessions n v has one)), clients_put kept after n u w.sessions put has)

pub given : (kept after : SessionMap) (n : ℕ) (piece : List ℕ) (v u : SessionView) → Some v ≡ tree.get nat_cmp kept n → u.client ≡ client_given piece v.client → tree.Updates nat_cmp kept after n (Some u)
    → IsSessionEvent (Give n piece) (Out (progress_of u.client) []) kept after
given kept after n piece v u one gives put = becomes (Give n piece) kept after n v u (Out (progress_of u.client) []) row one put
  where
    progress : (b : Bool) (c : Client) → c.closed ≡ b → progress_of (client_given piece c) ≡ progress_of c
    progress true c is = ap (λ e. progress_of (cond e c (record c { unread = c.unread ++ piece }))) is
    progress false c is = ap (λ e. progress_of (cond e c (record c { unread = c.unread ++ piece }))) is

    row : (w : World) → get w.sessions n ≡ Some v.client → EventHappens w (Give n piece) (Out (progress_of u.client) []) (record { accounts = w.accounts; sessions = insert w.sessions n u.client })
    row w has =
        let made : WorldBecomes (Out (progress_of v.client) []) (with_session n (client_given piece v.client) w) (Out (progress_of u.client) []) (record { accounts = w.accounts; sessions = insert w.sessions n u.client }) = record {
          says = ap (λ q. Out q []) (ap progress_of gives ∙ progress v.client.closed v.client refl);
          changed = ap (λ c. with_session n c w) gives;
        } in
        subst (λ o. InSession w o (λ c. WorldBecomes (Out (progress_of c) []) (with_session n (client_given piece c) w)) (Out (progress_of u.client) []) (record { accounts = w.accounts; sessions = insert w.sessions n u.client })) (sym has) made

pub given_told : (kept after : SessionMap) (n : ℕ) (piece : List ℕ) (v u : SessionView) (progress : Progress) (text : List ℕ) → progress ≡ progress_of u.client → text ≡ [] → Some v ≡ tree.get nat_cmp kept n → u.client ≡ client_given piece v.client
    → tree.Updates nat_cmp kept after n (Some u) → IsSessionEvent (Give n piece) (Out progress text) kept after
given_told kept after n piece v u progress text goes none one gives put =
    subst (λ a. IsSessionEvent (Give n piece) a kept after) (sym (ap (λ q. Out q text) goes ∙ ap (λ t. Out (progress_of u.client) t) none)) (given kept after n piece v u one gives put)

pub give_lacks : (kept : SessionMap) (n : ℕ) (piece : List ℕ) (v : SessionView) → Some v ≡ tree.get nat_cmp kept n → (w : World) → HasClients kept w.sessions → MayLack w (Give n piece)
give_lacks kept n piece v one w has = ap (if_open (λ c. true)) (one_there kept w.sessions n v has one)

pub gave_up : (kept after : SessionMap) (n : ℕ) (text : List ℕ) (v u : SessionView) (progress : Progress) → Some v ≡ tree.get nat_cmp kept n → u.client ≡ client_given_up v.client → text ≡ text_given_up v.client → progress ≡ progress_given_up v.client
    → tree.Updates nat_cmp kept after n (Some u) → IsSessionEvent (GiveUp n) (Out progress text) kept after
gave_up kept after n text v u progress one gives told goes put = becomes (GiveUp n) kept after n v u (Out progress text) row one put
  where
    row : (w : World) → get w.sessions n ≡ Some v.client → EventHappens w (GiveUp n) (Out progress text) (record { accounts = w.accounts; sessions = insert w.sessions n u.client })
    row w has =
        let made : WorldBecomes (Out (progress_given_up v.client) (text_given_up v.client)) (with_session n (client_given_up v.client) w) (Out progress text) (record { accounts = w.accounts; sessions = insert w.sessions n u.client }) = record {
          says = ap (λ q. Out q text) goes ∙ ap (λ t. Out (progress_given_up v.client) t) told;
          changed = ap (λ c. with_session n c w) gives;
        } in
        subst (λ o. InSession w o (λ c. WorldBecomes (Out (progress_given_up c) (text_given_up c)) (with_session n (client_given_up c) w)) (Out progress text) (record { accounts = w.accounts; sessions = insert w.sessions n u.client })) (sym has) made

pub closed_now : (kept after : SessionMap) (n : ℕ) (v : SessionView) (text : List ℕ) → text ≡ [] → Some v ≡ tree.get nat_cmp kept n → tree.Updates nat_cmp kept after n None → IsSessionEvent (Close n) (Out p.Close text) kept after
closed_now kept after n v text none one gone w has = (remove w.sessions n, inl row, clients_gone kept after n w.sessions gone has)
  where
    row : EventHappens w (Close n) (Out p.Close text) (without_session n w)
    row =
        let made : WorldBecomes (Out p.Close []) (without_session n w) (Out p.Close text) (without_session n w) = record { says = ap (λ t. Out p.Close t) none; changed = refl } in
        subst (λ o. InSession w o (λ c. WorldBecomes (Out p.Close []) (without_session n w)) (Out p.Close text) (without_session n w)) (sym (one_there kept w.sessions n v has one)) made

-- ---- a step

-- which refusals a step may give, as the machine has it
step_refused : (w : World) (n : ℕ) (c : Client) (refusal : Refusal) → get w.sessions n ≡ Some c → MayRefuseStep c refusal → MayRefuseEvent w (Step n) refusal
step_refused w n c Memory has may = ap (if_open may_lack) has ∙ may
step_refused w n c Store has may = ap (if_open may_fail) has ∙ may
step_refused w n c NotOurs has may = absurd may
step_refused w n c NoUser has may = absurd may
step_refused w n c TooLarge has may = absurd may
step_refused w n c BadEnvelope has may = absurd may
step_refused w n c BadMoment has may = absurd may
step_refused w n c UserExists has may = absurd may
step_refused w n c BadUser has may = absurd may
step_refused w n c NoRow has may = absurd may
step_refused w n c AccountClosed has may = absurd may
step_refused w n c UserIsOpen has may = absurd may
step_refused w n c UserHasMail has may = absurd may
step_refused w n c BadScriptName has may = absurd may
step_refused w n c ScriptTooLarge has may = absurd may
step_refused w n c TooManyScripts has may = absurd may
step_refused w n c BadAccount has may = absurd may

-- the step of one session is the machine's
stepped : (w : World) (n : ℕ) (c d : Client) (progress : Progress) (octets : List ℕ) (later : Accounts) → get w.sessions n ≡ Some c → IsStep w.accounts c progress octets d later
    → EventHappens w (Step n) (Out progress octets) (record { accounts = later; sessions = insert w.sessions n d })
stepped w n c d progress octets later has is =
    let made : StepsSession w n c (Out progress octets) (record { accounts = later; sessions = insert w.sessions n d }) =
    record { goes_on = progress; octets = octets; client = d; accounts = later; step = is; says = refl; changed = refl } in
    subst (λ o. InSession w o (StepsSession w n) (Out progress octets) (record { accounts = later; sessions = insert w.sessions n d })) (sym has) made

-- an answer that isn't a refusal lasts: the accounts that the store shows are those
lasts_of : {X : Type 0} (Turn MayTurn : Accounts → Accounts → Type 0) (old new : State) (q : Result X Refusal) (x : X) → q ≡ Ok x → Acts Turn MayTurn old new q → HasCleanDisk new → IsTrue old.is_open
    → (accounts : Accounts) → Presents old.now accounts → (later : Accounts) → HasAccounts new later → Lasts accounts later old new
lasts_of Turn MayTurn old new q x is acts clean was accounts p later shown =
    let lasts = on_ok q x is ((other : Accounts) × Turn accounts other × Lasts accounts other old new) (acts.lasts clean was accounts p) in
    subst (λ a. Lasts accounts a old new) (accounts_one new.now lasts.0 later lasts.2.shown (shown lasts.2.is_open)) lasts.2

-- of a store that nothing happens to
still_lasts : (s : State) (accounts : Accounts) → HasAccounts s accounts → IsTrue s.is_open → Lasts accounts accounts s s
still_lasts s accounts shown is_open = record { is_open = is_open; shown = shown is_open; crash = λ trees may. inr (refl, may) }

module _ (old new : State) (kept after : SessionMap) (n : ℕ) (v u : SessionView) (r : Result Progress Refusal) (before written : List ℕ) (one : Some v ≡ tree.get nat_cmp kept n) (put : tree.Updates nat_cmp kept after n (Some u))
    (acts : Acts (SessionStepsTo v.client u.client r before written) (MayStep v.client) old new r) where
  -- it answered
  pub step_told : (progress : Progress) → r ≡ Ok progress → before ≡ [] → IsEvent (Step n) (Out progress written) (host old kept) (host new after)
  step_told progress is none clean w had =
      let turned = acts.carries clean w.accounts had.accounts in
      let made : SessionStepsTo v.client u.client (Ok progress) before written w.accounts turned.0 = subst (λ q. SessionStepsTo v.client u.client q before written w.accounts turned.0) is turned.1 in
      let text : written ≡ made.0 = made.1 ∙ ap (λ b. b ++ made.0) none in (
        record { accounts = turned.0; sessions = insert w.sessions n u.client },
        record {
          is_next = inl (subst (λ t. EventHappens w (Step n) (Out progress t) (record { accounts = turned.0; sessions = insert w.sessions n u.client })) (sym text)
              (stepped w n v.client u.client progress made.0 turned.0 (one_there kept w.sessions n v had.sessions one) made.2));
          implements = record { accounts = turned.2; sessions = clients_put kept after n u w.sessions put had.sessions };
          lasts = λ told was. lasts_of (SessionStepsTo v.client u.client r before written) (MayStep v.client) old new r progress is acts clean was w.accounts (had.accounts was) turned.0 turned.2;
        },
      )

  -- it was refused, and the session is as it was
  pub step_undone : (answer : Answer) (refusal : Refusal) → r ≡ Err refusal → answer ≡ Refused refusal → MayRefuseStep v.client refusal → u ≡ v → IsEvent (Step n) answer (host old kept) (host new after)
  step_undone answer refusal is told may same clean w had =
      let turned = acts.carries clean w.accounts had.accounts in
      let stays : turned.0 ≡ w.accounts = subst (λ q. SessionStepsTo v.client u.client q before written w.accounts turned.0) is turned.1 in (
        w,
        record {
          is_next = inr (record { refusal = refusal; may = step_refused w n v.client refusal (one_there kept w.sessions n v had.sessions one) may; refused = told; stays = refl });
          implements = record { accounts = subst (HasAccounts new) stays turned.2; sessions = clients_back kept after n v w.sessions one (subst (λ x. tree.Updates nat_cmp kept after n (Some x)) same put) had.sessions };
          lasts = λ made was. absurd (subst IsMade told made);
        },
      )

-- what a crash leaves of it
pub step_crash : (old new : State) (kept : SessionMap) (n : ℕ) (v : SessionView) → Some v ≡ tree.get nat_cmp kept n → Survives old new (CrashLeaves (MayStep v.client) old) → Survives old new (EventCrashLeaves (Step n) (host old kept))
step_crash old new kept n v one crash = survives_weaker old new _ _ (λ clean trees may w shown has.
    let left = may w.accounts shown in
    let step = left.1 in
    (Out step.0 step.1, record { accounts = left.0; sessions = insert w.sessions n step.2 }, inl (stepped w n v.client step.2 step.0 step.1 left.0 (one_there kept w.sessions n v has one) step.3), left.2)) crash

-- an event of sessions alone asks no store
pub session_event : (event : Event) (answer : Answer) (s : State) (kept after : SessionMap) → IsSessionEvent event answer kept after → IsEvent event answer (host s kept) (host s after)
session_event event answer s kept after is clean w had =
    let made = is w had.sessions in (
      record { accounts = w.accounts; sessions = made.0 },
      record { is_next = made.1; implements = record { accounts = had.accounts; sessions = made.2 }; lasts = λ told. still_lasts s w.accounts had.accounts },
    )

pub ignored_step : (kept after : SessionMap) (n : ℕ) → None ≡ tree.get nat_cmp kept n → after.entries ≡ kept.entries → IsSessionEvent (Step n) Ignored kept after
ignored_step kept after n none same = ignored (Step n) kept after n (λ w gone. subst (λ o. InSession w o (StepsSession w n) Ignored w) (sym gone) (nothing w)) none same

-- ---- a step that asks no store

-- it answered
pub free_told : (kept after : SessionMap) (n : ℕ) (v u : SessionView) (progress : Progress) (before written : List ℕ) → Some v ≡ tree.get nat_cmp kept n → tree.Updates nat_cmp kept after n (Some u) → StepsOver v.client u.client progress before written
    → before ≡ [] → IsSessionEvent (Step n) (Out progress written) kept after
free_told kept after n v u progress before written one put over none w has =
    let text : written ≡ over.octets = over.written ∙ ap (λ b. b ++ over.octets) none in (
      insert w.sessions n u.client,
      inl (subst (λ t. EventHappens w (Step n) (Out progress t) (record { accounts = w.accounts; sessions = insert w.sessions n u.client })) (sym text)
          (stepped w n v.client u.client progress over.octets w.accounts (one_there kept w.sessions n v has one) (over.step w.accounts))),
      clients_put kept after n u w.sessions put has,
    )

-- there was no memory for it
pub free_lacks : (kept : SessionMap) (n : ℕ) (v : SessionView) → Some v ≡ tree.get nat_cmp kept n → may_lack v.client ≡ true → (w : World) → HasClients kept w.sessions → MayLack w (Step n)
free_lacks kept n v one may w has = subst (λ o. if_open may_lack o ≡ true) (sym (one_there kept w.sessions n v has one)) may

-- its command asks
pub free_asks : (kept : SessionMap) (n : ℕ) (v : SessionView) (d : Client) (order : StoreCommand) (before written : List ℕ) → Some v ≡ tree.get nat_cmp kept n → AsksFor v.client d order before written → EventAsksStore (Step n) kept
free_asks kept n v d order before written one asks =
    let it = asks.asked in
    let fails : may_fail v.client ≡ true = rw (it.live, it.first, it.late, it.asks) refl in
    subst (λ o. if_open may_fail (option_map (λ session. session.client) o) ≡ true) one fails

pub free_keeps : (kept after : SessionMap) (n : ℕ) (v : SessionView) → Some v ≡ tree.get nat_cmp kept n → tree.Updates nat_cmp kept after n (Some v) → KeepsClients kept after
free_keeps kept after n v one put clients has = clients_back kept after n v clients one put has

-- ---- an event of the accounts

module _ (event : Event) (Row : Accounts → Answer → Accounts → Type 0) (May : Refusal → Type 0) (rows : (w : World) (answer : Answer) (next : World) → with_accounts w (Row w.accounts) answer next → EventHappens w event answer next)
    (refuses : (w : World) (refusal : Refusal) → May refusal → MayRefuseEvent w event refusal) (old new : State) (kept : SessionMap) where
  pub account_event : {X : Type 0} (told : X → Answer) (r : Result X Refusal) → Acts (TurnsBy Row May (answer_by told r)) (MayTurnBy Row) old new r → IsEvent event (answer_by told r) (host old kept) (host new kept)
  account_event {X} told r acts clean w had =
      let turned = acts.carries clean w.accounts had.accounts in
      go turned.0 turned.1 turned.2
    where
      made : (q : Result X Refusal) → r ≡ q → IsMade (answer_by told q) → IsTrue old.is_open → (later : Accounts) → HasAccounts new later → Lasts w.accounts later old new
      made (Ok x) is answered was later shown = lasts_of (TurnsBy Row May (answer_by told r)) (MayTurnBy Row) old new r x is acts clean was w.accounts (had.accounts was) later shown
      made (Err e) is answered was later shown = absurd answered

      go : (later : Accounts) → TurnsBy Row May (answer_by told r) w.accounts later → HasAccounts new later → (next : World) × EventLeads w event (answer_by told r) (host old kept) (host new kept) next
      go later (inl row) shown = (
        record { accounts = later; sessions = w.sessions },
        record {
          is_next = inl (rows w (answer_by told r) (record { accounts = later; sessions = w.sessions }) (later, row, refl));
          implements = record { accounts = shown; sessions = had.sessions };
          lasts = λ answered was. made r refl answered was later shown;
        },
      )
      go later (inr (refusal, may, is, same)) shown = (
        w,
        record {
          is_next = inr (record { refusal = refusal; may = refuses w refusal may; refused = is; stays = refl });
          implements = record { accounts = subst (HasAccounts new) same shown; sessions = had.sessions };
          lasts = λ answered was. absurd (subst IsMade is answered);
        },
      )

  pub account_crash : {X : Type 0} (r : Result X Refusal) (answer : Answer) → Acts (TurnsBy Row May answer) (MayTurnBy Row) old new r → Survives old new (EventCrashLeaves event (host old kept))
  account_crash r answer acts = survives_weaker old new _ _ (λ clean trees may w shown has.
      let left = may w.accounts shown in
      (left.1.0, record { accounts = left.0; sessions = w.sessions }, inl (rows w left.1.0 (record { accounts = left.0; sessions = w.sessions }) (left.0, left.1.1, refl)), left.2)) acts.crash

-- ---- which refusals the events of accounts may give, as the machine has it

lacking_may : (w : World) (event : Event) (refusal : Refusal) → refusal ≡ Memory → MayLack w event → MayRefuseEvent w event refusal
lacking_may w event refusal is may = subst (MayRefuseEvent w event) (sym is) may

failing_may : (w : World) (event : Event) (refusal : Refusal) → refusal ≡ Store → MayFail w event → MayRefuseEvent w event refusal
failing_may w event refusal is may = subst (MayRefuseEvent w event) (sym is) may

pub delivery_may : (user message : List ℕ) (envelope : Envelope) (terms : Terms) (w : World) (refusal : Refusal) → MayRefuseDelivery envelope message terms.when.moment refusal → MayRefuseEvent w (Deliver user envelope message terms) refusal
delivery_may user message envelope terms w refusal (inl is, none) = lacking_may w (Deliver user envelope message terms) refusal is none
delivery_may user message envelope terms w refusal (inr is, none) = failing_may w (Deliver user envelope message terms) refusal is none

pub addition_may : (name address salt password : List ℕ) (w : World) (refusal : Refusal) → MayRefuseAddition name address password refusal → MayRefuseEvent w (AddUser name address salt password) refusal
addition_may name address salt password w refusal (inl is) = lacking_may w (AddUser name address salt password) refusal is tt
addition_may name address salt password w refusal (inr (is, new)) = failing_may w (AddUser name address salt password) refusal is new

pub importing_may : (file : AccountFile) (w : World) (refusal : Refusal) → MayRefuseImport file.head file.parts refusal → MayRefuseEvent w (Import file) refusal
importing_may file w refusal (inl is) = lacking_may w (Import file) refusal is tt
importing_may file w refusal (inr (is, fit)) = failing_may w (Import file) refusal is fit

pub taking_may : (user : List ℕ) (id : ℕ) (w : World) (refusal : Refusal) → IsTransient refusal → MayRefuseEvent w (TakeOut user id) refusal
taking_may user id w refusal (inl is) = lacking_may w (TakeOut user id) refusal is tt
taking_may user id w refusal (inr is) = failing_may w (TakeOut user id) refusal is tt

pub mail_taking_may : (user folder : List ℕ) (w : World) (refusal : Refusal) → IsTransient refusal → MayRefuseEvent w (TakeMail user folder) refusal
mail_taking_may user folder w refusal (inl is) = lacking_may w (TakeMail user folder) refusal is tt
mail_taking_may user folder w refusal (inr is) = failing_may w (TakeMail user folder) refusal is tt

-- the answer that is made of what a call gave
pub told_by : {X : Type 0} (told : X → Answer) (done : Result X Refusal) (made : Result Answer Refusal) (answer : Answer) → MatchResult done (λ x. IsOkAnd made (λ y. y ≡ told x)) (λ e. made ≡ Err e) → answer ≡ answer_of made
    → answer ≡ answer_by told done
told_by told (Ok x) (Ok y) answer cases is = is ∙ cases
told_by told (Ok x) (Err e) answer cases is = absurd cases
told_by told (Err e) made answer cases is = is ∙ ap answer_of cases

-- the same of a call that gives nothing
pub told_done : (told : Answer) (done : Result (Unit {0}) Refusal) (made : Result Answer Refusal) (answer : Answer) → made ≡ result_and done (Ok told) → answer ≡ answer_of made → answer ≡ answer_by (λ x. told) done
told_done told (Ok x) made answer same is = is ∙ ap answer_of same
told_done told (Err e) made answer same is = is ∙ ap answer_of same

-- the same event with the same answer
pub event_is : (event told_of : Event) (answer told : Answer) (old new : State) (kept after : SessionMap) → event ≡ told_of → answer ≡ told → IsEvent told_of told (host old kept) (host new after) → IsEvent event answer (host old kept) (host new after)
event_is event told_of answer told old new kept after is same made = subst (λ e. IsEvent e answer (host old kept) (host new after)) (sym is) (subst (λ a. IsEvent told_of a (host old kept) (host new after)) (sym same) made)

pub crash_is : (event told_of : Event) (old new : State) (kept : SessionMap) → event ≡ told_of → Survives old new (EventCrashLeaves told_of (host old kept)) → Survives old new (EventCrashLeaves event (host old kept))
crash_is event told_of old new kept is made = subst (λ e. Survives old new (EventCrashLeaves e (host old kept))) (sym is) made

-- the same event of sessions alone
pub session_is : (event told_of : Event) (answer told : Answer) (kept after : SessionMap) → event ≡ told_of → answer ≡ told → IsSessionEvent told_of told kept after → IsSessionEvent event answer kept after
session_is event told_of answer told kept after is same made = subst (λ e. IsSessionEvent e answer kept after) (sym is) (subst (λ a. IsSessionEvent told_of a kept after) (sym same) made)

pub keeping_may : (user : List ℕ) (upkeep : Upkeep) (w : World) (refusal : Refusal) → MayRefuseKeeping upkeep refusal → MayRefuseEvent w (DoUpkeep user upkeep) refusal
keeping_may user upkeep w refusal (inl (is, may)) = lacking_may w (DoUpkeep user upkeep) refusal is may
keeping_may user upkeep w refusal (inr (is, fit)) = failing_may w (DoUpkeep user upkeep) refusal is fit
