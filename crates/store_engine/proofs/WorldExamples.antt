-- The machine on small cases: what is right, and beside it what nearly is.
use Rattle.std.proofs.Common.{◌≡◌, ℕ, true, false, List, [], ◌∷◌, ◌++◌, codes, length, map, Option, Some, None, option_map, Err, refl, sym, ap, ◌∙◌, subst, inl, inr}
use Rattle.std.specs.Cmp.{nat_cmp_total}
use Rattle.std.specs.FinMap.{empty, get, insert, get-empty, get-insert, get-remove, from_entries}
use Rattle.std.specs.Map.{lookup}
use Rattle.std.specs.Ordering.{nat_cmp}
use Rattle.std.specs.BTreeMap as tree
use Rattle.std.specs.BTreeMap.{BTreeMap}
use Rattle.managesieve_protocol.specs.Machine.{rows}
use Rattle.managesieve_protocol.specs.Replies.{reply_octets}
use Rattle.store_accounts.specs.Account.{bytes_cmp, Account, open_one}
use Rattle.store_accounts.specs.declared.refusal.Refusal.{Refusal}
use Rattle.store_accounts.specs.declared.refusal.Refusal.TheVariants.{Memory, Store, NotOurs, NoUser, TooLarge, BadEnvelope, BadMoment, UserExists, BadUser, NoRow, AccountClosed, UserIsOpen, UserHasMail, BadScriptName, ScriptTooLarge, TooManyScripts, BadAccount}
use Rattle.sieve_exec.specs.declared.envelope.Envelope.{Envelope}
use Rattle.managesieve_sessions.specs.Clients.{Client, new_client, client_given}
use Rattle.managesieve_sessions.specs.Counts.{SessionView}
use Rattle.managesieve_sessions.specs.GivenUp.{text_given_up, client_given_up, progress_given_up}
use Rattle.managesieve_sessions.specs.Replies.{capability_reply, done_reply, try_later}
use Rattle.managesieve_sessions.specs.Steps.{progress_of, may_fail, may_lack}
use Rattle.managesieve_sessions.specs.declared.progress.Progress.{Progress}
use Rattle.managesieve_sessions.specs.declared.progress.Progress.TheVariants as p
use Rattle.store_engine.specs.declared.event.Event.TheVariants.{Open, Give, Step, GiveUp, Close, Deliver, AddUser, TakeOut}
use Rattle.store_engine.specs.declared.answer.Answer.{Answer}
use Rattle.store_engine.specs.declared.answer.Answer.TheVariants.{Out, Ignored, Taken, Refused}
use Rattle.store_engine.specs.Limits.{limit_refusal}
use Rattle.store_engine.specs.AccountEvents.{TakesFromQueue}
use Rattle.store_engine.specs.World.{World, Clients, with_session, without_session, WorldBecomes, OpensSession, InSession, StepsSession, EventHappens, if_open, MayRefuseEvent, IsEventRefused, Next, Runs}
use Rattle.store_engine.specs.Hosts.{HasClients, MayRefuseDelivery, RefusesTaking, answer_by}
use Rattle.store_engine.proofs.AloneLemmas.{put_own}
use Rattle.store_engine.specs.declared.terms.Terms.{Terms}
use Rattle.store_engine.proofs.HostLemmas.{clients_are}

abbrev alice : List ℕ
alice = codes "alice"

-- a line with its end
abbrev line : List ℕ → List ℕ
line text = text ++ 13 ∷ 10 ∷ []

-- a new session to which these octets came
abbrev after : List ℕ → Client
after octets = record new_client { unread = octets }

-- no accounts and no sessions
abbrev nothing : World
nothing = record { accounts = empty; sessions = empty }

-- one session, under the number 7
abbrev seven : Client → World
seven c = with_session 7 c nothing

at_seven : (c : Client) → get (seven c).sessions 7 ≡ Some c
at_seven c = get-insert nat_cmp_total empty 7 c 7

at_eight : (c : Client) → get (seven c).sessions 8 ≡ None
at_eight c = get-insert nat_cmp_total empty 7 c 8 ∙ get-empty nat_cmp 8

-- ---- a client comes

greeted : EventHappens nothing (Open 7) (Out p.Done (reply_octets (capability_reply None))) (seven new_client)
greeted = subst (λ o. OpensSession nothing 7 o (Out p.Done (reply_octets (capability_reply None))) (seven new_client)) (sym (get-empty nat_cmp 7)) (record { says = refl; changed = refl })

-- near miss: under a number that is open already
greeted_twice : (c : Client) (progress : Progress) (octets : List ℕ) (next : World) → EventHappens (seven c) (Open 7) (Out progress octets) next → ⊥
greeted_twice c progress octets next is =
    let made = subst (λ o. OpensSession (seven c) 7 o (Out progress octets) next) (at_seven c) is in
    let no : Out progress octets ≡ Ignored = made.ignored in
    cc

-- ---- its octets come

abbrev half : World
half = seven (after (codes "NO"))

given : EventHappens half (Give 7 (codes "OP")) (Out p.Done []) (with_session 7 (after (codes "NOOP")) half)
given =
    subst (λ o. InSession half o (λ c. WorldBecomes (Out (progress_of c) []) (with_session 7 (client_given (codes "OP") c) half)) (Out p.Done []) (with_session 7 (after (codes "NOOP")) half)) (sym (at_seven (after (codes "NO"))))
    (record { says = refl; changed = refl })

-- near misses: the octets are dropped; they come under a number that isn't open
unread_of : Option Client → List ℕ
unread_of None = []
unread_of (Some c) = c.unread

given_dropped : EventHappens half (Give 7 (codes "OP")) (Out p.Done []) half → ⊥
unfolding unread_of
given_dropped is =
    let made = subst (λ o. InSession half o (λ c. WorldBecomes (Out (progress_of c) []) (with_session 7 (client_given (codes "OP") c) half)) (Out p.Done []) half) (at_seven (after (codes "NO"))) is in
    let same : Some (after (codes "NO")) ≡ Some (after (codes "NOOP")) =
    sym (at_seven (after (codes "NO"))) ∙ (ap (λ (w : World). get w.sessions 7) made.changed ∙ get-insert nat_cmp_total (seven (after (codes "NO"))).sessions 7 (after (codes "NOOP")) 7) in
    let no : ◌≡◌ {A = ℕ} 2 4 = ap (λ o. length (unread_of o)) same in
    cc

given_nobody : (c : Client) (progress : Progress) (octets : List ℕ) (next : World) → EventHappens (seven c) (Give 8 octets) (Out progress []) next → ⊥
given_nobody c progress octets next is =
    let made = subst (λ o. InSession (seven c) o (λ d. WorldBecomes (Out (progress_of d) []) (with_session 8 (client_given octets d) (seven c))) (Out progress []) next) (at_eight c) is in
    let no : Out progress [] ≡ Ignored = made.ignored in
    cc

-- ---- a step

abbrev noop : List ℕ
noop = line (codes "NOOP")

stepped : EventHappens (seven (after (noop ++ noop))) (Step 7) (Out p.Done (reply_octets done_reply)) (with_session 7 (after noop) (seven (after (noop ++ noop))))
unfolding rows
stepped = subst (λ o. InSession (seven (after (noop ++ noop))) o (StepsSession (seven (after (noop ++ noop))) 7) (Out p.Done (reply_octets done_reply)) (with_session 7 (after noop) (seven (after (noop ++ noop))))) (sym (at_seven (after (noop ++ noop))))
    (record {
      goes_on = p.Done;
      octets = reply_octets done_reply;
      client = after noop;
      accounts = empty;
      step = record { reply = done_reply; replies = refl; spelled = refl; session = refl; goes_on = refl; changed = refl };
      says = refl;
      changed = refl;
    })

-- near miss: both items are answered in one step
stepped_twice : (next : World) → EventHappens (seven (after (noop ++ noop))) (Step 7) (Out p.Done (reply_octets done_reply ++ reply_octets done_reply)) next → ⊥
unfolding rows
stepped_twice next is =
    let made = subst (λ o. InSession (seven (after (noop ++ noop))) o (StepsSession (seven (after (noop ++ noop))) 7) (Out p.Done (reply_octets done_reply ++ reply_octets done_reply)) next) (at_seven (after (noop ++ noop))) is in
    let says : made.octets ≡ reply_octets done_reply = made.step.spelled ∙ ap reply_octets made.step.replies in
    let both : Out p.Done (reply_octets done_reply ++ reply_octets done_reply) ≡ Out made.goes_on made.octets = made.says in
    let no : reply_octets done_reply ++ reply_octets done_reply ≡ reply_octets done_reply = let same : reply_octets done_reply ++ reply_octets done_reply ≡ made.octets = cc in same ∙ says in
    let odd : ◌≡◌ {A = ℕ} 24 12 = ap length no in
    cc

-- LISTSCRIPTS asks the store, which may refuse it: nothing changes then
abbrev listing : Client
listing = record (after (line (codes "LISTSCRIPTS"))) { user = Some alice }

refused_step : Next (seven listing) (Step 7) (Refused Store) (seven listing)
unfolding rows
refused_step = inr (record { refusal = Store; may = ap (if_open may_fail) (at_seven listing); refused = refl; stays = refl })

-- near misses: a refused step that changes an account; a step without an item that is refused for memory
refused_step_writes : (c : Client) (a : Account) (sessions : Clients) → Next (seven c) (Step 7) (Refused Store) (record { accounts = insert empty alice a; sessions = sessions }) → ⊥
refused_step_writes c a sessions (inl is) =
    let made = subst (λ o. InSession (seven c) o (StepsSession (seven c) 7) (Refused Store) (record { accounts = insert empty alice a; sessions = sessions })) (at_seven c) is in
    let no : Refused Store ≡ Out made.goes_on made.octets = made.says in
    cc
refused_step_writes c a sessions (inr is) =
    let no : Some a ≡ None = sym (put_own empty alice a refl) ∙ (ap (λ (w : World). get w.accounts alice) is.stays ∙ get-empty bytes_cmp alice) in
    cc

refused_half : MayRefuseEvent (seven (after (codes "NO"))) (Step 7) Memory → ⊥
unfolding rows
refused_half is = let no : false ≡ true = sym (ap (if_open may_lack) (at_seven (after (codes "NO")))) ∙ is in cc

-- ---- an item is given up

abbrev one_and_half : World
one_and_half = seven (after (noop ++ codes "NO"))

given_up : EventHappens one_and_half (GiveUp 7) (Out p.Done (reply_octets try_later)) (with_session 7 (after (codes "NO")) one_and_half)
unfolding rows
given_up = subst (λ o. InSession one_and_half o (λ c. WorldBecomes (Out (progress_given_up c) (text_given_up c)) (with_session 7 (client_given_up c) one_and_half)) (Out p.Done (reply_octets try_later)) (with_session 7 (after (codes "NO")) one_and_half)) (sym (at_seven (after (noop ++ codes "NO"))))
    (record { says = refl; changed = refl })

-- near miss: giving up is refused
refused_to_give_up : (w next : World) (answer : Answer) → IsEventRefused w (GiveUp 7) answer next → ⊥
refused_to_give_up w next answer is = never is.refusal is.may
  where
    never : (refusal : Refusal) → MayRefuseEvent w (GiveUp 7) refusal → ⊥
    never Memory may = may
    never Store may = may
    never NotOurs may = may
    never NoUser may = may
    never TooLarge may = may
    never BadEnvelope may = may
    never BadMoment may = may
    never UserExists may = may
    never BadUser may = may
    never NoRow may = may
    never AccountClosed may = may
    never UserIsOpen may = may
    never UserHasMail may = may
    never BadScriptName may = may
    never ScriptTooLarge may = may
    never TooManyScripts may = may
    never BadAccount may = may

-- ---- a client goes

closed : (c : Client) → EventHappens (seven c) (Close 7) (Out p.Close []) (without_session 7 (seven c))
closed c = subst (λ o. InSession (seven c) o (λ d. WorldBecomes (Out p.Close []) (without_session 7 (seven c))) (Out p.Close []) (without_session 7 (seven c))) (sym (at_seven c)) (record { says = refl; changed = refl })

-- near miss: the number stays open
closed_not : (c : Client) (answer : Answer) → EventHappens (seven c) (Close 7) answer (seven c) → ⊥
closed_not c answer is =
    let made = subst (λ o. InSession (seven c) o (λ d. WorldBecomes (Out p.Close []) (without_session 7 (seven c))) answer (seven c)) (at_seven c) is in
    let no : Some c ≡ None = sym (at_seven c) ∙ (ap (λ (w : World). get w.sessions 7) made.changed ∙ get-remove nat_cmp_total (seven c).sessions 7 7) in
    cc

-- ---- events of accounts

abbrev envelope : Envelope
envelope = record { from = []; to = codes "alice@example.org" }

-- sessions stay as they are; near miss: one of them is gone
row_of_none : (c : Client) → EventHappens (seven c) (TakeOut alice 1) (Refused NoUser) (seven c)
row_of_none c = (empty, subst (λ o. TakesFromQueue empty alice 1 o (Refused NoUser) empty) (sym (ap open_one (get-empty bytes_cmp alice))) (record { refused = refl; stays = refl }), refl)

delivered_and_closed : (c : Client) (message : List ℕ) (terms : Terms) (answer : Answer) → EventHappens (seven c) (Deliver alice envelope message terms) answer nothing → ⊥
delivered_and_closed c message terms answer is =
    let no : None ≡ Some c = sym (get-empty nat_cmp 7) ∙ (ap (λ (w : World). get w.sessions 7) is.2 ∙ at_seven c) in
    cc

-- near misses: the store refuses what a limit stands against, and a user whose name has a blank
late_told_as_store : (w : World) (terms : Terms) → terms.when.moment ≡ 253402300800 → MayRefuseEvent w (Deliver alice envelope [] terms) Store → ⊥
late_told_as_store w terms late may = let no : Some BadMoment ≡ None = sym (ap (limit_refusal envelope []) late) ∙ may in cc

blank_told_as_store : (w : World) (address salt password : List ℕ) → MayRefuseEvent w (AddUser (codes "a b") address salt password) Store → ⊥
blank_told_as_store w address salt password may = let no : false ≡ true = may.named in cc

-- ---- runs

come_and_gone : Runs nothing (Open 7 ∷ Close 7 ∷ []) (Out p.Done (reply_octets (capability_reply None)) ∷ Out p.Close [] ∷ []) (without_session 7 (seven new_client))
come_and_gone = (seven new_client, inl greeted, (without_session 7 (seven new_client), inl (closed new_client), refl))

-- near miss: an event without an answer
unanswered : (w end : World) (answer : Answer) → Runs w (Open 7 ∷ Close 7 ∷ []) (answer ∷ []) end → ⊥
unanswered w end answer run = run.2

-- ---- a store and a map of sessions

module _ (kept : BTreeMap ℕ SessionView) (session : SessionView) (one : kept.entries ≡ (7, session) ∷ []) where
  has_one : HasClients kept (seven session.client).sessions
  has_one = subst (λ (es : List (ℕ × SessionView)). HasClients kept (from_entries (map (λ entry. (entry.0, entry.1.client)) es))) one (clients_are kept)

  -- near miss: the machine has none
  has_none : HasClients kept empty → ⊥
  has_none has =
      let no : Some session.client ≡ None = ap (λ (es : List (ℕ × SessionView)). option_map (λ (s : SessionView). s.client) (lookup (tree.is_at (nat_cmp 7)) es)) (sym one) ∙ (has 7 ∙ get-empty nat_cmp 7) in
      cc

-- a row that isn't there is told so; near miss: as a user who can't be made
told_none : (answer_by Taken (Err NoRow) ≡ Refused NoRow) × RefusesTaking NoRow
told_none = (refl, inr (inl refl))

told_bad : RefusesTaking BadUser → ⊥
told_bad (inl is) = cc
told_bad (inr (inl is)) = cc
told_bad (inr (inr (inl is))) = cc
told_bad (inr (inr (inr is))) = cc

-- a delivery within the limits may be refused by the store; near miss: one past the year 9999
within : MayRefuseDelivery envelope [] 253402300799 Store
within = (inr refl, refl)

past : MayRefuseDelivery envelope [] 253402300800 Store → ⊥
past is = let no : Some BadMoment ≡ None = is.1 in cc
