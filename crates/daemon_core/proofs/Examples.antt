-- Right cases of the definitions, and near misses.
use Rattle.std.proofs.Common.{◌≡◌, ℕ, true, false, List, [], ◌∷◌, Option, Some, None, IfSome, codes, refl, sym, ◌∙◌, arith, inl, inr}
use Rattle.std.specs.FinMap.{get}
use Rattle.managesieve_protocol.specs.Replies.{reply_octets}
use Rattle.store_accounts.specs.declared.refusal.Refusal.TheVariants.{Memory, Store}
use Rattle.managesieve_sessions.specs.Clients.{Client}
use Rattle.managesieve_sessions.specs.Replies.{ok_reply, negative_reply, bye_reply, try_later}
use Rattle.managesieve_sessions.specs.declared.progress.Progress.TheVariants.{Done, Close}
use Rattle.store_engine.specs.World.{World, Clients, InSession, StepsSession, Next, Runs}
use Rattle.store_engine.specs.declared.answer.Answer.{Answer}
use Rattle.store_engine.specs.declared.answer.Answer.TheVariants.{Out, Refused}
use Rattle.store_engine.specs.declared.event.Event.{Event}
use Rattle.store_engine.specs.declared.event.Event.TheVariants.{Step, GiveUp}
use Rattle.net_loop.specs.Life.{IsPrefixOf}
use Rattle.net_loop.specs.declared.act.Act.{Act}
use Rattle.net_loop.specs.declared.act.Act.TheVariants.{Timed, Sent, Noted, Full, ReadBlocked}
use Rattle.daemon_core.specs.Acts.{no_line, line_after_acts, AreRight, LeadsBy, IsMadeOr}
use Rattle.daemon_core.specs.StoreAccess.{AreOthers}
use Rattle.daemon_core.specs.ClientStates.{new_client_state, session_due_by, never}
use Rattle.daemon_core.specs.DaemonRules.{managesieve, lmtp}
use Rattle.daemon_core.specs.MailRules.{limit_for}
use Rattle.daemon_core.specs.declared.mail.Places.{Places}
use Rattle.daemon_core.specs.Eviction.{silent_rank, kept_rank, want_claim, kept_claim, since_claim, silence_span, many_silent}
use Rattle.net_loop.specs.declared.machine.Want.TheVariants as wants
use Rattle.daemon_core.specs.Waiting.{Allows, said_at_once, is_failure}
use Rattle.daemon_core.specs.declared.note.Note.{Note}
use Rattle.daemon_core.specs.declared.note.Note.TheVariants.{Did, Away, Freed, Spoke}
use Rattle.daemon_core.specs.declared.client_state.SessionWait.TheVariants as waits

-- ---- what is said at once

failed : List ℕ
failed = reply_octets (negative_reply None (codes "Authentication failed."))

kept_back : said_at_once (Out Done (reply_octets (negative_reply None (codes "Authentication failed.")))) ≡ []
kept_back = refl

the_last_kept_back : said_at_once (Out Close (reply_octets (bye_reply (codes "Too many failures.")))) ≡ []
the_last_kept_back = refl

-- near misses: a farewell that was asked for, and a client that is put off
said_at_logout : is_failure (reply_octets (ok_reply (codes "Bye."))) ≡ false
said_at_logout = refl

said_to_who_is_put_off : is_failure (reply_octets try_later) ≡ false
said_to_who_is_put_off = refl

-- ---- what may be done

given_up_for_a_refusal : Allows 7 waits.Refused 1 (Freed (GiveUp 1) (Out Done []))
given_up_for_a_refusal = (tt, refl)

-- near misses: given up for nothing; another connection's step; refused without asking; asked for while a reply is kept back; said before
-- its moment
not_for_nothing : (answer : Answer) → Allows 7 waits.Nothing 1 (Freed (GiveUp 1) answer) → ⊥
not_for_nothing answer is = is.0

not_of_another : (others : List Event) (answer : Answer) → Allows 7 waits.Nothing 1 (Did others (Step 2) answer) → ⊥
not_of_another others answer is = let never : Step 2 ≡ Step 1 = is.1 in cc

not_refused_unasked : Allows 7 waits.Nothing 1 (Freed (Step 1) (Refused Store)) → ⊥
not_refused_unasked is = is.2

not_while_a_reply_waits : (text : List ℕ) → Allows 7 (waits.Reply 2000 text) 1 Away → ⊥
not_while_a_reply_waits text is = is

not_before_its_moment : (text : List ℕ) → Allows 1999 (waits.Reply 2000 text) 1 Spoke → ⊥
not_before_its_moment text is = omega (arith, is)

-- ---- what is heard

-- where memory was lacking for it the connection ends
ends_then : IsMadeOr (Refused Memory) 1 (Full 1 ∷ [])
ends_then = inr refl

-- near misses: it is passed over, and the next read goes on; another connection ends
not_passed_over : IsMadeOr (Refused Memory) 1 (ReadBlocked 1 ∷ []) → ⊥
not_passed_over (inl made) = let never : ⊥ = cc in absurd never
not_passed_over (inr lacks) = lacks

not_for_another : IsMadeOr (Refused Memory) 1 (Full 2 ∷ []) → ⊥
not_for_another (inl made) = let never : ⊥ = cc in absurd never
not_for_another (inr lacks) = omega (arith, lacks)

-- ---- acts of one connection

abbrev puts_off : ℕ → List (Act Note)
puts_off moment = Noted 1 Away ∷ Timed moment ∷ Noted 1 (Freed (GiveUp 1) (Out Done [])) ∷ []

-- five seconds behind the first time that the store was away it is given up, and not a moment before
put_off_then : AreRight 1 0 (Some no_line) (puts_off 5000)
put_off_then = (tt, (tt, ((omega arith, refl), tt)))

not_a_moment_before : AreRight 1 0 (Some no_line) (puts_off 4999) → ⊥
not_a_moment_before is = omega (arith, is.1.1.0.0)

-- what was sent to a client of ManageSieve is a front of what these acts spell for it
abbrev IsSent : ℕ → List (Act Note) → Type 0
IsSent id acts = IfSome (line_after_acts id 0 (Some no_line) acts) (λ l. IsPrefixOf l.sent l.spelled)

-- an answer is sent behind its event
abbrev answered : List (Act Note)
answered = Noted 1 (Did [] (Step 1) (Out Done (79 ∷ []))) ∷ Sent 1 (79 ∷ []) ∷ []

sent_behind : IsSent 1 answered
sent_behind = ([], refl)

-- near misses: before its event; twice; to another
abbrev early : List (Act Note)
early = Sent 1 (79 ∷ []) ∷ []

not_before : IsSent 1 early → ⊥
not_before is = let no_octet : 79 ∷ is.0 ≡ [] = is.1 in cc

abbrev twice : List (Act Note)
twice = Noted 1 (Did [] (Step 1) (Out Done (79 ∷ []))) ∷ Sent 1 (79 ∷ []) ∷ Sent 1 (79 ∷ []) ∷ []

not_twice : IsSent 1 twice → ⊥
not_twice is = let more : 79 ∷ 79 ∷ is.0 ≡ 79 ∷ [] = is.1 in cc

abbrev elsewhere : List (Act Note)
elsewhere = Noted 1 (Did [] (Step 1) (Out Done (79 ∷ []))) ∷ Sent 2 (79 ∷ []) ∷ []

not_to_another : IsSent 2 elsewhere → ⊥
not_to_another is = let no_octet : 79 ∷ is.0 ≡ [] = is.1 in cc

-- ---- accounts

-- near misses: others' change that isn't told; others' step of a session that is ours
refused_at : (w v : World) (o : Option Client) → InSession w o (StepsSession w 1) (Refused Store) v → v ≡ w
refused_at w v None steps = steps.stays
refused_at w v (Some c) steps = let never : Refused Store ≡ Out steps.goes_on steps.octets = steps.says in cc

no_run : (w v : World) (told : List Answer) → Runs w [] told v → v ≡ w
no_run w v [] run = run
no_run w v (answer ∷ told) run = absurd run

others_are_told : (w v : World) → LeadsBy w (Did [] (Step 1) (Refused Store)) v → v ≡ w
others_are_told w v led = by led.ours ∙ no_run w led.between led.told led.theirs
  where
    by : Next led.between (Step 1) (Refused Store) v → v ≡ led.between
    by (inl steps) = refused_at led.between v (get led.between.sessions 1) steps
    by (inr refused) = refused.stays

not_ours : (sessions : Clients) (c : Client) → get sessions 1 ≡ Some c → AreOthers sessions (Step 1 ∷ []) → ⊥
not_ours sessions c there is = let never : Some c ≡ None = sym there ∙ is.0 in cc

-- ---- deadlines

never_late_while_it_waits : (c : Client) → session_due_by (waits.Store 0 5) (new_client_state 0) c ≡ never
never_late_while_it_waits c = refl

-- ---- places

abbrev few : Places
few = record { clients = 2; senders = 1 }

two_of_managesieve : limit_for few managesieve ≡ 2
two_of_managesieve = refl

one_of_lmtp : limit_for few lmtp ≡ 1
one_of_lmtp = refl

-- a near miss: of another kind
none_of_another_kind : limit_for few 2 ≡ 0
none_of_another_kind = refl

-- ---- who makes room

-- who isn't logged in after 50 ms claims that, and one of 49 doesn't
claims_then : want_claim 50 wants.More silent_rank 0 ≡ Some (record { rank = silent_rank; moment = 0 })
claims_then = refl

not_within_its_first : want_claim 49 wants.More silent_rank 0 ≡ None
not_within_its_first = refl

-- a near miss: to whom an answer is owed
not_while_it_is_owed : want_claim 60000 wants.Step silent_rank 0 ≡ None
not_while_it_is_owed = refl

-- of those that wait for the answer to a login the one that would hear it last goes first, once it has waited half a second
kept_at_last : kept_claim 700 2200 ≡ Some (record { rank = kept_rank; moment = 18446744073709549415 })
kept_at_last = refl

not_yet_kept : kept_claim 699 2200 ≡ None
not_yet_kept = refl

-- a client of LMTP without LHLO claims at once where many say none, else a second later
flooded_then : since_claim 50 (silence_span false true) (Some 0) ≡ Some (record { rank = silent_rank; moment = 0 })
flooded_then = refl

left_alone_else : since_claim 999 (silence_span false false) (Some 0) ≡ None
left_alone_else = refl

-- three quarters of the places are many: 15 of 20, and of few at least one
many_of_twenty : many_silent 20 ≡ 15
many_of_twenty = refl

many_of_three : many_silent 3 ≡ 2
many_of_three = refl

many_of_one : many_silent 1 ≡ 1
many_of_one = refl

-- a near miss: of seven that isn't five and a quarter, and not six
not_rounded_up : many_silent 7 ≡ 6 → ⊥
not_rounded_up is = cc

-- a near miss: one that has said LHLO has its second among many that haven't
left_alone_behind_hello : since_claim 999 (silence_span true true) (Some 0) ≡ None
left_alone_behind_hello = refl
