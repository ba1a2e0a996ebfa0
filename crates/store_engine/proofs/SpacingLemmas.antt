-- Answers to one sender under one handle are spaced by their periods.
use Rattle.std.proofs.Common.{◌≡◌, ℕ, zero, suc, ◌+◌, ◌-◌, ◌/◌, ◌<◌, ◌≤◌, Bool, true, false, cond, List, [], ◌∷◌, ◌++◌, fold, filter, length, map, take, Option, Some, None, IfSome, MatchBool, option_map, refl, sym, ◌∙◌, ap, subst, inl, inr, arith}
use Rattle.std.specs.declared.cmp.Ordering.{Ordering}
use Rattle.std.specs.declared.cmp.Ordering.TheVariants.{Less, Equal, Greater}
use Rattle.std.specs.FinMap.{get, insert, remove, keys, get-insert, get-remove}
use Rattle.std.specs.List.{AllByRecursion}
use Rattle.std.proofs.lemmas.Bool.{false_from_ne_true, false≢true}
use Rattle.std.specs.Ordering.{is_eq, ordering_then}
use Rattle.std.proofs.lemmas.Bool.Decides.{nat_tests}
use Rattle.store_text.specs.declared.part.Part.{Part}
use Rattle.store_text.specs.declared.part.Part.TheVariants.{Script, Reply, Mail, Copy, Letter, Notice}
use Rattle.store_accounts.specs.Whole.{replies_with}
use Rattle.store_accounts.proofs.MapLemmas.{tied_is, tied}
use Rattle.octets.specs.Ascii.{lowered}
use Rattle.mail_address.specs.declared.address.Addr.{Addr}
use Rattle.mail_address.specs.Spelling.{address_spelling}
use Rattle.managesieve_protocol.specs.declared.commands.ClientCommand.{ClientCommand}
use Rattle.managesieve_protocol.specs.declared.commands.ClientCommand.TheVariants.{Capability, Noop, Logout, Authenticate, Unauthenticate, HaveSpace, PutScript, CheckScript, ListScripts, SetActive, GetScript, DeleteScript, RenameScript}
use Rattle.managesieve_protocol.specs.declared.commands.ClientCommand.TheVariants as verb
use Rattle.managesieve_sessions.specs.Replies.{is_ok}
use Rattle.store_accounts.specs.declared.queue.QueuedMessage.{QueuedMessage}
use Rattle.managesieve_protocol.specs.declared.replies.Status.{Status}
use Rattle.sieve_exec.specs.Mails.{MailSpec, mail_spec_of}
use Rattle.sieve_syntax.specs.Meaning.{Actions}
use Rattle.sieve_syntax.specs.declared.extension.vacation.VacationArgs.{VacationArgs}
use Rattle.sieve_vacation.specs.Cases.{period_of, is_too_soon}
use Rattle.sieve_vacation.specs.Handles.{Handle, Named, Same, four_octets, handle_of, handle_key_of}
use Rattle.sieve_vacation.specs.Reasons.{reason_holds, first_of, decision_of}
use Rattle.sieve_vacation.specs.declared.reason.Reason.{Reason}
use Rattle.sieve_vacation.specs.declared.reason.Reason.TheVariants as R
use Rattle.sieve_vacation.specs.declared.reason.ReplyDecision.{ReplyDecision}
use Rattle.sieve_vacation.specs.declared.reason.ReplyDecision.TheVariants as D
use Rattle.store_accounts.specs.Account.{latest, bytes_cmp, reply_cmp, Account, Accounts, ReplyMoments, is_closed_account, open_one, open_account_of, has_mail, files_copies, forgets, keeps_moment, keeps_sent, adds_notice_if_any, remembers, room_in, queues, messages_in}
use Rattle.store_accounts.specs.ReplyRows.{is_key_between, reply_key_of}
use Rattle.store_accounts.specs.declared.reply.ReplyKey.{ReplyKey}
use Rattle.store_accounts.proofs.StandingLemmas.{open_there}
use Rattle.store_tables.specs.declared.queue.QueuedKind.TheVariants as kind
use Rattle.store_accounts.specs.declared.report.Report.{Report}
use Rattle.store_accounts.specs.declared.report.VacationReport.{VacationReport}
use Rattle.store_accounts.specs.declared.report.VacationReport.TheVariants as V
use Rattle.store_accounts.specs.declared.refusal.Refusal.{Refusal}
use Rattle.managesieve_sessions.specs.Scripts.{carried_out, obeyed}
use Rattle.sieve_plan.specs.Views.{last_reply}
use Rattle.sieve_plan.specs.Delivered.{Response, Silent, NoRoom, Quiet, Sent, Sends, FollowsDecision, Responds, acts, done_of, held_of, redirects, responds, vacation_report}
use Rattle.sieve_plan.specs.Sequences.{Settled, CarriesOutSettled, notice_left, forgotten_unless}
use Rattle.sieve_plan.specs.Sent.{half_handle, half_of, redirect_key, over_keys, sent_handle}
use Rattle.store_engine.specs.declared.event.Event.{Event}
use Rattle.store_engine.specs.declared.event.Event.TheVariants.{Open, Give, Step, GiveUp, Close, Deliver, AddUser, Import, TakeOut, TakeMail, DoUpkeep}
use Rattle.store_engine.specs.declared.answer.Answer.{Answer}
use Rattle.store_engine.specs.Limits.{limit_refusal}
use Rattle.store_accounts.specs.Account.{row_with}
use Rattle.store_engine.specs.AccountEvents.{MachineRefuses, DeliversIn, DeliversUnder}
use Rattle.store_engine.specs.ScriptEdits.{edited}
use Rattle.store_engine.specs.Upkeep.{stores, instead}
use Rattle.store_engine.specs.declared.script_edit.ScriptEdit.{ScriptEdit}
use Rattle.store_engine.specs.declared.script_edit.ScriptEdit.TheVariants as change
use Rattle.store_engine.proofs.UpkeepLemmas.{LastsThrough, keeps_holds}
use Rattle.store_accounts.specs.declared.refusal.Refusal.TheVariants.{UserExists, UserHasMail}
use Rattle.store_engine.specs.OwnActs as own
use Rattle.store_engine.specs.OwnActs.{UserAct, ActsAlone, ActsInTurn, ReceivesOpen, ReceivesIn, RenewsAlone, JoinsIn, ReplacesAlone, ImportsIn, TakesRowAlone, TakesOpen, TakesFirstAlone, TakesMailOpen}
use Rattle.store_engine.specs.World.{World, Next, Runs}
use Rattle.store_engine.specs.Spacing.{Thread, SentReply, entry_of, entries_if, sent_in, sent_under, sent_by, sent_at, sent, kept_in, kept_moment, IsPast, ComeAfter, Follow, IsAtLeast, IsSpacing}
use Rattle.store_engine.proofs.AloneLemmas.{put_own, next_alone, projection}
use Rattle.store_accounts.proofs.AccountLemmas.{reply_total, reply_antisymmetric}
use Rattle.store_engine.specs.declared.terms.Terms.{Terms}
use Rattle.sqlite_typed.proofs.TestLemmas.{bytes_eq_refl}

-- ---- a kept moment never goes back

abbrev pub IsNoSooner : Option ℕ → Option ℕ → Type 0
IsNoSooner None later = Unit {0}
IsNoSooner (Some last) None = ⊥
IsNoSooner (Some last) (Some next) = last ≤ next

pub no_sooner_same : (o : Option ℕ) → IsNoSooner o o
no_sooner_same None = tt
no_sooner_same (Some last) = omega arith

no_sooner_is : (o later : Option ℕ) → later ≡ o → IsNoSooner o later
no_sooner_is o later is = subst (λ l. IsNoSooner o l) (sym is) (no_sooner_same o)

no_sooner_then : (a b c : Option ℕ) → IsNoSooner a b → IsNoSooner b c → IsNoSooner a c
no_sooner_then None b c ab bc = tt
no_sooner_then (Some x) None c ab bc = absurd ab
no_sooner_then (Some x) (Some y) None ab bc = absurd bc
no_sooner_then (Some x) (Some y) (Some z) ab bc = omega arith

past_before : (a b : Option ℕ) (period moment : ℕ) → IsNoSooner a b → IsPast b period moment → IsPast a period moment
past_before None b period moment ab is = tt
past_before (Some x) None period moment ab is = absurd ab
past_before (Some x) (Some y) period moment ab is = λ some. let later = is some in omega (arith, later, ab)

pub at_least_after : (a b : Option ℕ) (moment : ℕ) → IsNoSooner a b → IsAtLeast a moment → IsAtLeast b moment
at_least_after None b moment ab is = absurd is
at_least_after (Some x) None moment ab is = absurd ab
at_least_after (Some x) (Some y) moment ab is = omega arith

-- ---- one account

-- where none of the reasons holds, the first doesn't, and none of the others
past_reason : (test : Reason → Bool) (reason : Reason) (more : List Reason) → first_of test (reason ∷ more) ≡ D.Send → (test reason ≡ false) × (first_of test more ≡ D.Send)
past_reason test reason more sends = go (test reason) refl sends
  where
    go : (b : Bool) → test reason ≡ b → cond b (D.Quiet reason) (first_of test more) ≡ D.Send → (test reason ≡ false) × (first_of test more ≡ D.Send)
    go true is told = absurd (let never : D.Quiet reason ≡ D.Send = told in cc)
    go false is told = (is, told)

-- a decision to send means that the kept moment is a period ago
send_is_past : (args : VacationArgs) (mail : MailSpec) (own : Addr) (last : Option ℕ) (moment : ℕ) → decision_of args mail own last moment ≡ D.Send → IsPast last (period_of args) moment
send_is_past args mail own last moment sends = by last timely
  where
    test : Reason → Bool
    test = reason_holds args mail own last moment

    timely : is_too_soon args last moment ≡ false
    timely =
        let one = (past_reason test R.NullSender (R.BadSender ∷ R.RobotSender ∷ R.OwnSender ∷ R.Automatic ∷ R.ListMail ∷ R.Bulk ∷ R.NotAddressed ∷ R.TooSoon ∷ []) sends).1 in
        let two = (past_reason test R.BadSender (R.RobotSender ∷ R.OwnSender ∷ R.Automatic ∷ R.ListMail ∷ R.Bulk ∷ R.NotAddressed ∷ R.TooSoon ∷ []) one).1 in
        let three = (past_reason test R.RobotSender (R.OwnSender ∷ R.Automatic ∷ R.ListMail ∷ R.Bulk ∷ R.NotAddressed ∷ R.TooSoon ∷ []) two).1 in
        let four = (past_reason test R.OwnSender (R.Automatic ∷ R.ListMail ∷ R.Bulk ∷ R.NotAddressed ∷ R.TooSoon ∷ []) three).1 in
        let five = (past_reason test R.Automatic (R.ListMail ∷ R.Bulk ∷ R.NotAddressed ∷ R.TooSoon ∷ []) four).1 in
        let six = (past_reason test R.ListMail (R.Bulk ∷ R.NotAddressed ∷ R.TooSoon ∷ []) five).1 in
        let seven = (past_reason test R.Bulk (R.NotAddressed ∷ R.TooSoon ∷ []) six).1 in
        let eight = (past_reason test R.NotAddressed (R.TooSoon ∷ []) seven).1 in
        (past_reason test R.TooSoon [] eight).0

    by : (o : Option ℕ) → is_too_soon args o moment ≡ false → IsPast o (period_of args) moment
    by None is = tt
    by (Some x) is = λ some. grind (arith, nat_tests, some)

-- redirects leave what is remembered
redirects_keep : (mail : MailSpec) (targets : List Addr) (a : Account) → (redirects mail targets a).replies ≡ a.replies
redirects_keep mail [] a = refl
redirects_keep mail (target ∷ more) a = redirects_keep mail more (queues kind.Redirect mail.from (address_spelling target) mail.octets a)

-- ---- what is kept of messages that are sent on stands under other keys

-- the key under which a thread is kept
abbrev place : Thread → List ℕ × List ℕ
place thread = (handle_key_of thread.handle, thread.sender)

same_place : (thread : Thread) (key : List ℕ × List ℕ) → is_eq (reply_cmp (place thread) key) ≡ true → place thread ≡ key
same_place thread key is = go (reply_cmp (place thread) key) refl is
  where
    go : (o : Ordering) → reply_cmp (place thread) key ≡ o → is_eq o ≡ true → place thread ≡ key
    go Less at same = absurd (let never : false ≡ true = same in cc)
    go Equal at same = reply_antisymmetric (place thread) key at
    go Greater at same = absurd (let never : false ≡ true = same in cc)

-- no thread's key begins with octet 3
no_between : (handle : Handle) (below sender : List ℕ) → is_key_between (3 ∷ []) (3 ∷ below) (handle_key_of handle, sender) ≡ false
no_between (Named name) below sender = refl
no_between (Same subject from mime reason) below sender = refl

no_sent : (handle : Handle) (half : ℕ) (key target : List ℕ) → handle_key_of handle ≡ sent_handle half key target → ⊥
no_sent (Named name) half key target same = absurd (let first : ◌≡◌ {A = ℕ} 1 3 = cc in omega (arith, first))
no_sent (Same subject from mime reason) half key target same = absurd (let first : ◌≡◌ {A = ℕ} 2 3 = cc in omega (arith, first))

-- a key that is over
abbrev IsOver : List ℕ → ReplyKey → Type 0
IsOver below key = is_key_between (3 ∷ []) (3 ∷ below) (key.handle, key.sender) ≡ true

over_apart : (below : List ℕ) (key : ReplyKey) (thread : Thread) → IsOver below key → is_eq (reply_cmp (place thread) (key.handle, key.sender)) ≡ false
over_apart below key thread over = false_from_ne_true _ (λ tied.
    let same = same_place thread (key.handle, key.sender) tied in
    false≢true (sym (no_between thread.handle below thread.sender) ∙ (ap (is_key_between (3 ∷ []) (3 ∷ below)) same ∙ over)))

sent_apart : (half : ℕ) (target message : List ℕ) (thread : Thread) → is_eq (reply_cmp (place thread) (sent_handle half message target, message)) ≡ false
sent_apart half target message thread = false_from_ne_true _ (λ tied. no_sent thread.handle half message target (ap (λ (k : List ℕ × List ℕ). k.0) (same_place thread (sent_handle half message target, message) tied)))

-- what is forgotten is no thread's
forgot_keep : (below : List ℕ) (over : List ReplyKey) (kept_moment : ReplyMoments) (thread : Thread) → AllByRecursion (IsOver below) over
    → get (fold (λ kept_moment key. remove kept_moment (key.handle, key.sender)) kept_moment over) (place thread) ≡ get kept_moment (place thread)
forgot_keep below [] kept_moment thread all = refl
forgot_keep below (key ∷ over) kept_moment thread all =
    forgot_keep below over (remove kept_moment (key.handle, key.sender)) thread all.1
    ∙ (get-remove reply_total kept_moment (key.handle, key.sender) (place thread) ∙ ap (λ b. cond b None (get kept_moment (place thread))) (over_apart below key thread all.0))

-- nor what is kept
sent_keep : (message : List ℕ) (moment half : ℕ) (targets : List Addr) (a : Account) (thread : Thread)
    → get (keeps_sent message moment (map (λ target. sent_handle half message (address_spelling target)) targets) a).replies (place thread) ≡ get a.replies (place thread)
sent_keep message moment half [] a thread = refl
sent_keep message moment half (target ∷ more) a thread =
    sent_keep message moment half more (keeps_moment (sent_handle half message (address_spelling target), message) moment a) thread
    ∙ (get-insert reply_total a.replies (sent_handle half message (address_spelling target), message) moment (place thread) ∙ ap (λ b. cond b (Some moment) (get a.replies (place thread))) (sent_apart half (address_spelling target) message thread))

-- the keys that are over
all_taken : {X : Type 0} (P : X → Type 0) (n : ℕ) (xs : List X) → AllByRecursion P xs → AllByRecursion P (take n xs)
all_taken P zero [] all = tt
all_taken P zero (x ∷ xs) all = tt
all_taken P (suc n) [] all = tt
all_taken P (suc n) (x ∷ xs) all = (all.0, all_taken P n xs all.1)

all_passed : {X : Type 0} (p : X → Bool) (xs : List X) → AllByRecursion (λ x. p x ≡ true) (filter p xs)
all_passed p [] = tt
all_passed p (x ∷ xs) = go (p x) refl (all_passed p xs)
  where
    go : (b : Bool) → p x ≡ b → AllByRecursion (λ y. p y ≡ true) (filter p xs) → AllByRecursion (λ y. p y ≡ true) (cond b (x ∷ filter p xs) (filter p xs))
    go true is more = (is, more)
    go false is more = more

all_mapped : {X Y : Type 0} (P : Y → Type 0) (f : X → Y) (xs : List X) → AllByRecursion (λ x. P (f x)) xs → AllByRecursion P (map f xs)
all_mapped P f [] all = tt
all_mapped P f (x ∷ xs) all = (all.0, all_mapped P f xs all.1)

are_over : (a : Account) (moment : ℕ) → AllByRecursion (IsOver (four_octets (half_of moment - 1))) (over_keys a moment)
are_over a moment =
    let is = is_key_between (3 ∷ []) (half_handle (half_of moment - 1)) in
    all_mapped (IsOver (four_octets (half_of moment - 1))) reply_key_of (take 32 (filter is (keys a.replies))) (all_taken (λ key. is key ≡ true) 32 (filter is (keys a.replies)) (all_passed is (keys a.replies)))

-- after a failure none is forgotten
forgotten_over : (notice : Option (List ℕ)) (a : Account) (moment : ℕ) → AllByRecursion (IsOver (four_octets (half_of moment - 1))) (forgotten_unless notice (over_keys a moment))
forgotten_over None a moment = are_over a moment
forgotten_over (Some text) a moment = tt

-- so all the deeds leave what is kept of a thread
acts_keep : (mail : MailSpec) (deeds : Actions) (below : List ℕ) (over : List ReplyKey) (a : Account) (thread : Thread) → AllByRecursion (IsOver below) over
    → get (acts mail deeds over a).replies (place thread) ≡ get a.replies (place thread)
acts_keep mail deeds below over a thread all =
    let mid = redirects mail deeds.sent (files_copies deeds.filed mail.octets a) in
    sent_keep (redirect_key mail) mail.moment (half_of mail.moment) deeds.sent (forgets over mid) thread
    ∙ (forgot_keep below over mid.replies thread all ∙ ap (λ m. get m (place thread)) (redirects_keep mail deeds.sent (files_copies deeds.filed mail.octets a)))

-- and so does a notice
notes_keep : (moment : ℕ) (held : Option (List ℕ)) (a : Account) (thread : Thread) → kept_in (Some (adds_notice_if_any moment held a)) thread ≡ kept_in (Some a) thread
notes_keep moment None a thread = refl
notes_keep moment (Some text) a thread = refl

-- ---- the response

-- what an account that was just answered for keeps
remembered : (a : Account) (handle sender : List ℕ) (moment : ℕ) (thread : Thread) → kept_in (Some (remembers handle sender moment a)) thread
    ≡ cond (is_eq (reply_cmp (handle_key_of thread.handle, thread.sender) (handle, lowered sender))) (Some moment) (kept_in (Some a) thread)
remembered a handle sender moment thread = get-insert reply_total a.replies (handle, lowered sender) moment (handle_key_of thread.handle, thread.sender)

-- what is known of a response: one that is sent has the key of the handle, comes a period after the moment that is kept, and the later
-- one of the two moments is kept
record IsKnown (moment : ℕ) (last : List ℕ → Option ℕ) (reply : Option VacationArgs) (key : List ℕ) (next : ℕ) : Type 0 where
  args : VacationArgs
  there : reply ≡ Some args
  keyed : key ≡ handle_key_of (handle_of args)
  past : IsPast (last (handle_key_of (handle_of args))) (period_of args) moment
  later : next ≡ latest (last key) moment

sent_is : (own : Addr) (moment : ℕ) (mail : MailSpec) (last : List ℕ → Option ℕ) (room : ℕ) (reply : Option VacationArgs) (key octets : List ℕ) (next : ℕ) → Responds own moment mail last room reply (Sent key octets next)
    → IsKnown moment last reply key next
sent_is own moment mail last room None key octets next is = absurd (let never : Sent key octets next ≡ Silent = is in cc)
sent_is own moment mail last room (Some args) key octets next is = go (decision_of args mail own (last (handle_key_of (handle_of args))) moment) refl is
  where
    sends_is : (n : ℕ) → decision_of args mail own (last (handle_key_of (handle_of args))) moment ≡ D.Send → Sends own moment mail args (last (handle_key_of (handle_of args))) n (Sent key octets next) → IsKnown moment last (Some args) key next
    sends_is zero sends follows = absurd (let never : Sent key octets next ≡ NoRoom = follows in cc)
    sends_is (suc n) sends follows =
        let told : Sent key octets next ≡ Sent (handle_key_of (handle_of args)) follows.0 (latest (last (handle_key_of (handle_of args))) moment) = follows.1.1 in
        let same : key ≡ handle_key_of (handle_of args) = cc in
        let after : next ≡ latest (last (handle_key_of (handle_of args))) moment = cc in
        record {
          args = args;
          there = refl;
          keyed = same;
          past = send_is_past args mail own (last (handle_key_of (handle_of args))) moment sends;
          later = after ∙ ap (λ k. latest (last k) moment) (sym same);
        }

    go : (d : ReplyDecision) → decision_of args mail own (last (handle_key_of (handle_of args))) moment ≡ d → FollowsDecision own moment mail args (last (handle_key_of (handle_of args))) room d (Sent key octets next) → IsKnown moment last (Some args) key next
    go D.Send sends follows = sends_is room sends follows
    go (D.Quiet reason) quiet follows = absurd (let never : Sent key octets next ≡ Quiet reason = follows in cc)

-- a later moment is kept: never an earlier one than before, nor than this one
latest_is_no_sooner : (o : Option ℕ) (moment : ℕ) → IsNoSooner o (Some (latest o moment))
latest_is_no_sooner None moment = tt
latest_is_no_sooner (Some x) moment = omega arith

latest_is_at_least : (o : Option ℕ) (moment : ℕ) → moment ≤ latest o moment
latest_is_at_least None moment = omega arith
latest_is_at_least (Some x) moment = omega arith

reply_eq_refl : (key sender : List ℕ) → is_eq (reply_cmp (key, sender) (key, sender)) ≡ true
reply_eq_refl key sender = ap (λ o. is_eq (ordering_then o (bytes_cmp sender sender))) (tied_is (bytes_cmp key key) (bytes_eq_refl key)) ∙ bytes_eq_refl sender

-- the account after a response to the sender that was sent
abbrev answered : MailSpec → (key octets : List ℕ) → (next : ℕ) → Account → Account
answered mail key octets next a = remembers key mail.from next (queues kind.Reply [] mail.from octets a)

answered_keeps : (mail : MailSpec) (moment next : ℕ) (key octets : List ℕ) (a b : Account) (thread : Thread) → get b.replies (place thread) ≡ get a.replies (place thread) → next ≡ latest (last_reply a mail.from key) moment
    → IsNoSooner (kept_in (Some a) thread) (kept_in (Some (answered mail key octets next b)) thread)
answered_keeps mail moment next key octets a b thread same later = subst (λ o. IsNoSooner (kept_in (Some a) thread) o) (sym (remembered (queues kind.Reply [] mail.from octets b) key mail.from next thread)) (go (is_eq (reply_cmp (place thread) (key, lowered mail.from))) refl)
  where
    go : (t : Bool) → is_eq (reply_cmp (place thread) (key, lowered mail.from)) ≡ t → IsNoSooner (kept_in (Some a) thread) (cond t (Some next) (get b.replies (place thread)))
    go true is =
        subst (λ n. IsNoSooner (get a.replies (place thread)) (Some n)) (sym later)
        (subst (λ k. IsNoSooner (get a.replies k) (Some (latest (last_reply a mail.from key) moment))) (sym (same_place thread (key, lowered mail.from) is)) (latest_is_no_sooner (last_reply a mail.from key) moment))
    go false is = no_sooner_is (get a.replies (place thread)) (get b.replies (place thread)) same

responds_keeps : (own : Addr) (moment : ℕ) (mail : MailSpec) (room : ℕ) (reply : Option VacationArgs) (a b : Account) (response : Response) (thread : Thread) → get b.replies (place thread) ≡ get a.replies (place thread)
    → Responds own moment mail (last_reply a mail.from) room reply response → IsNoSooner (kept_in (Some a) thread) (kept_in (Some (responds mail response b)) thread)
responds_keeps own moment mail room reply a b Silent thread same is = no_sooner_is (kept_in (Some a) thread) _ same
responds_keeps own moment mail room reply a b NoRoom thread same is = no_sooner_is (kept_in (Some a) thread) _ same
responds_keeps own moment mail room reply a b (Quiet reason) thread same is = no_sooner_is (kept_in (Some a) thread) _ same
responds_keeps own moment mail room reply a b (Sent key octets next) thread same is =
    let known = sent_is own moment mail (last_reply a mail.from) room reply key octets next is in
    answered_keeps mail moment next key octets a b thread same known.later

delivers_keeps : (own : Addr) (moment : ℕ) (mail : MailSpec) (settled : Settled) (a a2 : Account) (report : Report) (thread : Thread) → CarriesOutSettled own moment mail settled a report a2
    → IsNoSooner (kept_in (Some a) thread) (kept_in (Some a2) thread)
delivers_keeps own moment mail settled a a2 report thread is =
    let done = done_of a mail settled.deeds in
    let over = forgotten_unless settled.notice (over_keys a moment) in
    let b = acts mail done over a in
    let same = acts_keep mail done (four_octets (half_of moment - 1)) over a thread (forgotten_over settled.notice a moment) in
    subst (λ o. IsNoSooner (kept_in (Some a) thread) o)
    (sym (ap (λ c. kept_in (Some c) thread) is.changed ∙ notes_keep moment (notice_left settled.notice (held_of a mail settled.deeds)) (responds mail is.response b) thread))
    (responds_keeps own moment mail (room_in a - length done.sent) settled.deeds.reply a b is.response thread same is.is_response)

-- commands leave what is remembered
obeyed_keeps : (command : ClientCommand) (word : Option Status) (a : Account) → (obeyed command word a).replies ≡ a.replies
obeyed_keeps command word a = go (is_ok word)
  where
    carried : (c : ClientCommand) → (carried_out c a).replies ≡ a.replies
    carried Capability = refl
    carried (Noop tag) = refl
    carried Logout = refl
    carried (Authenticate mechanism response) = refl
    carried (verb.Response text) = refl
    carried Unauthenticate = refl
    carried (HaveSpace name size) = refl
    carried (PutScript name script) = refl
    carried (CheckScript text) = refl
    carried ListScripts = refl
    carried (SetActive name) = refl
    carried (GetScript name) = refl
    carried (DeleteScript name) = refl
    carried (RenameScript old new) = refl

    go : (b : Bool) → (cond b (carried_out command a) a).replies ≡ a.replies
    go true = carried command
    go false = refl

-- ---- acts

mapped_keeps : (account : Option Account) (change : Account → Account) (thread : Thread) → ((a : Account) → (change a).replies ≡ a.replies) → IsNoSooner (kept_in account thread) (kept_in (option_map change account) thread)
mapped_keeps None change thread same = tt
mapped_keeps (Some a) change thread same = no_sooner_is (kept_in (Some a) thread) (kept_in (Some (change a)) thread) (ap (λ m. get m (place thread)) (same a))

-- what an administrator does leaves what is remembered
replies_last : (r : ReplyMoments) → LastsThrough (λ a. a.replies ≡ r)
replies_last r = record {
  guarded = λ a password is. is;
  addressed = λ a address own is. is;
  stored = λ a name text activate named short valid room is. go a name text activate is;
  edits = λ a edit named free is. kept a edit is;
  counted = λ a rounds is. is;
  removed = λ a is. is;
  noticed = λ a until is. is;
}
  where
    go : (a : Account) (name text : List ℕ) (activate : Bool) → a.replies ≡ r → (stores name text activate a).replies ≡ r
    go a name text true is = is
    go a name text false is = is

    kept : (a : Account) (edit : ScriptEdit) → a.replies ≡ r → (edited edit a).replies ≡ r
    kept a (change.Activate name) is = is
    kept a change.Deactivate is = is
    kept a (change.Delete name) is = is
    kept a (change.Rename name other) is = is

kept_keeps : (account change : Option Account) (thread : Thread) → ((r : ReplyMoments) → IfSome account (λ a. a.replies ≡ r) → IfSome change (λ a. a.replies ≡ r)) → IsNoSooner (kept_in account thread) (kept_in (instead change account) thread)
kept_keeps account None thread lasts = no_sooner_same (kept_in account thread)
kept_keeps None (Some b) thread lasts = tt
kept_keeps (Some a) (Some b) thread lasts = no_sooner_is (kept_in (Some a) thread) (kept_in (Some b) thread) (ap (λ m. get m (place thread)) (lasts a.replies refl))

-- the moments of a text never make one sooner that is there
put_keeps : (replies : ReplyMoments) (k : List ℕ × List ℕ) (moment : ℕ) (key : List ℕ × List ℕ) → IsNoSooner (get replies key) (get (insert replies k (latest (get replies k) moment)) key)
put_keeps replies k moment key = subst (IsNoSooner (get replies key)) (sym (get-insert reply_total replies k (latest (get replies k) moment) key)) (go (is_eq (reply_cmp key k)) refl)
  where
    go : (t : Bool) → is_eq (reply_cmp key k) ≡ t → IsNoSooner (get replies key) (cond t (Some (latest (get replies k) moment)) (get replies key))
    go true is = subst (λ j. IsNoSooner (get replies j) (Some (latest (get replies k) moment))) (sym (tied reply_cmp reply_total reply_antisymmetric key k is)) (latest_is_no_sooner (get replies k) moment)
    go false is = no_sooner_same (get replies key)

parts_keep : (parts : List Part) (replies : ReplyMoments) (key : List ℕ × List ℕ) → IsNoSooner (get replies key) (get (fold replies_with replies parts) key)
parts_keep [] replies key = no_sooner_same (get replies key)
parts_keep (Script a b ∷ parts) replies key = parts_keep parts replies key
parts_keep (Reply a b c ∷ parts) replies key =
    let next = insert replies (a, b) (latest (get replies (a, b)) c) in
    no_sooner_then (get replies key) (get next key) (get (fold replies_with next parts) key) (put_keeps replies (a, b) c key) (parts_keep parts next key)
parts_keep (Mail a b c d ∷ parts) replies key = parts_keep parts replies key
parts_keep (Copy a b c d ∷ parts) replies key = parts_keep parts replies key
parts_keep (Letter a b c d e ∷ parts) replies key = parts_keep parts replies key
parts_keep (Notice a b c ∷ parts) replies key = parts_keep parts replies key

-- an act never makes a kept moment sooner
act_keeps : (user : List ℕ) (account later : Option Account) (act : UserAct) (thread : Thread) → ActsAlone user account act later → IsNoSooner (kept_in account thread) (kept_in later thread)
act_keeps user account later (own.Commands command octets) thread is =
    subst (λ o. IsNoSooner (kept_in account thread) (kept_in o thread)) (sym is.changed) (mapped_keeps account (obeyed command is.reply.word) thread (obeyed_keeps command is.reply.word))
act_keeps user account later (own.LogsIn password succeeds) thread is = no_sooner_is (kept_in account thread) (kept_in later thread) (ap (λ o. kept_in o thread) is.stays)
act_keeps user account later (own.Receives envelope message terms answer) thread is = go (limit_refusal envelope message terms.when.moment) account is
  where
    go : (o : Option Refusal) (account : Option Account) → ReceivesIn o account envelope message terms answer later → IsNoSooner (kept_in account thread) (kept_in later thread)
    go (Some refusal) account is = no_sooner_is (kept_in account thread) (kept_in later thread) (ap (λ o. kept_in o thread) is.stays)
    go None account is = opened (open_one account) refl is
      where
        opened : (o : Option Account) → open_one account ≡ o → ReceivesOpen account o envelope message terms answer later → IsNoSooner (kept_in account thread) (kept_in later thread)
        opened None none is = no_sooner_is (kept_in account thread) (kept_in later thread) (ap (λ o. kept_in o thread) is.stays)
        opened (Some a) has is =
            subst (λ b. IsNoSooner (kept_in b thread) (kept_in later thread)) (sym (open_there account a has))
            (subst (λ o. IsNoSooner (kept_in (Some a) thread) (kept_in o thread)) (sym is.changed) (delivers_keeps is.delivers.own terms.when.moment (mail_spec_of message envelope terms.when) is.delivers.delivers.settled a is.after is.report thread is.delivers.delivers.delivers))
act_keeps user account later (own.Joins address salt password answer) thread (inl (new, is)) = go account is
  where
    -- an account that is opened anew keeps what it remembers
    over : (a : Account) (closed full : Bool) → MatchBool closed (MatchBool full (MachineRefuses UserHasMail (Some a) answer later) (RenewsAlone a address salt password answer later)) (MachineRefuses UserExists (Some a) answer later)
        → IsNoSooner (kept_in (Some a) thread) (kept_in later thread)
    over a true true is = no_sooner_is (kept_in (Some a) thread) (kept_in later thread) (ap (λ o. kept_in o thread) is.stays)
    over a true false is = no_sooner_is (kept_in (Some a) thread) (kept_in later thread) (ap (λ o. kept_in o thread) is.changed)
    over a false full is = no_sooner_is (kept_in (Some a) thread) (kept_in later thread) (ap (λ o. kept_in o thread) is.stays)

    go : (account : Option Account) → JoinsIn account address salt password answer later → IsNoSooner (kept_in account thread) (kept_in later thread)
    go None is = tt
    go (Some a) is = over a (is_closed_account a) (has_mail a) is
act_keeps user account later (own.Joins address salt password answer) thread (inr (bad, is)) = no_sooner_is (kept_in account thread) (kept_in later thread) (ap (λ o. kept_in o thread) is.stays)
act_keeps user account later (own.IsImported head parts answer) thread (inl (fit, is)) = go account is
  where
    over : (a : Account) (closed full : Bool) → MatchBool closed (MatchBool full (MachineRefuses UserHasMail (Some a) answer later) (ReplacesAlone a head parts answer later)) (MachineRefuses UserExists (Some a) answer later)
        → IsNoSooner (kept_in (Some a) thread) (kept_in later thread)
    over a true true is = no_sooner_is (kept_in (Some a) thread) (kept_in later thread) (ap (λ o. kept_in o thread) is.stays)
    over a true false is = subst (λ o. IsNoSooner (kept_in (Some a) thread) (kept_in o thread)) (sym is.changed) (parts_keep parts a.replies (place thread))
    over a false full is = no_sooner_is (kept_in (Some a) thread) (kept_in later thread) (ap (λ o. kept_in o thread) is.stays)

    go : (account : Option Account) → ImportsIn account head parts answer later → IsNoSooner (kept_in account thread) (kept_in later thread)
    go None is = tt
    go (Some a) is = over a (is_closed_account a) (has_mail a) is
act_keeps user account later (own.IsImported head parts answer) thread (inr (bad, is)) = no_sooner_is (kept_in account thread) (kept_in later thread) (ap (λ o. kept_in o thread) is.stays)
act_keeps user account later (own.TakesOut id answer) thread is = go (open_one account) refl is
  where
    row : (a : Account) (o : Option QueuedMessage) → TakesRowAlone a o answer later → IsNoSooner (kept_in (Some a) thread) (kept_in later thread)
    row a None is = no_sooner_is (kept_in (Some a) thread) (kept_in later thread) (ap (λ o. kept_in o thread) is.stays)
    row a (Some out) is = no_sooner_is (kept_in (Some a) thread) (kept_in later thread) (ap (λ o. kept_in o thread) is.changed)

    go : (o : Option Account) → open_one account ≡ o → TakesOpen account o id answer later → IsNoSooner (kept_in account thread) (kept_in later thread)
    go None none is = no_sooner_is (kept_in account thread) (kept_in later thread) (ap (λ o. kept_in o thread) is.stays)
    go (Some a) has is = subst (λ b. IsNoSooner (kept_in b thread) (kept_in later thread)) (sym (open_there account a has)) (row a (row_with id a.queue) is)
act_keeps user account later (own.TakesMail folder answer) thread is = go (open_one account) refl is
  where
    row : (a : Account) (messages : List (List ℕ)) → TakesFirstAlone a folder messages answer later → IsNoSooner (kept_in (Some a) thread) (kept_in later thread)
    row a [] is = no_sooner_is (kept_in (Some a) thread) (kept_in later thread) (ap (λ o. kept_in o thread) is.stays)
    row a (message ∷ more) is = no_sooner_is (kept_in (Some a) thread) (kept_in later thread) (ap (λ o. kept_in o thread) is.changed)

    go : (o : Option Account) → open_one account ≡ o → TakesMailOpen account o folder answer later → IsNoSooner (kept_in account thread) (kept_in later thread)
    go None none is = no_sooner_is (kept_in account thread) (kept_in later thread) (ap (λ o. kept_in o thread) is.stays)
    go (Some a) has is = subst (λ b. IsNoSooner (kept_in b thread) (kept_in later thread)) (sym (open_there account a has)) (row a (messages_in a.folders folder) is)
act_keeps user account later (own.IsKept upkeep answer) thread (change, keeps, is) = subst (λ o. IsNoSooner (kept_in account thread) (kept_in o thread)) (sym is) (kept_keeps account change thread (λ r fits. keeps_holds (λ a. a.replies ≡ r) (replies_last r) answer change upkeep account fits keeps))

alone_keeps : (user : List ℕ) (acts : List UserAct) (account end : Option Account) (thread : Thread) → ActsInTurn user account acts end → IsNoSooner (kept_in account thread) (kept_in end thread)
alone_keeps user [] account end thread is = no_sooner_is (kept_in account thread) (kept_in end thread) (ap (λ o. kept_in o thread) is)
alone_keeps user (act ∷ more) account end thread is = no_sooner_then (kept_in account thread) (kept_in is.0 thread) (kept_in end thread) (act_keeps user account is.0 act thread is.1) (alone_keeps user more is.0 end thread is.2)

-- ---- events

next_keeps : (w next : World) (event : Event) (answer : Answer) (thread : Thread) → Next w event answer next → IsNoSooner (kept_moment w.accounts thread) (kept_moment next.accounts thread)
next_keeps w next event answer thread made = alone_keeps thread.user (own.acts_in thread.user w event answer) (get w.accounts thread.user) (get next.accounts thread.user) thread (next_alone thread.user w next event answer made)

run_keeps : (events : List Event) (told : List Answer) (w end : World) (thread : Thread) → Runs w events told end → IsNoSooner (kept_moment w.accounts thread) (kept_moment end.accounts thread)
run_keeps events told w end thread run = alone_keeps thread.user (own.user_acts thread.user w events told end run) (get w.accounts thread.user) (get end.accounts thread.user) thread (projection events told w end run thread.user)

-- what one event sends: nothing, or one answer, a period after what was kept, and kept then
abbrev IsOneAnswer : Accounts → Accounts → List SentReply → Type 0
IsOneAnswer start end [] = Unit {0}
IsOneAnswer start end (entry ∷ []) = IsPast (kept_moment start entry.thread) entry.period entry.moment × IsAtLeast (kept_moment end entry.thread) entry.moment
IsOneAnswer start end (entry ∷ (other ∷ more)) = ⊥

-- the same of one account
abbrev IsOneFor : Option Account → Option Account → List SentReply → Type 0
IsOneFor start end [] = Unit {0}
IsOneFor start end (entry ∷ []) = IsPast (kept_in start entry.thread) entry.period entry.moment × IsAtLeast (kept_in end entry.thread) entry.moment
IsOneFor start end (entry ∷ (other ∷ more)) = ⊥

remembered_now : (mail : MailSpec) (moment next : ℕ) (key octets user : List ℕ) (args : VacationArgs) (b : Account) → key ≡ handle_key_of (handle_of args) → moment ≤ next
    → IsAtLeast (kept_in (Some (answered mail key octets next b)) (entry_of user mail.from moment args).thread) moment
remembered_now mail moment next key octets user args b same after =
    subst (λ o. IsAtLeast o moment) (sym (remembered (queues kind.Reply [] mail.from octets b) key mail.from next (entry_of user mail.from moment args).thread ∙ ap (λ t. cond t (Some next) (get b.replies (handle_key_of (handle_of args), lowered mail.from))) itself)) after
  where
    itself : is_eq (reply_cmp (handle_key_of (handle_of args), lowered mail.from) (key, lowered mail.from)) ≡ true
    itself = ap (λ k. is_eq (reply_cmp (handle_key_of (handle_of args), lowered mail.from) (k, lowered mail.from))) same ∙ reply_eq_refl (handle_key_of (handle_of args)) (lowered mail.from)

carried_one : (own : Addr) (user : List ℕ) (moment : ℕ) (mail : MailSpec) (room : ℕ) (reply : Option VacationArgs) (held : Option (List ℕ)) (a b : Account) (response : Response) → Responds own moment mail (last_reply a mail.from) room reply response
    → IsOneFor (Some a) (Some (adds_notice_if_any moment held (responds mail response b))) (entries_if (vacation_report response) user mail.from moment reply)
carried_one own user moment mail room reply held a b Silent is = tt
carried_one own user moment mail room reply held a b NoRoom is = tt
carried_one own user moment mail room reply held a b (Quiet reason) is = tt
carried_one own user moment mail room reply held a b (Sent key octets next) is =
    let known = sent_is own moment mail (last_reply a mail.from) room reply key octets next is in
    let thread = (entry_of user mail.from moment known.args).thread in
    let after : moment ≤ next = subst (λ n. moment ≤ n) (sym known.later) (latest_is_at_least (last_reply a mail.from key) moment) in
    subst (λ r. IsOneFor (Some a) (Some (adds_notice_if_any moment held (answered mail key octets next b))) (entries_if V.Sent user mail.from moment r)) (sym known.there)
    (known.past, subst (λ o. IsAtLeast o moment) (sym (notes_keep moment held (answered mail key octets next b) thread)) (remembered_now mail moment next key octets user known.args b known.keyed after))

delivered_one : (own : Addr) (user : List ℕ) (moment : ℕ) (mail : MailSpec) (settled : Settled) (a a2 : Account) (report : Report) → CarriesOutSettled own moment mail settled a report a2
    → IsOneFor (Some a) (Some a2) (entries_if report.vacation user mail.from moment settled.deeds.reply)
delivered_one own user moment mail settled a a2 report is =
    let deeds = settled.deeds in
    let done = done_of a mail deeds in
    subst (λ v. IsOneFor (Some a) (Some a2) (entries_if v user mail.from moment deeds.reply)) (sym (ap (λ r. r.vacation) is.reported))
    (subst (λ b. IsOneFor (Some a) (Some b) (entries_if (vacation_report is.response) user mail.from moment deeds.reply)) (sym is.changed)
    (carried_one own user moment mail (room_in a - length done.sent) deeds.reply (notice_left settled.notice (held_of a mail deeds)) a
    (acts mail done (forgotten_unless settled.notice (over_keys a moment)) a) is.response is.is_response))

-- the entry of a user, by the account of that name
named_one : (accounts later : Accounts) (user : List ℕ) (start end : Option Account) (sender : List ℕ) (moment : ℕ) (v : VacationReport) (reply : Option VacationArgs) → get accounts user ≡ start → get later user ≡ end
    → IsOneFor start end (entries_if v user sender moment reply) → IsOneAnswer accounts later (entries_if v user sender moment reply)
named_one accounts later user start end sender moment V.None reply has then is = tt
named_one accounts later user start end sender moment (V.Quiet n) reply has then is = tt
named_one accounts later user start end sender moment V.Sent None has then is = tt
named_one accounts later user start end sender moment V.Sent (Some args) has then is =
    let thread = (entry_of user sender moment args).thread in
    (subst (λ o. IsPast (kept_in o thread) (period_of args) moment) (sym has) is.0, subst (λ o. IsAtLeast (kept_in o thread) moment) (sym then) is.1)

sent_one : (w next : World) (event : Event) (answer : Answer) (made : Next w event answer next) → IsOneAnswer w.accounts next.accounts (sent_at w event answer next made)
sent_one w next event answer (inr refused) = tt
sent_one w next (Open s) answer (inl made) = tt
sent_one w next (Give s piece) answer (inl made) = tt
sent_one w next (Step s) answer (inl made) = tt
sent_one w next (GiveUp s) answer (inl made) = tt
sent_one w next (Close s) answer (inl made) = tt
sent_one w next (AddUser name address salt password) answer (inl made) = tt
sent_one w next (Import file) answer (inl made) = tt
sent_one w next (TakeOut name id) answer (inl made) = tt
sent_one w next (TakeMail name folder) answer (inl made) = tt
sent_one w next (DoUpkeep name upkeep) answer (inl made) = tt
sent_one w next (Deliver user envelope message terms) answer (inl made) = subst (λ v. IsOneAnswer w.accounts v.accounts (sent_by w (Deliver user envelope message terms) answer next made)) (sym made.2) (go (limit_refusal envelope message terms.when.moment) made.1)
  where
    later : Accounts
    later = made.0

    inserted : (o : Option Account) → open_account_of w.accounts user ≡ o → (is : DeliversIn w.accounts user terms envelope message o answer later) → IsOneAnswer w.accounts later (sent_in w.accounts user terms envelope message o answer later is)
    inserted None has is = tt
    inserted (Some a) has is =
        named_one w.accounts later user (Some a) (Some is.account) envelope.from terms.when.moment is.report.vacation is.delivers.delivers.settled.deeds.reply (open_there (get w.accounts user) a has) (ap (λ all. get all user) is.changed ∙ put_own w.accounts user is.account (bytes_eq_refl user))
        (delivered_one is.delivers.own user terms.when.moment (mail_spec_of message envelope terms.when) is.delivers.delivers.settled a is.account is.report is.delivers.delivers.delivers)

    go : (o : Option Refusal) → (is : DeliversUnder o w.accounts user terms envelope message answer later) → IsOneAnswer w.accounts later (sent_under o w.accounts user terms envelope message answer later is)
    go (Some refusal) is = tt
    go None is = inserted (open_account_of w.accounts user) refl is

-- ---- runs

come_before : (accounts later : Accounts) (entries : List SentReply) → ((thread : Thread) → IsNoSooner (kept_moment accounts thread) (kept_moment later thread)) → ComeAfter later entries → ComeAfter accounts entries
come_before accounts later [] sooner come = tt
come_before accounts later (entry ∷ more) sooner come =
    (past_before (kept_moment accounts entry.thread) (kept_moment later entry.thread) entry.period entry.moment (sooner entry.thread) come.0, come_before accounts later more sooner come.1)

-- all that come after an entry is kept follow it
pub follow_kept : (later : Accounts) (entry : SentReply) (entries : List SentReply) → IsAtLeast (kept_moment later entry.thread) entry.moment → ComeAfter later entries → Follow entry entries
follow_kept later entry [] held come = tt
follow_kept later entry (next ∷ more) held come = (λ same. go (kept_moment later next.thread) (subst (λ t. IsAtLeast (kept_moment later t) entry.moment) same held) come.0, follow_kept later entry more held come.1)
  where
    go : (o : Option ℕ) → IsAtLeast o entry.moment → IsPast o next.period next.moment → 0 < next.period → entry.moment + next.period ≤ next.moment
    go None held past some = absurd held
    go (Some last) held past some = let later = past some in omega (arith, later, held)

-- an event, and the events after it
spacing_then : (start mid end : Accounts) (one more : List SentReply) → ((thread : Thread) → IsNoSooner (kept_moment start thread) (kept_moment mid thread)) → ((thread : Thread) → IsNoSooner (kept_moment mid thread) (kept_moment end thread))
    → IsOneAnswer start mid one → IsSpacing mid end more → IsSpacing start end (one ++ more)
spacing_then start mid end [] more sooner late is rest = record { after_start = come_before start mid more sooner rest.after_start; spaced = rest.spaced; kept_in_the_end = rest.kept_in_the_end }
spacing_then start mid end (entry ∷ []) more sooner late is rest = record {
  after_start = (is.0, come_before start mid more sooner rest.after_start);
  spaced = (follow_kept mid entry more is.1 rest.after_start, rest.spaced);
  kept_in_the_end = (at_least_after (kept_moment mid entry.thread) (kept_moment end entry.thread) entry.moment (late entry.thread) is.1, rest.kept_in_the_end);
}
spacing_then start mid end (entry ∷ (other ∷ most)) more sooner late is rest = absurd is

pub spacing : (events : List Event) (told : List Answer) (w end : World) (run : Runs w events told end) → IsSpacing w.accounts end.accounts (sent w events told end run)
spacing [] [] w end run = record { after_start = tt; spaced = tt; kept_in_the_end = tt }
spacing (event ∷ events) (answer ∷ told) w end run =
    spacing_then w.accounts run.0.accounts end.accounts (sent_at w event answer run.0 run.1) (sent run.0 events told end run.2) (λ thread. next_keeps w run.0 event answer thread run.1)
    (λ thread. run_keeps events told run.0 end thread run.2) (sent_one w run.0 event answer run.1) (spacing events told run.0 end run.2)
spacing [] (answer ∷ told) w end run = absurd run
spacing (event ∷ events) [] w end run = absurd run
