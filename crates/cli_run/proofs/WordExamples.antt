-- What words do, by example: right ones, and near misses.
use Rattle.std.proofs.Common.{◌≡◌, ◌==◌, ◌<◌, ℕ, suc, cond, true, false, List, [], ◌∷◌, Option, Some, None, Ok, Err, refl, sym, ◌∙◌, ap, subst, inl, inr, codes, get_or, arith}
use Prim.Native.Nat.{zero}
use Rattle.hex.specs.Hex.{decode_pairs}
use Rattle.octets.specs.Ascii.{is_digit}
use Rattle.octets.specs.Decimal.{Writes}
use Rattle.maildir_files.specs.declared.separator.Separator.TheVariants.{Dot, Slash}
use Rattle.maildir_files.specs.declared.sink.SinkError.{SinkError}
use Rattle.store_accounts.specs.Account.{Account, Accounts, Password, activates, closes, new_account, removes, row_with}
use Rattle.store_accounts.specs.Promises.{HasNoOpen}
use Rattle.store_accounts.specs.declared.queue.QueuedMessage.{QueuedMessage}
use Rattle.store_accounts.specs.declared.refusal.Refusal.{Refusal}
use Rattle.store_accounts.specs.declared.refusal.Refusal.TheVariants.{Memory}
use Rattle.store_engine.specs.declared.answer.Answer.TheVariants as answer
use Rattle.store_engine.specs.declared.event.Event.TheVariants.{Deliver, AddUser, TakeOut, DoUpkeep}
use Rattle.store_engine.specs.declared.upkeep.Upkeep.TheVariants.{SetPassword, SetAddress, StoreScript}
use Rattle.store_accounts.specs.declared.notice.Notice.{Notice}
use Rattle.sieve_lex.specs.declared.fault.ScriptFault.{ScriptFault}
use Rattle.cli_run.specs.declared.fault.RunFault.TheVariants.{Refused, Stream, NoMessage, NoMaildir, Invalid, Busy}
use Rattle.cli_run.specs.Draining.{IsUnkept, StopsDraining}
use Rattle.cli_run.specs.Faults.{memory, no_user, store_failed, cause_of, run_fault_lines, faults_told, IsHindered}
use Rattle.cli_run.specs.Streams.{IsWritten, WriteFailed}
use Rattle.cli_run.specs.declared.fault.RunFault.{RunFault}
use Rattle.cli_run.specs.Values.{WritesSalt, IsSalt, IsGivenMoment, AreTerms, IsSeparator, envelope_with}
use Rattle.store_engine.specs.declared.terms.Terms.{Terms}
use Rattle.sieve_plan.specs.declared.scripts.HostScripts.{HostScripts}
use Rattle.cli_run.specs.declared.host_texts.HostTexts.{HostTexts}
use Rattle.cli_run.specs.Subcommands.{IsAddUserEvent, IsPasswdEvent, IsDoneBy, IsStoredBy, IsPutEvent, upkeep_answer, DeniedAtEnd, IsDeliverEvent, IsDoneEvent, TellsEvent, TellsInvalid, HasMessage, ShowsOutgoing, notices_until, user_line}

-- ---- values

five-digits : (k d : ℕ) → k < 1 → is_digit (get_or (codes "5") k d) ≡ true
five-digits zero d k<1 = refl
five-digits (suc k) d k<1 = absurd (omega arith)

five : Writes (codes "5") 5
five = record { present = λ e. cc; digits = five-digits; value = refl }

not_five : (n : ℕ) → (n ≡ 5 → ⊥) → Writes (codes "5") n → ⊥
not_five n other w = other (sym w.value)

-- the moment of the words comes before the clock's
moment-told : IsGivenMoment (Some (codes "5")) (Some 7) 5
moment-told = five

-- near miss: the clock's in its place
moment-ignored : IsGivenMoment (Some (codes "5")) (Some 7) 7 → ⊥
moment-ignored = not_five 7 (λ e. cc)

moment-clock : IsGivenMoment None (Some 7) 7
moment-clock = refl

-- near miss: 1970 for the clock
moment-none : IsGivenMoment None (Some 7) 0 → ⊥
moment-none h = cc

separator-slash : IsSeparator (Some (codes "/")) Slash
separator-slash = refl

-- near miss: the one that is taken where the words have none
separator-other : IsSeparator (Some (codes "/")) Dot → ⊥
separator-other h = let no : 47 ≡ 46 = ap (λ text. get_or text 0 0) h in omega (arith, no)

digits : List ℕ
digits = codes "000102030405060708090A0B0C0D0e0f"

abbrev salt : List ℕ
salt = 0 ∷ 1 ∷ 2 ∷ 3 ∷ 4 ∷ 5 ∷ 6 ∷ 7 ∷ 8 ∷ 9 ∷ 10 ∷ 11 ∷ 12 ∷ 13 ∷ 14 ∷ 15 ∷ []

salt-written : WritesSalt digits salt
unfolding digits decode_pairs
salt-written = refl

-- near miss: 30 digits
salt-short : WritesSalt (codes "000102030405060708090A0B0C0D0e") salt → ⊥
salt-short h = cc

-- ---- events

abbrev alice : List ℕ
alice = codes "alice"

abbrev home : List ℕ
home = codes "alice@example.com"

-- the account of these words, with the first line of what was read
added : IsAddUserEvent (Some digits) None alice home (Some (codes "secret\nmore")) (AddUser alice home salt (codes "secret"))
added = record { octets = codes "secret\nmore"; read = refl; salt = salt; salted = salt-written; same = refl }

-- without a salt in the words it is the system's
added-random : IsAddUserEvent None (Some salt) alice home (Some (codes "secret\nmore")) (AddUser alice home salt (codes "secret"))
added-random = record { octets = codes "secret\nmore"; read = refl; salt = salt; salted = refl; same = refl }

-- near misses: the system's in place of the words'; none at all
salt-ignored : (other : List ℕ) → IsSalt (Some (codes "5")) (Some other) other → ⊥
salt-ignored other h = cc

salt-none : (other : List ℕ) → IsSalt None None other → ⊥
salt-none other h = cc

guarded : IsPasswdEvent None (Some salt) alice (Some (codes "secret\nmore")) (DoUpkeep alice (SetPassword salt (codes "secret")))
guarded = record { octets = codes "secret\nmore"; read = refl; salt = salt; salted = refl; same = refl }

-- near misses: another user's; all that was read
guarded-other : IsPasswdEvent None (Some salt) alice (Some (codes "secret")) (DoUpkeep home (SetPassword salt (codes "secret"))) → ⊥
guarded-other h = let e = h.same in cc

-- what is done to an account is told as done
changed-told : TellsEvent (DoUpkeep alice (SetAddress home)) answer.Changed (codes "changed alice\n")
changed-told = refl

-- near miss: a refusal of the machine
refused-done : IsDoneBy (answer.Refused Memory) (Ok tt) → ⊥
refused-done h = cc

-- all that was read is the script's text, and near misses: another name; the active script, where that isn't asked for
offered : IsPutEvent alice (codes "m") false (Some (codes "keep;")) (DoUpkeep alice (StoreScript (codes "m") (codes "keep;") false))
offered = record { text = codes "keep;"; read = refl; same = refl }

offered-other : (text : List ℕ) → IsPutEvent alice (codes "m") false (Some text) (DoUpkeep alice (StoreScript alice text false)) → ⊥
offered-other text h = let e = h.same in cc

offered-active : (text : List ℕ) → IsPutEvent alice (codes "m") false (Some text) (DoUpkeep alice (StoreScript (codes "m") text true)) → ⊥
offered-active text h = let e = h.same in cc

stored-told : TellsEvent (DoUpkeep alice (StoreScript (codes "m") [] false)) answer.Stored (codes "stored m\n")
stored-told = refl

-- near misses: no script, told as stored; and without a fault
stored-invalid : (fault : ScriptFault) → IsStoredBy (answer.Invalid fault) (Ok None) → ⊥
stored-invalid fault h = cc

invalid-done : (fault : ScriptFault) (old new : Option (List ℕ)) → TellsInvalid fault old new (Ok tt) → ⊥
invalid-done fault old new h = h

-- notices up to a moment, at it too; near miss: those before it alone
notice-at : ℕ → Notice
notice-at moment = record { moment = moment; text = [] }

notices-early : notices_until 5 (notice-at 6 ∷ notice-at 5 ∷ notice-at 4 ∷ []) ≡ notice-at 5 ∷ notice-at 4 ∷ []
unfolding notice-at
notices-early = refl

notices-before : notices_until 5 (notice-at 5 ∷ []) ≡ [] → ⊥
unfolding notice-at
notices-before h = cc

-- near miss: name and address swapped
added-swapped : (password : List ℕ) → IsAddUserEvent (Some digits) None alice home (Some (codes "secret\nmore")) (AddUser home alice salt password) → ⊥
added-swapped password h = let e = h.same in cc

is_deliver_event : (clock : Option ℕ) (host : HostTexts) (terms : Terms) → AreTerms (Some (codes "5")) None clock host terms
    → IsDeliverEvent (envelope_with [] home) (Some (codes "5")) None alice clock host (Some (codes "M")) (Deliver alice (envelope_with [] home) (codes "M") terms)
is_deliver_event clock host terms is = record { message = codes "M"; read = refl; terms = terms; under = is; same = refl }

-- near misses: for the recipient's name in place of the user's; at the clock's moment; with another message; without the host's default script; without
-- the script that it has before each user's
is_deliver_event-elsewhere : (clock : Option ℕ) (host : HostTexts) (terms : Terms) → IsDeliverEvent (envelope_with [] home) (Some (codes "5")) None alice clock host (Some (codes "M")) (Deliver home (envelope_with [] home) (codes "M") terms) → ⊥
is_deliver_event-elsewhere clock host terms h = let e = h.same in cc

is_deliver_event-late : (host : HostTexts) (terms : Terms) → terms.when.moment ≡ 7 → IsDeliverEvent (envelope_with [] home) (Some (codes "5")) None alice (Some 7) host (Some (codes "M")) (Deliver alice (envelope_with [] home) (codes "M") terms) → ⊥
is_deliver_event-late host terms late h = let same : terms ≡ h.terms = let e = h.same in cc in moment-ignored (subst (Writes (codes "5")) (sym (ap (λ (t : Terms). t.when.moment) same) ∙ late) h.under.dated)

is_deliver_event-other : (clock : Option ℕ) (host : HostTexts) (terms : Terms) → IsDeliverEvent (envelope_with [] home) (Some (codes "5")) None alice clock host (Some (codes "M")) (Deliver alice (envelope_with [] home) (codes "MM") terms) → ⊥
is_deliver_event-other clock host terms h = let same : codes "MM" ≡ h.message = let e = h.same in cc in let no : codes "MM" ≡ codes "M" = same ∙ h.read in cc

is_deliver_event-bare : (clock : Option ℕ) (host : HostTexts) (default : List ℕ) (terms : Terms) → terms.host.default ≡ None → host.default ≡ Some default → IsDeliverEvent (envelope_with [] home) (Some (codes "5")) None alice clock host (Some (codes "M")) (Deliver alice (envelope_with [] home) (codes "M") terms) → ⊥
is_deliver_event-bare clock host default terms bare has h =
    let same : terms ≡ h.terms = let e = h.same in cc in
    let no : None ≡ Some default = sym bare ∙ ap (λ (t : Terms). t.host.default) same ∙ h.under.scripted ∙ has in cc

is_deliver_event-alone : (clock : Option ℕ) (host : HostTexts) (text : List ℕ) (terms : Terms) → terms.host.scripts.before ≡ [] → host.scripts.before ≡ text ∷ [] → IsDeliverEvent (envelope_with [] home) (Some (codes "5")) None alice clock host (Some (codes "M")) (Deliver alice (envelope_with [] home) (codes "M") terms) → ⊥
is_deliver_event-alone clock host text terms alone has h =
    let same : terms ≡ h.terms = let e = h.same in cc in
    let no : [] ≡ text ∷ [] = sym alone ∙ ap (λ (t : Terms). t.host.scripts.before) same ∙ ap (λ (s : HostScripts). s.before) h.under.surrounded ∙ has in cc

dequeued : IsDoneEvent alice (codes "5") (TakeOut alice 5)
dequeued = record { id = 5; written = five; same = refl }

-- near miss: another number
dequeued-other : IsDoneEvent alice (codes "5") (TakeOut alice 6) → ⊥
dequeued-other h = let same : 6 ≡ h.id = let e = h.same in cc in not_five 6 (λ e. cc) (subst (Writes (codes "5")) (sym same) h.written)

-- what is printed of an event, and near misses: another name; an event that wasn't made
added_told : TellsEvent (AddUser alice home salt []) answer.Added (codes "added alice\n")
added_told = refl

added_told-other : TellsEvent (AddUser alice home salt []) answer.Added (codes "added bob\n") → ⊥
added_told-other h = cc

told-refused : (refusal : Refusal) (text : List ℕ) → TellsEvent (TakeOut alice 5) (answer.Refused refusal) text → ⊥
told-refused refusal text h = h

-- ---- reads

module _ (a : Account) (one two : QueuedMessage) (first : one.id ≡ 5) (second : two.id ≡ 6) (queued : a.queue ≡ one ∷ two ∷ []) (texts : one.message ≡ codes "M") (others : two.message ≡ codes "MM") where
  -- near miss: another one's octets
  shown-other : ShowsOutgoing (codes "5") a (codes "MM") → ⊥
  shown-other h =
      let id : h.0 ≡ 5 = sym h.2.value in
      let found : row_with 5 (one ∷ two ∷ []) ≡ Some h.1 = subst (λ q. row_with 5 q ≡ Some h.1) queued (subst (λ n. row_with n a.queue ≡ Some h.1) id h.3) in
      let is : Some one ≡ Some h.1 = sym (ap (λ n. cond (n == 5) (Some one) (row_with 5 (two ∷ []))) first) ∙ found in
      let row : one ≡ h.1 = cc in
      let no : codes "MM" ≡ codes "M" = h.4 ∙ (ap (λ (r : QueuedMessage). r.message) (sym row) ∙ texts) in cc

numbered : (a : Account) → HasMessage (codes "INBOX") 0 a None
numbered a = refl

-- near miss: numbers are from 1
numbered-zero : (a : Account) (message : List ℕ) → HasMessage (codes "INBOX") 0 a (Some message) → ⊥
numbered-zero a message h = cc

-- ---- faults

abbrev nobody : RunFault → Type 0
nobody fault = ⊥

-- no sink refused a call
abbrev unsunk : SinkError → Type 0
unsunk error = ⊥

abbrev busily : RunFault → Type 0
busily fault = fault ≡ Busy

-- an unknown user is told as one, and near miss: as something else that is absent
stops-told : (accounts : Accounts) → HasNoOpen alice accounts → StopsDraining unsunk ⊥ nobody alice no_user accounts
stops-told accounts free = inr (inr (refl, free, λ no. no))

not_hindered : (fault : RunFault) → (fault ≡ memory → ⊥) → (fault ≡ store_failed → ⊥) → IsHindered (IsUnkept unsunk) ⊥ nobody fault → ⊥
not_hindered fault m f (inl e) = m e
not_hindered fault m f (inr (inl e)) = f e
not_hindered fault m f (inr (inr (inl e))) = e.1.1
not_hindered fault m f (inr (inr (inr (inl bad)))) = bad.1
not_hindered fault m f (inr (inr (inr (inr denied)))) = denied.0

stops-other : (accounts : Accounts) → StopsDraining unsunk ⊥ nobody alice NoMessage accounts → ⊥
stops-other accounts (inl hindered) = not_hindered NoMessage (λ e. cc) (λ e. cc) hindered
stops-other accounts (inr (inl e)) = let no = e.0 in cc
stops-other accounts (inr (inr none)) = let e = none.0 in cc

-- near misses: the Maildir's fault, and no sink refused a call
stops-unsunk : (accounts : Accounts) → StopsDraining unsunk ⊥ nobody alice Stream accounts → ⊥
stops-unsunk accounts (inl hindered) = not_hindered Stream (λ e. cc) (λ e. cc) hindered
stops-unsunk accounts (inr (inl e)) = e.1
stops-unsunk accounts (inr (inr none)) = let e = none.0 in cc

stops-nowhere : (accounts : Accounts) → StopsDraining unsunk ⊥ nobody alice NoMaildir accounts → ⊥
stops-nowhere accounts (inl hindered) = not_hindered NoMaildir (λ e. cc) (λ e. cc) hindered
stops-nowhere accounts (inr (inl e)) = e.1
stops-nowhere accounts (inr (inr none)) = let e = none.0 in cc

-- near miss: busy, and nobody denied the store
busy-undenied : IsHindered (IsUnkept unsunk) ⊥ nobody Busy → ⊥
busy-undenied = not_hindered Busy (λ e. cc) (λ e. cc)

-- it was denied as busy, and is told so; near misses: told otherwise, and told where a value in the words is wrong
busy-denied : IsHindered ⊥ ⊥ busily Busy
busy-denied = inr (inr (inr (inr (refl, λ no. no))))

denied-otherwise : IsHindered ⊥ ⊥ busily NoMessage → ⊥
denied-otherwise (inl e) = cc
denied-otherwise (inr (inl e)) = cc
denied-otherwise (inr (inr (inl e))) = e.1
denied-otherwise (inr (inr (inr (inl bad)))) = bad.1
denied-otherwise (inr (inr (inr (inr denied)))) = let no = denied.0 in cc

denied-early : IsHindered ⊥ (Unit {0}) busily Busy → ⊥
denied-early (inl e) = cc
denied-early (inr (inl e)) = cc
denied-early (inr (inr (inl e))) = e.1
denied-early (inr (inr (inr (inl bad)))) = let no = bad.0 in cc
denied-early (inr (inr (inr (inr denied)))) = denied.1 tt

-- it was denied once all was read; near miss: denied while octets are left
busy-at-end : IsHindered ⊥ ⊥ (DeniedAtEnd busily (Some [])) Busy
busy-at-end = inr (inr (inr (inr ((refl, refl), λ no. no))))

busy-unread : IsHindered ⊥ ⊥ (DeniedAtEnd busily (Some (codes "M"))) Busy → ⊥
busy-unread (inl e) = cc
busy-unread (inr (inl e)) = cc
busy-unread (inr (inr (inl e))) = e.1
busy-unread (inr (inr (inr (inl bad)))) = bad.1
busy-unread (inr (inr (inr (inr denied)))) = let no = denied.0.1 in cc

-- near miss: a read that failed, of a word that reads nothing
unread-failed : IsHindered ⊥ ⊥ nobody Stream → ⊥
unread-failed (inl e) = cc
unread-failed (inr (inl e)) = cc
unread-failed (inr (inr (inl e))) = e.1
unread-failed (inr (inr (inr (inl bad)))) = bad.1
unread-failed (inr (inr (inr (inr denied)))) = denied.0

-- ---- what is told

-- a failed store is told with what its keeper said of it, and near miss: with what a sink said
abbrev causes : RunFault → Option (List ℕ)
causes = cause_of (Some (codes "disk is full")) (Some (codes "permission denied"))

failed-told : IsWritten (Some []) (Some (codes "sieved: store failed\nsieved: disk is full\n")) (run_fault_lines causes store_failed)
failed-told = inl refl

failed-otherwise : IsWritten (Some []) (Some (codes "sieved: store failed\nsieved: permission denied\n")) (run_fault_lines causes store_failed) → WriteFailed (Some (codes "sieved: store failed\nsieved: permission denied\n"))
failed-otherwise (inl more) = let no : 112 ≡ 100 = ap (λ l. get_or l 29 0) more in absurd (omega (arith, no))
failed-otherwise (inr cut) = cut.1

-- and of a user who is unknown nothing more is known
unknown-told : IsWritten (Some []) (Some (codes "sieved: no such user\n")) (run_fault_lines causes no_user)
unknown-told = inl refl

-- nothing is told only where a write failed
busy-untold : IsWritten (Some []) (Some []) (run_fault_lines causes Busy) → WriteFailed (Some [])
busy-untold (inl more) = let no = more in cc
busy-untold (inr cut) = cut.1

-- a script that isn't valid is told on the output alone; near miss: so is a store that is busy
invalid-untold : faults_told None (Err Invalid) ≡ []
invalid-untold = refl

busy-silent : faults_told None (Err Busy) ≡ [] → ⊥
busy-silent h = cc

-- why the store couldn't be closed comes before why there is no answer, and where the store failed that tells of both
both-faults_told : faults_told (Some Memory) (Err Busy) ≡ Refused Memory ∷ Busy ∷ []
both-faults_told = refl

one-fault : faults_told (Some Memory) (Err store_failed) ≡ store_failed ∷ []
one-fault = refl

-- ---- `users`

abbrev asked_for : Password
asked_for = record { salt = codes "s"; rounds = 1; digest = codes "d" }

abbrev her_account : Account
her_account = new_account (codes "a@b") asked_for

user-open : user_line (codes "alice") her_account ≡ codes "alice - a@b\n"
user-open = refl

user-active : user_line (codes "alice") (activates (Some (codes "a\"b")) her_account) ≡ codes "alice \"a\\\"b\" a@b\n"
user-active = refl

-- near miss: a script named by a hyphen stands between quotation marks
user-hyphen : user_line (codes "alice") (activates (Some (codes "-")) her_account) ≡ user_line (codes "alice") her_account → ⊥
user-hyphen e = cc

-- a closed one doesn't tell its address
user-closed : user_line (codes "alice") (closes her_account) ≡ codes "closed alice\n"
user-closed = refl

user-removed : user_line (codes "alice") (removes her_account) ≡ []
user-removed = refl
