-- The same acts of a user leave the user with the same account.
use Rattle.std.proofs.Common.{◌≡◌, ℕ, Bool, true, false, cond, List, [], ◌∷◌, Option, Some, None, MatchBool, option_map, refl, sym, ◌∙◌, ap, subst, inl, inr}
use Rattle.mail_address.proofs.Outbounds.{bare-found}
use Rattle.sieve_exec.specs.Mails.{mail_spec_of}
use Rattle.sieve_exec.specs.declared.envelope.Envelope.{Envelope}
use Rattle.managesieve_protocol.specs.declared.commands.ClientCommand.{ClientCommand}
use Rattle.managesieve_protocol.specs.declared.commands.ClientCommand.TheVariants.{Capability, Noop, Logout, Authenticate, Unauthenticate, HaveSpace, PutScript, CheckScript, ListScripts, SetActive, GetScript, DeleteScript, RenameScript}
use Rattle.managesieve_protocol.specs.declared.commands.ClientCommand.TheVariants as verb
use Rattle.managesieve_protocol.specs.declared.replies.ServerReply.{ServerReply}
use Rattle.store_accounts.specs.Account.{Account, is_closed_account, open_one, has_mail, messages_in}
use Rattle.store_accounts.specs.declared.queue.QueuedMessage.{QueuedMessage}
use Rattle.store_accounts.specs.declared.report.Report.{Report}
use Rattle.store_accounts.specs.declared.refusal.Refusal.{Refusal}
use Rattle.managesieve_sessions.specs.Replies.{is_ok}
use Rattle.managesieve_sessions.specs.Scripts.{IfElse, TellsFault, RepliesToText, RepliesToPut, RepliesToSet, RepliesToDelete, RepliesToRename, RepliesTo, obeyed, carried_out}
use Rattle.sieve_plan.specs.Sequences.{DeliversInSequence}
use Rattle.sieve_plan.proofs.SequenceLaws.{one_delivery_in_sequence}
use Rattle.store_engine.specs.declared.answer.Answer.{Answer}
use Rattle.store_engine.specs.Limits.{limit_refusal}
use Rattle.store_accounts.specs.Account.{row_with}
use Rattle.store_engine.specs.AccountEvents.{DeliversTo, deciding_text, MachineRefuses}
use Rattle.managesieve_sessions.specs.Table.{RepliesOf}
use Rattle.store_engine.specs.Upkeep.{instead}
use Rattle.store_engine.proofs.UpkeepLemmas.{keeps_one}
use Rattle.store_accounts.specs.declared.refusal.Refusal.TheVariants.{UserExists, UserHasMail}
use Rattle.store_engine.specs.OwnActs as own
use Rattle.store_engine.specs.declared.terms.Terms.{Terms}
use Rattle.store_engine.specs.OwnActs.{UserAct, ActsAlone, ActsInTurn, CommandsAlone, RepliesAlone, ReceivesOpen, ReceivesIn, RenewsAlone, JoinsIn, ReplacesAlone, ImportsIn, TakesRowAlone, TakesOpen, TakesFirstAlone, TakesMailOpen}

-- any two replies that a row allows agree in whether the word is OK
AreAlike : (ServerReply → Type 0) → Type 0
AreAlike Row = (one two : ServerReply) → Row one → Row two → is_ok one.word ≡ is_ok two.word

alike_one : (reply : ServerReply) → AreAlike (λ r. r ≡ reply)
unfolding AreAlike
alike_one reply one two is was = ap (λ (r : ServerReply). is_ok r.word) (is ∙ sym was)

alike_where : (P : Type 0) (A B : ServerReply → Type 0) → AreAlike A → AreAlike B → AreAlike (λ r. IfElse P (A r) (B r))
unfolding AreAlike
alike_where P A B as_one as_two one two (inl (p, is)) (inl (q, was)) = as_one one two is was
alike_where P A B as_one as_two one two (inr (p, is)) (inr (q, was)) = as_two one two is was
alike_where P A B as_one as_two one two (inl (p, is)) (inr (q, was)) = absurd (q p)
alike_where P A B as_one as_two one two (inr (p, is)) (inl (q, was)) = absurd (p q)

alike_fault : (text : List ℕ) → AreAlike (TellsFault text)
unfolding AreAlike
alike_fault text one two is was = ap (λ (r : ServerReply). is_ok r.word) is.4 ∙ sym (ap (λ (r : ServerReply). is_ok r.word) was.4)

alike_text : (text : List ℕ) (right : ServerReply) → AreAlike (RepliesToText text right)
alike_text text right = alike_where _ (λ r. r ≡ right) (TellsFault text) (alike_one right) (alike_fault text)

-- where a command of the user changes an account, it does so by one word
changes_one : (a : Account) (command : ClientCommand) (one two : ServerReply) → RepliesTo a command one → RepliesTo a command two → obeyed command one.word a ≡ obeyed command two.word a
unfolding AreAlike
changes_one a command one two is was = go command is was
  where
    by : (c : ClientCommand) (b d : Bool) → b ≡ d → cond b (carried_out c a) a ≡ cond d (carried_out c a) a
    by c b d same = ap (λ e. cond e (carried_out c a) a) same

    still : (b d : Bool) → cond b a a ≡ cond d a a
    still true true = refl
    still true false = refl
    still false true = refl
    still false false = refl

    put : (name text : List ℕ) → AreAlike (RepliesToPut a name text)
    put name text = alike_where _ _ _ (alike_where _ _ _ (alike_where _ _ _ (alike_text text _) (alike_one _)) (alike_one _)) (alike_one _)

    set : (name : List ℕ) → AreAlike (RepliesToSet a name)
    set name = alike_where _ _ _ (alike_one _) (alike_one _)

    delete : (name : List ℕ) → AreAlike (RepliesToDelete a name)
    delete name = alike_where _ _ _ (alike_where _ _ _ (alike_one _) (alike_one _)) (alike_one _)

    rename : (old new : List ℕ) → AreAlike (RepliesToRename a old new)
    rename old new = alike_where _ _ _ (alike_where _ _ _ (alike_where _ _ _ (alike_one _) (alike_one _)) (alike_one _)) (alike_one _)

    go : (c : ClientCommand) → RepliesTo a c one → RepliesTo a c two → obeyed c one.word a ≡ obeyed c two.word a
    go Capability h k = absurd h
    go (Noop tag) h k = absurd h
    go Logout h k = absurd h
    go (Authenticate mechanism response) h k = absurd h
    go (verb.Response text) h k = absurd h
    go Unauthenticate h k = absurd h
    go (CheckScript text) h k = absurd h
    go (HaveSpace name size) h k = still (is_ok one.word) (is_ok two.word)
    go ListScripts h k = still (is_ok one.word) (is_ok two.word)
    go (GetScript name) h k = still (is_ok one.word) (is_ok two.word)
    go (PutScript name text) h k = by (PutScript name text) (is_ok one.word) (is_ok two.word) (put name text one two h k)
    go (SetActive name) h k = by (SetActive name) (is_ok one.word) (is_ok two.word) (set name one two h k)
    go (DeleteScript name) h k = by (DeleteScript name) (is_ok one.word) (is_ok two.word) (delete name one two h k)
    go (RenameScript old new) h k = by (RenameScript old new) (is_ok one.word) (is_ok two.word) (rename old new one two h k)

commands_one : (account : Option Account) (command : ClientCommand) (octets : List ℕ) (one two : Option Account) → CommandsAlone account command octets one → CommandsAlone account command octets two → one ≡ two
commands_one account command octets one two is was = is.changed ∙ (go account command is.replies was.replies ∙ sym was.changed)
  where
    still : (a : Account) (b d : Bool) → Some (cond b a a) ≡ Some (cond d a a)
    still a true true = refl
    still a true false = refl
    still a false true = refl
    still a false false = refl

    -- to an account that is closed the command is early, whatever it is
    shown : (a : Account) (c : ClientCommand) (closed : Bool) → RepliesOf (cond closed None (Some a)) c is.reply → RepliesOf (cond closed None (Some a)) c was.reply → obeyed c is.reply.word a ≡ obeyed c was.reply.word a
    shown a c true h k = ap (λ (r : ServerReply). obeyed c r.word a) (h ∙ sym k)
    shown a c false h k = changes_one a c is.reply was.reply h k

    go : (o : Option Account) (c : ClientCommand) → RepliesAlone o c is.reply → RepliesAlone o c was.reply → option_map (obeyed c is.reply.word) o ≡ option_map (obeyed c was.reply.word) o
    go None c h k = refl
    go (Some a) Unauthenticate h k = still a (is_ok is.reply.word) (is_ok was.reply.word)
    go (Some a) (CheckScript text) h k = still a (is_ok is.reply.word) (is_ok was.reply.word)
    go (Some a) Capability h k = ap (λ b. Some b) (shown a Capability (is_closed_account a) h k)
    go (Some a) (Noop tag) h k = ap (λ b. Some b) (shown a (Noop tag) (is_closed_account a) h k)
    go (Some a) Logout h k = ap (λ b. Some b) (shown a Logout (is_closed_account a) h k)
    go (Some a) (Authenticate mechanism response) h k = ap (λ b. Some b) (shown a (Authenticate mechanism response) (is_closed_account a) h k)
    go (Some a) (verb.Response text) h k = ap (λ b. Some b) (shown a (verb.Response text) (is_closed_account a) h k)
    go (Some a) (HaveSpace name size) h k = ap (λ b. Some b) (shown a (HaveSpace name size) (is_closed_account a) h k)
    go (Some a) (PutScript name text) h k = ap (λ b. Some b) (shown a (PutScript name text) (is_closed_account a) h k)
    go (Some a) ListScripts h k = ap (λ b. Some b) (shown a ListScripts (is_closed_account a) h k)
    go (Some a) (SetActive name) h k = ap (λ b. Some b) (shown a (SetActive name) (is_closed_account a) h k)
    go (Some a) (GetScript name) h k = ap (λ b. Some b) (shown a (GetScript name) (is_closed_account a) h k)
    go (Some a) (DeleteScript name) h k = ap (λ b. Some b) (shown a (DeleteScript name) (is_closed_account a) h k)
    go (Some a) (RenameScript old new) h k = ap (λ b. Some b) (shown a (RenameScript old new) (is_closed_account a) h k)

-- ---- deliveries

delivered_one : (terms : Terms) (envelope : Envelope) (message : List ℕ) (a : Account) (r1 r2 : Report) (one two : Account) → DeliversTo terms envelope message a r1 one → DeliversTo terms envelope message a r2 two → one ≡ two
delivered_one terms envelope message a r1 r2 one two is was =
    let found : Some is.own ≡ Some was.own = sym (bare-found a.address is.own is.address) ∙ bare-found a.address was.own was.address in
    let same : is.own ≡ was.own = cc in
    (one_delivery_in_sequence was.own terms.host.scripts (mail_spec_of message envelope terms.when) (deciding_text terms.host.default a) a r1 r2 one two
    (subst (λ own. DeliversInSequence own terms.host.scripts (mail_spec_of message envelope terms.when) (deciding_text terms.host.default a) a r1 one) same is.delivers) was.delivers).1

receives_one : (o : Option Refusal) (account : Option Account) (envelope : Envelope) (message : List ℕ) (terms : Terms) (answer : Answer) (one two : Option Account)
    → ReceivesIn o account envelope message terms answer one → ReceivesIn o account envelope message terms answer two → one ≡ two
receives_one (Some refusal) account envelope message terms answer one two is was = is.stays ∙ sym was.stays
receives_one None account envelope message terms answer one two is was = go (open_one account) is was
  where
    go : (o : Option Account) → ReceivesOpen account o envelope message terms answer one → ReceivesOpen account o envelope message terms answer two → one ≡ two
    go None is was = is.stays ∙ sym was.stays
    go (Some a) is was = is.changed ∙ (ap (λ b. Some b) (delivered_one terms envelope message a is.report was.report is.after was.after is.delivers was.delivers) ∙ sym was.changed)

-- ---- acts

act_one : (user : List ℕ) (account : Option Account) (act : UserAct) (one two : Option Account) → ActsAlone user account act one → ActsAlone user account act two → one ≡ two
act_one user account (own.Commands command octets) one two is was = commands_one account command octets one two is was
act_one user account (own.LogsIn password succeeds) one two is was = is.stays ∙ sym was.stays
act_one user account (own.Receives envelope message terms answer) one two is was = receives_one (limit_refusal envelope message terms.when.moment) account envelope message terms answer one two is was
act_one user account (own.Joins address salt password answer) one two (inl (new, is)) (inl (too, was)) = go account is was
  where
    over : (a : Account) (closed full : Bool) → MatchBool closed (MatchBool full (MachineRefuses UserHasMail (Some a) answer one) (RenewsAlone a address salt password answer one)) (MachineRefuses UserExists (Some a) answer one)
        → MatchBool closed (MatchBool full (MachineRefuses UserHasMail (Some a) answer two) (RenewsAlone a address salt password answer two)) (MachineRefuses UserExists (Some a) answer two) → one ≡ two
    over a true true is was = is.stays ∙ sym was.stays
    over a true false is was = is.changed ∙ sym was.changed
    over a false full is was = is.stays ∙ sym was.stays

    go : (o : Option Account) → JoinsIn o address salt password answer one → JoinsIn o address salt password answer two → one ≡ two
    go None is was = is.changed ∙ sym was.changed
    go (Some a) is was = over a (is_closed_account a) (has_mail a) is was
act_one user account (own.Joins address salt password answer) one two (inr (bad, is)) (inr (too, was)) = is.stays ∙ sym was.stays
act_one user account (own.Joins address salt password answer) one two (inl (new, is)) (inr (bad, was)) = absurd (bad new)
act_one user account (own.Joins address salt password answer) one two (inr (bad, is)) (inl (new, was)) = absurd (bad new)
act_one user account (own.IsImported head parts answer) one two (inl (fit, is)) (inl (too, was)) = go account is was
  where
    over : (a : Account) (closed full : Bool) → MatchBool closed (MatchBool full (MachineRefuses UserHasMail (Some a) answer one) (ReplacesAlone a head parts answer one)) (MachineRefuses UserExists (Some a) answer one)
        → MatchBool closed (MatchBool full (MachineRefuses UserHasMail (Some a) answer two) (ReplacesAlone a head parts answer two)) (MachineRefuses UserExists (Some a) answer two) → one ≡ two
    over a true true is was = is.stays ∙ sym was.stays
    over a true false is was = is.changed ∙ sym was.changed
    over a false full is was = is.stays ∙ sym was.stays

    go : (o : Option Account) → ImportsIn o head parts answer one → ImportsIn o head parts answer two → one ≡ two
    go None is was = is.changed ∙ sym was.changed
    go (Some a) is was = over a (is_closed_account a) (has_mail a) is was
act_one user account (own.IsImported head parts answer) one two (inr (bad, is)) (inr (too, was)) = is.stays ∙ sym was.stays
act_one user account (own.IsImported head parts answer) one two (inl (fit, is)) (inr (bad, was)) = absurd (bad fit)
act_one user account (own.IsImported head parts answer) one two (inr (bad, is)) (inl (fit, was)) = absurd (bad fit)
act_one user account (own.TakesOut id answer) one two is was = go (open_one account) is was
  where
    row : (a : Account) (o : Option QueuedMessage) → TakesRowAlone a o answer one → TakesRowAlone a o answer two → one ≡ two
    row a None is was = is.stays ∙ sym was.stays
    row a (Some out) is was = is.changed ∙ sym was.changed

    go : (o : Option Account) → TakesOpen account o id answer one → TakesOpen account o id answer two → one ≡ two
    go None is was = is.stays ∙ sym was.stays
    go (Some a) is was = row a (row_with id a.queue) is was
act_one user account (own.TakesMail folder answer) one two is was = go (open_one account) is was
  where
    row : (a : Account) (messages : List (List ℕ)) → TakesFirstAlone a folder messages answer one → TakesFirstAlone a folder messages answer two → one ≡ two
    row a [] is was = is.stays ∙ sym was.stays
    row a (message ∷ more) is was = is.changed ∙ sym was.changed

    go : (o : Option Account) → TakesMailOpen account o folder answer one → TakesMailOpen account o folder answer two → one ≡ two
    go None is was = is.stays ∙ sym was.stays
    go (Some a) is was = row a (messages_in a.folders folder) is was
act_one user account (own.IsKept upkeep answer) one two is was = is.2 ∙ (ap (λ o. instead o account) (keeps_one answer is.0 was.0 upkeep account is.1 was.1) ∙ sym was.2)

pub alone_ends : (user : List ℕ) (acts : List UserAct) (account one two : Option Account) → ActsInTurn user account acts one → ActsInTurn user account acts two → one ≡ two
alone_ends user [] account one two is was = is ∙ sym was
alone_ends user (act ∷ more) account one two is was =
    let same = act_one user account act is.0 was.0 is.1 was.1 in
    alone_ends user more was.0 one two (subst (λ o. ActsInTurn user o more one) same is.2) was.2
