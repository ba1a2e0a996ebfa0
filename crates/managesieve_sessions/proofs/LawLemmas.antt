-- From what a command comes to, to the step that it makes.
use Rattle.std.proofs.Common.{◌≡◌, ℕ, Bool, true, false, ◌&&◌, cond, List, Option, Some, None, MatchBool, refl, sym, ap, ◌∙◌, subst}
use Rattle.std.specs.Prelude.{is_none}
use Rattle.std.proofs.lemmas.Bool.{false≢true}
use Rattle.std.proofs.lemmas.Cmp.{nat_list_cmp_total}
use Rattle.std.specs.declared.cmp.Ordering.{Ordering}
use Rattle.std.specs.declared.cmp.Ordering.TheVariants.{Less, Equal, Greater}
use Rattle.std.specs.FinMap.{get, insert, same_map, get-insert}
use Rattle.std.specs.Ordering.{is_eq}
use Rattle.managesieve_protocol.specs.declared.commands.ClientCommand.{ClientCommand}
use Rattle.managesieve_protocol.specs.declared.commands.ClientCommand.TheVariants.{Capability, Noop, Logout, Authenticate, Unauthenticate, HaveSpace, PutScript, CheckScript, ListScripts, SetActive, GetScript, DeleteScript, RenameScript, Response}
use Rattle.managesieve_protocol.specs.declared.items.ClientItem.TheVariants as item
use Rattle.managesieve_protocol.specs.declared.replies.ServerReply.{ServerReply}
use Rattle.managesieve_protocol.specs.declared.replies.Status.{Status}
use Rattle.managesieve_protocol.specs.Replies as octets_of
use Rattle.store_accounts.specs.Account.{Account, Accounts, bytes_cmp, open_account_of, with_user, in_place}
use Rattle.store_accounts.proofs.AccountLemmas.{bytes_antisymmetric}
use Rattle.managesieve_sessions.specs.declared.progress.Progress.TheVariants.{Close, Done}
use Rattle.managesieve_sessions.specs.Clients.{Client, without_octets, after_logout}
use Rattle.managesieve_sessions.specs.Laws.{ComesFirst, EarlySteps, TurnSteps, ScriptSteps, ClosedSteps}
use Rattle.managesieve_sessions.specs.Replies.{is_ok}
use Rattle.managesieve_sessions.specs.Scripts.{carried_out, obeyed}
use Rattle.managesieve_sessions.specs.Steps.{IsStep, changed_for, progress_of}
use Rattle.managesieve_sessions.specs.Table.{needs_login, is_early, is_about_scripts, early_reply, account_of, RepliesOf, RepliesTaken, RepliesIn, asked_client, taken_client, client_in}
use Rattle.managesieve_sessions.specs.CommandOutcomes.{client_after}
use Rattle.managesieve_sessions.proofs.StepLemmas.{step_at}

-- ---- accounts that stay

-- an account put where it is leaves the accounts
untouched : (accounts : Accounts) (user : List ℕ) → with_user accounts user (λ a. a) ≡ accounts
untouched accounts user = go (get accounts user) refl
  where
    go : (o : Option Account) → get accounts user ≡ o → in_place accounts user (λ a. a) o ≡ accounts
    go None is = refl
    go (Some a) is = same_map nat_list_cmp_total bytes_antisymmetric (insert accounts user a) accounts (λ q. get-insert nat_list_cmp_total accounts user a q ∙ at q (bytes_cmp q user) refl)
      where
        at : (q : List ℕ) (o : Ordering) → bytes_cmp q user ≡ o → cond (is_eq o) (Some a) (get accounts q) ≡ get accounts q
        at q Less tie = refl
        at q Equal tie = sym is ∙ ap (get accounts) (sym (bytes_antisymmetric q user tie))
        at q Greater tie = refl

pub none_changed : (accounts : Accounts) (user : Option (List ℕ)) (change : Account → Account) → ((a : Account) → change a ≡ a) → accounts ≡ changed_for user change accounts
none_changed accounts None change same = refl
none_changed accounts (Some user) change same =
    let kept : change ≡ (λ a. a) = λ i a. same a i in
    sym (ap (with_user accounts user) kept ∙ untouched accounts user)

-- a command that isn't about scripts carries nothing out
nothing_done : (command : ClientCommand) → is_about_scripts command ≡ false → (a : Account) → carried_out command a ≡ a
nothing_done Capability h a = refl
nothing_done (Noop tag) h a = refl
nothing_done Logout h a = refl
nothing_done (Authenticate mechanism response) h a = refl
nothing_done Unauthenticate h a = refl
nothing_done (HaveSpace name size) h a = absurd (false≢true (sym h))
nothing_done (PutScript name script) h a = absurd (false≢true (sym h))
nothing_done (CheckScript text) h a = refl
nothing_done ListScripts h a = absurd (false≢true (sym h))
nothing_done (SetActive name) h a = absurd (false≢true (sym h))
nothing_done (GetScript name) h a = absurd (false≢true (sym h))
nothing_done (DeleteScript name) h a = absurd (false≢true (sym h))
nothing_done (RenameScript old new) h a = absurd (false≢true (sym h))
nothing_done (Response text) h a = refl

quiet : (command : ClientCommand) (word : Option Status) → is_about_scripts command ≡ false → (a : Account) → obeyed command word a ≡ a
quiet command word h a = go (is_ok word)
  where
    go : (b : Bool) → cond b (carried_out command a) a ≡ a
    go true = nothing_done command h a
    go false = refl

-- a reply that is no OK changes nothing
declined_quiet : (command : ClientCommand) (a : Account) → obeyed command early_reply.word a ≡ a
declined_quiet command a = refl

-- ---- commands about scripts

about_replies : (accounts : Accounts) (c : Client) (command : ClientCommand) (reply : ServerReply) → is_about_scripts command ≡ true → RepliesOf (account_of accounts c.user) command reply → RepliesTaken accounts c command reply
about_replies accounts c Capability reply h r = absurd (false≢true h)
about_replies accounts c (Noop tag) reply h r = absurd (false≢true h)
about_replies accounts c Logout reply h r = absurd (false≢true h)
about_replies accounts c (Authenticate mechanism response) reply h r = absurd (false≢true h)
about_replies accounts c Unauthenticate reply h r = absurd (false≢true h)
about_replies accounts c (HaveSpace name size) reply h r = r
about_replies accounts c (PutScript name script) reply h r = r
about_replies accounts c (CheckScript text) reply h r = absurd (false≢true h)
about_replies accounts c ListScripts reply h r = r
about_replies accounts c (SetActive name) reply h r = r
about_replies accounts c (GetScript name) reply h r = r
about_replies accounts c (DeleteScript name) reply h r = r
about_replies accounts c (RenameScript old new) reply h r = r
about_replies accounts c (Response text) reply h r = absurd (false≢true h)

about_client : (accounts : Accounts) (c : Client) (command : ClientCommand) → is_about_scripts command ≡ true → asked_client (account_of accounts c.user) c ≡ taken_client accounts command c
about_client accounts c Capability h = absurd (false≢true h)
about_client accounts c (Noop tag) h = absurd (false≢true h)
about_client accounts c Logout h = absurd (false≢true h)
about_client accounts c (Authenticate mechanism response) h = absurd (false≢true h)
about_client accounts c Unauthenticate h = absurd (false≢true h)
about_client accounts c (HaveSpace name size) h = refl
about_client accounts c (PutScript name script) h = refl
about_client accounts c (CheckScript text) h = absurd (false≢true h)
about_client accounts c ListScripts h = refl
about_client accounts c (SetActive name) h = refl
about_client accounts c (GetScript name) h = refl
about_client accounts c (DeleteScript name) h = refl
about_client accounts c (RenameScript old new) h = refl
about_client accounts c (Response text) h = absurd (false≢true h)

late : (c : Client) (command : ClientCommand) (user : List ℕ) → c.user ≡ Some user → is_early c command ≡ false
late c command user is = ap (λ (o : Option (List ℕ)). needs_login command && is_none o) is ∙ go (needs_login command)
  where
    go : (b : Bool) → (b && false) ≡ false
    go true = refl
    go false = refl

-- ---- the steps

replies_late : (accounts : Accounts) (c : Client) (command : ClientCommand) (reply : ServerReply) → is_early c command ≡ false → RepliesTaken accounts c command reply → RepliesIn accounts c command reply
replies_late accounts c command reply e r = subst (λ (b : Bool). MatchBool b (reply ≡ early_reply) (RepliesTaken accounts c command reply)) (sym e) r

client_late : (accounts : Accounts) (c : Client) (command : ClientCommand) → is_early c command ≡ false → taken_client accounts command c ≡ client_in accounts command c
client_late accounts c command e = sym (ap (λ (b : Bool). cond b c (taken_client accounts command c)) e)

pub still_open : (c : Client) → c.closed ≡ false → Done ≡ progress_of c
still_open c live = sym (ap (λ (b : Bool). cond b Close Done) live)

pub early : EarlySteps
early accounts c command used first e =
    step_at accounts c (item.Command command used) Done (octets_of.reply_octets early_reply) (without_octets used c) accounts first.0 first.1 (record {
      reply = early_reply;
      replies = subst (λ (b : Bool). MatchBool b (early_reply ≡ early_reply) (RepliesTaken accounts (without_octets used c) command early_reply)) (sym e) refl;
      spelled = refl;
      session = sym (ap (λ (b : Bool). cond b (without_octets used c) (taken_client accounts command (without_octets used c))) e);
      goes_on = still_open (without_octets used c) first.0;
      changed = none_changed accounts c.user (obeyed command early_reply.word) (declined_quiet command);
    })

pub turn_step : TurnSteps
turn_step accounts c command used turn first e other replies session =
    step_at accounts c (item.Command command used) (progress_of (client_after turn.session_change (without_octets used c))) (octets_of.reply_octets turn.reply) (client_after turn.session_change (without_octets used c)) accounts first.0 first.1 (record {
      reply = turn.reply;
      replies = replies_late accounts (without_octets used c) command turn.reply e replies;
      spelled = refl;
      session = sym session ∙ client_late accounts (without_octets used c) command e;
      goes_on = refl;
      changed = none_changed accounts c.user (obeyed command turn.reply.word) (quiet command turn.reply.word other);
    })

-- one about scripts, by what the user's open account is
about_step : (accounts : Accounts) (c : Client) (command : ClientCommand) (used : ℕ) (user : List ℕ) (o : Option Account) (reply : ServerReply) → ComesFirst c command used → is_about_scripts command ≡ true → c.user ≡ Some user
    → open_account_of accounts user ≡ o → RepliesOf o command reply
    → IsStep accounts c Done (octets_of.reply_octets reply) (asked_client o (without_octets used c)) (with_user accounts user (obeyed command reply.word))
about_step accounts c command used user o reply first about user_is has replies =
    let e = late (without_octets used c) command user user_is in
    let account : account_of accounts c.user ≡ o = ap (account_of accounts) user_is ∙ has in
    step_at accounts c (item.Command command used) Done (octets_of.reply_octets reply) (asked_client o (without_octets used c)) (with_user accounts user (obeyed command reply.word)) first.0 first.1 (record {
      reply = reply;
      replies = replies_late accounts (without_octets used c) command reply e (about_replies accounts (without_octets used c) command reply about (subst (λ (o : Option Account). RepliesOf o command reply) (sym account) replies));
      spelled = refl;
      session = sym (ap (λ (o : Option Account). asked_client o (without_octets used c)) account) ∙ about_client accounts (without_octets used c) command about ∙ client_late accounts (without_octets used c) command e;
      goes_on = asked_open o (without_octets used c) first.0;
      changed = sym (ap (λ (o : Option (List ℕ)). changed_for o (obeyed command reply.word) accounts) user_is);
    })
  where
    asked_open : (o : Option Account) (d : Client) → d.closed ≡ false → Done ≡ progress_of (asked_client o d)
    asked_open None d live = still_open (after_logout d) live
    asked_open (Some a) d live = still_open d live

pub script_step : ScriptSteps
script_step accounts c command used user a reply first about user_is has replies = about_step accounts c command used user (Some a) reply first about user_is has replies

pub closed_step : ClosedSteps
closed_step accounts c command used user first about user_is none = about_step accounts c command used user None early_reply first about user_is none refl
