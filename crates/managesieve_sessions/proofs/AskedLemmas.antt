-- Steps over a store, from what their commands come to.
use Rattle.std.proofs.Common.{◌≡◌, ◌⊎◌, ℕ, Bool, true, false, not, ◌&&◌, cond, List, ◌++◌, Option, Some, None, Ok, Err, Result, OnOk, OnErr, IfErr, refl, sym, ap, ◌∙◌, subst, inl, inr}
use Rattle.std.specs.Prelude.{is_some}
use Rattle.sqlite.specs.State.{State, HasCleanDisk}
use Rattle.sqlite.proofs.StateLemmas.{survives_weaker}
use Rattle.managesieve_protocol.specs.declared.commands.ClientCommand.{ClientCommand}
use Rattle.managesieve_protocol.specs.declared.items.ClientItem.TheVariants as item
use Rattle.managesieve_protocol.specs.declared.items.ItemExtent.{ItemExtent}
use Rattle.managesieve_protocol.specs.declared.items.ItemExtent.TheVariants as reach
use Rattle.managesieve_protocol.specs.declared.replies.ServerReply.{ServerReply}
use Rattle.managesieve_protocol.specs.Replies.{reply_octets}
use Rattle.store_accounts.specs.declared.refusal.Refusal.{Refusal}
use Rattle.store_accounts.specs.Account.{Account, Accounts, open_account_of, with_user}
use Rattle.store_accounts.specs.Connection.{IsSettled}
use Rattle.store_accounts.specs.Promises.{HasOurTables}
use Rattle.store_accounts.specs.Refusals.{IsTransient}
use Rattle.managesieve_sessions.specs.declared.free.FreeOutcome.TheVariants.{Asks}
use Rattle.managesieve_sessions.specs.declared.progress.Progress.{Progress}
use Rattle.managesieve_sessions.specs.declared.progress.Progress.TheVariants.{Done}
use Rattle.managesieve_sessions.specs.declared.command_class.LoginCommand.{LoginCommand}
use Rattle.managesieve_sessions.specs.declared.command_class.LoginCommand.TheVariants as login
use Rattle.managesieve_sessions.specs.declared.command_class.NamedCommand.TheVariants as named
use Rattle.managesieve_sessions.specs.declared.command_class.StoreCommand.{StoreCommand}
use Rattle.managesieve_sessions.specs.declared.command_class.ScriptCommand.{ScriptCommand}
use Rattle.managesieve_sessions.specs.declared.command_class.ScriptCommand.TheVariants as script
use Rattle.managesieve_sessions.specs.declared.command_outcome.SessionChange.TheVariants.{Stay, LogOut}
use Rattle.managesieve_sessions.specs.declared.command_outcome.CommandOutcome.{CommandOutcome}
use Rattle.managesieve_sessions.specs.Acts.{HasAccounts, TurnsAccounts, CrashLeaves, Acts, Glances, IsCallAnswered, StoreStays, StaysOpen}
use Rattle.managesieve_sessions.specs.Clients.{Client, item_in, reach_in, without_octets, after_logout, without_first}
use Rattle.managesieve_sessions.specs.Orders.{ObeysUser, ObeyedTo, MayObey, SessionStepsTo, MayStep, MayRefuse}
use Rattle.managesieve_sessions.specs.Refusing.{WasRefused, was_refused}
use Rattle.managesieve_sessions.specs.Steps.{IsStep, StepsOver, HasFirstCommand, Asked, progress_of, is_free, asks_store, asks_memory, may_lack, may_fail}
use Rattle.managesieve_sessions.specs.CommandClasses.{of_login, of_script, of_store_command}
use Rattle.managesieve_sessions.specs.Scripts.{obeyed}
use Rattle.managesieve_sessions.specs.Table.{is_about_scripts, is_early, RepliesOf}
use Rattle.managesieve_sessions.specs.CommandOutcomes.{IsCommandOutcome, FitsLogin, IsFreeOutcome, client_after, login_text, admitted_in}
use Rattle.managesieve_sessions.proofs.ActLemmas.{lasting, acts_read, no_glance}
use Rattle.managesieve_sessions.proofs.FreeLemmas.{from_item}
use Rattle.managesieve_sessions.proofs.LawLemmas.{turn_step, script_step, closed_step}
use Rattle.managesieve_sessions.proofs.OrderLemmas.{done, refused}

-- ---- which command it is

pub about_scripts : (script : ScriptCommand) → is_about_scripts (of_script script) ≡ true
about_scripts (script.Get name) = refl
about_scripts (script.Named (named.HaveSpace name size)) = refl
about_scripts (script.Named (named.PutScript name text)) = refl
about_scripts (script.Named named.ListScripts) = refl
about_scripts (script.Named (named.SetActive name)) = refl
about_scripts (script.Named (named.DeleteScript name)) = refl
about_scripts (script.Named (named.RenameScript old new)) = refl

pub login_other : (login : LoginCommand) → is_about_scripts (of_login login) ≡ false
login_other (login.Authenticate mechanism response) = refl
login_other (login.Response text) = refl

-- ---- calls with another answer

pub acts_other : {X Y : Type 0} (a b : State) (T U M N : Accounts → Accounts → Type 0) (r : Result X Refusal) (q : Result Y Refusal) → ((accounts later : Accounts) → T accounts later → U accounts later)
    → ((accounts later : Accounts) → M accounts later → N accounts later) → ((P : Type 0) → OnOk r P → OnOk q P) → ((P : Type 0) → OnErr r P → OnErr q P) → (IsCallAnswered q → IsCallAnswered r)
    → Acts T M a b r → Acts U N a b q
acts_other a b T U M N r q turn may ok err answered acts = record {
  carries = carries;
  same = λ clean tables. err _ (acts.same clean tables);
  live = live;
  shut = acts.shut;
  crash = survives_weaker a b (CrashLeaves M a) (CrashLeaves N a) (λ clean db after_logout accounts p. let it = after_logout accounts p in (it.0, may accounts it.0 it.1, it.2)) acts.crash;
  durable = durable;
  lasts = lasting U a b q carries live durable;
}
  where
    carries : TurnsAccounts U a b
    carries clean accounts shown = let it = acts.carries clean accounts shown in (it.0, turn accounts it.0 it.1, it.2)

    live : StaysOpen a b q
    live clean open_before = ok _ (acts.live clean open_before)

    durable : HasCleanDisk b → HasOurTables a.now → IsCallAnswered q → IsSettled b ⊎ StoreStays a b
    durable clean tables told = acts.durable clean tables (answered told)

-- ---- the steps

-- of a session where this comes first
module _ (c : Client) (order : StoreCommand) (asked : Asked c order) where
  pub first_reach : reach_in c ≡ reach.Command asked.used
  first_reach = from_item c.pending c.unread (reach_in c) (of_store_command order) asked.used asked.first

  module _ (user : List ℕ) (is : c.user ≡ Some user) (about : is_about_scripts (of_store_command order) ≡ true) where
    -- the session after it: where the account isn't open any more it is logged out
    abbrev obeyed_client : Bool → Client
    obeyed_client is_open = client_after (cond is_open Stay LogOut) (without_octets asked.used c)

    obeyed_step : (reply : ServerReply) (accounts later : Accounts) → ObeysUser user (of_store_command order) reply accounts later
        → IsStep accounts c Done (reply_octets reply) (obeyed_client (is_some (open_account_of accounts user))) later
    obeyed_step reply accounts later o =
        subst (IsStep accounts c Done (reply_octets reply) (obeyed_client (is_some (open_account_of accounts user)))) (sym o.changed) (go (open_account_of accounts user) refl o.replies)
      where
        go : (a : Option Account) → open_account_of accounts user ≡ a → RepliesOf a (of_store_command order) reply
            → IsStep accounts c Done (reply_octets reply) (client_after (cond (is_some a) Stay LogOut) (without_octets asked.used c)) (with_user accounts user (obeyed (of_store_command order) reply.word))
        go None none replies =
            subst (λ (r : ServerReply). IsStep accounts c Done (reply_octets r) (after_logout (without_octets asked.used c)) (with_user accounts user (obeyed (of_store_command order) r.word))) (sym replies)
            (closed_step accounts c (of_store_command order) asked.used user (asked.live, asked.first) about is none)
        go (Some a) has replies = script_step accounts c (of_store_command order) asked.used user a reply (asked.live, asked.first) about is has replies

    may_step : (accounts later : Accounts) → MayObey user (of_store_command order) accounts later → MayStep c accounts later
    may_step accounts later o = (Done, reply_octets o.0, obeyed_client (is_some (open_account_of accounts user)), obeyed_step o.0 accounts later o.1)

    pub scripts_refused : (a b : State) (e f : Refusal) (before after : List ℕ) → IsTransient f → Acts (ObeyedTo user (of_store_command order) (refused e) before after) (MayObey user (of_store_command order)) a b (refused e)
        → Acts {X = Progress} (SessionStepsTo c c (Err f) before after) (MayStep c) a b (Err f)
    scripts_refused a b e f before after transient acts =
        acts_other {Y = Progress} a b (ObeyedTo user (of_store_command order) (refused e) before after) (SessionStepsTo c c (Err f) before after) (MayObey user (of_store_command order)) (MayStep c) (refused e) (Err f) (λ accounts later same. same) may_step (λ P h. tt) (λ P h. h)
        (λ told. absurd (told transient)) acts

    pub scripts_answered : (a b : State) (d : Client) (is_open : Bool) (before after : List ℕ) → d ≡ client_after (cond is_open Stay LogOut) (without_first false (reach_in c) c)
        → Acts (ObeyedTo user (of_store_command order) (done is_open) before after) (MayObey user (of_store_command order)) a b (done is_open) → Acts {X = Progress} (SessionStepsTo c d (Ok Done) before after) (MayStep c) a b (Ok Done)
    scripts_answered a b d is_open before after session acts =
        acts_other {Y = Progress} a b (ObeyedTo user (of_store_command order) (done is_open) before after) (SessionStepsTo c d (Ok Done) before after) (MayObey user (of_store_command order)) (MayStep c) (done is_open) (Ok Done)
        (λ accounts later o. (reply_octets o.0, o.2, subst (λ (k : Client). IsStep accounts c Done (reply_octets o.0) k later) (sym (left_so accounts o.1)) (obeyed_step o.0 accounts later o.3))) may_step (λ P h. h) (λ P h. tt) (λ told. tt) acts
      where
        left_so : (accounts : Accounts) → is_open ≡ is_some (open_account_of accounts user) → d ≡ client_after (cond (is_some (open_account_of accounts user)) Stay LogOut) (without_octets asked.used c)
        left_so accounts same = session ∙ ap (λ (r : ItemExtent). client_after (cond is_open Stay LogOut) (without_first false r c)) first_reach ∙ ap (λ (b : Bool). client_after (cond b Stay LogOut) (without_octets asked.used c)) same

  -- a login, or a failed one
  pub login_answered : (a b : State) (d : Client) (who : Option (List ℕ)) (turn : CommandOutcome) (progress : Progress) (before after : List ℕ) → is_about_scripts (of_store_command order) ≡ false → StaysOpen {X = Progress} a b (Ok progress) → Glances a b
      → (HasCleanDisk b → (accounts : Accounts) → HasAccounts a accounts → admitted_in accounts (login_text c.user (of_store_command order)) ≡ who) → IsCommandOutcome (FitsLogin c.user c.failures (of_store_command order) who) (of_store_command order) turn
      → after ≡ before ++ reply_octets turn.reply → d ≡ client_after turn.session_change (without_first false (reach_in c) c) → progress ≡ progress_of d
      → Acts {X = Progress} (SessionStepsTo c d (Ok progress) before after) (MayStep c) a b (Ok progress)
  login_answered a b d who turn progress before after other live glances found is told session goes =
      acts_read a b (SessionStepsTo c d (Ok progress) before after) (MayStep c) (Ok progress) live glances (λ clean accounts shown. (reply_octets turn.reply, told, step accounts (found clean accounts shown)))
    where
      after_logout : d ≡ client_after turn.session_change (without_octets asked.used c)
      after_logout = session ∙ ap (λ (r : ItemExtent). client_after turn.session_change (without_first false r c)) first_reach

      step : (accounts : Accounts) → admitted_in accounts (login_text c.user (of_store_command order)) ≡ who → IsStep accounts c progress (reply_octets turn.reply) d accounts
      step accounts admits =
          let fits : FitsLogin c.user c.failures (of_store_command order) who accounts (without_octets asked.used c) = record { user_is = refl; failed = refl; admits = admits } in
          subst (λ (p : Progress). IsStep accounts c p (reply_octets turn.reply) d accounts) (sym goes)
          (subst (λ (e : Client). IsStep accounts c (progress_of e) (reply_octets turn.reply) e accounts) (sym after_logout)
          (turn_step accounts c (of_store_command order) asked.used turn (asked.live, asked.first) asked.late other (is.replies accounts (without_octets asked.used c) fits) (is.session accounts (without_octets asked.used c) fits)))

-- ---- steps that ask no store

pub over_acts : (c d : Client) (progress : Progress) (before after : List ℕ) (a : State) → StepsOver c d progress before after → Acts {X = Progress} (SessionStepsTo c d (Ok progress) before after) (MayStep c) a a (Ok progress)
over_acts c d progress before after a over =
    acts_read a a (SessionStepsTo c d (Ok progress) before after) (MayStep c) (Ok progress) (λ clean is_open. is_open) (no_glance a) (λ clean accounts shown. (over.octets, over.written, over.step accounts))

-- a step that is refused before anything is written
pub refused_acts : (c d : Client) (q : Result Progress Refusal) (before after : List ℕ) (a b : State) → OnOk q ⊥ → Glances a b → Acts (SessionStepsTo c d q before after) (MayStep c) a b q
refused_acts c d (Ok progress) before after a b none glances = absurd none
refused_acts c d (Err e) before after a b none glances = acts_read a b (SessionStepsTo c d (Err e) before after) (MayStep c) (Err e) (λ clean open_before. tt) glances (λ clean accounts shown. refl)

-- a command that comes first asks for memory
pub command_lacks : (c : Client) (command : ClientCommand) → HasFirstCommand c command → may_lack c ≡ true
command_lacks c command has = ap (λ (b : Bool). not b && asks_memory (item_in c)) has.live ∙ ap asks_memory has.first

-- a command that is answered over the store asks for memory, and the store
lack_asked : (c : Client) (order : StoreCommand) → Asked c order → may_lack c ≡ true
lack_asked c order asked = ap (λ (b : Bool). not b && asks_memory (item_in c)) asked.live ∙ ap asks_memory asked.first

fail_asked : (c : Client) (order : StoreCommand) → Asked c order → may_fail c ≡ true
fail_asked c order asked =
    ap (λ (b : Bool). not b && asks_store c (item_in c)) asked.live
    ∙ ap (asks_store c) asked.first
    ∙ ap (λ (b : Bool). not b && not (is_free (of_store_command order))) asked.late
    ∙ ap not asked.asks

-- its refusal is one of a step
pub asked_refused : (c : Client) (order : StoreCommand) → Asked c order → (r : Result Progress Refusal) → IfErr r IsTransient → OnErr r (WasRefused c)
asked_refused c order asked (Ok progress) named = tt
asked_refused c order asked (Err e) (inl is) = was_refused c e (subst (MayRefuse c) (sym is) (lack_asked c order asked))
asked_refused c order asked (Err e) (inr is) = was_refused c e (subst (MayRefuse c) (sym is) (fail_asked c order asked))

-- an order comes first, where its command does and the store is asked about it
pub asked_by : (c : Client) (command : ClientCommand) (order : StoreCommand) → HasFirstCommand c command → IsFreeOutcome c.user command (Asks order) → Asked c order
asked_by c command order has (late, asks, is, owner) = record {
  live = has.live;
  used = has.used;
  first = has.first ∙ ap (λ (k : ClientCommand). item.Command k has.used) (sym is);
  owner = owner;
  late = ap (is_early c) is ∙ late;
  asks = ap is_free is ∙ asks;
}
