-- Steps on commands that ask no store.
use Rattle.std.proofs.Common.{◌≡◌, ℕ, Bool, true, false, not, List, ◌++◌, take, refl, sym, ap, ◌∙◌, subst, inl, inr}
use Rattle.std.proofs.lemmas.Bool.{false≢true, and_parts, not-true}
use Rattle.managesieve_protocol.specs.declared.commands.ClientCommand.{ClientCommand}
use Rattle.managesieve_protocol.specs.declared.commands.ClientCommand.TheVariants.{Capability, Noop, Logout, Authenticate, Unauthenticate, HaveSpace, PutScript, CheckScript, ListScripts, SetActive, GetScript, DeleteScript, RenameScript, Response}
use Rattle.managesieve_protocol.specs.declared.items.ClientItem.TheVariants as item
use Rattle.managesieve_protocol.specs.declared.items.ItemExtent.{ItemExtent}
use Rattle.managesieve_protocol.specs.declared.items.ItemExtent.TheVariants as reach
use Rattle.managesieve_protocol.specs.Replies.{reply_octets}
use Rattle.managesieve_protocol.specs.Values.{command_in, item_at}
use Rattle.store_accounts.specs.Account.{Accounts}
use Rattle.managesieve_sessions.specs.declared.progress.Progress.{Progress}
use Rattle.managesieve_sessions.specs.declared.command_outcome.CommandOutcome.{CommandOutcome}
use Rattle.managesieve_sessions.specs.declared.command_outcome.SessionChange.TheVariants.{Stay}
use Rattle.managesieve_sessions.specs.Clients.{Client, reach_in, item_in, is_command, without_octets, without_first}
use Rattle.managesieve_sessions.specs.Laws.{ComesFirst}
use Rattle.managesieve_sessions.specs.Steps.{IsStep, StepsOver, HasFirstCommand, progress_of, has_command, is_free}
use Rattle.managesieve_sessions.specs.Table.{is_early, is_about_scripts, early_reply}
use Rattle.managesieve_sessions.specs.CommandOutcomes.{client_after, IsOutcomeAlone}
use Rattle.managesieve_sessions.proofs.LawLemmas.{early, still_open, turn_step}

-- ---- the command that comes first

pub command_first : (c : Client) → has_command c ≡ true → (command : ClientCommand) × HasFirstCommand c command
command_first c h = by (reach_in c) refl (and_parts (not c.closed) (is_command (reach_in c)) h).1
  where
    live : c.closed ≡ false
    live = not-true c.closed (and_parts (not c.closed) (is_command (reach_in c)) h).0

    by : (r : ItemExtent) → reach_in c ≡ r → is_command r ≡ true → (command : ClientCommand) × HasFirstCommand c command
    by reach.Need e h = absurd (false≢true h)
    by (reach.Command n) e h = (command_in c.pending (take n c.unread), record { live = live; used = n; first = ap (item_at c.pending c.unread) e })
    by (reach.Bad n) e h = absurd (false≢true h)
    by reach.TooBig e h = absurd (false≢true h)

-- its reach
pub from_item : (pending : Bool) (unread : List ℕ) (r : ItemExtent) (command : ClientCommand) (used : ℕ) → item_at pending unread r ≡ item.Command command used → r ≡ reach.Command used
from_item pending unread reach.Need command used e = let no : item.Need ≡ item.Command command used = e in cc
from_item pending unread (reach.Command n) command used e =
    let same : item.Command (command_in pending (take n unread)) n ≡ item.Command command used = e in
    let number : n ≡ used = cc in
    ap (λ (m : ℕ). reach.Command m) number
from_item pending unread (reach.Bad n) command used e = let no : item.Bad n ≡ item.Command command used = e in cc
from_item pending unread reach.TooBig command used e = let no : item.TooBig ≡ item.Command command used = e in cc

-- ---- the step of its turn

pub turn_over : (c first d : Client) (command : ClientCommand) (used : ℕ) (turn : CommandOutcome) (progress : Progress) (out before later : List ℕ)
    → first ≡ c → before ≡ out → item_in first ≡ item.Command command used → d ≡ client_after turn.session_change (without_first false (reach_in first) first)
    → progress ≡ progress_of d → later ≡ before ++ reply_octets turn.reply
    → ((accounts : Accounts) → IsStep accounts first (progress_of (client_after turn.session_change (without_octets used first))) (reply_octets turn.reply) (client_after turn.session_change (without_octets used first)) accounts)
    → StepsOver c d progress out later
turn_over c first d command used turn progress out before later same outs is session goes told step =
    subst (λ (v : Client). StepsOver v d progress out later) same (record {
      octets = reply_octets turn.reply;
      written = told ∙ ap (λ (o : List ℕ). o ++ reply_octets turn.reply) outs;
      step = λ accounts.
          subst (λ (p : Progress). IsStep accounts first p (reply_octets turn.reply) d accounts) (sym goes)
          (subst (λ (e : Client). IsStep accounts first (progress_of e) (reply_octets turn.reply) e accounts) (sym left) (step accounts));
    })
  where
    left : d ≡ client_after turn.session_change (without_octets used first)
    left = session ∙ ap (λ (r : ItemExtent). client_after turn.session_change (without_first false r first)) (from_item first.pending first.unread (reach_in first) command used is)

pub early_turn : (accounts : Accounts) (c : Client) (command : ClientCommand) (used : ℕ) (turn : CommandOutcome) → ComesFirst c command used → is_early c command ≡ true → turn ≡ record { reply = early_reply; session_change = Stay }
    → IsStep accounts c (progress_of (client_after turn.session_change (without_octets used c))) (reply_octets turn.reply) (client_after turn.session_change (without_octets used c)) accounts
early_turn accounts c command used turn first e is =
    subst (λ (t : CommandOutcome). IsStep accounts c (progress_of (client_after t.session_change (without_octets used c))) (reply_octets t.reply) (client_after t.session_change (without_octets used c)) accounts) (sym is)
    (subst (λ (p : Progress). IsStep accounts c p (reply_octets early_reply) (without_octets used c) accounts) (still_open (without_octets used c) first.0) (early accounts c command used first e))

-- ---- commands that ask no store

pub free_other : (command : ClientCommand) → is_free command ≡ true → is_about_scripts command ≡ false
free_other Capability h = refl
free_other (Noop tag) h = refl
free_other Logout h = refl
free_other (Authenticate mechanism response) h = absurd (false≢true h)
free_other Unauthenticate h = refl
free_other (HaveSpace name size) h = absurd (false≢true h)
free_other (PutScript name script) h = absurd (false≢true h)
free_other (CheckScript text) h = refl
free_other ListScripts h = absurd (false≢true h)
free_other (SetActive name) h = absurd (false≢true h)
free_other (GetScript name) h = absurd (false≢true h)
free_other (DeleteScript name) h = absurd (false≢true h)
free_other (RenameScript old new) h = absurd (false≢true h)
free_other (Response text) h = absurd (false≢true h)

pub free_turn_step : (accounts : Accounts) (c : Client) (command : ClientCommand) (used : ℕ) (turn : CommandOutcome) → ComesFirst c command used → IsOutcomeAlone c.user command turn
    → IsStep accounts c (progress_of (client_after turn.session_change (without_octets used c))) (reply_octets turn.reply) (client_after turn.session_change (without_octets used c)) accounts
free_turn_step accounts c command used turn first (inl lacks) = early_turn accounts c command used turn first lacks.0 lacks.1
free_turn_step accounts c command used turn first (inr (late, free, row)) =
    turn_step accounts c command used turn first late (free_other command free) (row.replies accounts (without_octets used c) refl) (row.session accounts (without_octets used c) refl)
