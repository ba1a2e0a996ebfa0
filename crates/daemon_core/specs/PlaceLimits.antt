-- How many clients there may be is fixed, whatever happens to the daemon.
use Rattle.std.specs.Prelude.{◌⊎◌, ℕ, ◌==◌, Bool, true, false, List}
use Rattle.std.proofs.Common.{inl, inr, ap}
use Rattle.net_loop.specs.Rules.{SameLimits, KeepsLimits}
use Rattle.daemon_core.specs.DaemonRules.{lmtp}
use Rattle.daemon_core.specs.StoreAccess.{View}
use Rattle.daemon_core.specs.MailRules.{limit_for, SameHost, OpensBy, GivesBy, GoesBy, DaemonWorks, DeliversGathered, mail_rules}
use Rattle.daemon_core.specs.declared.mail.MailDaemon.{MailDaemon}
use Rattle.daemon_core.specs.declared.note.Note.{Note}

-- how it is set up has the places
set_up_keeps : {R : Type 0} (view : View R) (d e : MailDaemon) → SameHost d e → SameLimits (mail_rules view) d e
set_up_keeps view d e host = λ kind. ap (λ places. limit_for places kind) host.places

opening_keeps : (b : Bool) (d : MailDaemon) (now id : ℕ) (said : List ℕ) (e : MailDaemon) → OpensBy b d now id said e → SameHost d e
opening_keeps true d now id said e opens = opens.host
opening_keeps false d now id said e opens = opens.host

hearing_keeps : (d : MailDaemon) (now id : ℕ) (piece said : List ℕ) (e : MailDaemon) → GivesBy d now id piece said e → SameHost d e
hearing_keeps d now id piece said e (inl gives) = gives.host
hearing_keeps d now id piece said e (inr gives) = gives.same.host

going_keeps : {R : Type 0} (view : View R) (d : MailDaemon) (r : R) (now id : ℕ) (note : Note) (said : List ℕ) (e : MailDaemon) (q : R) → GoesBy view d r now id note said e q → SameHost d e
going_keeps view d r now id note said e q (inl goes) = goes.host
going_keeps view d r now id note said e q (inr goes) = goes.same.host

working_keeps : {R : Type 0} (view : View R) (d : MailDaemon) (r : R) (now : ℕ) (note : Note) (e : MailDaemon) (q : R) → DaemonWorks view d r now note e q ⊎ DeliversGathered view d r now note e q → SameHost d e
working_keeps view d r now note e q (inl works) = works.same.host
working_keeps view d r now note e q (inr delivers) = delivers.host

pub mail_keeps_limits : {R : Type 0} (view : View R) → KeepsLimits (mail_rules view)
mail_keeps_limits view = record {
  opens = λ d now kind id said e opens. set_up_keeps view d e (opening_keeps (kind == lmtp) d now id said e opens);
  gives = λ d now id piece said e gives. set_up_keeps view d e (hearing_keeps d now id piece said e gives);
  steps = λ d r now id note said e q goes. set_up_keeps view d e (going_keeps view d r now id note said e q goes);
  lates = λ d now id said e says kind. ap (λ (x : MailDaemon). limit_for x.places kind) says.stays;
  works = λ d r now note e q works. set_up_keeps view d e (working_keeps view d r now note e q works);
  lacks = λ d id e lacks. set_up_keeps view d e lacks.host;
  closes = λ d now id e closes. set_up_keeps view d e closes.host;
}
