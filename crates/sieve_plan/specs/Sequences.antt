-- A delivery by the host's scripts and the user's, one behind the other (RFC 5228, 2.10). What each leaves to the next is said in
-- `Handover`.
use Rattle.std.specs.Prelude.{◌≡◌, ◌+◌, ◌-◌, ◌++◌, ◌⊎◌, ℕ, MatchBool, true, codes, length, map, List, [], ◌∷◌, Option, None, Some}
use Rattle.mail_address.specs.declared.address.Addr.{Addr}
use Rattle.sieve_syntax.specs.Tree.{Commands}
use Rattle.sieve_syntax.specs.Means.{Means}
use Rattle.sieve_syntax.specs.RunState.{Failure}
use Rattle.sieve_syntax.specs.Meaning.{TestAsking, asking_at, Actions}
use Rattle.sieve_plan.specs.declared.scripts.HostScripts.{HostScripts}
use Rattle.sieve_plan.specs.declared.scripts.Whose.{Whose}
use Rattle.sieve_plan.specs.declared.scripts.Whose.TheVariants.{Before, Own, After}
use Rattle.sieve_plan.specs.Handover.{Handover, nothing_left, begins_from, ScriptEnd, Ended, Broken, end_of_run}
use Rattle.sieve_syntax.specs.Work.{max_work, all_take}
use Rattle.sieve_exec.specs.Mails.{MailSpec}
use Rattle.sieve_exec.specs.Truth.{truth_at}
use Rattle.sieve_exec.specs.Work.{work_at}
use Rattle.store_accounts.specs.Account.{Account, room_in, adds_notice_if_any}
use Rattle.store_accounts.specs.declared.reply.ReplyKey.{ReplyKey}
use Rattle.store_accounts.specs.declared.report.Report.{Report}
use Rattle.sieve_plan.specs.Sent.{over_keys}
use Rattle.sieve_plan.specs.Views.{last_reply}
use Rattle.sieve_plan.specs.Delivered.{failure_text, loop_text, long_text, invalid_text, is_looping, has_long_header, kept, Response, Responds, acts, done_of, held_of, responds, report_of}

-- ---- the scripts of a delivery

-- a script of a sequence, by its text, and whose it is
pub record SequenceScript : Type 0 where
  pub whose : Whose
  pub text : List ℕ

abbrev pub no_host_scripts : HostScripts
no_host_scripts = record { before = []; after = [] }

abbrev pub scripts_of : Whose → List (List ℕ) → List SequenceScript
scripts_of whose texts = map (λ text. record { whose = whose; text = text }) texts

abbrev pub own_scripts : Option (List ℕ) → List SequenceScript
own_scripts None = []
own_scripts (Some text) = scripts_of Own (text ∷ [])

-- first the host's, then the user's, if there is one, then the host's others
abbrev pub sequence_of : HostScripts → Option (List ℕ) → List SequenceScript
sequence_of host own = scripts_of Before host.before ++ own_scripts own ++ scripts_of After host.after

-- ---- a script of a sequence

-- how far a sequence has come: what is left to the next script, what is done where none runs any more, and how much work the host's
-- scripts took
pub record SequenceState : Type 0 where
  pub left : Handover
  pub done : Actions
  pub host_work : ℕ

-- before the first script, the message is kept
abbrev pub at_beginning : SequenceState
at_beginning = record { left = nothing_left; done = kept; host_work = 0 }

-- a quarter of what a run may take, for the host's scripts among them all
abbrev pub max_host_work : ℕ
max_host_work = 50_000_000

-- how much work a script may take: the user's has a run's limit for itself
abbrev pub work_limit : Whose → (host_work : ℕ) → ℕ
work_limit Own host_work = max_work
work_limit Before host_work = max_host_work - host_work
work_limit After host_work = max_host_work - host_work

abbrev pub host_work_behind : Whose → (work host_work : ℕ) → ℕ
host_work_behind Own work host_work = host_work
host_work_behind Before work host_work = host_work + work
host_work_behind After work host_work = host_work + work

-- how tests are asked of a mail: they only look
abbrev pub asking_on : MailSpec → TestAsking
asking_on mail = asking_at (truth_at mail)

-- how a script's tree ends on a mail where the sequence has come so far
abbrev pub end_at : MailSpec → Whose → Commands → SequenceState → ScriptEnd
end_at mail whose tree state = end_of_run (asking_on mail) (work_at mail) (work_limit whose state.host_work) tree state.left

-- it runs to its end: what is done then, and what is left
pub record RunsToEnd (mail : MailSpec) (script : SequenceScript) (state next : SequenceState) : Type 0 where
  pub tree : Commands
  pub means : Means script.text tree
  pub ends : end_at mail script.whose tree state ≡ Ended next.done next.left
  pub work : next.host_work ≡ host_work_behind script.whose (all_take (asking_on mail) (work_at mail) tree (begins_from state.left)) state.host_work

-- it fails for this reason: its text means no tree, or its run fails
pub data FailsFor (mail : MailSpec) (script : SequenceScript) (state : SequenceState) (why : List ℕ) : Type 0 where
  IsInvalid : ((tree : Commands) → Means script.text tree → ⊥) → why ≡ invalid_text → FailsFor mail script state why
  Breaks : (tree : Commands) (failure : Failure) → Means script.text tree → end_at mail script.whose tree state ≡ Broken failure → why ≡ failure_text failure
      → FailsFor mail script state why

-- the notice on a failure of a host's script says whose it was
abbrev pub told_of : Whose → List ℕ → List ℕ
told_of Before why = codes "before: " ++ why
told_of Own why = why
told_of After why = codes "after: " ++ why

-- ---- what a sequence comes to

-- what is done, and the notice, where a script failed or none was run
pub record Settled : Type 0 where
  pub deeds : Actions
  pub notice : Option (List ℕ)

-- what is done, and nobody told
abbrev pub settled_well : Actions → Settled
settled_well done = record { deeds = done; notice = None }

-- a script fails: what those before it did stands, and what is kept by them is in INBOX; it and those behind it do nothing
pub record SettlesFailed (mail : MailSpec) (script : SequenceScript) (state : SequenceState) (settled : Settled) : Type 0 where
  pub why : List ℕ
  pub fails : FailsFor mail script state why
  pub stands : settled.deeds ≡ state.done
  pub told : settled.notice ≡ Some (told_of script.whose why)

-- scripts in turn: where one fails, that is the end; where it runs to its end the next one runs if the message is still to be kept,
-- and otherwise none
abbrev pub SettlesInTurn : MailSpec → List SequenceScript → SequenceState → Settled → Type 0
SettlesInTurn mail [] state settled = settled ≡ settled_well state.done
SettlesInTurn mail (script ∷ more) state settled =
    SettlesFailed mail script state settled
    ⊎ ((next : SequenceState) × RunsToEnd mail script state next × MatchBool next.left.is_kept (SettlesInTurn mail more next settled) (settled ≡ settled_well next.done))

-- these scripts run to their ends in turn, and each leaves the message to be kept
abbrev pub RunInTurn : MailSpec → List SequenceScript → (from to : SequenceState) → Type 0
RunInTurn mail [] from to = from ≡ to
RunInTurn mail (script ∷ more) from to = (next : SequenceState) × RunsToEnd mail script from next × (next.left.is_kept ≡ true) × RunInTurn mail more next to

-- no script runs: the message is kept, and this is told
abbrev pub settled_unrun : List ℕ → Settled
settled_unrun text = record { deeds = kept; notice = Some text }

-- what a message comes to by the host's scripts and the user's text, if there is one: none of them runs on one with a long header, nor
-- on one that may go round in a loop
abbrev pub SettlesUnder : HostScripts → Option (List ℕ) → MailSpec → Settled → Type 0
SettlesUnder host own mail settled =
    MatchBool (has_long_header mail.octets) (settled ≡ settled_unrun long_text)
    (MatchBool (is_looping mail) (settled ≡ settled_unrun loop_text) (SettlesInTurn mail (sequence_of host own) at_beginning settled))

-- ---- a delivery

-- a delivery leaves one notice at most: that of a failure goes before that of mail that isn't sent on
abbrev pub notice_left : Option (List ℕ) → Option (List ℕ) → Option (List ℕ)
notice_left None held = held
notice_left (Some text) held = Some text

-- what is over is forgotten, unless there was a failure
abbrev pub forgotten_unless : Option (List ℕ) → List ReplyKey → List ReplyKey
forgotten_unless None over = over
forgotten_unless (Some text) over = []

-- the deeds are carried out as far as mail may be sent on, the sender is answered, and the user is told
pub record CarriesOutSettled (own : Addr) (moment : ℕ) (mail : MailSpec) (settled : Settled) (a : Account) (report : Report) (a2 : Account) : Type 0 where
  pub response : Response
  pub is_response : Responds own moment mail (last_reply a mail.from) (room_in a - length (done_of a mail settled.deeds).sent) settled.deeds.reply response
  pub reported : report ≡ report_of (done_of a mail settled.deeds) response (notice_left settled.notice (held_of a mail settled.deeds))
  pub changed : a2 ≡ adds_notice_if_any moment (notice_left settled.notice (held_of a mail settled.deeds))
      (responds mail response (acts mail (done_of a mail settled.deeds) (forgotten_unless settled.notice (over_keys a moment)) a))

-- a mail is delivered at its moment to an account with this address, given the host's scripts and the text of the active script, if one
-- is active: what it reports, and the account afterwards
pub record DeliversInSequence (own : Addr) (host : HostScripts) (mail : MailSpec) (text : Option (List ℕ)) (a : Account) (report : Report) (a2 : Account) : Type 0 where
  pub settled : Settled
  pub settles : SettlesUnder host text mail settled
  pub delivers : CarriesOutSettled own mail.moment mail settled a report a2
