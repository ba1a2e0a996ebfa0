-- What a script has done so far, and what an action does (RFC 5228, 2.10, 4).
use Rattle.std.specs.Prelude.{ℕ, Bool, true, false, cond, ◌&&◌, ◌||◌, List, [], ◌∷◌, ◌++◌, length, codes, nat_eq, nat_lt, Option, Some, None}
use Rattle.std.specs.List.{list_any}
use Rattle.std.specs.Cmp.Lexicographic.{pointwise}
use Rattle.octets.specs.Ascii.{lowered}
use Rattle.mail_address.specs.declared.address.Addr.{Addr}
use Rattle.mail_flags.specs.Flags.{with_all_named, without_all_named, flags_text}
use Rattle.mail_flags.specs.declared.placement.Placement.{Placement}
use Rattle.sieve_syntax.specs.declared.tree.action.Action.{Action}
use Rattle.sieve_syntax.specs.declared.tree.action.Action.TheVariants.{Keep, Discard, FileInto, Redirect, Vacation, SetFlag, AddFlag, RemoveFlag}
use Rattle.sieve_syntax.specs.declared.extension.vacation.VacationArgs.{VacationArgs}

-- what a script has done so far: the mailboxes that the message goes into, each with the flags that the last command gives
-- its copy, and the addresses that it is sent to, each in the order of the first command that says so; the flags that are
-- set, which a copy gets that isn't given its own (RFC 5232, 3); the answer to the sender, if there is one; whether the
-- implicit keep is cancelled (RFC 5228, 2.10.2); and whether a `keep` was executed, and a `fileinto` that names INBOX: the outcome of a script
-- alone doesn't depend on these two, but what a script leaves to one that runs behind it does
pub record RunState : Type 0 where
  pub filed : List Placement
  pub flags : List (List ℕ)
  pub sent : List Addr
  pub reply : Option VacationArgs
  pub cancelled : Bool
  pub has_kept : Bool
  pub names_inbox : Bool

-- before the first command
abbrev pub at_first : RunState
at_first = record { filed = []; flags = []; sent = []; reply = None; cancelled = false; has_kept = false; names_inbox = false }

-- why a run fails (RFC 5228, 2.10.6): a second `vacation` is run (RFC 5230, 4.7), or the message would be
-- sent to more than 16 addresses, or filed into more than 100 mailboxes, or its tests take more work than a run may
pub data Failure : Type 0 where
  TwoVacations : Failure
  TooManyRedirects : Failure
  TooManyMailboxes : Failure
  TooMuchWork : Failure

-- the state of a run: it goes on, `stop` was run, or it failed
pub data Flow : Type 0 where
  Going : RunState → Flow
  Stopped : RunState → Flow
  Failed : Failure → Flow

-- what comes next is run if the run goes on
abbrev pub and_then : Flow → (RunState → Flow) → Flow
and_then (Going so_far) next = next so_far
and_then (Stopped so_far) next = Stopped so_far
and_then (Failed failure) next = Failed failure

-- the mailbox of `keep` and of the implicit keep
abbrev pub inbox : List ℕ
inbox = codes "INBOX"

-- the mailbox that a name means: INBOX in any ASCII case is INBOX, other names are compared by octets
abbrev pub mailbox_named : List ℕ → List ℕ
mailbox_named name = cond (pointwise nat_eq (lowered name) (codes "inbox")) inbox name

-- whether a name means INBOX
abbrev pub is_inbox_name : List ℕ → Bool
is_inbox_name name = pointwise nat_eq (mailbox_named name) inbox

-- the most mailboxes that a message goes into, including that of the implicit keep
abbrev pub max_mailboxes : ℕ
max_mailboxes = 100

-- whether a mailbox has a copy
abbrev pub is_filed : List Placement → List ℕ → Bool
is_filed filed mailbox = list_any (λ there. pointwise nat_eq there.mailbox mailbox) filed

-- whether a message may go into a mailbox: one more is allowed, or it goes there already
abbrev pub has_room : List Placement → List ℕ → Bool
has_room filed mailbox = nat_lt (length filed) max_mailboxes || is_filed filed mailbox

-- one more copy, after the others; a message goes into a mailbox only once (RFC 5228, 2.10.3), so if a copy is there already, it
-- keeps its place and gets the new one's flags (RFC 5232: the last flags win)
abbrev pub with_filed : List Placement → Placement → List Placement
with_filed [] new = new ∷ []
with_filed (there ∷ more) new = cond (pointwise nat_eq there.mailbox new.mailbox) (new ∷ more) (there ∷ with_filed more new)

-- the text that names a copy's flags: those that its `:flags` names, or without `:flags` those that are set (RFC 5232, 5)
abbrev pub flags_given : Option (List (List ℕ)) → RunState → List ℕ
flags_given None so_far = flags_text so_far.flags
flags_given (Some texts) so_far = flags_text (with_all_named [] texts)

-- whether the implicit keep is cancelled after an action that cancels it, unless it has `:copy` (RFC 3894, 3)
abbrev pub cancelled_after : (copy : Bool) → RunState → Bool
cancelled_after copy so_far = cond copy so_far.cancelled true

-- filed into a mailbox, with these flags, unless the message goes into too many
abbrev pub filed_into : List ℕ → List ℕ → (copy : Bool) → RunState → Flow
filed_into mailbox flags copy so_far =
    cond (has_room so_far.filed mailbox)
    (Going (record so_far { filed = with_filed so_far.filed (record { mailbox = mailbox; flags = flags }); cancelled = cancelled_after copy so_far }))
    (Failed TooManyMailboxes)

-- the flags of the implicit keep's copy: these, where it was given some, otherwise those that are set (RFC 5232, 5)
abbrev pub implicit_flags : Option (List ℕ) → RunState → List ℕ
implicit_flags None so_far = flags_given None so_far
implicit_flags (Some flags) so_far = flags

-- the implicit keep with these flags: the message goes into INBOX unless that is cancelled (RFC 5228, 2.10.2)
abbrev pub kept_with : Option (List ℕ) → RunState → Flow
kept_with flags so_far = cond so_far.cancelled (Going so_far) (filed_into inbox (implicit_flags flags so_far) true so_far)

-- the implicit keep: the message goes into INBOX unless that is cancelled, with the flags that are set (RFC 5228, 2.10.2; RFC 5232, 5)
abbrev pub kept_implicitly : RunState → Flow
kept_implicitly so_far = cond so_far.cancelled (Going so_far) (filed_into inbox (flags_given None so_far) true so_far)

-- the same local part and the same domain, by octets
abbrev pub same_target : Addr → Addr → Bool
same_target a b = pointwise nat_eq a.local b.local && pointwise nat_eq a.domain b.domain

-- the most addresses to which a run sends the message
abbrev pub max_targets : ℕ
max_targets = 16

-- sent to an address: to each only once, and not to too many
abbrev pub sent_to : Addr → (copy : Bool) → RunState → Flow
sent_to target copy so_far =
    cond (list_any (λ there. same_target there target) so_far.sent) (Going (record so_far { cancelled = cancelled_after copy so_far }))
    (cond (nat_lt (length so_far.sent) max_targets) (Going (record so_far { sent = so_far.sent ++ target ∷ []; cancelled = cancelled_after copy so_far }))
    (Failed TooManyRedirects))

-- an answer to the sender, the only one; the implicit keep stays (RFC 5230, 4.7)
abbrev pub replied_by : VacationArgs → RunState → Flow
replied_by args so_far = elim so_far.reply [
  | None ↦ Going (record so_far { reply = Some args })
  | Some _ ↦ Failed TwoVacations
]

-- a `keep` is executed, and a `fileinto` that names this mailbox
abbrev pub with_keep : RunState → RunState
with_keep so_far = record so_far { has_kept = true }

abbrev pub with_name : List ℕ → RunState → RunState
with_name name so_far = record so_far { names_inbox = so_far.names_inbox || is_inbox_name name }

-- what an action does (RFC 5228, 4; RFC 3894; RFC 5230; RFC 5232)
abbrev pub performed : Action → RunState → Flow
performed (Keep given) so_far = filed_into inbox (flags_given given so_far) false (with_keep so_far)
performed Discard so_far = Going (record so_far { cancelled = true })
performed (FileInto filing) so_far = filed_into (mailbox_named filing.mailbox) (flags_given filing.flags so_far) filing.copy (with_name filing.mailbox so_far)
performed (Redirect redirect) so_far = sent_to redirect.target redirect.copy so_far
performed (Vacation args) so_far = replied_by args so_far
performed (SetFlag texts) so_far = Going (record so_far { flags = with_all_named [] texts })
performed (AddFlag texts) so_far = Going (record so_far { flags = with_all_named so_far.flags texts })
performed (RemoveFlag texts) so_far = Going (record so_far { flags = without_all_named so_far.flags texts })
