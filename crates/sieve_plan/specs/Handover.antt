-- What a script leaves to the one behind it, and a run that begins with it (RFC 5228, 2.10; RFC 5230; RFC 5232). Scripts that run one
-- behind the other on a message are scripts of their own: a `stop` ends its own alone, and what a script requires is granted to it alone.
use Rattle.std.specs.Prelude.{◌≡◌, ℕ, Bool, true, false, cond, not, ◌||◌, List, [], ◌∷◌, ◌++◌, drop, length, nat_eq, nat_lt, Option, Some, None}
use Rattle.std.specs.List.{filter, All, Contains}
use Rattle.std.specs.Cmp.Lexicographic.{pointwise}
use Rattle.mail_address.specs.declared.address.Addr.{Addr}
use Rattle.mail_flags.specs.declared.placement.Placement.{Placement}
use Rattle.sieve_syntax.specs.declared.tree.checks.MailCheck.{MailCheck}
use Rattle.sieve_syntax.specs.declared.extension.vacation.VacationArgs.{VacationArgs}
use Rattle.sieve_syntax.specs.RunState.{RunState, Failure, TooMuchWork, Flow, Going, Stopped, Failed, inbox, is_filed, kept_with}
use Rattle.sieve_syntax.specs.Meaning.{TestAsking, does_all, Actions}
use Rattle.sieve_syntax.specs.Tree.{Commands}
use Rattle.sieve_syntax.specs.Work.{all_take}

-- what a script and those before it leave to the next: the mailboxes into which they filed the message, each with the flags of its copy,
-- INBOX only where a `fileinto` named it; the addresses to which they send it; the flags that are set; the flags of the copy of the last
-- `keep`, if one was executed; the answer of the first that executed a `vacation`; and whether the message is still to be kept
pub record Handover : Type 0 where
  pub filed : List Placement
  pub sent : List Addr
  pub flags : List (List ℕ)
  pub keep_flags : Option (List ℕ)
  pub reply : Option VacationArgs
  pub is_kept : Bool

-- before the first script
abbrev pub nothing_left : Handover
nothing_left = record { filed = []; sent = []; flags = []; keep_flags = None; reply = None; is_kept = true }

-- ---- how a run begins

-- mailboxes and addresses count among its own, so limits are of all together, and the flags that were set are set; a `vacation` of its
-- own is its first, its implicit keep stands, and it has executed no `keep` and no `fileinto` yet
abbrev pub begins_from : Handover → RunState
begins_from left = record { filed = left.filed; flags = left.flags; sent = left.sent; reply = None; cancelled = false; has_kept = false; names_inbox = false }

-- ---- how it ends

-- whether it leaves the message to be kept: it executed a `keep`, or its implicit keep stands
abbrev pub leaves_kept : RunState → Bool
leaves_kept at_end = at_end.has_kept || not at_end.cancelled

-- what earlier scripts filed stands as they filed it, and what is new comes behind it: a mailbox that has a copy keeps its place
abbrev pub filed_behind : List Placement → List Placement → List Placement
filed_behind before filed = before ++ drop (length before) filed

-- the first answer stands
abbrev pub first_reply : Option VacationArgs → Option VacationArgs → Option VacationArgs
first_reply None later = later
first_reply (Some args) later = Some args

-- what is done by it and those before it where no other runs, given the state behind its implicit keep
abbrev pub done_behind : Handover → RunState → Actions
done_behind left kept = record { filed = filed_behind left.filed kept.filed; sent = kept.sent; reply = first_reply left.reply kept.reply }

-- the copies but that in INBOX
abbrev pub without_inbox : List Placement → List Placement
without_inbox filed = filter (λ there. not (pointwise nat_eq there.mailbox inbox)) filed

-- the copies that stand whatever comes behind: the copy of a keep, implicit or executed, is made at the end, so it isn't among them
abbrev pub filed_for_good : (is_named : Bool) → List Placement → List Placement
filed_for_good is_named filed = cond is_named filed (without_inbox filed)

-- the flags of the copy in INBOX
abbrev pub inbox_flags : List Placement → Option (List ℕ)
inbox_flags [] = None
inbox_flags (there ∷ more) = cond (pointwise nat_eq there.mailbox inbox) (Some there.flags) (inbox_flags more)

-- what it leaves to the next: INBOX for good only where a `fileinto` named it, which is a filing like any other; and the flags of the copy in
-- INBOX where it executed a `keep`
abbrev pub leaves : Handover → (at_end : RunState) → Actions → Handover
leaves left at_end done =
    record {
      filed = filed_for_good (is_filed left.filed inbox || at_end.names_inbox) done.filed;
      sent = done.sent;
      flags = at_end.flags;
      keep_flags = cond at_end.has_kept (inbox_flags at_end.filed) left.keep_flags;
      reply = done.reply;
      is_kept = leaves_kept at_end;
    }

-- how a script ends: what is done where no other runs, and what is left to the next; or it fails, and does nothing
pub data ScriptEnd : Type 0 where
  Ended : (done : Actions) → (next : Handover) → ScriptEnd
  Broken : Failure → ScriptEnd

abbrev pub ended_with : Handover → (at_end : RunState) → Flow → ScriptEnd
ended_with left at_end (Going kept) = Ended (done_behind left kept) (leaves left at_end (done_behind left kept))
ended_with left at_end (Stopped kept) = Ended (done_behind left kept) (leaves left at_end (done_behind left kept))
ended_with left at_end (Failed failure) = Broken failure

-- to its last command, or up to a `stop`; then comes its implicit keep, whose copy has the flags of a `keep` that an earlier script executed,
-- otherwise those that are set
abbrev pub ended_by : Handover → Flow → ScriptEnd
ended_by left (Going at_end) = ended_with left at_end (kept_with left.keep_flags at_end)
ended_by left (Stopped at_end) = ended_with left at_end (kept_with left.keep_flags at_end)
ended_by left (Failed failure) = Broken failure

-- the end of a script's run that begins with this, for any asking and any work of its tests; one that takes more work than `most` fails
abbrev pub end_of_run : TestAsking → (RunState → MailCheck → ℕ) → (most : ℕ) → Commands → Handover → ScriptEnd
end_of_run asking work most commands left =
    cond (nat_lt most (all_take asking work commands (begins_from left))) (Broken TooMuchWork) (ended_by left (does_all asking commands (begins_from left)))

-- ---- what stands

-- what is done whatever comes behind, where a later script discards the message too
abbrev pub for_good : Handover → Actions
for_good left = record { filed = left.filed; sent = left.sent; reply = left.reply }

-- what some deeds do, all of them do: the same copies with the same flags, the same addresses, the same answer
pub record StandsAmong (some all : Actions) : Type 0 where
  pub filed : All (Contains all.filed) some.filed
  pub sent : All (Contains all.sent) some.sent
  pub reply : (args : VacationArgs) → some.reply ≡ Some args → all.reply ≡ Some args
