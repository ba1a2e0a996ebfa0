-- What the program prints of what scripts come to, of a delivery, or of a fault of the script.
use Rattle.std.specs.Prelude.{ℕ, List, [], ◌∷◌, ◌++◌, ◌&&◌, ◌||◌, codes, cond, decimal, length, map, nat_eq, not, Bool, true, false, is_some, Option, Some, None}
use Rattle.std.specs.List.{flat_map}
use Rattle.mail_address.specs.declared.address.Addr.{Addr}
use Rattle.mail_address.specs.Spelling.{address_spelling}
use Rattle.mail_flags.specs.declared.placement.Placement.{Placement}
use Rattle.sieve_syntax.specs.Meaning.{Actions}
use Rattle.sieve_syntax.specs.RunState.{inbox, is_filed}
use Rattle.sieve_plan.specs.Sequences.{Settled}
use Rattle.store_accounts.specs.declared.report.Report.{Report}
use Rattle.store_accounts.specs.declared.report.VacationReport.{VacationReport}
use Rattle.store_accounts.specs.declared.report.VacationReport.TheVariants as vacation

-- a line with its end
abbrev pub ended_line : List ℕ → List ℕ
ended_line line = line ++ 10 ∷ []

-- the line of a mailbox that the message goes into
abbrev pub file_line : List ℕ → List ℕ
file_line mailbox = codes "file " ++ mailbox

-- the line of an address, as it is spelled, that the message is sent on to
abbrev pub send_line : List ℕ → List ℕ
send_line target = codes "send " ++ target

-- the line of a vacation reply to the sender
abbrev pub reply_lines : Bool → List (List ℕ)
reply_lines true = codes "vacation wanted" ∷ []
reply_lines false = []

-- a line for each mailbox that the message goes into
abbrev pub mailbox_lines : List Placement → List (List ℕ)
mailbox_lines filed = map (λ copy. file_line copy.mailbox) filed

-- a line for each address that the message is sent on to
abbrev pub target_lines : List Addr → List (List ℕ)
target_lines sent = map (λ target. send_line (address_spelling target)) sent

-- the lines of what is done: of its mailboxes, its addresses and its reply, in this order
abbrev pub action_lines : Actions → List (List ℕ)
action_lines deeds = mailbox_lines deeds.filed ++ (target_lines deeds.sent ++ reply_lines (is_some deeds.reply))

-- the line on why a script failed, if one did
abbrev pub failure_lines : Option (List ℕ) → List (List ℕ)
failure_lines None = []
failure_lines (Some why) = (codes "failed: " ++ why) ∷ []

-- nothing is done but that INBOX gets the message
abbrev pub is_inbox_alone : Actions → Bool
is_inbox_alone deeds =
    (nat_eq (length deeds.filed) 1 && is_filed deeds.filed inbox) && (nat_eq (length deeds.sent) 0 && not (is_some deeds.reply))

-- what is done is shown, unless a script failed and it is no more than that
abbrev pub shows_deeds : Settled → Bool
shows_deeds settled = not (is_some settled.notice) || not (is_inbox_alone settled.deeds)

-- the lines of what is done, and behind them that of a failure
abbrev pub settled_lines : Settled → List (List ℕ)
settled_lines settled = cond (shows_deeds settled) (action_lines settled.deeds) [] ++ failure_lines settled.notice

-- `discard` if there is no other line
abbrev pub or_discard : List (List ℕ) → List (List ℕ)
or_discard [] = codes "discard" ∷ []
or_discard (line ∷ more) = line ∷ more

-- the report on what scripts come to
abbrev pub settled_report : Settled → List ℕ
settled_report settled = flat_map ended_line (or_discard (settled_lines settled))

-- the line of a vacation reply that joined the queue, or of the rule that forbade one
abbrev pub vacation_lines : VacationReport → List (List ℕ)
vacation_lines vacation.None = []
vacation_lines vacation.Sent = codes "vacation sent" ∷ []
vacation_lines (vacation.Quiet reason) = (codes "vacation quiet " ++ decimal reason) ∷ []

-- the line of a notice that the user was left
abbrev pub notice_lines : Option (List ℕ) → List (List ℕ)
notice_lines None = []
notice_lines (Some notice) = (codes "notice " ++ notice) ∷ []

-- the lines of what a delivery did: its folders, addresses, vacation reply and notice, in this order
abbrev pub delivery_lines : Report → List (List ℕ)
delivery_lines report =
    map file_line report.filed ++ (map send_line report.sent ++ (vacation_lines report.vacation ++ notice_lines report.notice))

-- the report on a delivery that was made
abbrev pub delivery_report : Report → List ℕ
delivery_report report = flat_map ended_line (or_discard (delivery_lines report))
