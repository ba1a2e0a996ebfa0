-- What a script leaves to the next one, on small cases: one that is right, and one that nearly is.
use Rattle.std.proofs.Common.{◌≡◌, ◌∷◌, ℕ, true, false, List, [], Some, None, refl}
use Rattle.std.specs.Prelude.{Option, codes, replicate}
use Rattle.mail_address.specs.declared.address.Addr.{Addr}
use Rattle.mail_flags.specs.Flags.{has}
use Rattle.mail_flags.specs.declared.placement.Placement.{Placement}
use Rattle.sieve_syntax.specs.declared.tree.action.Action.{Action}
use Rattle.sieve_syntax.specs.declared.tree.action.Action.TheVariants.{Keep, Discard, FileInto, Redirect, Vacation, SetFlag, RemoveFlag}
use Rattle.sieve_syntax.specs.declared.tree.checks.MailCheck.TheVariants as Q
use Rattle.sieve_syntax.specs.declared.extension.vacation.VacationArgs.{VacationArgs}
use Rattle.sieve_syntax.specs.RunState.{at_first, inbox, TwoVacations, TooManyRedirects, TooManyMailboxes, TooMuchWork}
use Rattle.sieve_syntax.specs.Meaning.{answered as answer, TestAsking, asking_at, Actions}
use Rattle.sieve_syntax.specs.Work.{max_work}
use Rattle.sieve_syntax.specs.Tree.{TestTree, yes, looks, any_of, no_tests, test, choose, stop, act, branch, no_branches, Commands, no_commands, command}
use Rattle.sieve_plan.specs.Handover.{Handover, nothing_left, begins_from, ScriptEnd, Ended, Broken, end_of_run}

-- ---- scripts

abbrev pub in_row : List Action → Commands
in_row [] = no_commands
in_row (action ∷ more) = command (act action) (in_row more)

abbrev pub into : List ℕ → Action
into mailbox = FileInto (record { mailbox = mailbox; copy = false; create = false; flags = None })

abbrev pub copied : List ℕ → Action
copied mailbox = FileInto (record { mailbox = mailbox; copy = true; create = false; flags = None })

abbrev flagged_into : List ℕ → List ℕ → Action
flagged_into mailbox flag = FileInto (record { mailbox = mailbox; copy = true; create = false; flags = Some (flag ∷ []) })

abbrev pub seen : List ℕ
seen = codes "\\Seen"

abbrev junk : List ℕ
junk = codes "$Junk"

abbrev bob : Addr
bob = record { local = codes "bob"; domain = codes "example.net" }

abbrev carol : Addr
carol = record { local = codes "carol"; domain = codes "example.net" }

abbrev pub away : List ℕ → VacationArgs
away reason = record { days = None; seconds = None; subject = None; from = None; addresses = []; mime = false; handle = None; reason = reason }

abbrev pub at : List ℕ → List ℕ → Placement
at mailbox flags = record { mailbox = mailbox; flags = flags }

-- how a run ends whose tests take no work
abbrev pub end_of : Commands → Handover → ScriptEnd
end_of commands left = end_of_run (asking_at (λ state check. false)) (λ state check. 0) max_work commands left

abbrev left_by : ScriptEnd → Handover
left_by (Ended done next) = next
left_by (Broken failure) = nothing_left

abbrev pub done_by : ScriptEnd → Option Actions
done_by (Ended done next) = Some done
done_by (Broken failure) = None

-- what a script of these actions leaves where nothing was left to it, and what is done where no other runs
abbrev pub leaves_first : List Action → Handover
leaves_first actions = left_by (end_of (in_row actions) nothing_left)

-- what is done by two scripts
abbrev pub both : List Action → List Action → Option Actions
both one two = done_by (end_of (in_row two) (leaves_first one))

abbrev pub filed : List Placement → Option Actions
filed copies = Some (record { filed = copies; sent = []; reply = None })

-- ---- how it begins

-- where nothing is left a run begins as today
first : begins_from nothing_left ≡ at_first
first = refl

-- ---- whether the message is still to be kept

-- the implicit keep stands, or `keep` was executed, behind a `fileinto` and a `discard` too; near misses: these alone
implicit : ((leaves_first []).is_kept ≡ true) × ((leaves_first (copied (codes "x") ∷ [])).is_kept ≡ true) × ((leaves_first (Redirect (record { target = bob; copy = true }) ∷ [])).is_kept ≡ true)
implicit = (refl, refl, refl)

executed : ((leaves_first (Keep None ∷ [])).is_kept ≡ true) × ((leaves_first (into (codes "x") ∷ Keep None ∷ [])).is_kept ≡ true) × ((leaves_first (Discard ∷ Keep None ∷ [])).is_kept ≡ true)
executed = (refl, refl, refl)

cancelled : ((leaves_first (into (codes "x") ∷ [])).is_kept ≡ false) × ((leaves_first (Discard ∷ [])).is_kept ≡ false) × ((leaves_first (Redirect (record { target = bob; copy = false }) ∷ [])).is_kept ≡ false)
cancelled = (refl, refl, refl)

-- `stop` ends its own script alone; near miss: the next doesn't run
stopped : (left_by (end_of (command stop (command (act Discard) no_commands)) nothing_left)).is_kept ≡ true
stopped = refl

-- a `fileinto` that names INBOX, in any case, is no keep
inbox_is_no_keep : ((leaves_first (into (codes "inbox") ∷ [])).is_kept ≡ false) × ((leaves_first (into (codes "inbox") ∷ [])).filed ≡ at inbox [] ∷ [])
inbox_is_no_keep = (refl, refl)

-- ---- what it executed

-- a `keep` counts that a run comes to; near misses: one of the other branch, and one behind a `stop`
abbrev one_of_two : Commands
one_of_two = command (choose (branch (looks (Q.Exists [])) (in_row (Discard ∷ [])) (branch yes (in_row (Keep None ∷ [])) no_branches))) (in_row (into (codes "x") ∷ []))

in_turn : ((left_by (end_of_run (asking_at (λ state check. false)) (λ state check. 0) max_work one_of_two nothing_left)).is_kept ≡ true)
    × ((left_by (end_of_run (asking_at (λ state check. true)) (λ state check. 0) max_work one_of_two nothing_left)).is_kept ≡ false)
    × ((left_by (end_of (command (act Discard) (command stop (in_row (Keep None ∷ [])))) nothing_left)).is_kept ≡ false)
in_turn = (refl, refl, refl)

-- ---- INBOX

-- a `keep` isn't done yet: a later script may discard the message
kept_no_more : both (Keep None ∷ []) (Discard ∷ []) ≡ filed []
kept_no_more = refl

-- a `fileinto` of INBOX is, with `:copy` too, and also beside a `keep`
filed_for_all : (both (copied (codes "INBOX") ∷ []) (Discard ∷ []) ≡ filed (at inbox [] ∷ [])) × (both (copied (codes "INBOX") ∷ Keep None ∷ []) (Discard ∷ []) ≡ filed (at inbox [] ∷ []))
filed_for_all = (refl, refl)

-- INBOX gets one copy in all
one_copy : (both (Keep None ∷ []) (Keep None ∷ []) ≡ filed (at inbox [] ∷ [])) × (both (copied (codes "INBOX") ∷ []) (Keep None ∷ []) ≡ filed (at inbox [] ∷ []))
    × (both (into (codes "x") ∷ Keep None ∷ []) [] ≡ filed (at (codes "x") [] ∷ at inbox [] ∷ []))
one_copy = (refl, refl, refl)

-- ---- flags

-- those of `setflag` stand at the next one's beginning, which may change them
flags_stand : ((begins_from (leaves_first (SetFlag (seen ∷ []) ∷ []))).flags ≡ seen ∷ []) × (both (SetFlag (seen ∷ []) ∷ []) (into (codes "x") ∷ []) ≡ filed (at (codes "x") seen ∷ []))
    × (both (SetFlag (seen ∷ []) ∷ []) [] ≡ filed (at inbox seen ∷ [])) × (both (SetFlag (seen ∷ []) ∷ []) (RemoveFlag (seen ∷ []) ∷ []) ≡ filed (at inbox [] ∷ []))
flags_stand = (refl, refl, refl, refl)

-- a test of the next one sees them; near miss: it doesn't
abbrev if_flagged : Commands
if_flagged = command (choose (branch (looks (Q.Exists [])) (in_row (Discard ∷ [])) no_branches)) no_commands

abbrev sees_seen : TestAsking
sees_seen = asking_at (λ so_far check. has so_far.flags seen)

flags_are_seen : ((left_by (end_of_run sees_seen (λ state check. 0) max_work if_flagged (leaves_first (SetFlag (seen ∷ []) ∷ [])))).is_kept ≡ false)
    × ((left_by (end_of_run sees_seen (λ state check. 0) max_work if_flagged (leaves_first (Keep (Some (seen ∷ [])) ∷ [])))).is_kept ≡ true)
flags_are_seen = (refl, refl)

-- where a test itself sets a flag, that stands in its own block, in the commands behind it, and at the next one's beginning; near miss: what
-- is asked behind a test that decided is not asked
abbrev sets_seen : TestAsking
sets_seen so_far check = answer true (record so_far { flags = seen ∷ [] })

abbrev asks_and_copies : TestTree → Commands
asks_and_copies condition = command (choose (branch condition (in_row (copied (codes "x") ∷ [])) no_branches)) no_commands

abbrev asks_second : TestTree
asks_second = any_of (test yes (test (looks (Q.Exists [])) no_tests))

abbrev ends_setting : TestTree → ScriptEnd
ends_setting condition = end_of_run sets_seen (λ state check. 0) max_work (asks_and_copies condition) nothing_left

set_by_test : ((left_by (ends_setting (looks (Q.Exists [])))).flags ≡ seen ∷ []) × (done_by (ends_setting (looks (Q.Exists []))) ≡ filed (at (codes "x") seen ∷ at inbox seen ∷ []))
    × ((left_by (ends_setting asks_second)).flags ≡ []) × (done_by (ends_setting asks_second) ≡ filed (at (codes "x") [] ∷ at inbox [] ∷ []))
set_by_test = (refl, refl, refl, refl)

-- those of `keep :flags` are the implicit keep's, whatever the next one sets; none on a `fileinto`; none where a later one says `keep`
flags_of_keep : (both (Keep (Some (seen ∷ [])) ∷ []) [] ≡ filed (at inbox seen ∷ [])) × (both (Keep (Some (seen ∷ [])) ∷ []) (SetFlag (junk ∷ []) ∷ []) ≡ filed (at inbox seen ∷ []))
    × (both (Keep (Some (seen ∷ [])) ∷ []) (copied (codes "x") ∷ []) ≡ filed (at (codes "x") [] ∷ at inbox seen ∷ [])) × (both (Keep (Some (seen ∷ [])) ∷ []) (Keep None ∷ []) ≡ filed (at inbox [] ∷ []))
flags_of_keep = (refl, refl, refl, refl)

-- a `keep` without `:flags` has those that are set where it is executed (RFC 5232, 5)
flags_at_keep : (both (SetFlag (seen ∷ []) ∷ Keep None ∷ []) (RemoveFlag (seen ∷ []) ∷ []) ≡ filed (at inbox seen ∷ [])) × (both (SetFlag (seen ∷ []) ∷ Keep None ∷ []) (copied (codes "x") ∷ []) ≡ filed (at (codes "x") seen ∷ at inbox seen ∷ []))
flags_at_keep = (refl, refl)

-- ---- a mailbox once, a target once

-- the first script's copy stands, with its flags, in its place; within one script the last flags win
copy_stands : (both (flagged_into (codes "x") seen ∷ []) (flagged_into (codes "x") junk ∷ Discard ∷ []) ≡ filed (at (codes "x") seen ∷ []))
    × (done_by (end_of (in_row (flagged_into (codes "x") seen ∷ flagged_into (codes "x") junk ∷ Discard ∷ [])) nothing_left) ≡ filed (at (codes "x") junk ∷ []))
copy_stands = (refl, refl)

sent_once : both (Redirect (record { target = bob; copy = true }) ∷ []) (Redirect (record { target = bob; copy = false }) ∷ []) ≡ Some (record { filed = []; sent = bob ∷ []; reply = None })
sent_once = refl

-- ---- `vacation`

-- the first script that executes one answers, and a later script's is passed over; two within one script are a failure
answered : both (Vacation (away (codes "A")) ∷ []) (Vacation (away (codes "B")) ∷ Discard ∷ []) ≡ Some (record { filed = []; sent = []; reply = Some (away (codes "A")) })
answered = refl

answered_twice : (end_of (in_row (Vacation (away (codes "B")) ∷ Vacation (away (codes "C")) ∷ [])) (leaves_first (Vacation (away (codes "A")) ∷ [])) ≡ Broken TwoVacations)
    × (end_of (in_row (Vacation (away (codes "B")) ∷ Vacation (away (codes "C")) ∷ [])) nothing_left ≡ Broken TwoVacations)
answered_twice = (refl, refl)

-- ---- limits of all together

-- behind sixteen targets there is no other, but one of them again; and what is sent by two is sent by both
targets_of_all : (end_of (in_row (Redirect (record { target = carol; copy = true }) ∷ [])) (record nothing_left { sent = replicate 16 bob }) ≡ Broken TooManyRedirects)
    × ((left_by (end_of (in_row (Redirect (record { target = bob; copy = true }) ∷ [])) (record nothing_left { sent = replicate 16 bob }))).sent ≡ replicate 16 bob)
targets_of_all = (refl, refl)

-- behind a hundred mailboxes there is no other, INBOX for the implicit keep neither; one of them again
mailboxes_of_all : (end_of (in_row (into (codes "y") ∷ [])) (record nothing_left { filed = replicate 100 (at (codes "x") []) }) ≡ Broken TooManyMailboxes)
    × (end_of (in_row []) (record nothing_left { filed = replicate 100 (at (codes "x") []) }) ≡ Broken TooManyMailboxes)
    × ((left_by (end_of (in_row (into (codes "x") ∷ [])) (record nothing_left { filed = replicate 100 (at (codes "x") []) }))).filed ≡ replicate 100 (at (codes "x") []))
mailboxes_of_all = (refl, refl, refl)

-- a run that takes as much work as it may, and one that takes more
abbrev asking : Commands
asking = command (choose (branch (looks (Q.Exists [])) no_commands no_branches)) no_commands

work_of_run : ((left_by (end_of_run (asking_at (λ state check. true)) (λ state check. 3) 3 asking nothing_left)).is_kept ≡ true) × (end_of_run (asking_at (λ state check. true)) (λ state check. 3) 2 asking nothing_left ≡ Broken TooMuchWork)
work_of_run = (refl, refl)

-- ---- a script that does nothing

-- changes nothing: what the first one alone comes to
idle : (both (copied inbox ∷ SetFlag (seen ∷ []) ∷ []) [] ≡ done_by (end_of (in_row (copied inbox ∷ SetFlag (seen ∷ []) ∷ [])) nothing_left))
    × (both (SetFlag (seen ∷ []) ∷ Keep None ∷ SetFlag (junk ∷ []) ∷ []) [] ≡ done_by (end_of (in_row (SetFlag (seen ∷ []) ∷ Keep None ∷ SetFlag (junk ∷ []) ∷ [])) nothing_left))
idle = (refl, refl)
