-- Right examples and near misses of the definitions.
use Rattle.std.proofs.Common.{◌≡◌, ℕ, zero, suc, ◌<◌, Bool, true, false, List, [], ◌∷◌, length, Option, Some, None, refl, ap, subst, arith}
use Rattle.std.proofs.lemmas.Option.{same_Some}
use Rattle.sieve_syntax.specs.declared.tree.action.Action.TheVariants.{Keep, Discard}
use Rattle.sieve_syntax.specs.declared.tree.checks.MailCheck.{MailCheck}
use Rattle.sieve_syntax.specs.RunState.{RunState, at_first, Going, TooMuchWork, inbox}
use Rattle.sieve_syntax.specs.Tree.{no, choose, branch, no_branches, Commands, command, no_commands}
use Rattle.sieve_syntax.specs.Tree as T
use Rattle.sieve_syntax.specs.Meaning.{TestAsking, answered, asking_at, Outcome, Done, Failed}
use Rattle.sieve_syntax.specs.Work.{max_work}
use Rattle.sieve_code.specs.Instructions.{Instruction, set, look, flip, jump, jump_if, jump_unless, act, stop}
use Rattle.sieve_code.specs.Jumps.{Ended, Broken, jumps_from, outcome_of, jumps, ends_within, IsCodeOf, LeadsForward, IsForward}
use Rattle.sieve_code.specs.Size.{size}

-- if false { stop; } discard;
abbrev tree : Commands
tree = command (choose (branch no (command T.stop no_commands) no_branches)) (command (T.act Discard) no_commands)

-- its code stands for it
stands : IsCodeOf (set false ∷ jump_unless 3 ∷ stop ∷ act Discard ∷ []) tree
stands asking work so_far = refl

-- the message goes into INBOX, without flags, and nothing else is done
abbrev kept : Outcome
kept = Done (record { filed = record { mailbox = inbox; flags = [] } ∷ []; sent = []; reply = None })

-- nothing is done
abbrev dropped : Outcome
dropped = Done (record { filed = []; sent = []; reply = None })

-- a run is still going where a turn is left over, and one that is at the end needs none
going : (asking : TestAsking) (work : RunState → MailCheck → ℕ) → jumps asking work (stop ∷ []) 0 ≡ None
going asking work = refl

at_end : (asking : TestAsking) (work : RunState → MailCheck → ℕ) → jumps asking work [] 0 ≡ Some kept
at_end asking work = refl

-- a test is asked at what the run has done by then: behind `discard` the implicit keep is cancelled, before it it isn't
behind : (check : MailCheck) → jumps (asking_at (λ so_far check. so_far.cancelled)) (λ so_far check. 1) (act Discard ∷ look check ∷ jump_unless 4 ∷ act (Keep None) ∷ []) 4 ≡ Some kept
behind check = refl

ahead : (check : MailCheck) → jumps (asking_at (λ so_far check. so_far.cancelled)) (λ so_far check. 1) (look check ∷ act Discard ∷ jump_unless 4 ∷ act (Keep None) ∷ []) 4 ≡ Some dropped
ahead check = refl

-- and at what the tests before it have changed: one that cancels the implicit keep and holds where that is cancelled holds the second time
abbrev cancelling : TestAsking
cancelling so_far check = answered so_far.cancelled (record so_far { cancelled = true })

asked_once : (check : MailCheck) → jumps cancelling (λ so_far check. 1) (look check ∷ jump_unless 3 ∷ act (Keep None) ∷ []) 3 ≡ Some dropped
asked_once check = refl

asked_twice : (check : MailCheck) → jumps cancelling (λ so_far check. 1) (look check ∷ look check ∷ jump_unless 4 ∷ act (Keep None) ∷ []) 4 ≡ Some kept
asked_twice check = refl

filed_by : Option Outcome → ℕ
filed_by None = 0
filed_by (Some (Done deeds)) = length deeds.filed
filed_by (Some (Failed failure)) = 0

-- one place too far, and the message is kept
too_far : IsCodeOf (set false ∷ jump_unless 4 ∷ stop ∷ act Discard ∷ []) tree → ⊥
unfolding filed_by
too_far of = let kept_once = ap (λ course. filed_by (outcome_of course)) (of (asking_at (λ so_far check. true)) (λ so_far check. 0) at_first) in omega arith

-- what is asked is paid for, also behind `not`, and what is passed over isn't: `anyof (not CHECK, CHECK)` asks both where the first
-- doesn't hold, and one where it does
abbrev either : MailCheck → List Instruction
either check = look check ∷ flip ∷ jump_if 5 ∷ look check ∷ jump_if 5 ∷ []

both_asked : (check : MailCheck) → jumps_from (asking_at (λ so_far check. true)) (λ so_far check. 7) (either check) 5 0 false at_first ≡ Some (record { flow = Going at_first; work = 14 })
both_asked check = refl

one_asked : (check : MailCheck) → jumps_from (asking_at (λ so_far check. false)) (λ so_far check. 7) (either check) 5 0 false at_first ≡ Some (record { flow = Going at_first; work = 7 })
one_asked check = refl

-- a run may take as much as that, and fails with one more, though `stop` came; the work is that of the run, not of one test
enough : (check : MailCheck) → jumps (asking_at (λ so_far check. false)) (λ so_far check. max_work) (look check ∷ act Discard ∷ stop ∷ []) 3 ≡ Some dropped
enough check = refl

too_much : (check : MailCheck) → jumps (asking_at (λ so_far check. false)) (λ so_far check. max_work) (look check ∷ act Discard ∷ look check ∷ stop ∷ []) 4 ≡ Some (Failed TooMuchWork)
too_much check = refl

-- a run that begins with what others did ends with what it does behind that, before its implicit keep, and has its own limit of work
ended_behind : (so_far : RunState) (check : MailCheck)
    → ends_within (asking_at (λ so_far check. true)) (λ so_far check. 7) 7 (look check ∷ act Discard ∷ stop ∷ []) so_far ≡ Some (Ended (record so_far { cancelled = true }) 7)
ended_behind so_far check = refl

one_too_much : (so_far : RunState) (check : MailCheck) → ends_within (asking_at (λ so_far check. true)) (λ so_far check. 7) 6 (look check ∷ act Discard ∷ stop ∷ []) so_far ≡ Some (Broken TooMuchWork)
one_too_much so_far check = refl

-- a jump to the end leads forward, and one to its own place doesn't
forward : IsForward (jump 1 ∷ [])
forward zero instr here = subst (LeadsForward 0 1) (same_Some _ _ here) (omega arith, omega arith)
forward (suc n) instr here = cc

in_place : IsForward (jump 0 ∷ []) → ⊥
in_place leads = let past : 0 < 0 = (leads 0 (jump 0) refl).0 in omega arith

-- a command, a branch, its test and its block, and a command
five : size tree ≡ 5
five = refl
