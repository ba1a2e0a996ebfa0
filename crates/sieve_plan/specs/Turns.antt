-- What scripts leave to one another, as the code has it.
use Rattle.std.specs.Prelude.{◌≡◌, ℕ, Bool, List}
use Rattle.sieve_exec.specs.Mails.{MailSpec}
use Rattle.sieve_exec.specs.Runs.{failure_view}
use Rattle.sieve_syntax.specs.Meaning.{Actions}
use Rattle.sieve_plan.specs.declared.handover.Handover.{Handover as Left}
use Rattle.sieve_plan.specs.declared.handover.ScriptEnd.{ScriptEnd as End}
use Rattle.sieve_plan.specs.declared.handover.ScriptEnd.TheVariants as end
use Rattle.sieve_plan.specs.declared.handover.Standing.{Standing}
use Rattle.sieve_plan.specs.declared.scripts.SequenceScript.{SequenceScript as Script}
use Rattle.sieve_plan.specs.declared.turn.SequenceState.{SequenceState as Progress}
use Rattle.sieve_plan.specs.declared.turn.TurnEnd.{TurnEnd}
use Rattle.sieve_plan.specs.declared.turn.TurnEnd.TheVariants as turn
use Rattle.sieve_plan.specs.Handover.{Handover, ScriptEnd, Ended, Broken, filed_for_good}
use Rattle.sieve_plan.specs.Plans.{deeds_in, notice_cause_text}
use Rattle.sieve_plan.specs.Sequences.{SequenceScript, SequenceState, RunsToEnd, FailsFor}

-- a script
abbrev pub script_in : Script → SequenceScript
script_in script = record { whose = script.whose; text = script.text.now }

-- what is left to the next script, given what stands
abbrev pub handover_by : Standing → (flags : List (List ℕ)) → (is_kept : Bool) → Handover
handover_by stands flags is_kept =
    record {
      filed = filed_for_good stands.names_inbox stands.done.filed;
      sent = stands.done.sent;
      flags = flags;
      keep_flags = stands.keep_flags;
      reply = stands.done.reply;
      is_kept = is_kept;
    }

abbrev pub handover_of : Left → Handover
handover_of left = handover_by left.stands left.flags left.is_kept

-- a script ends like this; where it fails, this is done by those before it
abbrev pub IsScriptEnd : ScriptEnd → (done : Actions) → End → Type 0
IsScriptEnd is done (end.Ended left) = is ≡ Ended (deeds_in left.stands.done) (handover_of left)
IsScriptEnd is done (end.Failed before failure) = (is ≡ Broken (failure_view failure)) × (deeds_in before ≡ done)

-- how far a sequence has come
abbrev pub sequence_state_of : Progress → SequenceState
sequence_state_of state = record { left = handover_of state.left; done = deeds_in state.left.stands.done; host_work = state.host_work }

-- what a script's turn comes to where the sequence has come so far; where it fails, this is done by those before it
abbrev pub TakesScriptTurn : MailSpec → SequenceScript → SequenceState → TurnEnd → Type 0
TakesScriptTurn mail script state (turn.Ended next) = RunsToEnd mail script state (sequence_state_of next)
TakesScriptTurn mail script state (turn.Failed before cause) = FailsFor mail script state (notice_cause_text cause) × (deeds_in before ≡ state.done)
