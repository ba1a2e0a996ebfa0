-- A script's turn, and the turns of a sequence.
use Rattle.std.proofs.Common.{◌≡◌, ◌<◌, ◌+◌, ℕ, Bool, true, false, cond, List, [], ◌∷◌, drop, drop-cons, get_or, length, map, suc, Option, Some, refl, sym, ap, subst, ◌∙◌, arith, inl, inr}
use Rattle.std.specs.Prelude.{MatchBool, nat_lt, not}
use Rattle.std.specs.Option.{option_map}
use Rattle.std.proofs.lemmas.List.{drop-map}
use Rattle.std.proofs.lemmas.Option.{same_Some}
use Rattle.sieve_syntax.specs.Tree.{Commands}
use Rattle.sieve_syntax.specs.Means.{Means}
use Rattle.sieve_syntax.specs.RunState.{RunState, Failure, TooMuchWork, Flow, Going, Stopped, Failed}
use Rattle.sieve_syntax.specs.Meaning.{Actions, does_all}
use Rattle.sieve_syntax.specs.Work.{all_take}
use Rattle.sieve_code.specs.Instructions.{Instruction}
use Rattle.sieve_code.specs.Jumps.{Course, RunEnd, end_by, end_within, ends_within, tree_course, IsCodeOf}
use Rattle.sieve_code.specs.Jumps as run
use Rattle.sieve_exec.specs.Mails.{MailSpec}
use Rattle.sieve_exec.specs.Work.{work_at}
use Rattle.sieve_plan.specs.declared.scripts.HostScripts.{HostScripts}
use Rattle.sieve_plan.specs.declared.scripts.SequenceScript.{SequenceScript as Script}
use Rattle.sieve_plan.specs.declared.scripts.Whose.{Whose}
use Rattle.sieve_plan.specs.Handover.{Handover, begins_from, Ended, Broken, ended_by}
use Rattle.sieve_plan.specs.Delivered.{failure_text, has_long_header, is_looping, kept, long_text, loop_text}
use Rattle.sieve_plan.specs.Sequences.{SequenceScript, SequenceState, asking_on, work_limit, host_work_behind, RunsToEnd, FailsFor, Breaks, told_of, Settled, settled_well, settled_unrun, SettlesInTurn, SettlesUnder, sequence_of, at_beginning}
use Rattle.sieve_plan.specs.Turns.{script_in}

-- ---- a run

-- the end of the code's run is that of the tree's
pub run_is : (mail : MailSpec) (code : List Instruction) (tree : Commands) (most : ℕ) (so_far : RunState) (end : RunEnd) → IsCodeOf code tree
    → Some end ≡ ends_within (asking_on mail) (work_at mail) most code so_far → end ≡ end_within most (tree_course (asking_on mail) (work_at mail) tree so_far)
run_is mail code tree most so_far end is_code is = same_Some _ _ (is ∙ ap (option_map (end_within most)) (is_code (asking_on mail) (work_at mail) so_far))

-- so a script fails where it does
broken : (most work : ℕ) (left : Handover) (flow : Flow) (failure : Failure) → end_within most (record { flow = flow; work = work }) ≡ run.Broken failure
    → cond (nat_lt most work) (Broken TooMuchWork) (ended_by left flow) ≡ Broken failure
broken most work left flow failure is = step (nat_lt most work) flow is
  where
    step : (much : Bool) (flow : Flow) → cond much (run.Broken TooMuchWork) (end_by flow work) ≡ run.Broken failure → cond much (Broken TooMuchWork) (ended_by left flow) ≡ Broken failure
    step true flow is = let same : TooMuchWork ≡ failure = cc is in ap (λ f. Broken f) same
    step false (Going state) is = absurd (cc is)
    step false (Stopped state) is = absurd (cc is)
    step false (Failed why) is = let same : why ≡ failure = cc is in ap (λ f. Broken f) same

-- and otherwise its implicit keep comes last, and the work is the run's
record Ends (most all : ℕ) (left : Handover) (flow : Flow) (at_end : RunState) (work : ℕ) : Type 0 where
  is : cond (nat_lt most all) (Broken TooMuchWork) (ended_by left flow) ≡ ended_by left (Going at_end)
  takes : work ≡ all

ended : (most all : ℕ) (left : Handover) (flow : Flow) (at_end : RunState) (work : ℕ) → end_within most (record { flow = flow; work = all }) ≡ run.Ended at_end work → Ends most all left flow at_end work
ended most all left flow at_end work is = step (nat_lt most all) refl flow is
  where
    step : (much : Bool) → nat_lt most all ≡ much → (flow : Flow) → cond much (run.Broken TooMuchWork) (end_by flow all) ≡ run.Ended at_end work → Ends most all left flow at_end work
    step true over flow is = absurd (cc is)
    step false over (Going state) is =
        let same : state ≡ at_end = cc is in
        let takes : work ≡ all = cc is in
        record { is = ap (λ b. cond b (Broken TooMuchWork) (ended_by left (Going state))) over ∙ ap (λ s. ended_by left (Going s)) same; takes = takes }
    step false over (Stopped state) is =
        let same : state ≡ at_end = cc is in
        let takes : work ≡ all = cc is in
        record { is = ap (λ b. cond b (Broken TooMuchWork) (ended_by left (Stopped state))) over ∙ ap (λ s. ended_by left (Going s)) same; takes = takes }
    step false over (Failed why) is = absurd (cc is)

-- ---- a turn

-- the run begins with what is left, and may take what is left of the work
pub run_comes : (mail : MailSpec) (whose : Whose) (code : List Instruction) (tree : Commands) (state : SequenceState) (most : ℕ) (so_far : RunState) (end : RunEnd) → IsCodeOf code tree
    → Some end ≡ ends_within (asking_on mail) (work_at mail) most code so_far → most ≡ work_limit whose state.host_work → so_far ≡ begins_from state.left
    → end ≡ end_within (work_limit whose state.host_work) (tree_course (asking_on mail) (work_at mail) tree (begins_from state.left))
run_comes mail whose code tree state most so_far end is_code is limited begun =
    run_is mail code tree most so_far end is_code is ∙ (λ i. end_within (limited i) (tree_course (asking_on mail) (work_at mail) tree (begun i)))

module _ (mail : MailSpec) (whose : Whose) (tree : Commands) (state : SequenceState) (end : RunEnd)
    (is : end ≡ end_within (work_limit whose state.host_work) (tree_course (asking_on mail) (work_at mail) tree (begins_from state.left))) where
  -- its run fails
  pub run_fails : (failure : Failure) → end ≡ run.Broken failure → (text : List ℕ) → Means text tree → FailsFor mail (record { whose = whose; text = text }) state (failure_text failure)
  run_fails failure fails text means =
      Breaks tree failure means
      (broken (work_limit whose state.host_work) (all_take (asking_on mail) (work_at mail) tree (begins_from state.left)) state.left (does_all (asking_on mail) tree (begins_from state.left)) failure (sym is ∙ fails)) refl

  run_ends : (at_end : RunState) (work : ℕ) → end ≡ run.Ended at_end work
      → Ends (work_limit whose state.host_work) (all_take (asking_on mail) (work_at mail) tree (begins_from state.left)) state.left (does_all (asking_on mail) tree (begins_from state.left)) at_end work
  run_ends at_end work over =
      ended (work_limit whose state.host_work) (all_take (asking_on mail) (work_at mail) tree (begins_from state.left)) state.left (does_all (asking_on mail) tree (begins_from state.left)) at_end work (sym is ∙ over)

  -- its implicit keep fails
  pub keep_fails : (at_end : RunState) (work : ℕ) (failure : Failure) → end ≡ run.Ended at_end work → ended_by state.left (Going at_end) ≡ Broken failure
      → (text : List ℕ) → Means text tree → FailsFor mail (record { whose = whose; text = text }) state (failure_text failure)
  keep_fails at_end work failure over fails text means = Breaks tree failure means ((run_ends at_end work over).is ∙ fails) refl

  -- it runs to its end
  pub turn_ends : (at_end : RunState) (work : ℕ) (next : SequenceState) → end ≡ run.Ended at_end work → ended_by state.left (Going at_end) ≡ Ended next.done next.left
      → next.host_work ≡ host_work_behind whose work state.host_work → (text : List ℕ) → Means text tree → RunsToEnd mail (record { whose = whose; text = text }) state next
  turn_ends at_end work next over ends takes text means =
      let run = run_ends at_end work over in
      record { tree = tree; means = means; ends = run.is ∙ ends; work = takes ∙ ap (λ n. host_work_behind whose n state.host_work) run.takes }

-- ---- the turns of a sequence

pub was_false : (b : Bool) → not b ≡ true → b ≡ false
was_false true is = absurd (cc is)
was_false false is = refl

pub was_true : (b : Bool) → not b ≡ false → b ≡ true
was_true true is = refl
was_true false is = absurd (cc is)

-- the script at a place, and those behind it
pub next_script : (scripts : List Script) (place : ℕ) (other : Script) → place < length scripts
    → drop place (map script_in scripts) ≡ script_in (get_or scripts place other) ∷ drop (place + 1) (map script_in scripts)
next_script scripts place other low =
    let after : suc place ≡ place + 1 = omega arith in
    drop-map script_in place scripts
    ∙ (ap (map script_in) (drop-cons scripts place other low)
    ∙ (ap (λ l. script_in (get_or scripts place other) ∷ l) (sym (drop-map script_in (suc place) scripts)) ∙ ap (λ n. script_in (get_or scripts place other) ∷ drop n (map script_in scripts)) after))

module _ (mail : MailSpec) (all : List SequenceScript) (from state : SequenceState) (place : ℕ)
    (so : (settled : Settled) → SettlesInTurn mail (drop place all) state settled → SettlesInTurn mail all from settled) where
  module _ (script : SequenceScript) (split : drop place all ≡ script ∷ drop (place + 1) all) where
    here : (settled : Settled) → SettlesInTurn mail (script ∷ drop (place + 1) all) state settled → SettlesInTurn mail all from settled
    here settled is = so settled (subst (λ l. SettlesInTurn mail l state settled) (sym split) is)

    -- a script fails
    pub turn_failed : (why : List ℕ) (done : Actions) → FailsFor mail script state why → done ≡ state.done → SettlesInTurn mail all from (record { deeds = done; notice = Some (told_of script.whose why) })
    turn_failed why done fails stands = here _ (inl (record { why = why; fails = fails; stands = stands; told = refl }))

    -- it doesn't leave the message to be kept
    pub turn_last : (next : SequenceState) → RunsToEnd mail script state next → next.left.is_kept ≡ false → SettlesInTurn mail all from (settled_well next.done)
    turn_last next runs gone =
        here _ (inr (next, runs, subst (λ b. MatchBool b (SettlesInTurn mail (drop (place + 1) all) next (settled_well next.done)) (settled_well next.done ≡ settled_well next.done)) (sym gone) refl))

    -- it does
    pub turn_on : (next : SequenceState) → RunsToEnd mail script state next → next.left.is_kept ≡ true
        → (settled : Settled) → SettlesInTurn mail (drop (place + 1) all) next settled → SettlesInTurn mail all from settled
    turn_on next runs still settled later =
        here settled (inr (next, runs, subst (λ b. MatchBool b (SettlesInTurn mail (drop (place + 1) all) next settled) (settled ≡ settled_well next.done)) (sym still) later))

  -- there is no other
  pub turns_over : drop place all ≡ [] → SettlesInTurn mail all from (settled_well state.done)
  turns_over none = so (settled_well state.done) (subst (λ l. SettlesInTurn mail l state (settled_well state.done)) (sym none) refl)

-- ---- a settlement

module _ (host : HostScripts) (own : Option (List ℕ)) (mail : MailSpec) (short : has_long_header mail.octets ≡ false) where
  behind : (settled : Settled) → MatchBool (is_looping mail) (settled ≡ settled_unrun loop_text) (SettlesInTurn mail (sequence_of host own) at_beginning settled) → SettlesUnder host own mail settled
  behind settled is =
      subst (λ long. MatchBool long (settled ≡ settled_unrun long_text) (MatchBool (is_looping mail) (settled ≡ settled_unrun loop_text) (SettlesInTurn mail (sequence_of host own) at_beginning settled)))
      (sym short) is

  -- no script runs
  pub settles_unrun : (deeds : Actions) → is_looping mail ≡ true → deeds ≡ kept → SettlesUnder host own mail (record { deeds = deeds; notice = Some loop_text })
  settles_unrun deeds loops is =
      let settled : Settled = record { deeds = deeds; notice = Some loop_text } in
      let same : settled ≡ settled_unrun loop_text = λ i. record { deeds = is i; notice = Some loop_text } in
      behind settled (subst (λ looping. MatchBool looping (settled ≡ settled_unrun loop_text) (SettlesInTurn mail (sequence_of host own) at_beginning settled)) (sym loops) same)

  -- they run in turn
  pub settles_in_turn : (scripts : List SequenceScript) (settled : Settled) → is_looping mail ≡ false → scripts ≡ sequence_of host own → SettlesInTurn mail scripts at_beginning settled
      → SettlesUnder host own mail settled
  settles_in_turn scripts settled calm are is =
      behind settled (subst (λ looping. MatchBool looping (settled ≡ settled_unrun loop_text) (SettlesInTurn mail (sequence_of host own) at_beginning settled)) (sym calm)
      (subst (λ l. SettlesInTurn mail l at_beginning settled) are is))
