-- Laws of the host's scripts and the user's.
use Rattle.std.proofs.Common.{◌≡◌, ◌≤◌, ◌-◌, ◌++◌, ℕ, Bool, true, false, cond, List, [], ◌∷◌, length, Option, Some, None, refl, sym, ap, subst, ◌∙◌, arith, inl, inr}
use Rattle.std.specs.Prelude.{MatchBool, nat_lt, ◌↔◌}
use Rattle.std.specs.List.{Contains, IsDistinct}
use Rattle.std.proofs.Math.Seq.{drop-length}
use Rattle.std.proofs.lemmas.Bool.Decides.{nat_tests}
use Rattle.std.proofs.lemmas.List.{append-nil}
use Rattle.std.proofs.lemmas.List.Elements.{All-contains, All-weaker}
use Rattle.mail_address.specs.declared.address.Addr.{Addr}
use Rattle.mail_flags.specs.declared.placement.Placement.{Placement}
use Rattle.sieve_syntax.specs.declared.tree.action.Action.TheVariants.{Discard}
use Rattle.sieve_syntax.specs.Tree.{act, Commands, no_commands, command}
use Rattle.sieve_syntax.specs.Means.{Means}
use Rattle.sieve_syntax.specs.RunState.{RunState, Failure, TooMuchWork}
use Rattle.sieve_syntax.specs.Meaning.{Actions}
use Rattle.sieve_syntax.specs.Trace.{NamesWithoutRepeats}
use Rattle.sieve_syntax.specs.Work.{all_take}
use Rattle.sieve_syntax.specs.declared.extension.vacation.VacationArgs.{VacationArgs}
use Rattle.sieve_syntax.proofs.MeansLaws.{means_only}
use Rattle.sieve_exec.specs.Mails.{MailSpec}
use Rattle.sieve_exec.specs.Outcomes.{outcome_at}
use Rattle.sieve_exec.specs.Truth.{truth_at}
use Rattle.sieve_exec.specs.Work.{work_at}
use Rattle.store_accounts.specs.Account.{Account, room_in, adds_notice, adds_notice_if_any}
use Rattle.store_accounts.specs.declared.report.Report.{Report}
use Rattle.sieve_plan.specs.Sent.{over_keys}
use Rattle.sieve_plan.specs.Views.{last_reply}
use Rattle.sieve_plan.specs.Delivered.{Disposition, Acts, Tells, Disposes, DisposesUnder, DisposesUnlessLooping, DisposesUnlessLong, disposition_of, failure_text, loop_text, long_text, invalid_text, is_looping, has_long_header, kept, Silent, acts, done_of, held_of, report_of, responds, DeliversAs, Delivers}
use Rattle.sieve_plan.specs.declared.scripts.HostScripts.{HostScripts}
use Rattle.sieve_plan.specs.declared.scripts.Whose.{Whose}
use Rattle.sieve_plan.specs.declared.scripts.Whose.TheVariants.{Before, Own, After}
use Rattle.sieve_plan.specs.Handover.{Handover, begins_from, filed_behind, first_reply, done_behind, leaves, for_good, StandsAmong, ScriptEnd, Ended, Broken}
use Rattle.sieve_plan.specs.Sequences.{SequenceScript, no_host_scripts, sequence_of, SequenceState, at_beginning, asking_on, end_at, max_host_work, work_limit, host_work_behind, RunsToEnd, FailsFor, IsInvalid, Breaks, told_of, Settled, settled_well, settled_unrun, SettlesInTurn, RunInTurn, SettlesUnder, notice_left, forgotten_unless, CarriesOutSettled, DeliversInSequence}
use Rattle.sieve_plan.proofs.DeliveryLaws.{one_response}
use Rattle.sieve_plan.proofs.PlanLemmas.{none_goes}
use Rattle.sieve_plan.proofs.HandoverLaws.{outcome_of, alone, looking_leaves, AreApart, IsGoodEnd, good_end}

-- ---- a script has one end

abbrev done_in : ScriptEnd → Actions → Actions
done_in (Ended done next) other = done
done_in (Broken failure) other = other

abbrev left_in : ScriptEnd → Handover → Handover
left_in (Ended done next) other = next
left_in (Broken failure) other = other

abbrev failure_in : ScriptEnd → Failure → Failure
failure_in (Ended done next) other = other
failure_in (Broken failure) other = failure

module _ (mail : MailSpec) (script : SequenceScript) (state : SequenceState) where
  one_next : (one two : SequenceState) → RunsToEnd mail script state one → RunsToEnd mail script state two → one ≡ two
  one_next one two is was =
      let trees = means_only script.text is.tree was.tree is.means was.means in
      let ends : Ended one.done one.left ≡ Ended two.done two.left = sym is.ends ∙ (ap (λ t. end_at mail script.whose t state) trees ∙ was.ends) in
      let done : one.done ≡ two.done = ap (λ e. done_in e one.done) ends in
      let left : one.left ≡ two.left = ap (λ e. left_in e one.left) ends in
      let work : one.host_work ≡ two.host_work =
      is.work ∙ (ap (λ t. host_work_behind script.whose (all_take (asking_on mail) (work_at mail) t (begins_from state.left)) state.host_work) trees ∙ sym was.work) in
      λ i. record { left = left i; done = done i; host_work = work i }

  never_both : (next : SequenceState) (why : List ℕ) → RunsToEnd mail script state next → FailsFor mail script state why → ⊥
  never_both next why is (IsInvalid none same) = none is.tree is.means
  never_both next why is (Breaks tree failure means broken same) =
      let ends : Ended next.done next.left ≡ Broken failure = sym is.ends ∙ (ap (λ t. end_at mail script.whose t state) (means_only script.text is.tree tree is.means means) ∙ broken) in
      cc

  one_reason : (one two : List ℕ) → FailsFor mail script state one → FailsFor mail script state two → one ≡ two
  one_reason one two (IsInvalid none same) (IsInvalid other was) = same ∙ sym was
  one_reason one two (IsInvalid none same) (Breaks tree failure means broken was) = absurd (none tree means)
  one_reason one two (Breaks tree failure means broken same) (IsInvalid none was) = absurd (none tree means)
  one_reason one two (Breaks tree failure means broken same) (Breaks other another meant breaks was) =
      let ends : Broken failure ≡ Broken another = sym broken ∙ (ap (λ t. end_at mail script.whose t state) (means_only script.text tree other means meant) ∙ breaks) in
      same ∙ (ap failure_text (ap (λ e. failure_in e failure) ends) ∙ sym was)

-- ---- a sequence comes to one thing

-- where it runs to its end, the sequence goes on from there
goes_on : (mail : MailSpec) (script : SequenceScript) (more : List SequenceScript) (state next : SequenceState) (settled : Settled) → RunsToEnd mail script state next
    → SettlesInTurn mail (script ∷ more) state settled → MatchBool next.left.is_kept (SettlesInTurn mail more next settled) (settled ≡ settled_well next.done)
goes_on mail script more state next settled runs (inl failed) = absurd (never_both mail script state next failed.why runs failed.fails)
goes_on mail script more state next settled runs (inr (other, ran, so)) =
    subst (λ (n : SequenceState). MatchBool n.left.is_kept (SettlesInTurn mail more n settled) (settled ≡ settled_well n.done)) (one_next mail script state other next ran runs) so

-- where it fails, that is the end
fails_so : (mail : MailSpec) (script : SequenceScript) (more : List SequenceScript) (state : SequenceState) (settled : Settled) (why : List ℕ) → FailsFor mail script state why
    → SettlesInTurn mail (script ∷ more) state settled → settled ≡ record { deeds = state.done; notice = Some (told_of script.whose why) }
fails_so mail script more state settled why fails (inl failed) =
    let same = one_reason mail script state failed.why why failed.fails fails in
    let told : settled.notice ≡ Some (told_of script.whose why) = failed.told ∙ ap (λ w. Some (told_of script.whose w)) same in
    λ i. record { deeds = failed.stands i; notice = told i }
fails_so mail script more state settled why fails (inr (other, ran, so)) = absurd (never_both mail script state other why ran fails)

pub one_in_turn : (mail : MailSpec) (scripts : List SequenceScript) (state : SequenceState) (one two : Settled) → SettlesInTurn mail scripts state one → SettlesInTurn mail scripts state two → one ≡ two
one_in_turn mail [] state one two is was = is ∙ sym was
one_in_turn mail (script ∷ more) state one two (inl failed) was =
    let same : one ≡ record { deeds = state.done; notice = Some (told_of script.whose failed.why) } = λ i. record { deeds = failed.stands i; notice = failed.told i } in
    same ∙ sym (fails_so mail script more state two failed.why failed.fails was)
one_in_turn mail (script ∷ more) state one two (inr (next, runs, so)) was = step next.left.is_kept so (goes_on mail script more state next two runs was) (one_in_turn mail more next one two)
  where
    step : (going_on : Bool) → MatchBool going_on (SettlesInTurn mail more next one) (one ≡ settled_well next.done) → MatchBool going_on (SettlesInTurn mail more next two) (two ≡ settled_well next.done)
        → (SettlesInTurn mail more next one → SettlesInTurn mail more next two → one ≡ two) → one ≡ two
    step true is was later = later is was
    step false is was later = is ∙ sym was

-- ---- what stands

-- what is so of the state at each place of a sequence
pub record IsGoodState (state : SequenceState) : Type 0 where
  pub apart : AreApart state.left.filed state.left.sent
  pub is_done : StandsAmong (for_good state.left) state.done
  pub once : NamesWithoutRepeats state.done

pub good_beginning : IsGoodState at_beginning
unfolding IsDistinct
good_beginning = record {
  apart = record { mailboxes = tt; addresses = tt; few_mailboxes = omega arith; few_addresses = omega arith };
  is_done = record { filed = λ k d below. absurd (omega (arith, below)); sent = λ k d below. absurd (omega (arith, below)); reply = λ args is. absurd (cc is) };
  once = record { mailboxes = (tt, tt); addresses = tt; few_mailboxes = omega arith; few_addresses = omega arith };
}

good_run_to_end : (mail : MailSpec) (script : SequenceScript) (state next : SequenceState) → IsGoodState state → RunsToEnd mail script state next → IsGoodEnd state.left next.done next.left
good_run_to_end mail script state next good runs = good_end (asking_on mail) (looking_leaves (truth_at mail)) (work_at mail) _ runs.tree state.left good.apart next.done next.left runs.ends

pub good_next : (mail : MailSpec) (script : SequenceScript) (state next : SequenceState) → IsGoodState state → RunsToEnd mail script state next → IsGoodState next
good_next mail script state next good runs =
    let ended = good_run_to_end mail script state next good runs in
    record { apart = ended.apart; is_done = ended.is_done; once = ended.once }

-- what stands in deeds that stand in others stands in those
stands_further : (some more all : Actions) → StandsAmong some more → StandsAmong more all → StandsAmong some all
stands_further some more all one two = record {
  filed = All-weaker (Contains more.filed) (Contains all.filed) (λ x there. All-contains (Contains all.filed) more.filed x two.filed there) some.filed one.filed;
  sent = All-weaker (Contains more.sent) (Contains all.sent) (λ x there. All-contains (Contains all.sent) more.sent x two.sent there) some.sent one.sent;
  reply = λ args is. two.reply args (one.reply args is);
}

record IsGoodSettled (state : SequenceState) (settled : Settled) : Type 0 where
  stands : StandsAmong (for_good state.left) settled.deeds
  once : NamesWithoutRepeats settled.deeds

good_in_turn : (mail : MailSpec) (scripts : List SequenceScript) (state : SequenceState) (settled : Settled) → IsGoodState state → SettlesInTurn mail scripts state settled → IsGoodSettled state settled
good_in_turn mail [] state settled good is =
    subst (IsGoodSettled state) (sym is) (record { stands = good.is_done; once = good.once })
good_in_turn mail (script ∷ more) state settled good (inl failed) =
    record { stands = subst (StandsAmong (for_good state.left)) (sym failed.stands) good.is_done; once = subst NamesWithoutRepeats (sym failed.stands) good.once }
good_in_turn mail (script ∷ more) state settled good (inr (next, runs, so)) = step next.left.is_kept so (good_in_turn mail more next settled (good_next mail script state next good runs))
  where
    step : (going_on : Bool) → MatchBool going_on (SettlesInTurn mail more next settled) (settled ≡ settled_well next.done) → (SettlesInTurn mail more next settled → IsGoodSettled next settled)
        → IsGoodSettled state settled
    step true is later =
        let ended = good_run_to_end mail script state next good runs in
        let good_end = later is in
        record { stands = stands_further (for_good state.left) (for_good next.left) settled.deeds ended.stays good_end.stands; once = good_end.once }
    step false is later =
        let ended = good_run_to_end mail script state next good runs in
        subst (IsGoodSettled state) (sym is) (record { stands = ended.stands; once = ended.once })

-- ---- the scripts that ran

goes_on_kept : (mail : MailSpec) (script : SequenceScript) (more : List SequenceScript) (state next : SequenceState) (settled : Settled) → RunsToEnd mail script state next → next.left.is_kept ≡ true
    → SettlesInTurn mail (script ∷ more) state settled → SettlesInTurn mail more next settled
goes_on_kept mail script more state next settled runs still is =
    subst (λ b. MatchBool b (SettlesInTurn mail more next settled) (settled ≡ settled_well next.done)) still (goes_on mail script more state next settled runs is)

-- behind them the sequence goes on
ran_so_far : (mail : MailSpec) (ran more : List SequenceScript) (from to : SequenceState) (settled : Settled) → RunInTurn mail ran from to → SettlesInTurn mail (ran ++ more) from settled
    → SettlesInTurn mail more to settled
ran_so_far mail [] more from to settled same is = subst (λ state. SettlesInTurn mail more state settled) same is
ran_so_far mail (script ∷ others) more from to settled (next, runs, still, later) is =
    ran_so_far mail others more next to settled later (goes_on_kept mail script (others ++ more) from next settled runs still is)

good_so_far : (mail : MailSpec) (ran : List SequenceScript) (from to : SequenceState) → IsGoodState from → RunInTurn mail ran from to → IsGoodState to
good_so_far mail [] from to good same = subst IsGoodState same good
good_so_far mail (script ∷ others) from to good (next, runs, still, later) = good_so_far mail others next to (good_next mail script from next good runs) later

-- what is done so far is what these scripts come to where no other is behind them
pub ran_settles : (mail : MailSpec) (ran : List SequenceScript) (from to : SequenceState) → RunInTurn mail ran from to → SettlesInTurn mail ran from (settled_well to.done)
ran_settles mail [] from to same = ap (λ (state : SequenceState). settled_well state.done) (sym same)
ran_settles mail (script ∷ others) from to (next, runs, still, later) =
    inr (
      next,
      runs,
      subst (λ b. MatchBool b (SettlesInTurn mail others next (settled_well to.done)) (settled_well to.done ≡ settled_well next.done)) (sym still) (ran_settles mail others next to later),
    )

-- what was done for good is done in the end
pub none_undoes : (mail : MailSpec) (ran more : List SequenceScript) (state : SequenceState) (settled : Settled) → RunInTurn mail ran at_beginning state
    → SettlesInTurn mail (ran ++ more) at_beginning settled → StandsAmong (for_good state.left) settled.deeds
none_undoes mail ran more state settled run is =
    (good_in_turn mail more state settled (good_so_far mail ran at_beginning state good_beginning run) (ran_so_far mail ran more at_beginning state settled run is)).stands

-- each mailbox and each address is there once
pub once_over_all : (mail : MailSpec) (scripts : List SequenceScript) (settled : Settled) → SettlesInTurn mail scripts at_beginning settled → NamesWithoutRepeats settled.deeds
once_over_all mail scripts settled is = (good_in_turn mail scripts at_beginning settled good_beginning is).once

-- a failure leaves what stood before, whatever is behind it
pub failure_leaves : (mail : MailSpec) (ran more : List SequenceScript) (script : SequenceScript) (state : SequenceState) (why : List ℕ) (settled : Settled) → RunInTurn mail ran at_beginning state
    → FailsFor mail script state why → SettlesInTurn mail (ran ++ script ∷ more) at_beginning settled → settled ≡ record { deeds = state.done; notice = Some (told_of script.whose why) }
failure_leaves mail ran more script state why settled run fails is =
    fails_so mail script more state settled why fails (ran_so_far mail ran (script ∷ more) at_beginning state settled run is)

-- a script that doesn't leave the message to be kept is the last one
pub ends_there : (mail : MailSpec) (ran more : List SequenceScript) (script : SequenceScript) (state next : SequenceState) (settled : Settled) → RunInTurn mail ran at_beginning state
    → RunsToEnd mail script state next → next.left.is_kept ≡ false → SettlesInTurn mail (ran ++ script ∷ more) at_beginning settled → settled ≡ settled_well next.done
ends_there mail ran more script state next settled run runs gone is =
    subst (λ b. MatchBool b (SettlesInTurn mail more next settled) (settled ≡ settled_well next.done)) gone
    (goes_on mail script more state next settled runs (ran_so_far mail ran (script ∷ more) at_beginning state settled run is))

-- ---- without the host's scripts

abbrev pub settled_as : Disposition → Settled
settled_as (Acts deeds) = settled_well deeds
settled_as (Tells text) = settled_unrun text

abbrev own_script : List ℕ → SequenceScript
own_script text = record { whose = Own; text = text }

either_way : (b : Bool) (P : Type 0) → P → MatchBool b P P
either_way true P so = so
either_way false P so = so

in_either : (b : Bool) (P : Type 0) → MatchBool b P P → P
in_either true P so = so
in_either false P so = so

alone_settles : (text : List ℕ) (mail : MailSpec) (tree : Commands) → Means text tree → SettlesInTurn mail (own_script text ∷ []) at_beginning (settled_as (disposition_of (outcome_at mail tree)))
alone_settles text mail tree means =
    subst (λ o. SettlesInTurn mail (own_script text ∷ []) at_beginning (settled_as (disposition_of o))) (alone (asking_on mail) (work_at mail) tree) (step (end_at mail Own tree at_beginning) refl)
  where
    step : (end : ScriptEnd) → end_at mail Own tree at_beginning ≡ end → SettlesInTurn mail (own_script text ∷ []) at_beginning (settled_as (disposition_of (outcome_of end)))
    step (Ended done next) is =
        inr (record { left = next; done = done; host_work = 0 }, record { tree = tree; means = means; ends = is; work = refl }, either_way next.is_kept (settled_well done ≡ settled_well done) refl)
    step (Broken failure) is = inl (record { why = failure_text failure; fails = Breaks tree failure means is refl; stands = refl; told = refl })

settles_under : (text : Option (List ℕ)) (mail : MailSpec) (disposition : Disposition) → DisposesUnder text mail disposition
    → SettlesInTurn mail (sequence_of no_host_scripts text) at_beginning (settled_as disposition)
settles_under None mail disposition is = ap settled_as is
settles_under (Some text) mail disposition (inl (tree, means, is)) =
    subst (λ d. SettlesInTurn mail (own_script text ∷ []) at_beginning (settled_as d)) (sym is) (alone_settles text mail tree means)
settles_under (Some text) mail disposition (inr (none, is)) =
    subst (λ d. SettlesInTurn mail (own_script text ∷ []) at_beginning (settled_as d)) (sym is) (inl (record { why = invalid_text; fails = IsInvalid none refl; stands = refl; told = refl }))

settles_all : (text : Option (List ℕ)) (mail : MailSpec) (disposition : Disposition) → Disposes text mail disposition → SettlesUnder no_host_scripts text mail (settled_as disposition)
settles_all text mail disposition is = unless_long (has_long_header mail.octets) is
  where
    unless_looping : (looping : Bool) → DisposesUnlessLooping looping text mail disposition
        → MatchBool looping (settled_as disposition ≡ settled_unrun loop_text) (SettlesInTurn mail (sequence_of no_host_scripts text) at_beginning (settled_as disposition))
    unless_looping true so = ap settled_as so
    unless_looping false so = settles_under text mail disposition so

    unless_long : (long : Bool) → DisposesUnlessLong long text mail disposition
        → MatchBool long (settled_as disposition ≡ settled_unrun long_text)
        (MatchBool (is_looping mail) (settled_as disposition ≡ settled_unrun loop_text) (SettlesInTurn mail (sequence_of no_host_scripts text) at_beginning (settled_as disposition)))
    unless_long true so = ap settled_as so
    unless_long false so = unless_looping (is_looping mail) so

-- and the other way round
abbrev DisposedAs : (Disposition → Type 0) → Settled → Type 0
DisposedAs P settled = (disposition : Disposition) × P disposition × (settled ≡ settled_as disposition)

ends_alone : (mail : MailSpec) (tree : Commands) (end : ScriptEnd) → end_at mail Own tree at_beginning ≡ end → outcome_of end ≡ outcome_at mail tree
ends_alone mail tree end is = ap outcome_of (sym is) ∙ alone (asking_on mail) (work_at mail) tree

disposed_failed : (text : List ℕ) (mail : MailSpec) (settled : Settled) (why : List ℕ) → FailsFor mail (own_script text) at_beginning why → settled ≡ settled_unrun why
    → DisposedAs (DisposesUnder (Some text) mail) settled
disposed_failed text mail settled why (IsInvalid none same) is = (Tells invalid_text, inr (none, refl), is ∙ ap settled_unrun same)
disposed_failed text mail settled why (Breaks tree failure means broken same) is =
    (Tells (failure_text failure), inl (tree, means, ap disposition_of (ends_alone mail tree (Broken failure) broken)), is ∙ ap settled_unrun same)

disposed_under : (text : Option (List ℕ)) (mail : MailSpec) (settled : Settled) → SettlesInTurn mail (sequence_of no_host_scripts text) at_beginning settled → DisposedAs (DisposesUnder text mail) settled
disposed_under None mail settled is = (Acts kept, refl, is)
disposed_under (Some text) mail settled (inl failed) = disposed_failed text mail settled failed.why failed.fails (λ i. record { deeds = failed.stands i; notice = failed.told i })
disposed_under (Some text) mail settled (inr (next, runs, so)) =
    (Acts next.done, inl (runs.tree, runs.means, ap disposition_of (ends_alone mail runs.tree (Ended next.done next.left) runs.ends)), in_either next.left.is_kept (settled ≡ settled_well next.done) so)

disposed_all : (text : Option (List ℕ)) (mail : MailSpec) (settled : Settled) → SettlesUnder no_host_scripts text mail settled → DisposedAs (Disposes text mail) settled
disposed_all text mail settled is = unless_long (has_long_header mail.octets) is
  where
    unless_looping : (looping : Bool) → MatchBool looping (settled ≡ settled_unrun loop_text) (SettlesInTurn mail (sequence_of no_host_scripts text) at_beginning settled)
        → DisposedAs (DisposesUnlessLooping looping text mail) settled
    unless_looping true so = (Tells loop_text, refl, so)
    unless_looping false so = disposed_under text mail settled so

    unless_long : (long : Bool) → MatchBool long (settled ≡ settled_unrun long_text)
        (MatchBool (is_looping mail) (settled ≡ settled_unrun loop_text) (SettlesInTurn mail (sequence_of no_host_scripts text) at_beginning settled))
        → DisposedAs (DisposesUnlessLong long text mail) settled
    unless_long true so = (Tells long_text, refl, so)
    unless_long false so = unless_looping (is_looping mail) so

-- what is carried out
nobody : (a : Account) (mail : MailSpec) → done_of a mail kept ≡ kept
nobody a mail = rw (none_goes a mail) refl

module _ (own : Addr) (moment : ℕ) (mail : MailSpec) (a : Account) (report : Report) (a2 : Account) where
  pub carries_out : (disposition : Disposition) → DeliversAs own moment mail disposition a report a2 → CarriesOutSettled own moment mail (settled_as disposition) a report a2
  carries_out (Acts deeds) is = record { response = is.response; is_response = is.is_response; reported = is.reported; changed = is.changed }
  carries_out (Tells text) is = record {
    response = Silent;
    is_response = refl;
    reported = is.reported ∙ ap (λ d. report_of d Silent (Some text)) (sym (nobody a mail));
    changed = is.changed ∙ ap (λ d. adds_notice moment text (acts mail d [] a)) (sym (nobody a mail));
  }

  is_carried_out : (disposition : Disposition) → CarriesOutSettled own moment mail (settled_as disposition) a report a2 → DeliversAs own moment mail disposition a report a2
  is_carried_out (Acts deeds) is = record { response = is.response; is_response = is.is_response; reported = is.reported; changed = is.changed }
  is_carried_out (Tells text) is = record {
    reported = is.reported ∙ (λ i. report_of (nobody a mail i) (is.is_response i) (Some text));
    changed = is.changed ∙ (λ i. adds_notice moment text (responds mail (is.is_response i) (acts mail (nobody a mail i) [] a)));
  }

-- a delivery without the host's scripts is today's
pub without_host : (own : Addr) (mail : MailSpec) (text : Option (List ℕ)) (a : Account) (report : Report) (a2 : Account)
    → Delivers own mail text a report a2 ↔ DeliversInSequence own no_host_scripts mail text a report a2
without_host own mail text a report a2 = (there, back)
  where
    there : Delivers own mail text a report a2 → DeliversInSequence own no_host_scripts mail text a report a2
    there is = record {
      settled = settled_as is.disposition;
      settles = settles_all text mail is.disposition is.disposes;
      delivers = carries_out own mail.moment mail a report a2 is.disposition is.delivers;
    }

    back : DeliversInSequence own no_host_scripts mail text a report a2 → Delivers own mail text a report a2
    back is =
        let found = disposed_all text mail is.settled is.settles in
        record {
          disposition = found.0;
          disposes = found.1;
          delivers = is_carried_out own mail.moment mail a report a2 found.0 (subst (λ s. CarriesOutSettled own mail.moment mail s a report a2) found.2 is.delivers);
        }

-- ---- a `discard` of the user's

nothing_new : (filed : List Placement) → filed_behind filed filed ≡ filed
nothing_new filed = ap (λ l. filed ++ l) (drop-length filed) ∙ append-nil filed

first_alone : (reply : Option VacationArgs) → first_reply reply None ≡ reply
first_alone None = refl
first_alone (Some args) = refl

-- none of the host's behind it runs: what those before it did for good is all that is done
pub discarded_by_user : (mail : MailSpec) (before after : List SequenceScript) (text : List ℕ) (state : SequenceState) (settled : Settled) → RunInTurn mail before at_beginning state
    → Means text (command (act Discard) no_commands) → SettlesInTurn mail (before ++ record { whose = Own; text = text } ∷ after) at_beginning settled → settled ≡ settled_well (for_good state.left)
discarded_by_user mail before after text state settled run means is =
    let at_end : RunState = record (begins_from state.left) { cancelled = true } in
    let done = done_behind state.left at_end in
    let next : SequenceState = record { left = leaves state.left at_end done; done = done; host_work = state.host_work } in
    let runs : RunsToEnd mail (own_script text) state next = record { tree = command (act Discard) no_commands; means = means; ends = refl; work = refl } in
    ends_there mail before after (own_script text) state next settled run runs refl is
    ∙ (λ i. settled_well (record { filed = nothing_new state.left.filed i; sent = state.left.sent; reply = first_alone state.left.reply i }))

-- ---- work

within : (most work : ℕ) (end : ScriptEnd) (done : Actions) (next : Handover) → cond (nat_lt most work) (Broken TooMuchWork) end ≡ Ended done next → work ≤ most
within most work end done next is = step (nat_lt most work) refl is
  where
    step : (much : Bool) → nat_lt most work ≡ much → cond much (Broken TooMuchWork) end ≡ Ended done next → work ≤ most
    step true over same = absurd (cc same)
    step false over same = grind (arith, nat_tests)

host_work_next : (whose : Whose) (work before : ℕ) → before ≤ max_host_work → work ≤ work_limit whose before → host_work_behind whose work before ≤ max_host_work
host_work_next Before work before low small = omega (arith, low, small)
host_work_next Own work before low small = low
host_work_next After work before low small = omega (arith, low, small)

host_work_so_far : (mail : MailSpec) (ran : List SequenceScript) (from to : SequenceState) → from.host_work ≤ max_host_work → RunInTurn mail ran from to → to.host_work ≤ max_host_work
host_work_so_far mail [] from to low same = subst (λ (s : SequenceState). s.host_work ≤ max_host_work) same low
host_work_so_far mail (script ∷ others) from to low (next, runs, still, later) =
    let work = all_take (asking_on mail) (work_at mail) runs.tree (begins_from from.left) in
    let small : work ≤ work_limit script.whose from.host_work = within (work_limit script.whose from.host_work) work _ next.done next.left runs.ends in
    host_work_so_far mail others next to (subst (λ n. n ≤ max_host_work) (sym runs.work) (host_work_next script.whose work from.host_work low small)) later

-- the host's scripts take a quarter of a run's work among them all
pub host_work_bounded : (mail : MailSpec) (ran : List SequenceScript) (state : SequenceState) → RunInTurn mail ran at_beginning state → state.host_work ≤ 50_000_000
host_work_bounded mail ran state run = host_work_so_far mail ran at_beginning state (omega arith) run

-- ---- one report

one_under : (host : HostScripts) (text : Option (List ℕ)) (mail : MailSpec) (one two : Settled) → SettlesUnder host text mail one → SettlesUnder host text mail two → one ≡ two
one_under host text mail one two is was = unless_long (has_long_header mail.octets) is was
  where
    unless_looping : (looping : Bool) → MatchBool looping (one ≡ settled_unrun loop_text) (SettlesInTurn mail (sequence_of host text) at_beginning one)
        → MatchBool looping (two ≡ settled_unrun loop_text) (SettlesInTurn mail (sequence_of host text) at_beginning two) → one ≡ two
    unless_looping true here there = here ∙ sym there
    unless_looping false here there = one_in_turn mail (sequence_of host text) at_beginning one two here there

    unless_long : (long : Bool) → MatchBool long (one ≡ settled_unrun long_text) (MatchBool (is_looping mail) (one ≡ settled_unrun loop_text) (SettlesInTurn mail (sequence_of host text) at_beginning one))
        → MatchBool long (two ≡ settled_unrun long_text) (MatchBool (is_looping mail) (two ≡ settled_unrun loop_text) (SettlesInTurn mail (sequence_of host text) at_beginning two)) → one ≡ two
    unless_long true here there = here ∙ sym there
    unless_long false here there = unless_looping (is_looping mail) here there

one_carried_out : (own : Addr) (moment : ℕ) (mail : MailSpec) (settled : Settled) (a : Account) (one two : Report) (after other : Account)
    → CarriesOutSettled own moment mail settled a one after → CarriesOutSettled own moment mail settled a two other → (one ≡ two) × (after ≡ other)
one_carried_out own moment mail settled a one two after other is was =
    let done = done_of a mail settled.deeds in
    let notice = notice_left settled.notice (held_of a mail settled.deeds) in
    let same = one_response own moment mail (last_reply a mail.from) (room_in a - length done.sent) settled.deeds.reply is.response was.response is.is_response was.is_response in (
      is.reported ∙ (ap (λ x. report_of done x notice) same ∙ sym was.reported),
      is.changed ∙ (ap (λ x. adds_notice_if_any moment notice (responds mail x (acts mail done (forgotten_unless settled.notice (over_keys a moment)) a))) same ∙ sym was.changed),
    )

pub one_delivery_in_sequence : (own : Addr) (host : HostScripts) (mail : MailSpec) (text : Option (List ℕ)) (a : Account) (one two : Report) (after other : Account)
    → DeliversInSequence own host mail text a one after → DeliversInSequence own host mail text a two other → (one ≡ two) × (after ≡ other)
one_delivery_in_sequence own host mail text a one two after other is was =
    let same = one_under host text mail is.settled was.settled is.settles was.settles in
    one_carried_out own mail.moment mail was.settled a one two after other (subst (λ s. CarriesOutSettled own mail.moment mail s a one after) same is.delivers) was.delivers
