-- Where a script leaves the message to be kept, or fails, INBOX has it.
use Rattle.std.proofs.Common.{◌≡◌, ◌||◌, ℕ, Bool, true, false, cond, List, [], ◌∷◌, ◌++◌, length, Option, Some, None, refl, sym, ap, subst, ◌∙◌, inl, inr}
use Rattle.std.specs.Prelude.{MatchBool, nat_eq, nat_lt, not}
use Rattle.std.specs.List.{list_any}
use Rattle.std.specs.Cmp.Lexicographic.{pointwise}
use Rattle.std.proofs.lemmas.Cmp.{nat_list_eq_equiv}
use Rattle.std.proofs.lemmas.List.Folds.{list_any-append}
use Rattle.mail_flags.specs.declared.placement.Placement.{Placement}
use Rattle.mail_address.specs.declared.address.Addr.{Addr}
use Rattle.sieve_syntax.specs.declared.tree.action.Action.{Action}
use Rattle.sieve_syntax.specs.declared.tree.action.Action.TheVariants.{Keep, Discard, FileInto, Redirect, Vacation, SetFlag, AddFlag, RemoveFlag}
use Rattle.sieve_syntax.specs.declared.tree.checks.MailCheck.{MailCheck}
use Rattle.sieve_syntax.specs.declared.extension.vacation.VacationArgs.{VacationArgs}
use Rattle.sieve_syntax.specs.RunState.{RunState, max_targets, TwoVacations, TooManyRedirects, TooManyMailboxes, TooMuchWork, Flow, Going, Stopped, Failed, inbox, mailbox_named, is_filed, has_room, with_filed, flags_given, cancelled_after, filed_into, implicit_flags, kept_with, same_target, sent_to, replied_by, with_keep, with_name, performed}
use Rattle.sieve_syntax.specs.Meaning.{TestAsking, does_all, Actions}
use Rattle.sieve_syntax.specs.Tree.{Commands}
use Rattle.sieve_syntax.specs.Work.{all_take}
use Rattle.sieve_syntax.proofs.OutcomeLemmas.{filed_anew}
use Rattle.sieve_exec.specs.Mails.{MailSpec}
use Rattle.sieve_exec.specs.Truth.{truth_at}
use Rattle.sieve_exec.specs.Work.{work_at}
use Rattle.sieve_plan.specs.Handover.{Handover, begins_from, leaves_kept, done_behind, Broken, ended_with, ended_by, end_of_run}
use Rattle.sieve_plan.specs.Sequences.{SequenceScript, asking_on, SequenceState, at_beginning, RunsToEnd, Settled, settled_well, SettlesInTurn}
use Rattle.sieve_plan.proofs.HandoverLaws.{OnFlow, kept_by_all, LeavesDeeds, looking_leaves, mailboxes_of, AreApart, Extended, any_mailbox, filed_again, implicit_extends, run_extends, same_mailboxes, OnEnded}
use Rattle.sieve_plan.proofs.SequenceLaws.{IsGoodState, good_beginning, good_next}

-- ---- a `keep` is in INBOX

same_filed : (one two : List Placement) (mailbox : List ℕ) → mailboxes_of one ≡ mailboxes_of two → is_filed one mailbox ≡ is_filed two mailbox
same_filed one two mailbox same =
    sym (any_mailbox (λ name. pointwise nat_eq name mailbox) one) ∙ (ap (list_any (λ name. pointwise nat_eq name mailbox)) same ∙ any_mailbox (λ name. pointwise nat_eq name mailbox) two)

either_true : (a b : Bool) → b ≡ true → (a || b) ≡ true
either_true true b is = refl
either_true false b is = is

first_true : (a b : Bool) → a ≡ true → (a || b) ≡ true
first_true true b is = refl
first_true false b is = absurd (cc is)

module _ (filed : List Placement) (new : Placement) where
  filed_there : is_filed (with_filed filed new) new.mailbox ≡ true
  filed_there = step (is_filed filed new.mailbox) refl
    where
      step : (there : Bool) → is_filed filed new.mailbox ≡ there → is_filed (with_filed filed new) new.mailbox ≡ true
      step true is = same_filed (with_filed filed new) filed new.mailbox (filed_again filed new is) ∙ is
      step false is =
          ap (λ l. is_filed l new.mailbox) (filed_anew filed new is)
          ∙ (list_any-append (λ there. pointwise nat_eq there.mailbox new.mailbox) filed (new ∷ [])
          ∙ either_true (is_filed filed new.mailbox) (is_filed (new ∷ []) new.mailbox) (first_true (pointwise nat_eq new.mailbox new.mailbox) false (nat_list_eq_equiv.refl new.mailbox)))

  filed_still : (mailbox : List ℕ) → is_filed filed mailbox ≡ true → is_filed (with_filed filed new) mailbox ≡ true
  filed_still mailbox was = step (is_filed filed new.mailbox) refl
    where
      step : (there : Bool) → is_filed filed new.mailbox ≡ there → is_filed (with_filed filed new) mailbox ≡ true
      step true is = same_filed (with_filed filed new) filed mailbox (filed_again filed new is) ∙ was
      step false is =
          ap (λ l. is_filed l mailbox) (filed_anew filed new is)
          ∙ (list_any-append (λ there. pointwise nat_eq there.mailbox mailbox) filed (new ∷ []) ∙ first_true (is_filed filed mailbox) (is_filed (new ∷ []) mailbox) was)

abbrev InInbox : RunState → Type 0
InInbox state = is_filed state.filed inbox ≡ true

into_inbox : (flags : List ℕ) (copy : Bool) (state : RunState) → OnFlow InInbox (filed_into inbox flags copy state)
into_inbox flags copy state = step (has_room state.filed inbox)
  where
    step : (room : Bool) → OnFlow InInbox (cond room (Going (record state { filed = with_filed state.filed (record { mailbox = inbox; flags = flags }); cancelled = cancelled_after copy state })) (Failed TooManyMailboxes))
    step true = filed_there state.filed (record { mailbox = inbox; flags = flags })
    step false = tt

-- where a run executed a `keep`, it has the message in INBOX
abbrev KeptInInbox : RunState → Type 0
KeptInInbox state = state.has_kept ≡ true → InInbox state

keep_into : (flags : List ℕ) (copy : Bool) (state : RunState) → OnFlow KeptInInbox (filed_into inbox flags copy state)
keep_into flags copy state = step (has_room state.filed inbox)
  where
    step : (room : Bool) → OnFlow KeptInInbox (cond room (Going (record state { filed = with_filed state.filed (record { mailbox = inbox; flags = flags }); cancelled = cancelled_after copy state })) (Failed TooManyMailboxes))
    step true = λ kept. filed_there state.filed (record { mailbox = inbox; flags = flags })
    step false = tt

still_into : (mailbox flags : List ℕ) (copy : Bool) (state : RunState) → KeptInInbox state → OnFlow KeptInInbox (filed_into mailbox flags copy state)
still_into mailbox flags copy state was = step (has_room state.filed mailbox)
  where
    step : (room : Bool) → OnFlow KeptInInbox (cond room (Going (record state { filed = with_filed state.filed (record { mailbox = mailbox; flags = flags }); cancelled = cancelled_after copy state })) (Failed TooManyMailboxes))
    step true = λ kept. filed_still state.filed (record { mailbox = mailbox; flags = flags }) inbox (was kept)
    step false = tt

still_sent : (target : Addr) (copy : Bool) (state : RunState) → KeptInInbox state → OnFlow KeptInInbox (sent_to target copy state)
still_sent target copy state was = step (list_any (λ there. same_target there target) state.sent) (nat_lt (length state.sent) max_targets)
  where
    step : (there room : Bool) → OnFlow KeptInInbox (cond there (Going (record state { cancelled = cancelled_after copy state })) (cond room (Going (record state { sent = state.sent ++ target ∷ []; cancelled = cancelled_after copy state })) (Failed TooManyRedirects)))
    step true room = was
    step false true = was
    step false false = tt

still_replied : (args : VacationArgs) (state : RunState) → KeptInInbox state → OnFlow KeptInInbox (replied_by args state)
still_replied args state was = step state.reply
  where
    step : (reply : Option VacationArgs) → OnFlow KeptInInbox (elim reply [
      | None ↦ Going (record state { reply = Some args })
      | Some _ ↦ Failed TwoVacations
    ])
    step None = was
    step (Some _) = tt

still_in_inbox : (action : Action) (state : RunState) → KeptInInbox state → OnFlow KeptInInbox (performed action state)
still_in_inbox (Keep given) state was = keep_into (flags_given given state) false (with_keep state)
still_in_inbox Discard state was = was
still_in_inbox (FileInto filing) state was = still_into (mailbox_named filing.mailbox) (flags_given filing.flags state) filing.copy (with_name filing.mailbox state) was
still_in_inbox (Redirect redirect) state was = still_sent redirect.target redirect.copy state was
still_in_inbox (Vacation args) state was = still_replied args state was
still_in_inbox (SetFlag texts) state was = was
still_in_inbox (AddFlag texts) state was = was
still_in_inbox (RemoveFlag texts) state was = was

-- ---- a run that leaves the message to be kept

-- its end has it in INBOX, where it executed a `keep`
module _ (asking : TestAsking) (leaves_deeds : LeavesDeeds asking) where
  tests_in_inbox : (state : RunState) (check : MailCheck) → KeptInInbox state → KeptInInbox (asking state check).so_far
  tests_in_inbox state check was = let same = leaves_deeds state check in λ kept. ap (λ filed. is_filed filed inbox) same.0 ∙ was (sym same.2 ∙ kept)

  run_in_inbox : (tree : Commands) (left : Handover) → OnFlow KeptInInbox (does_all asking tree (begins_from left))
  run_in_inbox tree left = kept_by_all KeptInInbox asking tests_in_inbox still_in_inbox tree (begins_from left) (λ kept. absurd (cc kept))

abbrev HasInbox : Actions → Handover → Type 0
HasInbox done next = next.is_kept ≡ true → is_filed done.filed inbox ≡ true

-- behind its implicit keep the message is in INBOX, where it is to be kept
module _ (left : Handover) (at_end : RunState) (into : KeptInInbox at_end) where
  kept_in_inbox : leaves_kept at_end ≡ true → OnFlow InInbox (kept_with left.keep_flags at_end)
  kept_in_inbox is = step at_end.cancelled at_end.has_kept refl is
    where
      step : (cancelled has : Bool) → at_end.has_kept ≡ has → (has || not cancelled) ≡ true
          → OnFlow InInbox (cond cancelled (Going at_end) (filed_into inbox (implicit_flags left.keep_flags at_end) true at_end))
      step true true some still = into some
      step true false some still = absurd (cc still)
      step false has some still = into_inbox (implicit_flags left.keep_flags at_end) true at_end

  inbox_with : (flow : Flow) → OnFlow (Extended left) flow → (leaves_kept at_end ≡ true → OnFlow InInbox flow) → OnEnded HasInbox (ended_with left at_end flow)
  inbox_with (Going kept) so keeps = λ is. same_filed (done_behind left kept).filed kept.filed inbox (same_mailboxes left.filed kept.filed so.new_mailboxes so.mailboxes) ∙ keeps is
  inbox_with (Stopped kept) so keeps = λ is. same_filed (done_behind left kept).filed kept.filed inbox (same_mailboxes left.filed kept.filed so.new_mailboxes so.mailboxes) ∙ keeps is
  inbox_with (Failed failure) so keeps = tt

inbox_by : (left : Handover) (flow : Flow) → OnFlow (Extended left) flow → OnFlow KeptInInbox flow → OnEnded HasInbox (ended_by left flow)
inbox_by left (Going at_end) so into = inbox_with left at_end into (kept_with left.keep_flags at_end) (implicit_extends left at_end so) (kept_in_inbox left at_end into)
inbox_by left (Stopped at_end) so into = inbox_with left at_end into (kept_with left.keep_flags at_end) (implicit_extends left at_end so) (kept_in_inbox left at_end into)
inbox_by left (Failed failure) so into = tt

inbox_run : (asking : TestAsking) → LeavesDeeds asking → (work : RunState → MailCheck → ℕ) (most : ℕ) (tree : Commands) (left : Handover) → AreApart left.filed left.sent
    → OnEnded HasInbox (end_of_run asking work most tree left)
inbox_run asking leaves_deeds work most tree left apart = step (nat_lt most (all_take asking work tree (begins_from left)))
  where
    step : (much : Bool) → OnEnded HasInbox (cond much (Broken TooMuchWork) (ended_by left (does_all asking tree (begins_from left))))
    step true = tt
    step false = inbox_by left (does_all asking tree (begins_from left)) (run_extends asking leaves_deeds work most tree left apart) (run_in_inbox asking leaves_deeds tree left)

-- ---- a sequence

in_inbox_next : (mail : MailSpec) (script : SequenceScript) (state next : SequenceState) → IsGoodState state → RunsToEnd mail script state next → next.left.is_kept ≡ true → is_filed next.done.filed inbox ≡ true
in_inbox_next mail script state next good runs = subst (OnEnded HasInbox) runs.ends (inbox_run (asking_on mail) (looking_leaves (truth_at mail)) (work_at mail) _ runs.tree state.left good.apart)

failed_in_inbox : (mail : MailSpec) (scripts : List SequenceScript) (state : SequenceState) (settled : Settled) (text : List ℕ) → IsGoodState state → is_filed state.done.filed inbox ≡ true
    → SettlesInTurn mail scripts state settled → settled.notice ≡ Some text → is_filed settled.deeds.filed inbox ≡ true
failed_in_inbox mail [] state settled text good there is told = let none : None ≡ Some text = ap (λ (s : Settled). s.notice) (sym is) ∙ told in absurd (cc none)
failed_in_inbox mail (script ∷ more) state settled text good there (inl failed) told = ap (λ (d : Actions). is_filed d.filed inbox) failed.stands ∙ there
failed_in_inbox mail (script ∷ more) state settled text good there (inr (next, runs, so)) told =
    step next.left.is_kept refl so (λ here is. failed_in_inbox mail more next settled text (good_next mail script state next good runs) here is told)
  where
    step : (going_on : Bool) → next.left.is_kept ≡ going_on → MatchBool going_on (SettlesInTurn mail more next settled) (settled ≡ settled_well next.done)
        → (is_filed next.done.filed inbox ≡ true → SettlesInTurn mail more next settled → is_filed settled.deeds.filed inbox ≡ true) → is_filed settled.deeds.filed inbox ≡ true
    step true still is later = later (in_inbox_next mail script state next good runs still) is
    step false still is later = let none : None ≡ Some text = ap (λ (s : Settled). s.notice) (sym is) ∙ told in absurd (cc none)

-- where the user is told of a failure, INBOX has the message
pub told_and_in_inbox : (mail : MailSpec) (scripts : List SequenceScript) (settled : Settled) (text : List ℕ) → SettlesInTurn mail scripts at_beginning settled → settled.notice ≡ Some text
    → is_filed settled.deeds.filed inbox ≡ true
told_and_in_inbox mail scripts settled text is told = failed_in_inbox mail scripts at_beginning settled text good_beginning refl is told
