-- What scripts come to on a message depends on its fields and its size alone: no test looks at its octets.
use Rattle.std.proofs.Common.{◌≡◌, ℕ, Bool, true, false, List, [], ◌∷◌, Some, MatchBool, refl, sym, ap, ◌∙◌, subst, inl, inr}
use Rattle.std.proofs.Math.Path.{fun_ext}
use Rattle.mail_head.specs.Heads.{size_of}
use Rattle.mail_head.specs.Prefixes.{IsHeaderPrefix}
use Rattle.mail_head.proofs.FrontLemmas.{fields_in_front}
use Rattle.sieve_syntax.specs.Meaning.{asking_at}
use Rattle.sieve_syntax.specs.RunState.{RunState}
use Rattle.sieve_syntax.specs.Tree.{Commands}
use Rattle.sieve_syntax.specs.Work.{all_take}
use Rattle.sieve_syntax.specs.declared.tree.checks.MailCheck.{MailCheck}
use Rattle.sieve_syntax.specs.declared.tree.checks.MailCheck.TheVariants.{Size, Exists, Header, Address, Extension}
use Rattle.sieve_exec.specs.declared.envelope.Envelope.{Envelope}
use Rattle.sieve_exec.specs.declared.when.When.{When}
use Rattle.sieve_exec.specs.Mails.{MailSpec, mail_spec_of, with_size}
use Rattle.sieve_exec.specs.Truth.{truth_by, truth_at}
use Rattle.sieve_exec.specs.Work.{work_by, work_at}
use Rattle.sieve_exec.proofs.ExtensionLemmas.{same_extension_truth, same_extension_work}
use Rattle.sieve_plan.specs.Handover.{begins_from, end_of_run}
use Rattle.sieve_plan.specs.declared.scripts.Whose.{Whose}
use Rattle.sieve_plan.specs.Sequences.{SequenceScript, SequenceState, asking_on, work_limit, host_work_behind, end_at, RunsToEnd, FailsFor, IsInvalid, Breaks, Settled, settled_well, SettlesInTurn}

-- ---- the same answers to tests, and the same work of them

module _ (one other : MailSpec) (truth : truth_at one ≡ truth_at other) (work : work_at one ≡ work_at other) where
  ends_same : (whose : Whose) (tree : Commands) (state : SequenceState) → end_at one whose tree state ≡ end_at other whose tree state
  ends_same whose tree state =
      ap (λ t. end_of_run (asking_at t) (work_at one) (work_limit whose state.host_work) tree state.left) truth
      ∙ ap (λ w. end_of_run (asking_on other) w (work_limit whose state.host_work) tree state.left) work

  takes_same : (tree : Commands) (so_far : RunState) → all_take (asking_on one) (work_at one) tree so_far ≡ all_take (asking_on other) (work_at other) tree so_far
  takes_same tree so_far = ap (λ t. all_take (asking_at t) (work_at one) tree so_far) truth ∙ ap (λ w. all_take (asking_on other) w tree so_far) work

  runs_same : (script : SequenceScript) (state next : SequenceState) → RunsToEnd one script state next → RunsToEnd other script state next
  runs_same script state next is = record {
    tree = is.tree;
    means = is.means;
    ends = sym (ends_same script.whose is.tree state) ∙ is.ends;
    work = is.work ∙ ap (λ n. host_work_behind script.whose n state.host_work) (takes_same is.tree (begins_from state.left));
  }

  fails_same : (script : SequenceScript) (state : SequenceState) (why : List ℕ) → FailsFor one script state why → FailsFor other script state why
  fails_same script state why (IsInvalid none is) = IsInvalid none is
  fails_same script state why (Breaks tree failure means ends is) = Breaks tree failure means (sym (ends_same script.whose tree state) ∙ ends) is

  settles_then : (more : List SequenceScript) (rest : (state : SequenceState) (settled : Settled) → SettlesInTurn one more state settled → SettlesInTurn other more state settled)
      (next : SequenceState) (settled : Settled) (goes_on : Bool)
      → MatchBool goes_on (SettlesInTurn one more next settled) (settled ≡ settled_well next.done) → MatchBool goes_on (SettlesInTurn other more next settled) (settled ≡ settled_well next.done)
  settles_then more rest next settled true is = rest next settled is
  settles_then more rest next settled false is = is

  settles_same : (scripts : List SequenceScript) (state : SequenceState) (settled : Settled) → SettlesInTurn one scripts state settled → SettlesInTurn other scripts state settled
  settles_same [] state settled is = is
  settles_same (script ∷ more) state settled (inl is) = inl (record { why = is.why; fails = fails_same script state is.why is.fails; stands = is.stands; told = is.told })
  settles_same (script ∷ more) state settled (inr (next, runs, then)) =
      inr (next, runs_same script state next runs, settles_then more (λ from to is. settles_same more from to is) next settled next.left.is_kept then)

-- ---- a mail with other octets

same_truth : (mail : MailSpec) (octets : List ℕ) (flags : List (List ℕ)) (check : MailCheck) → truth_by (record mail { octets = octets }) flags check ≡ truth_by mail flags check
same_truth mail octets flags (Size size) = refl
same_truth mail octets flags (Exists names) = refl
same_truth mail octets flags (Header header) = refl
same_truth mail octets flags (Address address) = refl
same_truth mail octets flags (Extension test) = same_extension_truth mail octets flags test

same_work : (mail : MailSpec) (octets : List ℕ) (flags : List (List ℕ)) (check : MailCheck) → work_by (record mail { octets = octets }) flags check ≡ work_by mail flags check
same_work mail octets flags (Size size) = refl
same_work mail octets flags (Exists names) = refl
same_work mail octets flags (Header header) = refl
same_work mail octets flags (Address address) = refl
same_work mail octets flags (Extension test) = same_extension_work mail octets flags test

settles_by_fields : (mail : MailSpec) (octets : List ℕ) (scripts : List SequenceScript) (state : SequenceState) (settled : Settled)
    → SettlesInTurn (record mail { octets = octets }) scripts state settled → SettlesInTurn mail scripts state settled
settles_by_fields mail octets = settles_same (record mail { octets = octets }) mail
    (fun_ext (λ (so_far : RunState). fun_ext (same_truth mail octets so_far.flags))) (fun_ext (λ (so_far : RunState). fun_ext (same_work mail octets so_far.flags)))

-- of a prefix of a message that has an empty line, given the message's size
pub settles_of_front : (envelope : Envelope) (when : When) (front message : List ℕ) (size : ℕ) (scripts : List SequenceScript) (state : SequenceState) (settled : Settled) → IsHeaderPrefix front message → size ≡ size_of message
    → SettlesInTurn (with_size (Some size) (mail_spec_of front envelope when)) scripts state settled → SettlesInTurn (mail_spec_of message envelope when) scripts state settled
settles_of_front envelope when front message size scripts state settled has is settles =
    settles_by_fields (mail_spec_of message envelope when) front scripts state settled
    (subst (λ texts. SettlesInTurn (record (mail_spec_of message envelope when) { fields = texts; octets = front }) scripts state settled) (fields_in_front front message has)
    (subst (λ n. SettlesInTurn (record (mail_spec_of front envelope when) { size = n }) scripts state settled) is settles))
