-- The host's scripts and the user's on small cases: one that is right, and one that nearly is. The texts are those of these trees.
use Rattle.std.proofs.Common.{◌≡◌, ◌∷◌, ◌*◌, ℕ, true, false, List, [], Some, None, refl, sym, ap, subst, inl, inr, arith}
use Rattle.std.specs.Prelude.{Option, MatchBool, codes, get_or, length}
use Rattle.mail_flags.specs.declared.placement.Placement.{Placement}
use Rattle.sieve_syntax.specs.declared.tree.action.Action.{Action}
use Rattle.sieve_syntax.specs.declared.tree.action.Action.TheVariants.{Keep, Discard, Vacation, SetFlag}
use Rattle.sieve_syntax.specs.RunState.{inbox}
use Rattle.sieve_syntax.specs.Meaning.{Actions}
use Rattle.sieve_syntax.specs.Means.{Means}
use Rattle.sieve_syntax.specs.Tree.{Commands}
use Rattle.sieve_syntax.specs.Work.{max_work}
use Rattle.sieve_exec.specs.Mails.{MailSpec}
use Rattle.sieve_plan.specs.declared.scripts.HostScripts.{HostScripts}
use Rattle.sieve_plan.specs.declared.scripts.Whose.TheVariants.{Before, Own, After}
use Rattle.sieve_plan.specs.Delivered.{invalid_text, long_text, loop_text, has_long_header, is_looping, kept}
use Rattle.sieve_plan.specs.Handover.{Handover, without_inbox, ScriptEnd, Ended, Broken}
use Rattle.sieve_plan.specs.Sequences.{no_host_scripts, sequence_of, SequenceState, at_beginning, max_host_work, work_limit, end_at, IsInvalid, Breaks, told_of, Settled, settled_well, settled_unrun, SettlesInTurn, SettlesUnder, notice_left}
use Rattle.sieve_plan.proofs.HandoverExamples.{in_row, into, copied, seen, away, at, end_of, leaves_first, done_by, both}
use Rattle.sieve_plan.proofs.SequenceLaws.{one_in_turn}

-- ---- what a sequence is

-- the host's first ones, the user's, the host's others; where the user has none, the host's alone
in_order : (sequence_of (record { before = codes "a" ∷ codes "b" ∷ []; after = codes "d" ∷ [] }) (Some (codes "c"))
    ≡ record { whose = Before; text = codes "a" } ∷ record { whose = Before; text = codes "b" } ∷ record { whose = Own; text = codes "c" } ∷ record { whose = After; text = codes "d" } ∷ [])
    × (sequence_of (record { before = codes "a" ∷ []; after = codes "d" ∷ [] }) None ≡ record { whose = Before; text = codes "a" } ∷ record { whose = After; text = codes "d" } ∷ [])
    × (sequence_of no_host_scripts None ≡ [])
in_order = (refl, refl, refl)

-- without a script the message is kept; near miss: it is dropped
nobody_has_one : (mail : MailSpec) → SettlesInTurn mail (sequence_of no_host_scripts None) at_beginning (settled_well kept)
nobody_has_one mail = refl

nobody_drops_it : (mail : MailSpec) → SettlesInTurn mail (sequence_of no_host_scripts None) at_beginning (settled_well (record { filed = []; sent = []; reply = None })) → ⊥
nobody_drops_it mail is = let same : 0 ≡ 1 = ap (λ (s : Settled). length s.deeds.filed) is in absurd (omega (arith, same))

-- a failure of the host's is told as theirs, the user's as it is today
whose_it_was : (told_of Before (codes "a") ≡ codes "before: a") × (told_of Own (codes "a") ≡ codes "a") × (told_of After (codes "a") ≡ codes "after: a")
whose_it_was = (refl, refl, refl)

-- the user's work is its own; the host's others have what the first ones left of a quarter of that
work_of_each : (work_limit Own 50_000_000 ≡ 200_000_000) × (work_limit Before 0 ≡ 50_000_000) × (work_limit After 20_000_000 ≡ 30_000_000) × (work_limit After 50_000_000 ≡ 0)
work_of_each = (refl, refl, refl, refl)

a_quarter : max_host_work * 4 ≡ max_work
a_quarter = refl

-- a failure is told before mail that isn't sent on
told_first : (notice_left (Some (codes "a")) (Some (codes "b")) ≡ Some (codes "a")) × (notice_left None (Some (codes "b")) ≡ Some (codes "b")) × (notice_left None None ≡ None)
told_first = (refl, refl, refl)

-- ---- two scripts, one behind the other

abbrev next_of : ScriptEnd → SequenceState
next_of (Ended done next) = record { left = next; done = done; host_work = 0 }
next_of (Broken failure) = at_beginning

abbrev host_before : List ℕ → HostScripts
host_before text = record { before = text ∷ []; after = [] }

abbrev host_after : List ℕ → HostScripts
host_after text = record { before = []; after = text ∷ [] }

abbrev files_only : List Placement → Actions
files_only copies = record { filed = copies; sent = []; reply = None }

abbrev x : List ℕ
x = codes "x"

abbrev twice : Commands
twice = in_row (copied (codes "y") ∷ Vacation (away (codes "B")) ∷ Vacation (away (codes "C")) ∷ [])

module _ (mail : MailSpec) (host user : List ℕ) where
  -- what the host's did stands, though the user discards
  host_stands : Means host (in_row (copied x ∷ [])) → Means user (in_row (Discard ∷ [])) → SettlesInTurn mail (sequence_of (host_before host) (Some user)) at_beginning (settled_well (files_only (at x [] ∷ [])))
  host_stands one two =
      let state = next_of (end_at mail Before (in_row (copied x ∷ [])) at_beginning) in
      inr (
        state,
        record { tree = in_row (copied x ∷ []); means = one; ends = refl; work = refl },
        inr (next_of (end_at mail Own (in_row (Discard ∷ [])) state), record { tree = in_row (Discard ∷ []); means = two; ends = refl; work = refl }, refl),
      )

  -- where the host's discards, the user's doesn't run
  host_discards : Means host (in_row (Discard ∷ [])) → SettlesInTurn mail (sequence_of (host_before host) (Some user)) at_beginning (settled_well (files_only []))
  host_discards one = inr (next_of (end_at mail Before (in_row (Discard ∷ [])) at_beginning), record { tree = in_row (Discard ∷ []); means = one; ends = refl; work = refl }, refl)

  -- where the user's discards, the host's others don't run
  user_discards : Means user (in_row (Discard ∷ [])) → SettlesInTurn mail (sequence_of (host_after host) (Some user)) at_beginning (settled_well (files_only []))
  user_discards two = inr (next_of (end_at mail Own (in_row (Discard ∷ [])) at_beginning), record { tree = in_row (Discard ∷ []); means = two; ends = refl; work = refl }, refl)

  -- the user's fails: what the host's did stands, its own does nothing, the message is in INBOX besides, and the user is told as today
  user_fails : Means host (in_row (copied x ∷ [])) → Means user twice
      → SettlesInTurn mail (sequence_of (host_before host) (Some user)) at_beginning (record { deeds = files_only (at x [] ∷ at inbox [] ∷ []); notice = Some (codes "vacation executed twice") })
  user_fails one two =
      inr (
        next_of (end_at mail Before (in_row (copied x ∷ [])) at_beginning),
        record { tree = in_row (copied x ∷ []); means = one; ends = refl; work = refl },
        inl (record { why = codes "vacation executed twice"; fails = Breaks twice _ two refl refl; stands = refl; told = refl }),
      )

  -- so it is where its text is no script
  user_is_invalid : Means host (in_row (copied x ∷ [])) → ((tree : Commands) → Means user tree → ⊥)
      → SettlesInTurn mail (sequence_of (host_before host) (Some user)) at_beginning (record { deeds = files_only (at x [] ∷ at inbox [] ∷ []); notice = Some (codes "script is not valid") })
  user_is_invalid one none =
      inr (
        next_of (end_at mail Before (in_row (copied x ∷ [])) at_beginning),
        record { tree = in_row (copied x ∷ []); means = one; ends = refl; work = refl },
        inl (record { why = invalid_text; fails = IsInvalid none refl; stands = refl; told = refl }),
      )

  -- the host's fails: the user's doesn't run, and the notice says whose it was
  host_fails : Means host twice → SettlesInTurn mail (sequence_of (host_before host) (Some user)) at_beginning (settled_unrun (codes "before: vacation executed twice"))
  host_fails one = inl (record { why = codes "vacation executed twice"; fails = Breaks twice _ one refl refl; stands = refl; told = refl })

  -- a broken `after` undoes nobody's: the copy in INBOX has the flags that the user's gave it
  after_fails : Means host twice → Means user (in_row (copied x ∷ Keep (Some (seen ∷ [])) ∷ []))
      → SettlesInTurn mail (sequence_of (host_after host) (Some user)) at_beginning (record { deeds = files_only (at x [] ∷ at inbox seen ∷ []); notice = Some (codes "after: vacation executed twice") })
  after_fails one two =
      inr (
        next_of (end_at mail Own (in_row (copied x ∷ Keep (Some (seen ∷ [])) ∷ [])) at_beginning),
        record { tree = in_row (copied x ∷ Keep (Some (seen ∷ [])) ∷ []); means = two; ends = refl; work = refl },
        inl (record { why = codes "vacation executed twice"; fails = Breaks twice _ one refl refl; stands = refl; told = refl }),
      )

-- no script of the host's runs on a message that may go round in a loop, nor on one with a long header
none_run : (host : HostScripts) (text : Option (List ℕ)) (mail : MailSpec) → has_long_header mail.octets ≡ true → SettlesUnder host text mail (settled_unrun long_text)
none_run host text mail long =
    subst (λ b. MatchBool b (settled_unrun long_text ≡ settled_unrun long_text) (MatchBool (is_looping mail) (settled_unrun long_text ≡ settled_unrun loop_text) (SettlesInTurn mail (sequence_of host text) at_beginning (settled_unrun long_text)))) (sym long) refl

none_run_in_loop : (host : HostScripts) (text : Option (List ℕ)) (mail : MailSpec) → has_long_header mail.octets ≡ false → is_looping mail ≡ true → SettlesUnder host text mail (settled_unrun loop_text)
none_run_in_loop host text mail short loops =
    subst (λ b. MatchBool b (settled_unrun loop_text ≡ settled_unrun long_text) (MatchBool (is_looping mail) (settled_unrun loop_text ≡ settled_unrun loop_text) (SettlesInTurn mail (sequence_of host text) at_beginning (settled_unrun loop_text)))) (sym short)
    (subst (λ b. MatchBool b (settled_unrun loop_text ≡ settled_unrun loop_text) (SettlesInTurn mail (sequence_of host text) at_beginning (settled_unrun loop_text))) (sym loops) refl)

-- ---- wrong meanings

-- what is done by a script to which this is left
abbrev second : Handover → List Action → Option Actions
second left actions = done_by (end_of (in_row actions) left)

abbrev copies_in : Option Actions → List Placement
copies_in None = []
copies_in (Some done) = done.filed

abbrev first_flag : List Placement → ℕ
first_flag [] = 0
first_flag (copy ∷ more) = length copy.flags

abbrev reason_in : Option Actions → ℕ
reason_in None = 0
reason_in (Some done) = elim done.reply [
  | None ↦ 0
  | Some args ↦ get_or args.reason 0 0
]

none_is_one : (copy : Placement) → [] ≡ copy ∷ [] → ⊥
none_is_one copy same = cc

-- the first one's keep is done, whatever the second does
abbrev keep_done_twice : List Action → List Action → Option Actions
keep_done_twice one two = second (record (leaves_first one) { filed = at inbox [] ∷ (leaves_first one).filed }) two

not_keep_done_twice : both (Keep None ∷ []) (Discard ∷ []) ≡ keep_done_twice (Keep None ∷ []) (Discard ∷ []) → ⊥
not_keep_done_twice same = none_is_one (at inbox []) (ap copies_in same)

-- `fileinto "INBOX"` is taken for a keep
abbrev fileinto_inbox_undone : List Action → List Action → Option Actions
fileinto_inbox_undone one two = second (record (leaves_first one) { filed = without_inbox (leaves_first one).filed }) two

not_fileinto_inbox_undone : both (copied inbox ∷ []) (Discard ∷ []) ≡ fileinto_inbox_undone (copied inbox ∷ []) (Discard ∷ []) → ⊥
not_fileinto_inbox_undone same = none_is_one (at inbox []) (sym (ap copies_in same))

-- the last `vacation` answers
abbrev vacation_by_the_last : List Action → List Action → Option Actions
vacation_by_the_last one two = second (record (leaves_first one) { reply = None }) two

not_vacation_by_the_last : both (Vacation (away (codes "A")) ∷ []) (Vacation (away (codes "B")) ∷ []) ≡ vacation_by_the_last (Vacation (away (codes "A")) ∷ []) (Vacation (away (codes "B")) ∷ []) → ⊥
not_vacation_by_the_last same = let is : 65 ≡ 66 = ap reason_in same in absurd (omega (arith, is))

-- flags end with their script
abbrev flags_forgotten_between : List Action → List Action → Option Actions
flags_forgotten_between one two = second (record (leaves_first one) { flags = [] }) two

not_flags_forgotten_between : both (SetFlag (seen ∷ []) ∷ []) (into x ∷ []) ≡ flags_forgotten_between (SetFlag (seen ∷ []) ∷ []) (into x ∷ []) → ⊥
not_flags_forgotten_between same = let is : 5 ≡ 0 = ap (λ done. first_flag (copies_in done)) same in absurd (omega (arith, is))

module _ (mail : MailSpec) (host user : List ℕ) where
  -- the second script runs though the first discarded
  not_second_script_though_discarded : Means host (in_row (Discard ∷ [])) → SettlesInTurn mail (sequence_of (host_before host) (Some user)) at_beginning (settled_well (files_only (at x [] ∷ []))) → ⊥
  not_second_script_though_discarded one is =
      let same = one_in_turn mail (sequence_of (host_before host) (Some user)) at_beginning (settled_well (files_only [])) (settled_well (files_only (at x [] ∷ []))) (host_discards mail host user one) is in
      none_is_one (at x []) (ap (λ (s : Settled). s.deeds.filed) same)

  -- the user's failure undoes what the host's did
  not_failure_of_the_second_undoes_the_first : Means host (in_row (copied x ∷ [])) → Means user twice
      → SettlesInTurn mail (sequence_of (host_before host) (Some user)) at_beginning (settled_unrun (codes "vacation executed twice")) → ⊥
  not_failure_of_the_second_undoes_the_first one two is =
      let same = one_in_turn mail (sequence_of (host_before host) (Some user)) at_beginning _ (settled_unrun (codes "vacation executed twice")) (user_fails mail host user one two) is in
      let is : 2 ≡ 1 = ap (λ (s : Settled). length s.deeds.filed) same in
      absurd (omega (arith, is))
