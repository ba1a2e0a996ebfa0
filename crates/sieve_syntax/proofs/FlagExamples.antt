-- What `imap4flags` says and does (RFC 5232), and near misses.
use Rattle.std.proofs.Common.{◌≡◌, ◌∙◌, ◌∷◌, ◌||◌, ℕ, Bool, true, false, List, [], Some, None, refl, ap, lit≤}
use Rattle.std.specs.Prelude.{codes, cond, length, nat_lt}
use Rattle.mail_flags.specs.Flags.{has}
use Rattle.mail_flags.specs.declared.placement.Placement.{Placement}
use Rattle.sieve_syntax.specs.declared.table.keyword.Keyword.TheVariants as W
use Rattle.sieve_syntax.specs.declared.table.tag.Tag.TheVariants as T
use Rattle.sieve_syntax.specs.declared.table.tag_group.TagValue.{TagValue}
use Rattle.sieve_syntax.specs.declared.table.tag_group.TagValue.TheVariants as S
use Rattle.sieve_syntax.specs.declared.table.tag_group.TagGroup.TheVariants as P
use Rattle.sieve_syntax.specs.declared.parser.argument.Argument.{Argument}
use Rattle.sieve_syntax.specs.declared.parser.argument.Argument.TheVariants as A
use Rattle.sieve_syntax.specs.declared.tree.action.Action.{Action}
use Rattle.sieve_syntax.specs.declared.tree.action.Action.TheVariants.{Keep, Discard, FileInto, SetFlag, AddFlag, RemoveFlag}
use Rattle.sieve_syntax.specs.declared.tree.checks.MailCheck.{MailCheck}
use Rattle.sieve_syntax.specs.declared.tree.checks.MailCheck.TheVariants as Q
use Rattle.sieve_syntax.specs.declared.extension.ExtensionTest.TheVariants as X
use Rattle.sieve_syntax.specs.declared.tree.checks.Collation.TheVariants as L
use Rattle.sieve_syntax.specs.declared.extension.imap4flags.HasFlag.{HasFlag}
use Rattle.sieve_syntax.specs.declared.tree.checks.Matching.TheVariants as M
use Rattle.sieve_syntax.specs.Chains.{Chain}
use Rattle.sieve_syntax.specs.Capabilities.{all_capabilities}
use Rattle.sieve_syntax.specs.Meaning.{TestAsking, asking_at, Outcome, Done, Failed, done_by, outcome_after, outcome}
use Rattle.sieve_syntax.specs.RunState.{RunState, TooManyMailboxes, Going, max_mailboxes, is_filed, has_room, with_filed, flags_given}
use Rattle.sieve_syntax.specs.RunState as F
use Rattle.sieve_syntax.specs.Positional.{one_list}
use Rattle.sieve_syntax.specs.Extension.Imap4flags.{SaysHasFlag}
use Rattle.sieve_syntax.specs.Table.{IsPlainCommand}
use Rattle.sieve_syntax.specs.Tags.{IsTagValue, IsAllowed}
use Rattle.sieve_syntax.specs.Trace.{actions_run}
use Rattle.sieve_syntax.specs.Tree.{looks, CommandTree, require, choose, act, branch, no_branches, Commands, no_commands, command}
use Rattle.sieve_syntax.specs.Valid.{IsValid}
use Rattle.sieve_syntax.proofs.Examples.{into}
use Rattle.sieve_syntax.proofs.LanguageExamples.{one_known}
use Rattle.sieve_syntax.proofs.TagLemmas.{none_there, first_there, plain_none}

-- ---- what is written

-- `:flags "\\Seen"` and `:flags ["\\Seen", "$Done"]`; `:flags` alone is no tag
one_text : IsTagValue (S.Flags (codes "\\Seen" ∷ [])) (A.Tag T.Flags ∷ (A.Text (codes "\\Seen") ∷ [])) []
one_text = (A.Text (codes "\\Seen"), (refl, refl))

texts : IsTagValue (S.Flags (codes "\\Seen" ∷ (codes "$Done" ∷ []))) (A.Tag T.Flags ∷ (A.Strings (codes "\\Seen" ∷ (codes "$Done" ∷ [])) ∷ [])) []
texts = (A.Strings (codes "\\Seen" ∷ (codes "$Done" ∷ [])), (refl, refl))

no_text : (given : List (List ℕ)) (to : List Argument) → IsTagValue (S.Flags given) (A.Tag T.Flags ∷ []) to → ⊥
no_text given to (value, (at, is)) = let e : A.Tag T.Flags ∷ [] ≡ A.Tag T.Flags ∷ (value ∷ to) = at in absurd (cc e)

-- `keep :flags "\\Seen"` (RFC 5232, 5)
kept : IsPlainCommand W.Keep (A.Tag T.Flags ∷ (A.Text (codes "\\Seen") ∷ [])) (act (Keep (Some (codes "\\Seen" ∷ []))))
kept = record {
  value = Some (codes "\\Seen" ∷ []);
  is = record {
    tag_values = S.Flags (codes "\\Seen" ∷ []) ∷ [];
    positional = [];
    split_tags = record { written = ([], ((one_text, first_there P.Flags []), refl)); plain = tt; once = (λ none. none_there P.Flags none, tt) };
    says = record { none = refl; flags = refl };
  };
  tree_is = refl;
}

-- `"flagvar" "\\Flagged"`
abbrev two : List Argument
two = A.Text (codes "flagvar") ∷ (A.Text (codes "\\Flagged") ∷ [])

-- `setflag "\\Deleted"` (RFC 5232, 3.1); with the name of a variable before it, it is no command here
set : IsPlainCommand W.SetFlag (A.Text (codes "\\Deleted") ∷ []) (act (SetFlag (codes "\\Deleted" ∷ [])))
set = record {
  value = codes "\\Deleted" ∷ [];
  is = record { tag_values = []; positional = A.Text (codes "\\Deleted") ∷ []; split_tags = record { written = refl; plain = tt; once = tt }; says = refl };
  tree_is = refl;
}

no_variable : (tree : CommandTree) → IsPlainCommand W.SetFlag two tree → ⊥
no_variable tree is = step is.is.tag_values is.is.split_tags.written
  where
    step : (tag_values : List TagValue) → Chain (IsAllowed []) tag_values two is.is.positional → ⊥
    step [] e = let bad : None ≡ Some is.value = ap one_list e ∙ is.is.says in absurd (cc bad)
    step (s ∷ more) (middle, (first, others)) = plain_none s two middle first.0 tt

-- `hasflag :contains "label"` (RFC 5232, 4); `hasflag` with two lists says nothing
asked : SaysHasFlag (S.Matching M.Contains ∷ []) (A.Text (codes "label") ∷ []) (record { comparator = L.AsciiCasemap; matching = M.Contains; keys = codes "label" ∷ [] })
asked = record { comparator = refl; matching = refl; keys = refl }

no_variables : (flag : HasFlag) → SaysHasFlag [] (A.Text (codes "MyVar") ∷ (A.Text (codes "Junk") ∷ [])) flag → ⊥
no_variables flag says = let e : None ≡ Some flag.keys = says.keys in absurd (cc e)

-- ---- where it may stand

abbrev setting : Commands
setting = command (act (SetFlag (codes "\\Deleted" ∷ []))) no_commands

required : IsValid (command (require (codes "imap4flags" ∷ [])) setting)
required = record { known = one_known all_capabilities (codes "imap4flags") refl; stand = (refl, tt); shallow = lit≤ tt }

not_required : IsValid setting → ⊥
not_required valid = let e : false ≡ true = valid.stand.0 in absurd (cc e)

-- ---- what is done

-- actions in turn
abbrev in_row : List Action → Commands
in_row [] = no_commands
in_row (action ∷ more) = command (act action) (in_row more)

abbrev done : List Placement → Outcome
done filed = Done (record { filed = filed; sent = []; reply = None })

abbrev flagged : List ℕ → List ℕ → Placement
flagged mailbox flags = record { mailbox = mailbox; flags = flags }

-- the implicit keep has the flags that are set; those of `addflag` come one after the other, in one list or in one text
-- (RFC 5232, 2 and 3.2)
added_apart : (asking : TestAsking) → outcome asking (in_row (AddFlag (codes "\\Deleted" ∷ []) ∷ (AddFlag (codes "\\Answered" ∷ []) ∷ []))) ≡ done (flagged (codes "INBOX") (codes "\\Deleted \\Answered") ∷ [])
added_apart asking = refl

added_together : (asking : TestAsking) → outcome asking (in_row (AddFlag (codes "\\Deleted" ∷ (codes "\\Answered" ∷ [])) ∷ [])) ≡ done (flagged (codes "INBOX") (codes "\\Deleted \\Answered") ∷ [])
added_together asking = refl

added_in_one : (asking : TestAsking) → outcome asking (in_row (AddFlag (codes "\\Deleted \\Answered" ∷ []) ∷ [])) ≡ done (flagged (codes "INBOX") (codes "\\Deleted \\Answered") ∷ [])
added_in_one asking = refl

-- `setflag` leaves no other (RFC 5232, 3.1), and `removeflag` takes one away, whatever its case (RFC 5232, 3.3)
set_anew : (asking : TestAsking) → outcome asking (in_row (AddFlag (codes "\\Deleted" ∷ []) ∷ (SetFlag (codes "\\Seen" ∷ []) ∷ []))) ≡ done (flagged (codes "INBOX") (codes "\\Seen") ∷ [])
set_anew asking = refl

taken_away : (asking : TestAsking) → outcome asking (in_row (AddFlag (codes "\\Deleted foo" ∷ []) ∷ (RemoveFlag (codes "FOO" ∷ []) ∷ []))) ≡ done (flagged (codes "INBOX") (codes "\\Deleted") ∷ [])
taken_away asking = refl

-- a copy has the flags that are set when it is filed: what is set behind it is for the next one
filed_first : (asking : TestAsking) → outcome asking (in_row (FileInto (record { mailbox = codes "x"; copy = true; create = false; flags = None }) ∷ (SetFlag (codes "\\Seen" ∷ []) ∷ []))) ≡ done (into (codes "x") ∷ (flagged (codes "INBOX") (codes "\\Seen") ∷ []))
filed_first asking = refl

-- `:flags` stands for them, even where it names none (RFC 5232, 5), and they stay
given_in_place : (asking : TestAsking) → outcome asking (in_row (SetFlag (codes "\\Seen" ∷ []) ∷ (FileInto (record { mailbox = codes "x"; copy = true; create = false; flags = Some (codes "\\Deleted" ∷ []) }) ∷ []))) ≡ done (flagged (codes "x") (codes "\\Deleted") ∷ (flagged (codes "INBOX") (codes "\\Seen") ∷ []))
given_in_place asking = refl

given_none : (asking : TestAsking) → outcome asking (in_row (SetFlag (codes "\\Seen" ∷ []) ∷ (Keep (Some (codes "" ∷ [])) ∷ []))) ≡ done (into (codes "INBOX") ∷ [])
given_none asking = refl

-- one copy in a mailbox, where it was, with the flags of the last filing (RFC 5232), be there none
filed_once : (asking : TestAsking) → outcome asking (in_row (Keep None ∷ (SetFlag (codes "\\Seen" ∷ []) ∷ (Keep None ∷ [])))) ≡ done (flagged (codes "INBOX") (codes "\\Seen") ∷ [])
filed_once asking = refl

bared : (asking : TestAsking) → outcome asking (in_row (SetFlag (codes "\\Seen" ∷ []) ∷ (Keep None ∷ (Keep (Some (codes "" ∷ [])) ∷ [])))) ≡ done (into (codes "INBOX") ∷ [])
bared asking = refl

-- `x`
abbrev copied : Action
copied = FileInto (record { mailbox = codes "x"; copy = true; create = false; flags = None })

filed_first_again : (asking : TestAsking) → outcome asking (in_row (copied ∷ (Keep None ∷ (SetFlag (codes "\\Seen" ∷ []) ∷ (copied ∷ []))))) ≡ done (flagged (codes "x") (codes "\\Seen") ∷ (into (codes "INBOX") ∷ []))
filed_first_again asking = refl

-- the implicit keep is the last filing
kept_last : (asking : TestAsking) → outcome asking (in_row (FileInto (record { mailbox = codes "inbox"; copy = true; create = false; flags = None }) ∷ (SetFlag (codes "\\Seen" ∷ []) ∷ []))) ≡ done (flagged (codes "INBOX") (codes "\\Seen") ∷ [])
kept_last asking = refl

-- ---- what a test sees

-- the flag `A` is one of those that are set
abbrev asks_for_a : RunState → MailCheck → Bool
asks_for_a so_far check = has so_far.flags (codes "A")

-- an action, `if hasflag "a" { discard; }`, and another action
abbrev asking : Action → Action → Commands
asking before behind =
    command (act before) (command (choose (branch (looks (Q.Extension (X.HasFlag (record { comparator = L.AsciiCasemap; matching = M.Is; keys = codes "a" ∷ [] }))))
    (command (act Discard) no_commands) no_branches)) (command (act behind) no_commands))

-- what is set before it is seen, and what is set behind it isn't
seen_before : outcome (asking_at asks_for_a) (asking (SetFlag (codes "A" ∷ [])) (SetFlag (codes "B" ∷ []))) ≡ done []
seen_before = refl

not_seen_behind : outcome (asking_at asks_for_a) (asking (SetFlag (codes "B" ∷ [])) (SetFlag (codes "A" ∷ []))) ≡ done (flagged (codes "INBOX") (codes "A") ∷ [])
not_seen_behind = refl

-- and so it is with the actions that are run
run_before : actions_run asks_for_a (asking (SetFlag (codes "A" ∷ [])) (SetFlag (codes "B" ∷ []))) ≡ SetFlag (codes "A" ∷ []) ∷ (Discard ∷ (SetFlag (codes "B" ∷ []) ∷ []))
run_before = refl

not_run : actions_run asks_for_a (asking (SetFlag (codes "B" ∷ [])) (SetFlag (codes "A" ∷ []))) ≡ SetFlag (codes "B" ∷ []) ∷ (SetFlag (codes "A" ∷ []) ∷ [])
not_run = refl

-- ---- into how many mailboxes a message goes

-- there may be a hundredth one, and no other behind it; one that is there may be again
hundredth : (filed : List Placement) (mailbox : List ℕ) → length filed ≡ 99 → has_room filed mailbox ≡ true
hundredth filed mailbox many = ap (λ n. nat_lt n max_mailboxes || is_filed filed mailbox) many

behind_hundred : (filed : List Placement) (mailbox : List ℕ) → length filed ≡ 100 → is_filed filed mailbox ≡ false → has_room filed mailbox ≡ false
behind_hundred filed mailbox many new = ap (λ n. nat_lt n max_mailboxes || is_filed filed mailbox) many ∙ new

hundred_again : (filed : List Placement) (mailbox : List ℕ) → length filed ≡ 100 → is_filed filed mailbox ≡ true → has_room filed mailbox ≡ true
hundred_again filed mailbox many there = ap (λ n. nat_lt n max_mailboxes || is_filed filed mailbox) many ∙ there

-- so the implicit keep fails behind a hundred others, unless it is cancelled
one_too_many : (state : RunState) → has_room state.filed (codes "INBOX") ≡ false → outcome_after (Going (record state { cancelled = false })) ≡ Failed TooManyMailboxes
one_too_many state full = ap (λ room. done_by (cond room (Going (record state { filed = with_filed state.filed (flagged (codes "INBOX") (flags_given None state)); cancelled = false })) (F.Failed TooManyMailboxes))) full

just_enough : (state : RunState) → outcome_after (Going (record state { cancelled = true })) ≡ done_by (Going (record state { cancelled = true }))
just_enough state = refl
