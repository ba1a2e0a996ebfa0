-- Examples of the definitions: a right one and a near miss each.
use Rattle.std.proofs.Common.{◌≡◌, ℕ, Bool, true, false, List, [], ◌∷◌, Some, None, refl, sym, ap, ◌∙◌, get_or, arith, subst, inl, inr}
use Rattle.std.specs.Prelude.{codes}
use Rattle.std.specs.List.{list_all}
use Rattle.octets.proofs.Lists.{some_pair}
use Rattle.mail_flags.specs.declared.placement.Placement.{Placement}
use Rattle.sieve_lex.specs.declared.token.Mark.TheVariants as K
use Rattle.sieve_syntax.specs.declared.table.keyword.Keyword.TheVariants as W
use Rattle.sieve_syntax.specs.declared.table.tag.Tag.TheVariants as T
use Rattle.sieve_syntax.specs.declared.parser.argument.Argument.TheVariants as A
use Rattle.sieve_syntax.specs.declared.table.tag_group.TagValue.{TagValue}
use Rattle.sieve_syntax.specs.declared.table.tag_group.TagValue.TheVariants as S
use Rattle.sieve_syntax.specs.declared.table.tag_group.TagGroup.TheVariants as P
use Rattle.sieve_syntax.specs.declared.parser.argument.Argument.{Argument}
use Rattle.sieve_syntax.specs.declared.tree.checks.Matching.TheVariants as M
use Rattle.sieve_syntax.specs.declared.extension.relational.Relation.{Relation}
use Rattle.sieve_syntax.specs.declared.extension.relational.Relation.TheVariants as R
use Rattle.sieve_syntax.specs.declared.tree.checks.Collation.TheVariants as C
use Rattle.sieve_syntax.specs.declared.tree.checks.MailCheck.TheVariants as L
use Rattle.sieve_syntax.specs.declared.tree.checks.MailCheck.{MailCheck}
use Rattle.sieve_syntax.specs.declared.tree.checks.Size.{Size}
use Rattle.sieve_syntax.specs.declared.tree.checks.Address.{Address}
use Rattle.sieve_syntax.specs.declared.extension.envelope.EnvelopeTest.{EnvelopeTest}
use Rattle.sieve_syntax.specs.declared.tree.checks.Bound.TheVariants as B
use Rattle.sieve_syntax.specs.declared.tree.checks.AddressPart.TheVariants as H
use Rattle.sieve_syntax.specs.declared.extension.envelope.EnvelopeParts.{EnvelopeParts}
use Rattle.sieve_syntax.specs.declared.extension.vacation.VacationArgs.{VacationArgs}
use Rattle.sieve_syntax.specs.declared.tree.action.Action.TheVariants as D
use Rattle.sieve_syntax.specs.Lexemes.{Lexeme, keyword, tag, number, text, mark}
use Rattle.sieve_syntax.specs.Arguments.{AreStrings, AreArguments}
use Rattle.std.proofs.lemmas.List.Elements.{Contains-push, Contains-push_cases}
use Rattle.sieve_syntax.proofs.TagLemmas.{none_there, first_there, plain_none}
use Rattle.sieve_syntax.specs.Chains.{Chain}
use Rattle.sieve_syntax.specs.Tags.{group_of, IsTagValue, IsAllowed, BeginsUntagged, IsSplit}
use Rattle.sieve_syntax.specs.Extension.Relational.{relation_name}
use Rattle.sieve_syntax.specs.Table.{SaysSize, SaysAddress, IsPlainTest, IsPlainCommand}
use Rattle.sieve_syntax.specs.Extension.Envelope.{SaysEnvelope, NamesParts, is_part}
use Rattle.sieve_syntax.specs.Tests.{IsTest, ReadsTest}
use Rattle.sieve_syntax.specs.Grammar.{ReadsScript}
use Rattle.sieve_syntax.specs.Tree.{TestTree, yes, looks, not_of, all_of, any_of, no_tests, test, list_depth, not_depth, CommandTree, choose, stop, act, no_branches, branch, Commands, no_commands, command, depth}
use Rattle.sieve_syntax.specs.Capabilities.{all_capabilities, knows_name}
use Rattle.sieve_syntax.specs.Extension.FileInto.{IsMailboxName}
use Rattle.sieve_syntax.specs.Valid.{IsValid}
use Rattle.sieve_syntax.specs.Means.{Means}
use Rattle.sieve_syntax.specs.RunState.{RunState, TwoVacations}
use Rattle.sieve_syntax.specs.Meaning.{TestAsking, outcome, Done, Failed}

-- a copy without flags in a mailbox
abbrev pub into : List ℕ → Placement
into mailbox = record { mailbox = mailbox; flags = [] }

-- `:over 5` and no more before a semicolon
arguments : AreArguments (A.Tag T.Over ∷ (A.Number 5 ∷ [])) (tag T.Over ∷ (number 5 ∷ (mark K.Semicolon ∷ []))) (mark K.Semicolon ∷ [])
arguments = record { spelled = (number 5 ∷ (mark K.Semicolon ∷ []), (refl, (mark K.Semicolon ∷ [], (refl, refl)))); all = tt }

-- a list in brackets has a string in it
no_strings : (xs : List (List ℕ)) (to end : List Lexeme) → AreStrings xs (mark K.CloseBracket ∷ to) end → ⊥
no_strings [] to end are = are
no_strings (x ∷ more) to end are = let e : mark K.CloseBracket ∷ to ≡ text x ∷ are.0 = are.1.0 in absurd (cc e)

-- `:comparator "i;octet" :contains "a"`
tag_values : IsSplit (P.Comparator ∷ (P.Matching ∷ [])) (A.Tag T.Comparator ∷ (A.Text (codes "i;octet") ∷ (A.Tag T.Contains ∷ (A.Text (codes "a") ∷ [])))) (S.Comparator C.Octet ∷ (S.Matching M.Contains ∷ [])) (A.Text (codes "a") ∷ [])
tag_values = record {
  written = (A.Tag T.Contains ∷ (A.Text (codes "a") ∷ []), ((refl, first_there P.Comparator (P.Matching ∷ [])), (A.Text (codes "a") ∷ [], ((refl, Contains-push (P.Comparator ∷ []) P.Matching), refl))));
  plain = tt;
  once = (λ among. elim (Contains-push_cases [] P.Matching P.Comparator among) [ inl none ↦ none_there P.Comparator none | inr e ↦ cc e ], (λ none. none_there P.Matching none, tt));
}

-- a tag where no setting is allowed
no_tag_value : (tag_values : List TagValue) (positional : List Argument) → IsSplit [] (A.Tag T.Mime ∷ []) tag_values positional → ⊥
no_tag_value [] positional is = let e : A.Tag T.Mime ∷ [] ≡ positional = is.written in subst BeginsUntagged (sym e) is.plain
no_tag_value (s ∷ more) positional is = none_there (group_of s) is.written.1.0.1

-- `header "a" "b"` compares by `:is` and `i;ascii-casemap`
header : IsPlainTest W.Header (A.Text (codes "a") ∷ (A.Text (codes "b") ∷ [])) (looks (L.Header (record { comparator = C.AsciiCasemap; matching = M.Is; fields = codes "a" ∷ []; keys = codes "b" ∷ [] })))
header = record {
  value = record { comparator = C.AsciiCasemap; matching = M.Is; fields = codes "a" ∷ []; keys = codes "b" ∷ [] };
  is = record {
    tag_values = [];
    positional = A.Text (codes "a") ∷ (A.Text (codes "b") ∷ []);
    split_tags = record { written = refl; plain = tt; once = tt };
    says = record { comparator = refl; matching = refl; lists = refl };
  };
  tree_is = refl;
}

-- `:over 5`; without a tag `size` says nothing
size : SaysSize (S.Bound B.Over ∷ []) (A.Number 5 ∷ []) (record { bound = B.Over; limit = 5 })
size = record { bound = refl; limit = refl }

no_size : (size : Size) → SaysSize [] (A.Number 1 ∷ []) size → ⊥
no_size size says = let e : None ≡ Some size.bound = says.bound in absurd (cc e)

-- `keep "a"`
no_keep : (tree : CommandTree) → IsPlainCommand W.Keep (A.Text (codes "a") ∷ []) tree → ⊥
no_keep tree is = step is.is.tag_values is.is.split_tags.written
  where
    step : (tag_values : List TagValue) → Chain (IsAllowed (P.Flags ∷ [])) tag_values (A.Text (codes "a") ∷ []) is.is.positional → ⊥
    step [] e = let bad : A.Text (codes "a") ∷ [] ≡ [] = e ∙ is.is.says.none in absurd (cc bad)
    step (s ∷ more) (middle, (first, others)) = plain_none s (A.Text (codes "a") ∷ []) middle first.0 tt

-- `FROM` is a part of the envelope, `auth` isn't one
parts : NamesParts (codes "FROM" ∷ []) (record { from = true; to = false })
parts = record { each = refl; from = refl; to = refl }

no_parts : (parts : EnvelopeParts) → NamesParts (codes "from" ∷ (codes "auth" ∷ [])) parts → ⊥
no_parts parts is = let e : false ≡ true = is.each in absurd (cc e)

-- `:domain "to" "a"` of `envelope`; `"auth" "a"` says nothing
envelope : SaysEnvelope (S.Part H.Domain ∷ []) (A.Text (codes "to") ∷ (A.Text (codes "a") ∷ [])) (record { comparator = C.AsciiCasemap; part = H.Domain; matching = M.Is; parts = record { from = false; to = true }; keys = codes "a" ∷ [] })
envelope = record { names = codes "to" ∷ []; comparator = refl; part = refl; matching = refl; lists = refl; parts = record { each = refl; from = refl; to = refl } }

no_envelope : (asked : EnvelopeTest) → SaysEnvelope [] (A.Text (codes "auth") ∷ (A.Text (codes "a") ∷ [])) asked → ⊥
no_envelope asked says =
    let lists : Some (codes "auth" ∷ [], codes "a" ∷ []) ≡ Some (says.names, asked.keys) = says.lists in
    let names : says.names ≡ codes "auth" ∷ [] = sym (some_pair (codes "auth" ∷ [], codes "a" ∷ []) (says.names, asked.keys) lists).0 in
    let e : false ≡ true = subst (λ them. list_all is_part them ≡ true) names says.parts.each in
    absurd (cc e)

-- `address` with one list says nothing
no_address : (asked : Address) → SaysAddress [] (A.Text (codes "to") ∷ []) asked → ⊥
no_address asked says = let e : None ≡ Some (asked.fields, asked.keys) = says.lists in absurd (cc e)

-- `not true`
not_true : ReadsTest (not_of yes) (keyword W.Not ∷ (keyword W.True ∷ (mark K.Semicolon ∷ []))) (mark K.Semicolon ∷ [])
not_true = (W.Not, (keyword W.True ∷ (mark K.Semicolon ∷ []), (refl, (refl, (W.True, (mark K.Semicolon ∷ [], (refl, ([], (record { spelled = refl; all = tt }, record { none = refl; tree_is = refl })))))))))

-- `not` alone
not_nothing : (inner : TestTree) (to : List Lexeme) → IsTest (not_of inner) W.Not (mark K.Semicolon ∷ []) to → ⊥
not_nothing inner to is = let e : mark K.Semicolon ∷ [] ≡ keyword is.1.0 ∷ is.1.1.0 = is.1.1.1.0 in absurd (cc e)

-- `keep` without arguments
pub keep_bare : IsPlainCommand W.Keep [] (act (D.Keep None))
keep_bare = record {
  value = None;
  is = record {
    tag_values = [];
    positional = [];
    split_tags = record { written = refl; plain = tt; once = tt };
    says = record { none = refl; flags = refl };
  };
  tree_is = refl;
}

-- `keep;` is a `keep` and no `stop`
keep : ReadsScript (command (act (D.Keep None)) no_commands) (keyword W.Keep ∷ (mark K.Semicolon ∷ []))
keep = ([], ((W.Keep, (mark K.Semicolon ∷ [], (refl, ([], (record { spelled = refl; all = tt }, keep_bare))))), refl))

-- a name of one octet is a mailbox, the empty one isn't
no_mailbox : IsMailboxName [] → ⊥
no_mailbox is = is.some refl

-- `stop;` is valid, `fileinto` without `require` isn't
stop_valid : IsValid (command stop no_commands)
stop_valid = record { known = λ k d below. absurd (omega (arith, below)); stand = (tt, tt); shallow = omega arith }

fileinto_bare : IsValid (command (act (D.FileInto (record { mailbox = codes "a"; copy = false; create = false; flags = None }))) no_commands) → ⊥
fileinto_bare valid = let e : false ≡ true = valid.stand.0.0 in absurd (cc e)

-- capabilities are compared by octets
known : knows_name all_capabilities (codes "comparator-i;octet") ≡ true
known = refl

unknown : knows_name all_capabilities (codes "FileInto") ≡ false
unknown = refl

-- the three depths
depths : list_depth (all_of (test (not_of (any_of (test yes no_tests))) no_tests)) ≡ 2
depths = refl

not_depths : not_depth (not_of (all_of (test (not_of yes) (test yes no_tests)))) ≡ 2
not_depths = refl

block_depths : depth (command (choose (branch yes (command (choose (branch yes no_commands no_branches)) no_commands) no_branches)) no_commands) ≡ 2
block_depths = refl

-- `fileinto "inbox"; keep; discard;` files into INBOX once; `Inbox ` is another mailbox
inbox_once : (asking : TestAsking) → outcome asking (command (act (D.FileInto (record { mailbox = codes "inbox"; copy = false; create = false; flags = None }))) (command (act (D.Keep None)) (command (act D.Discard) no_commands))) ≡ Done (record { filed = into (codes "INBOX") ∷ []; sent = []; reply = None })
inbox_once asking = refl

inbox_twice : (asking : TestAsking) → outcome asking (command (act (D.FileInto (record { mailbox = codes "Inbox "; copy = false; create = false; flags = None }))) (command (act (D.Keep None)) no_commands)) ≡ Done (record { filed = into (codes "Inbox ") ∷ (into (codes "INBOX") ∷ []); sent = []; reply = None })
inbox_twice asking = refl

-- `redirect` of one address twice sends once, and nothing is kept
once : (asking : TestAsking) → outcome asking (command (act (D.Redirect (record { target = record { local = codes "c"; domain = codes "d" }; copy = false }))) (command (act (D.Redirect (record { target = record { local = codes "c"; domain = codes "d" }; copy = false }))) no_commands)) ≡ Done (record { filed = []; sent = record { local = codes "c"; domain = codes "d" } ∷ []; reply = None })
once asking = refl

-- `fileinto :copy "x";` keeps the message too (RFC 3894, 3.1); `fileinto "x";` doesn't
copied : (asking : TestAsking) → outcome asking (command (act (D.FileInto (record { mailbox = codes "x"; copy = true; create = false; flags = None }))) no_commands) ≡ Done (record { filed = into (codes "x") ∷ (into (codes "INBOX") ∷ []); sent = []; reply = None })
copied asking = refl

filed_alone : (asking : TestAsking) → outcome asking (command (act (D.FileInto (record { mailbox = codes "x"; copy = false; create = false; flags = None }))) no_commands) ≡ Done (record { filed = into (codes "x") ∷ []; sent = []; reply = None })
filed_alone asking = refl

-- `redirect :copy "c@d"; discard;` keeps nothing: what is cancelled stays cancelled
copied_and_discarded : (asking : TestAsking) → outcome asking (command (act (D.Redirect (record { target = record { local = codes "c"; domain = codes "d" }; copy = true }))) (command (act D.Discard) no_commands)) ≡ Done (record { filed = []; sent = record { local = codes "c"; domain = codes "d" } ∷ []; reply = None })
copied_and_discarded asking = refl

discarded_and_copied : (asking : TestAsking) → outcome asking (command (act D.Discard) (command (act (D.FileInto (record { mailbox = codes "x"; copy = true; create = false; flags = None }))) no_commands)) ≡ Done (record { filed = into (codes "x") ∷ []; sent = []; reply = None })
discarded_and_copied asking = refl

-- `vacation` keeps the message; a second one fails, after a `discard` too
answered : (asking : TestAsking) (args : VacationArgs) → outcome asking (command (act (D.Vacation args)) no_commands) ≡ Done (record { filed = into (codes "INBOX") ∷ []; sent = []; reply = Some args })
answered asking args = refl

twice : (asking : TestAsking) (args other : VacationArgs) → outcome asking (command (act D.Discard) (command (act (D.Vacation args)) (command (act (D.Vacation other)) no_commands))) ≡ Failed TwoVacations
twice asking args other = refl

apart : (a b : ℕ) → a ≡ 0 → b ≡ 10 → a ≡ b → ⊥
apart a b p q e = omega arith

-- a CR alone means nothing
no_meaning : (tree : Commands) → Means (13 ∷ []) tree → ⊥
no_meaning tree m = apart 0 10 refl refl (m.spelled.written.octets.no_lone_cr 0 refl)

-- a relation is written in lower case
greater_written : IsTagValue (S.Matching (M.Value R.Greater)) (A.Tag T.Value ∷ (A.Text (codes "gt") ∷ [])) []
greater_written = refl

not_in_capitals : (relation : Relation) → relation_name relation ≡ codes "GT" → ⊥
not_in_capitals R.Greater e = omega (arith, ap (λ l. get_or l 0 0) e)
not_in_capitals R.GreaterOrEqual e = omega (arith, ap (λ l. get_or l 0 0) e)
not_in_capitals R.Less e = omega (arith, ap (λ l. get_or l 0 0) e)
not_in_capitals R.LessOrEqual e = omega (arith, ap (λ l. get_or l 0 0) e)
not_in_capitals R.Equal e = omega (arith, ap (λ l. get_or l 0 0) e)
not_in_capitals R.NotEqual e = omega (arith, ap (λ l. get_or l 0 0) e)
