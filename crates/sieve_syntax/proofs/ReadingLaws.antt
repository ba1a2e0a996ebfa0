-- Lexemes are read as one tree at most.
use Rattle.std.proofs.Common.{◌≡◌, ℕ, List, [], ◌∷◌, refl, sym, ap, ◌∙◌, subst, inl, inr}
use Rattle.sieve_lex.specs.declared.token.Mark.{Mark}
use Rattle.sieve_lex.specs.declared.token.Mark.TheVariants as K
use Rattle.sieve_syntax.specs.declared.table.keyword.Keyword.{Keyword}
use Rattle.sieve_syntax.specs.declared.table.keyword.Keyword.TheVariants as W
use Rattle.sieve_syntax.specs.declared.parser.argument.Argument.{Argument}
use Rattle.sieve_syntax.specs.declared.parser.argument.Argument.TheVariants as A
use Rattle.sieve_syntax.specs.Arguments.{IsOther, AreStrings, IsArgument, IsArgumentsEnd, AreArguments}
use Rattle.sieve_syntax.specs.Chains.{Chain}
use Rattle.sieve_syntax.specs.Lexemes.{Lexeme, keyword, text, mark}
use Rattle.sieve_syntax.specs.Grammar.{Braced, IsPastBranches, Tested, IsStatement, IsCommand, IsChoice, AreBranches, AreCommands, ReadsScript}
use Rattle.sieve_syntax.specs.Steps.{IsStop}
use Rattle.sieve_syntax.specs.Table.{IsPlainTest, IsPlainCommand}
use Rattle.sieve_syntax.specs.Tests.{Headed, Marked, IsLeafTest, IsTest, AreTests, AreMoreTests, ReadsTest}
use Rattle.sieve_syntax.specs.Tree.{TestTree, yes, no, looks, not_of, all_of, any_of, Tests, no_tests, test, CommandTree, require, choose, stop, act, Branches, no_branches, branch, Commands, no_commands, command}
use Rattle.sieve_syntax.proofs.ArgumentLemmas.{IsMarked, end_none}
use Rattle.sieve_syntax.proofs.TestLemmas.{is_plain}
use Rattle.sieve_syntax.proofs.TableLemmas.{size_same, header_same, address_same, keep_same}
use Rattle.sieve_syntax.proofs.VacationLemmas.{redirect_same, vacation_same}
use Rattle.sieve_syntax.proofs.ExtensionLaws.FileInto.{file_into_same}
use Rattle.sieve_syntax.proofs.RowLemmas.{chain_same, call_same, list_same, row_same}
use Rattle.sieve_syntax.proofs.ExtensionLaws.{extension_test_same}

-- the strings of a list
strings_same : (xs ys : List (List ℕ)) (from to end : List Lexeme) → AreStrings xs from to → AreStrings ys from end → (xs ≡ ys) × (to ≡ end)
strings_same [] ys from to end a b = absurd a
strings_same (x ∷ xs) [] from to end a b = absurd b
strings_same (x ∷ xs) (y ∷ ys) from to end a b =
    let e : text x ∷ a.0 ≡ text y ∷ b.0 = sym a.1.0 ∙ b.1.0 in
    let first : x ≡ y = cc in
    let rest : a.0 ≡ b.0 = cc in
    let later = chain_same IsOther (IsMarked K.CloseBracket) (λ s t l m n p q. let same : mark K.Comma ∷ (text s ∷ m) ≡ mark K.Comma ∷ (text t ∷ n) = sym p ∙ q in (cc, cc))
    (λ s l m p q. let bad : mark K.CloseBracket ∷ p.0 ≡ mark K.Comma ∷ (text s ∷ m) = sym p.1 ∙ q in absurd cc)
    xs ys b.0 (mark K.CloseBracket ∷ to) (mark K.CloseBracket ∷ end) (subst (λ l. Chain IsOther xs l (mark K.CloseBracket ∷ to)) rest a.1.1) (to, refl) b.1.1 (end, refl) in
    let ends : mark K.CloseBracket ∷ to ≡ mark K.CloseBracket ∷ end = later.1 in
    (ap (λ z. z ∷ xs) first ∙ ap (λ zs. y ∷ zs) later.0, cc)

argument_same : (a b : Argument) (from to end : List Lexeme) → IsArgument a from to → IsArgument b from end → (a ≡ b) × (to ≡ end)
argument_same (A.Tag s) (A.Tag t) from to end p q = (cc, cc)
argument_same (A.Tag s) (A.Number t) from to end p q = absurd cc
argument_same (A.Tag s) (A.Text t) from to end p q = absurd cc
argument_same (A.Tag s) (A.Strings t) from to end p q = let e = q.1.0 in absurd cc
argument_same (A.Number s) (A.Tag t) from to end p q = absurd cc
argument_same (A.Number s) (A.Number t) from to end p q = (cc, cc)
argument_same (A.Number s) (A.Text t) from to end p q = absurd cc
argument_same (A.Number s) (A.Strings t) from to end p q = let e = q.1.0 in absurd cc
argument_same (A.Text s) (A.Tag t) from to end p q = absurd cc
argument_same (A.Text s) (A.Number t) from to end p q = absurd cc
argument_same (A.Text s) (A.Text t) from to end p q = (cc, cc)
argument_same (A.Text s) (A.Strings t) from to end p q = let e = q.1.0 in absurd cc
argument_same (A.Strings s) (A.Tag t) from to end p q = let e = p.1.0 in absurd cc
argument_same (A.Strings s) (A.Number t) from to end p q = let e = p.1.0 in absurd cc
argument_same (A.Strings s) (A.Text t) from to end p q = let e = p.1.0 in absurd cc
argument_same (A.Strings s) (A.Strings t) from to end p q =
    let e : mark K.OpenBracket ∷ p.0 ≡ mark K.OpenBracket ∷ q.0 = sym p.1.0 ∙ q.1.0 in
    let rest : p.0 ≡ q.0 = cc in
    let same = strings_same s t q.0 to end (subst (λ l. AreStrings s l to) rest p.1.1) q.1.1 in
    (ap A.Strings same.0, same.1)

arguments_same : (xs ys : List Argument) (from to end : List Lexeme) → AreArguments xs from to → AreArguments ys from end → (xs ≡ ys) × (to ≡ end)
arguments_same xs ys from to end a b = chain_same IsArgument IsArgumentsEnd argument_same (λ x l m p q. end_none l p x m q) xs ys from to end a.spelled a.all b.spelled b.all

-- the rows of the table
plain_test_same : (name : Keyword) (args : List Argument) (t u : TestTree) → IsPlainTest name args t → IsPlainTest name args u → t ≡ u
plain_test_same W.True args t u a b = a.tree_is ∙ sym b.tree_is
plain_test_same W.False args t u a b = a.tree_is ∙ sym b.tree_is
plain_test_same W.Size args t u a b = row_same _ _ args (call_same _ _ size_same args) t u a b
plain_test_same W.Exists args t u a b = row_same _ _ args (list_same args) t u a b
plain_test_same W.Header args t u a b = row_same _ _ args (call_same _ _ header_same args) t u a b
plain_test_same W.Address args t u a b = row_same _ _ args (call_same _ _ address_same args) t u a b
plain_test_same word args t u a b = row_same _ _ args (extension_test_same word args) t u a b

plain_command_same : (name : Keyword) (args : List Argument) (t u : CommandTree) → IsPlainCommand name args t → IsPlainCommand name args u → t ≡ u
plain_command_same W.Require args t u a b = row_same _ _ args (list_same args) t u a b
plain_command_same W.Stop args t u a b = a.tree_is ∙ sym b.tree_is
plain_command_same W.Keep args t u a b = row_same _ _ args (call_same _ _ keep_same args) t u a b
plain_command_same W.Discard args t u a b = a.tree_is ∙ sym b.tree_is
plain_command_same W.FileInto args t u a b = row_same _ _ args (call_same _ _ file_into_same args) t u a b
plain_command_same W.Redirect args t u a b = row_same _ _ args (call_same _ _ redirect_same args) t u a b
plain_command_same W.Vacation args t u a b = row_same _ _ args (call_same _ _ vacation_same args) t u a b
plain_command_same W.SetFlag args t u a b = row_same _ _ args (list_same args) t u a b
plain_command_same W.AddFlag args t u a b = row_same _ _ args (list_same args) t u a b
plain_command_same W.RemoveFlag args t u a b = row_same _ _ args (list_same args) t u a b
plain_command_same _ args t u a b = absurd a

-- what stands after a name or a mark that is known
headed_at : (P : Keyword → List Lexeme → Type 0) (from : List Lexeme) (name : Keyword) (after : List Lexeme) → from ≡ keyword name ∷ after → Headed P from → P name after
headed_at P from name after opens headed =
    let same : keyword headed.0 ∷ headed.1.0 ≡ keyword name ∷ after = sym headed.1.1.0 ∙ opens in
    let named : headed.0 ≡ name = cc in
    let there : headed.1.0 ≡ after = cc in
    subst (P name) there (subst (λ w. P w headed.1.0) named headed.1.1.1)

marked_at : (kind : Mark) (P : List Lexeme → Type 0) (from after : List Lexeme) → from ≡ mark kind ∷ after → Marked kind P from → P after
marked_at kind P from after opens marked =
    let same : mark kind ∷ marked.0 ≡ mark kind ∷ after = sym marked.1.0 ∙ opens in
    let there : marked.0 ≡ after = cc in
    subst P there marked.1.1

-- tests without tests in them
plain_same : (t u : TestTree) (name : Keyword) (after to end : List Lexeme) → IsLeafTest t name after to → IsLeafTest u name after end → (t ≡ u) × (to ≡ end)
plain_same t u name after to end a b =
    let same = arguments_same a.0 b.0 after to end a.1.0 b.1.0 in
    (plain_test_same name b.0 t u (subst (λ args. IsPlainTest name args t) same.0 a.1.1) b.1.1, same.1)

leaf_same : (t u : TestTree) (name : Keyword) (after to end : List Lexeme) → IsLeafTest t name after to → IsTest u name after end → (t ≡ u) × (to ≡ end)
leaf_same t u name after to end a b =
    let other : (w : Keyword) → name ≡ w → IsPlainTest w a.0 t = λ w e. subst (λ v. IsPlainTest v a.0 t) e a.1.1 in
    plain_same t u name after to end a (is_plain name (λ e. (other W.Not e).is) (λ e. (other W.AllOf e).is) (λ e. (other W.AnyOf e).is) after u end b)

module _ (name : Keyword) (after end : List Lexeme) where
  not_inside : (u : TestTree) → name ≡ W.Not → IsTest u name after end → (inner : TestTree) × ((u ≡ not_of inner) × ReadsTest inner after end)
  not_inside yes e b = absurd (subst (λ w. IsPlainTest w b.0 yes) e b.1.1).is
  not_inside no e b = absurd (subst (λ w. IsPlainTest w b.0 no) e b.1.1).is
  not_inside (looks check) e b = absurd (subst (λ w. IsPlainTest w b.0 (looks check)) e b.1.1).is
  not_inside (not_of inner) e b = (inner, (refl, b.1))
  not_inside (all_of inner) e b = let bad : W.Not ≡ W.AllOf = sym e ∙ b.0 in absurd cc
  not_inside (any_of inner) e b = let bad : W.Not ≡ W.AnyOf = sym e ∙ b.0 in absurd cc

  all_inside : (u : TestTree) → name ≡ W.AllOf → IsTest u name after end → (inner : Tests) × ((u ≡ all_of inner) × Marked K.OpenParen (λ inside. AreTests inner inside end) after)
  all_inside yes e b = absurd (subst (λ w. IsPlainTest w b.0 yes) e b.1.1).is
  all_inside no e b = absurd (subst (λ w. IsPlainTest w b.0 no) e b.1.1).is
  all_inside (looks check) e b = absurd (subst (λ w. IsPlainTest w b.0 (looks check)) e b.1.1).is
  all_inside (not_of inner) e b = let bad : W.AllOf ≡ W.Not = sym e ∙ b.0 in absurd cc
  all_inside (all_of inner) e b = (inner, (refl, b.1))
  all_inside (any_of inner) e b = let bad : W.AllOf ≡ W.AnyOf = sym e ∙ b.0 in absurd cc

  any_inside : (u : TestTree) → name ≡ W.AnyOf → IsTest u name after end → (inner : Tests) × ((u ≡ any_of inner) × Marked K.OpenParen (λ inside. AreTests inner inside end) after)
  any_inside yes e b = absurd (subst (λ w. IsPlainTest w b.0 yes) e b.1.1).is
  any_inside no e b = absurd (subst (λ w. IsPlainTest w b.0 no) e b.1.1).is
  any_inside (looks check) e b = absurd (subst (λ w. IsPlainTest w b.0 (looks check)) e b.1.1).is
  any_inside (not_of inner) e b = let bad : W.AnyOf ≡ W.Not = sym e ∙ b.0 in absurd cc
  any_inside (all_of inner) e b = let bad : W.AnyOf ≡ W.AllOf = sym e ∙ b.0 in absurd cc
  any_inside (any_of inner) e b = (inner, (refl, b.1))

-- one test at most stands after a name, and one list of tests at a place
mutual
  test_same : (t u : TestTree) (name : Keyword) (after to end : List Lexeme) → IsTest t name after to → IsTest u name after end → (t ≡ u) × (to ≡ end)
  test_same yes u name after to end a b = leaf_same yes u name after to end a b
  test_same no u name after to end a b = leaf_same no u name after to end a b
  test_same (looks check) u name after to end a b = leaf_same (looks check) u name after to end a b
  test_same (not_of inner) u name after to end a b =
      let other = not_inside name after end u a.0 b in
      let here = a.1 in
      let there = headed_at (λ n l. IsTest other.0 n l end) after here.0 here.1.0 here.1.1.0 other.1.1 in
      let same = test_same inner other.0 here.0 here.1.0 to end here.1.1.1 there in
      (ap not_of same.0 ∙ sym other.1.0, same.1)
  test_same (all_of inner) u name after to end a b =
      let other = all_inside name after end u a.0 b in
      let here = a.1 in
      let there = marked_at K.OpenParen (λ l. AreTests other.0 l end) after here.0 here.1.0 other.1.1 in
      let same = tests_same inner other.0 here.0 to end here.1.1 there in
      (ap all_of same.0 ∙ sym other.1.0, same.1)
  test_same (any_of inner) u name after to end a b =
      let other = any_inside name after end u a.0 b in
      let here = a.1 in
      let there = marked_at K.OpenParen (λ l. AreTests other.0 l end) after here.0 here.1.0 other.1.1 in
      let same = tests_same inner other.0 here.0 to end here.1.1 there in
      (ap any_of same.0 ∙ sym other.1.0, same.1)

  tests_same : (ts us : Tests) (from to end : List Lexeme) → AreTests ts from to → AreTests us from end → (ts ≡ us) × (to ≡ end)
  tests_same no_tests us from to end a b = absurd a
  tests_same (test first more) no_tests from to end a b = absurd b
  tests_same (test first more) (test other others) from to end a b =
      let here = a.1.0 in
      let there = headed_at (λ n l. IsTest other n l b.0) from here.0 here.1.0 here.1.1.0 b.1.0 in
      let same = test_same first other here.0 here.1.0 a.0 b.0 here.1.1.1 there in
      let later = more_same more others b.0 to end (subst (λ l. AreMoreTests more l to) same.1 a.1.1) b.1.1 in
      (ap (λ t. test t more) same.0 ∙ ap (test other) later.0, later.1)

  more_same : (ts us : Tests) (from to end : List Lexeme) → AreMoreTests ts from to → AreMoreTests us from end → (ts ≡ us) × (to ≡ end)
  more_same no_tests no_tests from to end a b = let e : mark K.CloseParen ∷ to ≡ mark K.CloseParen ∷ end = sym a ∙ b in (refl, cc)
  more_same no_tests (test other others) from to end a b = let e = b.1.0 in absurd cc
  more_same (test first more) no_tests from to end a b = let e = a.1.0 in absurd cc
  more_same (test first more) (test other others) from to end a b =
      let rest = marked_at K.Comma (λ start. (middle : List Lexeme) × (Headed (λ name after. IsTest other name after middle) start × AreMoreTests others middle end)) from a.0 a.1.0 b in
      let here = a.1.1.1.0 in
      let there = headed_at (λ n l. IsTest other n l rest.0) a.0 here.0 here.1.0 here.1.1.0 rest.1.0 in
      let same = test_same first other here.0 here.1.0 a.1.1.0 rest.0 here.1.1.1 there in
      let later = more_same more others rest.0 to end (subst (λ l. AreMoreTests more l to) same.1 a.1.1.1.1) rest.1.1 in
      (ap (λ t. test t more) same.0 ∙ ap (test other) later.0, later.1)

-- one test at most stands at the front
reads_test_same : (t u : TestTree) (from to end : List Lexeme) → ReadsTest t from to → ReadsTest u from end → (t ≡ u) × (to ≡ end)
reads_test_same t u from to end a b = test_same t u a.0 a.1.0 to end a.1.1.1 (headed_at (λ n l. IsTest u n l end) from a.0 a.1.0 a.1.1.0 b)

-- two things in braces that are the same by what is said of their insides
module _ (P Q : List Lexeme → List Lexeme → Type 0) (A : Type 0)
    (inner : (from to end : List Lexeme) → P from (mark K.CloseBrace ∷ to) → Q from (mark K.CloseBrace ∷ end) → A × (to ≡ end)) where
  braced_same : (from to end : List Lexeme) → Braced P from to → Braced Q from end → A × (to ≡ end)
  braced_same from to end a b = inner a.0 to end a.1.1 (marked_at K.OpenBrace (λ l. Q l (mark K.CloseBrace ∷ end)) from a.0 a.1.0 b)

  tested_same : (t u : TestTree) (from to end : List Lexeme) → Tested t P from to → Tested u Q from end → (t ≡ u) × (A × (to ≡ end))
  tested_same t u from to end a b =
      let same = reads_test_same t u from a.0 b.0 a.1.0 b.1.0 in
      (same.0, braced_same b.0 to end (subst (λ l. Braced P l to) same.1 a.1.1) b.1.1)

statement_same : (a b : CommandTree) (name : Keyword) (after to end : List Lexeme) → IsStatement a name after to → IsStatement b name after end → (a ≡ b) × (to ≡ end)
statement_same a b name after to end p q =
    let same = arguments_same p.0 q.0 after (mark K.Semicolon ∷ to) (mark K.Semicolon ∷ end) p.1.0 q.1.0 in
    let ends : mark K.Semicolon ∷ to ≡ mark K.Semicolon ∷ end = same.1 in
    (plain_command_same name q.0 a b (subst (λ args. IsPlainCommand name args a) same.0 p.1.1) q.1.1, cc)

statement_no_if : (a : CommandTree) (name : Keyword) (after to : List Lexeme) → IsStatement a name after to → name ≡ W.If → ⊥
statement_no_if a name after to p e = subst (λ w. IsPlainCommand w p.0 a) e p.1.1

-- a command other than an `if`
is_statement : (b : CommandTree) (name : Keyword) (after end : List Lexeme) → (name ≡ W.If → ⊥) → IsCommand b name after end → IsStatement b name after end
is_statement (require names) name after end other q = q
is_statement (choose no_branches) name after end other q = absurd q
is_statement (choose (branch condition block more)) name after end other q = absurd (other q.0)
is_statement stop name after end other q = q
is_statement (act action) name after end other q = q

plain_only : (a b : CommandTree) (name : Keyword) (after to end : List Lexeme) → IsStatement a name after to → IsCommand b name after end → (a ≡ b) × (to ≡ end)
plain_only a b name after to end p q = statement_same a b name after to end p (is_statement b name after end (statement_no_if a name after to p) q)

-- an `if`
choice_inside : (b : CommandTree) (name : Keyword) (after end : List Lexeme) → name ≡ W.If → IsCommand b name after end → (branches : Branches) × ((b ≡ choose branches) × IsChoice branches name after end)
choice_inside (require names) name after end e q = absurd (statement_no_if (require names) name after end q e)
choice_inside (choose branches) name after end e q = (branches, (refl, q))
choice_inside stop name after end e q = absurd (statement_no_if stop name after end q e)
choice_inside (act action) name after end e q = absurd (statement_no_if (act action) name after end q e)

if_first : (branches : Branches) (name : Keyword) (after to : List Lexeme) → IsChoice branches name after to → name ≡ W.If
if_first no_branches name after to p = absurd p
if_first (branch condition block more) name after to p = p.0

branch_parts : (c d : TestTree) (x y : Commands) (m n : Branches) → c ≡ d → x ≡ y → m ≡ n → branch c x m ≡ branch d y n
branch_parts c d x y m n a b e = λ i. branch (a i) (b i) (e i)

-- what stands before a close of braces
closed : {x y : Commands} {m n : List Lexeme} → (x ≡ y) × (mark K.CloseBrace ∷ m ≡ mark K.CloseBrace ∷ n) → (x ≡ y) × (m ≡ n)
closed same = let e = same.1 in (same.0, cc)

-- one command at most stands after a name, one list of branches and one of commands at a place
mutual
  command_same : (a b : CommandTree) (name : Keyword) (after to end : List Lexeme) → IsCommand a name after to → IsCommand b name after end → (a ≡ b) × (to ≡ end)
  command_same (require names) b name after to end p q = plain_only (require names) b name after to end p q
  command_same (choose branches) b name after to end p q =
      let other = choice_inside b name after end (if_first branches name after to p) q in
      let same = choice_same branches other.0 name after to end p other.1.1 in
      (ap choose same.0 ∙ sym other.1.0, same.1)
  command_same stop b name after to end p q = plain_only stop b name after to end p q
  command_same (act action) b name after to end p q = plain_only (act action) b name after to end p q

  choice_same : (a b : Branches) (name : Keyword) (after to end : List Lexeme) → IsChoice a name after to → IsChoice b name after end → (a ≡ b) × (to ≡ end)
  choice_same no_branches b name after to end p q = absurd p
  choice_same (branch condition block more) no_branches name after to end p q = absurd q
  choice_same (branch condition block more) (branch other blocked others) name after to end p q =
      let first = tested_same (AreCommands block) (AreCommands blocked) (block ≡ blocked) (λ l m n x y. closed (commands_same block blocked l (mark K.CloseBrace ∷ m) (mark K.CloseBrace ∷ n) x tt y tt))
      condition other after p.1.0 q.1.0 p.1.1.0 q.1.1.0 in
      let later = branches_same more others q.1.0 to end (subst (λ l. AreBranches more l to) first.1.1 p.1.1.1) q.1.1.1 in
      (branch_parts condition other block blocked more others first.0 first.1.0 later.0, later.1)

  branches_same : (a b : Branches) (from to end : List Lexeme) → AreBranches a from to → AreBranches b from end → (a ≡ b) × (to ≡ end)
  branches_same no_branches no_branches from to end p q = (refl, sym p.0 ∙ q.0)
  branches_same no_branches (branch other blocked others) from to end p (inl q) = absurd (subst IsPastBranches (sym p.0 ∙ q.1.0) p.1)
  branches_same no_branches (branch other blocked others) from to end p (inr q) = absurd (subst IsPastBranches (sym p.0 ∙ q.1.0) p.1)
  branches_same (branch condition block more) no_branches from to end (inl p) q = absurd (subst IsPastBranches (sym q.0 ∙ p.1.0) q.1)
  branches_same (branch condition block more) no_branches from to end (inr p) q = absurd (subst IsPastBranches (sym q.0 ∙ p.1.0) q.1)
  branches_same (branch condition block more) (branch other blocked others) from to end (inl p) (inl q) =
      let e : keyword W.Elsif ∷ p.0 ≡ keyword W.Elsif ∷ q.0 = sym p.1.0 ∙ q.1.0 in
      let after : p.0 ≡ q.0 = cc in
      let first = tested_same (AreCommands block) (AreCommands blocked) (block ≡ blocked) (λ l m n x y. closed (commands_same block blocked l (mark K.CloseBrace ∷ m) (mark K.CloseBrace ∷ n) x tt y tt))
      condition other q.0 p.1.1.0 q.1.1.0 (subst (λ l. Tested condition (AreCommands block) l p.1.1.0) after p.1.1.1.0) q.1.1.1.0 in
      let later = branches_same more others q.1.1.0 to end (subst (λ l. AreBranches more l to) first.1.1 p.1.1.1.1) q.1.1.1.1 in
      (branch_parts condition other block blocked more others first.0 first.1.0 later.0, later.1)
  branches_same (branch condition block more) (branch other blocked others) from to end (inl p) (inr q) = let e : keyword W.Elsif ∷ p.0 ≡ keyword W.Else ∷ q.0 = sym p.1.0 ∙ q.1.0 in absurd cc
  branches_same (branch condition block more) (branch other blocked others) from to end (inr p) (inl q) = let e : keyword W.Else ∷ p.0 ≡ keyword W.Elsif ∷ q.0 = sym p.1.0 ∙ q.1.0 in absurd cc
  branches_same (branch condition block more) (branch other blocked others) from to end (inr p) (inr q) =
      let e : keyword W.Else ∷ p.0 ≡ keyword W.Else ∷ q.0 = sym p.1.0 ∙ q.1.0 in
      let after : p.0 ≡ q.0 = cc in
      let first = braced_same (AreCommands block) (AreCommands blocked) (block ≡ blocked) (λ l m n x y. closed (commands_same block blocked l (mark K.CloseBrace ∷ m) (mark K.CloseBrace ∷ n) x tt y tt))
      q.0 to end (subst (λ l. Braced (AreCommands block) l to) after p.1.1.0) q.1.1.0 in
      (branch_parts condition other block blocked more others (p.1.1.1.0 ∙ sym q.1.1.1.0) first.0 (p.1.1.1.1 ∙ sym q.1.1.1.1), first.1)

  commands_same : (a b : Commands) (from to end : List Lexeme) → AreCommands a from to → IsStop to → AreCommands b from end → IsStop end → (a ≡ b) × (to ≡ end)
  commands_same no_commands no_commands from to end p s q r = (refl, sym p ∙ q)
  commands_same no_commands (command other others) from to end p s q r = absurd (subst IsStop (sym p ∙ q.1.0.1.1.0) s)
  commands_same (command first more) no_commands from to end p s q r = absurd (subst IsStop (sym q ∙ p.1.0.1.1.0) r)
  commands_same (command first more) (command other others) from to end p s q r =
      let here = p.1.0 in
      let there = headed_at (λ n l. IsCommand other n l q.0) from here.0 here.1.0 here.1.1.0 q.1.0 in
      let same = command_same first other here.0 here.1.0 p.0 q.0 here.1.1.1 there in
      let later = commands_same more others q.0 to end (subst (λ l. AreCommands more l to) same.1 p.1.1) s q.1.1 r in
      (ap (λ c. command c more) same.0 ∙ ap (command other) later.0, later.1)

-- lexemes are read as one tree
pub reads_same : (a b : Commands) (lexemes : List Lexeme) → ReadsScript a lexemes → ReadsScript b lexemes → a ≡ b
reads_same a b lexemes p q = (commands_same a b lexemes [] [] p tt q tt).0
