-- Lemmas on tests.
use Rattle.std.proofs.Common.{◌≡◌, ◌++◌, ℕ, ◌≤◌, ◌<◌, ◌+◌, List, [], ◌∷◌, length, map, Result, Ok, Err, Vec, Global, refl, sym, ap, ◌∙◌, subst, arith, max, suc}
use Rattle.sieve_lex.specs.declared.token.Mark.TheVariants as K
use Rattle.sieve_syntax.specs.declared.table.keyword.Keyword.{Keyword}
use Rattle.sieve_syntax.specs.declared.table.keyword.Keyword.TheVariants as W
use Rattle.sieve_syntax.specs.declared.parser.argument.Argument.{Argument}
use Rattle.sieve_syntax.specs.Capabilities.{Capabilities}
use Rattle.sieve_syntax.specs.Lexemes.{Lexeme, keyword, mark}
use Rattle.sieve_syntax.specs.Arguments.{IsArgument, AreArguments}
use Rattle.sieve_syntax.specs.Chains.{Chain}
use Rattle.sieve_syntax.specs.Extension.{IsExtensionTest, MayAsk}
use Rattle.sieve_syntax.specs.declared.extension.ExtensionTest.{ExtensionTest}
use Rattle.sieve_syntax.specs.Rows.{IsTableRow}
use Rattle.sieve_syntax.specs.declared.tree.checks.MailCheck.TheVariants as L
use Rattle.sieve_syntax.specs.Table.{IsPlainTest}
use Rattle.sieve_syntax.specs.Tree.{TestTree, yes, no, looks, not_of, all_of, any_of, Tests, no_tests, test, list_depth, lists_depth, not_depth, nots_depth}
use Rattle.sieve_syntax.specs.declared.error.ParseError.{ParseError}
use Rattle.sieve_syntax.specs.declared.tree.test.Test.{Test}
use Rattle.sieve_syntax.specs.Parsing.{OnParseFault, Parses, ParsesMore}
use Rattle.sieve_syntax.specs.View.{test_view, tests_view, tests_of}
use Rattle.sieve_syntax.specs.Valid.{MayTest, MayAllTest}
use Rattle.sieve_syntax.specs.Tests.{IsLeafTest, IsTest, AreTests, AreMoreTests, ReadsTest}
use Rattle.sieve_syntax.specs.Steps.{TakesTest, AsksAfter, TakesNextTest, TakesMoreTests, TakesTests}
use Rattle.sieve_syntax.proofs.Chains.{IsSoFar, chain_more, chain_ends, chain_fails}
use Rattle.sieve_syntax.proofs.ArgumentLemmas.{IsMarked, argument_longer}
use Rattle.sieve_syntax.proofs.FaultLemmas.{fault_on}

-- a test without tests in it
abbrev pub IsLeaf : TestTree → Type 0
IsLeaf yes = Unit {0}
IsLeaf no = Unit {0}
IsLeaf (looks check) = Unit {0}
IsLeaf (not_of inner) = ⊥
IsLeaf (all_of inner) = ⊥
IsLeaf (any_of inner) = ⊥

-- a row of the table is such a test
plain_leaf : (name : Keyword) (args : List Argument) (t : TestTree) → IsPlainTest name args t → IsLeaf t
plain_leaf W.True args t is = subst IsLeaf (sym is.tree_is) tt
plain_leaf W.False args t is = subst IsLeaf (sym is.tree_is) tt
plain_leaf W.Size args t is = subst IsLeaf (sym is.tree_is) tt
plain_leaf W.Exists args t is = subst IsLeaf (sym is.tree_is) tt
plain_leaf W.Header args t is = subst IsLeaf (sym is.tree_is) tt
plain_leaf W.Address args t is = subst IsLeaf (sym is.tree_is) tt
plain_leaf _ args t is = subst IsLeaf (sym is.tree_is) tt

-- the row of a word that isn't one of the base language's tests is one of the extensions
row_beyond : (word : Keyword) → (word ≡ W.True → ⊥) → (word ≡ W.False → ⊥) → (word ≡ W.Size → ⊥) → (word ≡ W.Exists → ⊥) → (word ≡ W.Header → ⊥) → (word ≡ W.Address → ⊥)
    → (args : List Argument) (t : TestTree) → IsPlainTest word args t → IsTableRow (IsExtensionTest word) (λ extended. looks (L.Extension extended)) args t
row_beyond W.True a b c d e f args t is = absurd (a refl)
row_beyond W.False a b c d e f args t is = absurd (b refl)
row_beyond W.Size a b c d e f args t is = absurd (c refl)
row_beyond W.Exists a b c d e f args t is = absurd (d refl)
row_beyond W.Header a b c d e f args t is = absurd (e refl)
row_beyond W.Address a b c d e f args t is = absurd (f refl)
row_beyond _ a b c d e f args t is = is

row_within : (word : Keyword) → (word ≡ W.True → ⊥) → (word ≡ W.False → ⊥) → (word ≡ W.Size → ⊥) → (word ≡ W.Exists → ⊥) → (word ≡ W.Header → ⊥) → (word ≡ W.Address → ⊥)
    → (args : List Argument) (t : TestTree) → IsTableRow (IsExtensionTest word) (λ extended. looks (L.Extension extended)) args t → IsPlainTest word args t
row_within W.True a b c d e f args t is = absurd (a refl)
row_within W.False a b c d e f args t is = absurd (b refl)
row_within W.Size a b c d e f args t is = absurd (c refl)
row_within W.Exists a b c d e f args t is = absurd (d refl)
row_within W.Header a b c d e f args t is = absurd (e refl)
row_within W.Address a b c d e f args t is = absurd (f refl)
row_within _ a b c d e f args t is = is

-- a word that isn't one of the base language's tests stands for what the extensions say
module _ (word : Keyword) (no_true : word ≡ W.True → ⊥) (no_false : word ≡ W.False → ⊥) (no_size : word ≡ W.Size → ⊥) (no_exists : word ≡ W.Exists → ⊥) (no_header : word ≡ W.Header → ⊥) (no_address : word ≡ W.Address → ⊥) (args : List Argument) where
  pub beyond_fault : (granted : Capabilities) (e : ParseError) → OnParseFault e ((x : ExtensionTest) → IsExtensionTest word args x → MayAsk granted x → ⊥) → OnParseFault e ((t : TestTree) → IsPlainTest word args t → MayTest granted t → ⊥)
  beyond_fault granted e h =
      fault_on e ((x : ExtensionTest) → IsExtensionTest word args x → MayAsk granted x → ⊥) ((t : TestTree) → IsPlainTest word args t → MayTest granted t → ⊥)
      (λ none t is may. let row = row_beyond word no_true no_false no_size no_exists no_header no_address args t is in none row.value row.is (subst (MayTest granted) row.tree_is may)) h

  pub beyond_found : (x : ExtensionTest) → IsExtensionTest word args x → IsPlainTest word args (looks (L.Extension x))
  beyond_found x is = row_within word no_true no_false no_size no_exists no_header no_address args (looks (L.Extension x)) (record { value = x; is = is; tree_is = refl })

  pub beyond_only : (x : ExtensionTest) → ((y : ExtensionTest) → IsExtensionTest word args y → y ≡ x) → (t : TestTree) → IsPlainTest word args t → t ≡ looks (L.Extension x)
  beyond_only x only t is = let row = row_beyond word no_true no_false no_size no_exists no_header no_address args t is in row.tree_is ∙ ap (λ y. looks (L.Extension y)) (only row.value row.is)

leaf_lists : (t : TestTree) → IsLeaf t → list_depth t ≡ 0
leaf_lists yes leaf = refl
leaf_lists no leaf = refl
leaf_lists (looks check) leaf = refl
leaf_lists (not_of inner) leaf = absurd leaf
leaf_lists (all_of inner) leaf = absurd leaf
leaf_lists (any_of inner) leaf = absurd leaf

leaf_nots : (t : TestTree) → IsLeaf t → not_depth t ≡ 0
leaf_nots yes leaf = refl
leaf_nots no leaf = refl
leaf_nots (looks check) leaf = refl
leaf_nots (not_of inner) leaf = absurd leaf
leaf_nots (all_of inner) leaf = absurd leaf
leaf_nots (any_of inner) leaf = absurd leaf

plain_is : (t : TestTree) (name : Keyword) (after to : List Lexeme) → IsLeaf t → IsLeafTest t name after to → IsTest t name after to
plain_is yes name after to leaf is = is
plain_is no name after to leaf is = is
plain_is (looks check) name after to leaf is = is
plain_is (not_of inner) name after to leaf is = absurd leaf
plain_is (all_of inner) name after to leaf is = absurd leaf
plain_is (any_of inner) name after to leaf is = absurd leaf

module _ (name : Keyword) (no_not : name ≡ W.Not → ⊥) (no_allof : name ≡ W.AllOf → ⊥) (no_anyof : name ≡ W.AnyOf → ⊥) (after : List Lexeme) where
  pub is_plain : (t : TestTree) (to : List Lexeme) → IsTest t name after to → IsLeafTest t name after to
  is_plain yes to is = is
  is_plain no to is = is
  is_plain (looks check) to is = is
  is_plain (not_of inner) to is = absurd (no_not is.0)
  is_plain (all_of inner) to is = absurd (no_allof is.0)
  is_plain (any_of inner) to is = absurd (no_anyof is.0)

  module _ (granted : Capabilities) (lists nots : ℕ) where
    -- no arguments
    pub plain_no_args : ((args : List Argument) (to : List Lexeme) → AreArguments args after to → ⊥) → (t : TestTree) (to : List Lexeme) → AsksAfter granted lists nots name t after to → ⊥
    plain_no_args none t to asks = let is = is_plain t to asks.0 in none is.0 to is.1.0

    module _ (args : List Argument) (next : List Lexeme) (only : (other : List Argument) (to : List Lexeme) → AreArguments other after to → (other ≡ args) × (to ≡ next)) where
      -- no test with these arguments
      pub plain_no_row : ((t : TestTree) → IsPlainTest name args t → MayTest granted t → ⊥) → (t : TestTree) (to : List Lexeme) → AsksAfter granted lists nots name t after to → ⊥
      plain_no_row none t to asks =
          let is = is_plain t to asks.0 in
          let same = only is.0 to is.1.0 in
          none t (subst (λ a. IsPlainTest name a t) same.0 is.1.1) asks.1.0

      -- the one test
      pub plain_found : AreArguments args after next → (t : TestTree) → IsPlainTest name args t × MayTest granted t → ((other : TestTree) → IsPlainTest name args other → other ≡ t) → AsksAfter granted lists nots name t after next × ((other : TestTree) (end : List Lexeme) → AsksAfter granted lists nots name other after end → (other ≡ t) × (end ≡ next))
      plain_found are t row alone =
          let leaf = plain_leaf name args t row.0 in
          let no_lists = leaf_lists t leaf in
          let no_nots = leaf_nots t leaf in (
            (plain_is t name after next leaf (args, (are, row.0)), (row.1, (omega (arith, no_lists), omega (arith, no_nots)))),
            λ other end asks.
                let is = is_plain other end asks.0 in
                let same = only is.0 end is.1.0 in
                (alone other (subst (λ a. IsPlainTest name a other) same.0 is.1.1), same.1),
          )

module _ (granted : Capabilities) (lists nots : ℕ) (after : List Lexeme) where
  -- the test of a `not`
  not_parts : (t : TestTree) (to : List Lexeme) → AsksAfter granted lists nots W.Not t after to → (inner : TestTree) × ((t ≡ not_of inner) × (ReadsTest inner after to × (MayTest granted inner × ((list_depth inner ≤ lists) × (not_depth inner + 1 ≤ nots)))))
  not_parts yes to asks = absurd asks.0.1.1.is
  not_parts no to asks = absurd asks.0.1.1.is
  not_parts (looks check) to asks = absurd asks.0.1.1.is
  not_parts (not_of inner) to asks = let low : suc (not_depth inner) ≤ nots = asks.1.1.1 in (inner, (refl, (asks.0.1, (asks.1.0, (asks.1.1.0, omega (arith, low))))))
  not_parts (all_of inner) to asks = let e : W.Not ≡ W.AllOf = asks.0.0 in cc
  not_parts (any_of inner) to asks = let e : W.Not ≡ W.AnyOf = asks.0.0 in cc

  -- no `not` may stand there
  pub not_deep : nots ≡ 0 → (t : TestTree) (to : List Lexeme) → AsksAfter granted lists nots W.Not t after to → ⊥
  not_deep none t to asks = let low = (not_parts t to asks).1.1.1.1.1 in absurd (omega (arith, low, none))

  module _ (fewer : ℕ) (more : nots ≡ fewer + 1) where
    not_takes : (t : TestTree) (to : List Lexeme) → AsksAfter granted lists nots W.Not t after to → (inner : TestTree) × ((t ≡ not_of inner) × TakesTest granted lists fewer inner after to)
    not_takes t to asks = let p = not_parts t to asks in let low : not_depth p.0 + 1 ≤ nots = p.1.1.1.1.1 in (p.0, (p.1.0, (p.1.1.0, (p.1.1.1.0, (p.1.1.1.1.0, omega (arith, low, more))))))

    -- no test after it
    pub not_none : ((t : TestTree) (to : List Lexeme) → TakesTest granted lists fewer t after to → ⊥) → (t : TestTree) (to : List Lexeme) → AsksAfter granted lists nots W.Not t after to → ⊥
    not_none none t to asks = let p = not_takes t to asks in none p.0 to p.1.1

    -- the one `not`
    pub not_found : (inner : TestTree) (to : List Lexeme) → TakesTest granted lists fewer inner after to × ((other : TestTree) (end : List Lexeme) → TakesTest granted lists fewer other after end → (other ≡ inner) × (end ≡ to)) → AsksAfter granted lists nots W.Not (not_of inner) after to × ((other : TestTree) (end : List Lexeme) → AsksAfter granted lists nots W.Not other after end → (other ≡ not_of inner) × (end ≡ to))
    not_found inner to found =
        let low : not_depth inner ≤ fewer = found.0.1.1.1 in (
          ((refl, found.0.0), (found.0.1.0, (found.0.1.1.0, omega (arith, low, more)))),
          λ other end asks.
              let p = not_takes other end asks in
              let same = found.1 p.0 end p.1.1 in
              (p.1.0 ∙ ap not_of same.0, same.1),
        )

  -- the tests of an `allof`
  all_parts : (t : TestTree) (to : List Lexeme) → AsksAfter granted lists nots W.AllOf t after to → (inner : Tests) × ((t ≡ all_of inner) × TakesTests granted lists nots inner after to)
  all_parts yes to asks = absurd asks.0.1.1.is
  all_parts no to asks = absurd asks.0.1.1.is
  all_parts (looks check) to asks = absurd asks.0.1.1.is
  all_parts (not_of inner) to asks = let e : W.AllOf ≡ W.Not = asks.0.0 in cc
  all_parts (all_of inner) to asks = let low : suc (lists_depth inner) ≤ lists = asks.1.1.0 in (inner, (refl, (asks.0.1, (asks.1.0, (omega (arith, low), asks.1.1.1)))))
  all_parts (any_of inner) to asks = let e : W.AllOf ≡ W.AnyOf = asks.0.0 in cc

  pub all_none : ((inner : Tests) (to : List Lexeme) → TakesTests granted lists nots inner after to → ⊥) → (t : TestTree) (to : List Lexeme) → AsksAfter granted lists nots W.AllOf t after to → ⊥
  all_none none t to asks = let p = all_parts t to asks in none p.0 to p.1.1

  pub all_found : (inner : Tests) (to : List Lexeme) → TakesTests granted lists nots inner after to × ((other : Tests) (end : List Lexeme) → TakesTests granted lists nots other after end → (other ≡ inner) × (end ≡ to)) → AsksAfter granted lists nots W.AllOf (all_of inner) after to × ((other : TestTree) (end : List Lexeme) → AsksAfter granted lists nots W.AllOf other after end → (other ≡ all_of inner) × (end ≡ to))
  all_found inner to found =
      let low : lists_depth inner + 1 ≤ lists = found.0.1.1.0 in (
        ((refl, found.0.0), (found.0.1.0, (omega (arith, low), found.0.1.1.1))),
        λ other end asks.
            let p = all_parts other end asks in
            let same = found.1 p.0 end p.1.1 in
            (p.1.0 ∙ ap all_of same.0, same.1),
      )

  -- the tests of an `anyof`
  any_parts : (t : TestTree) (to : List Lexeme) → AsksAfter granted lists nots W.AnyOf t after to → (inner : Tests) × ((t ≡ any_of inner) × TakesTests granted lists nots inner after to)
  any_parts yes to asks = absurd asks.0.1.1.is
  any_parts no to asks = absurd asks.0.1.1.is
  any_parts (looks check) to asks = absurd asks.0.1.1.is
  any_parts (not_of inner) to asks = let e : W.AnyOf ≡ W.Not = asks.0.0 in cc
  any_parts (all_of inner) to asks = let e : W.AnyOf ≡ W.AllOf = asks.0.0 in cc
  any_parts (any_of inner) to asks = let low : suc (lists_depth inner) ≤ lists = asks.1.1.0 in (inner, (refl, (asks.0.1, (asks.1.0, (omega (arith, low), asks.1.1.1)))))

  pub any_none : ((inner : Tests) (to : List Lexeme) → TakesTests granted lists nots inner after to → ⊥) → (t : TestTree) (to : List Lexeme) → AsksAfter granted lists nots W.AnyOf t after to → ⊥
  any_none none t to asks = let p = any_parts t to asks in none p.0 to p.1.1

  pub any_found : (inner : Tests) (to : List Lexeme) → TakesTests granted lists nots inner after to × ((other : Tests) (end : List Lexeme) → TakesTests granted lists nots other after end → (other ≡ inner) × (end ≡ to)) → AsksAfter granted lists nots W.AnyOf (any_of inner) after to × ((other : TestTree) (end : List Lexeme) → AsksAfter granted lists nots W.AnyOf other after end → (other ≡ any_of inner) × (end ≡ to))
  any_found inner to found =
      let low : lists_depth inner + 1 ≤ lists = found.0.1.1.0 in (
        ((refl, found.0.0), (found.0.1.0, (omega (arith, low), found.0.1.1.1))),
        λ other end asks.
            let p = any_parts other end asks in
            let same = found.1 p.0 end p.1.1 in
            (p.1.0 ∙ ap any_of same.0, same.1),
      )

-- a test after its name, and at the front
module _ (granted : Capabilities) (lists nots : ℕ) (from after : List Lexeme) (name : Keyword) (opens : from ≡ keyword name ∷ after) where
  asks_after : (t : TestTree) (to : List Lexeme) → TakesTest granted lists nots t from to → AsksAfter granted lists nots name t after to
  asks_after t to takes =
      let same : keyword takes.0.0 ∷ takes.0.1.0 ≡ keyword name ∷ after = sym takes.0.1.1.0 ∙ opens in
      let named : takes.0.0 ≡ name = cc in
      let there : takes.0.1.0 ≡ after = cc in
      (subst (λ b. IsTest t name b to) there (subst (λ w. IsTest t w takes.0.1.0 to) named takes.0.1.1.1), takes.1)

  pub test_none : ((t : TestTree) (to : List Lexeme) → AsksAfter granted lists nots name t after to → ⊥) → (t : TestTree) (to : List Lexeme) → TakesTest granted lists nots t from to → ⊥
  test_none none t to takes = none t to (asks_after t to takes)

  pub test_found : (t : TestTree) (to : List Lexeme) → AsksAfter granted lists nots name t after to × ((other : TestTree) (end : List Lexeme) → AsksAfter granted lists nots name other after end → (other ≡ t) × (end ≡ to)) → TakesTest granted lists nots t from to × ((other : TestTree) (end : List Lexeme) → TakesTest granted lists nots other from end → (other ≡ t) × (end ≡ to))
  test_found t to found = (((name, (after, (opens, found.0.0))), found.0.1), λ other end takes. found.1 other end (asks_after other end takes))

-- an `allof` or an `anyof` at the front
module _ (granted : Capabilities) (lists nots : ℕ) (from after : List Lexeme) where
  pub allof_none : from ≡ keyword W.AllOf ∷ after → ((inner : Tests) (to : List Lexeme) → TakesTests granted lists nots inner after to → ⊥) → (t : TestTree) (to : List Lexeme) → TakesTest granted lists nots t from to → ⊥
  allof_none opens none = test_none granted lists nots from after W.AllOf opens (all_none granted lists nots after none)

  pub allof_found : from ≡ keyword W.AllOf ∷ after → (inner : Tests) (to : List Lexeme) → TakesTests granted lists nots inner after to × ((other : Tests) (end : List Lexeme) → TakesTests granted lists nots other after end → (other ≡ inner) × (end ≡ to)) → TakesTest granted lists nots (all_of inner) from to × ((other : TestTree) (end : List Lexeme) → TakesTest granted lists nots other from end → (other ≡ all_of inner) × (end ≡ to))
  allof_found opens inner to found = test_found granted lists nots from after W.AllOf opens (all_of inner) to (all_found granted lists nots after inner to found)

  pub anyof_none : from ≡ keyword W.AnyOf ∷ after → ((inner : Tests) (to : List Lexeme) → TakesTests granted lists nots inner after to → ⊥) → (t : TestTree) (to : List Lexeme) → TakesTest granted lists nots t from to → ⊥
  anyof_none opens none = test_none granted lists nots from after W.AnyOf opens (any_none granted lists nots after none)

  pub anyof_found : from ≡ keyword W.AnyOf ∷ after → (inner : Tests) (to : List Lexeme) → TakesTests granted lists nots inner after to × ((other : Tests) (end : List Lexeme) → TakesTests granted lists nots other after end → (other ≡ inner) × (end ≡ to)) → TakesTest granted lists nots (any_of inner) from to × ((other : TestTree) (end : List Lexeme) → TakesTest granted lists nots other from end → (other ≡ any_of inner) × (end ≡ to))
  anyof_found opens inner to found = test_found granted lists nots from after W.AnyOf opens (any_of inner) to (any_found granted lists nots after inner to found)

-- tests as a list
abbrev pub list_of_tests : Tests → List TestTree
list_of_tests no_tests = []
list_of_tests (test first more) = first ∷ list_of_tests more

tests_of-list_of : (ts : Tests) → tests_of (list_of_tests ts) ≡ ts
tests_of-list_of no_tests = refl
tests_of-list_of (test first more) = ap (test first) (tests_of-list_of more)

module _ (granted : Capabilities) (lists nots : ℕ) where
  -- the tests of a list after the first one, one after another
  more_chain : (ts : Tests) (from to : List Lexeme) → AreMoreTests ts from to → MayAllTest granted ts → lists_depth ts ≤ lists → nots_depth ts ≤ nots → Chain (TakesNextTest granted lists nots) (list_of_tests ts) from (mark K.CloseParen ∷ to)
  more_chain no_tests from to are may low lower = are
  more_chain (test first more) from to are may low lower =
      let low_first : list_depth first ≤ lists = omega (arith, low) in
      let low_more : lists_depth more ≤ lists = omega (arith, low) in
      let lower_first : not_depth first ≤ nots = omega (arith, lower) in
      let lower_more : nots_depth more ≤ nots = omega (arith, lower) in
      (are.1.1.0, ((are.0, (are.1.0, (are.1.1.1.0, (may.0, (low_first, lower_first))))), more_chain more are.1.1.0 to are.1.1.1.1 may.1 low_more lower_more))

  -- and the other way round
  chain_more_tests : (trees : List TestTree) (from to : List Lexeme) → Chain (TakesNextTest granted lists nots) trees from (mark K.CloseParen ∷ to) → AreMoreTests (tests_of trees) from to × (MayAllTest granted (tests_of trees) × ((lists_depth (tests_of trees) ≤ lists) × (nots_depth (tests_of trees) ≤ nots)))
  chain_more_tests [] from to same = (same, (tt, (omega arith, omega arith)))
  chain_more_tests (first ∷ more) from to chain =
      let rest = chain_more_tests more chain.0 to chain.1.1 in
      let one = chain.1.0 in
      let low : list_depth first ≤ lists = one.1.1.1.1.0 in
      let lower : not_depth first ≤ nots = one.1.1.1.1.1 in
      let low_more : lists_depth (tests_of more) ≤ lists = rest.1.1.0 in
      let lower_more : nots_depth (tests_of more) ≤ nots = rest.1.1.1 in
      ((one.0, (one.1.0, (chain.0, (one.1.1.0, rest.0)))), ((one.1.1.1.0, rest.1.0), (omega (arith, low, low_more), omega (arith, lower, lower_more))))

-- a test list at the front
module _ (granted : Capabilities) (lists nots : ℕ) (from inside : List Lexeme) (opens : from ≡ mark K.OpenParen ∷ inside) where
  module _ (fewer : ℕ) (more : lists ≡ fewer + 1) where
    tests_parts : (ts : Tests) (to : List Lexeme) → TakesTests granted lists nots ts from to → (first : TestTree) × ((others : Tests) × ((ts ≡ test first others) × ((middle : List Lexeme) × (TakesTest granted fewer nots first inside middle × Chain (TakesNextTest granted fewer nots) (list_of_tests others) middle (mark K.CloseParen ∷ to)))))
    tests_parts no_tests to takes = absurd takes.0.1.1
    tests_parts (test first others) to takes =
        let same : mark K.OpenParen ∷ takes.0.0 ≡ mark K.OpenParen ∷ inside = sym takes.0.1.0 ∙ opens in
        let there : takes.0.0 ≡ inside = cc in
        let are : AreTests (test first others) inside to = subst (λ l. AreTests (test first others) l to) there takes.0.1.1 in
        let low : max (list_depth first) (lists_depth others) + 1 ≤ lists = takes.1.1.0 in
        let lower : max (not_depth first) (nots_depth others) ≤ nots = takes.1.1.1 in
        let low_first : list_depth first ≤ fewer = omega (arith, low, more) in
        let low_others : lists_depth others ≤ fewer = omega (arith, low, more) in
        let lower_first : not_depth first ≤ nots = omega (arith, lower) in
        let lower_others : nots_depth others ≤ nots = omega (arith, lower) in
        (first, (others, (refl, (are.0, ((are.1.0, (takes.1.0.0, (low_first, lower_first))), more_chain granted fewer nots others are.0 to are.1.1 takes.1.0.1 low_others lower_others)))))

    -- no first test
    pub tests_no_first : ((t : TestTree) (to : List Lexeme) → TakesTest granted fewer nots t inside to → ⊥) → (ts : Tests) (to : List Lexeme) → TakesTests granted lists nots ts from to → ⊥
    tests_no_first none ts to takes = let p = tests_parts ts to takes in none p.0 p.1.1.1.0 p.1.1.1.1.0

    module _ (first : TestTree) (next : List Lexeme) (found : TakesTest granted fewer nots first inside next × ((other : TestTree) (to : List Lexeme) → TakesTest granted fewer nots other inside to → (other ≡ first) × (to ≡ next))) where
      others_at : (ts : Tests) (to : List Lexeme) → TakesTests granted lists nots ts from to → (others : Tests) × ((ts ≡ test first others) × Chain (TakesNextTest granted fewer nots) (list_of_tests others) next (mark K.CloseParen ∷ to))
      others_at ts to takes =
          let p = tests_parts ts to takes in
          let same = found.1 p.0 p.1.1.1.0 p.1.1.1.1.0 in
          (p.1.0, (p.1.1.0 ∙ ap (λ t. test t p.1.0) same.0, subst (λ l. Chain (TakesNextTest granted fewer nots) (list_of_tests p.1.0) l (mark K.CloseParen ∷ to)) same.1 p.1.1.1.1.1))

      -- no good tests after it
      pub tests_no_more : ((trees : List TestTree) (to : List Lexeme) → Chain (TakesNextTest granted fewer nots) trees next (mark K.CloseParen ∷ to) → ⊥) → (ts : Tests) (to : List Lexeme) → TakesTests granted lists nots ts from to → ⊥
      tests_no_more none ts to takes = let p = others_at ts to takes in none (list_of_tests p.0) to p.1.1

      -- the one list
      pub tests_found : (all : List TestTree) (to : List Lexeme) → (trees : List TestTree) × ((all ≡ (first ∷ []) ++ trees) × Chain (TakesNextTest granted fewer nots) trees next (mark K.CloseParen ∷ to)) → ((trees : List TestTree) (end : List Lexeme) → Chain (TakesNextTest granted fewer nots) trees next (mark K.CloseParen ∷ end) → (all ≡ (first ∷ []) ++ trees) × (end ≡ to)) → TakesTests granted lists nots (tests_of all) from to × ((other : Tests) (end : List Lexeme) → TakesTests granted lists nots other from end → (other ≡ tests_of all) × (end ≡ to))
      tests_found all to is only =
          let rest = chain_more_tests granted fewer nots is.0 next to is.1.1 in
          let one = found.0 in
          let low : list_depth first ≤ fewer = one.1.1.0 in
          let lower : not_depth first ≤ nots = one.1.1.1 in
          let low_more : lists_depth (tests_of is.0) ≤ fewer = rest.1.1.0 in
          let lower_more : nots_depth (tests_of is.0) ≤ nots = rest.1.1.1 in
          let takes : TakesTests granted lists nots (test first (tests_of is.0)) from to = ((inside, (opens, (next, (one.0, rest.0)))), ((one.1.0, rest.1.0), (omega (arith, low, low_more, more), omega (arith, lower, lower_more)))) in (
            subst (λ ts. TakesTests granted lists nots ts from to) (ap tests_of (sym is.1.0)) takes,
            λ other end also.
                let p = others_at other end also in
                let same = only (list_of_tests p.0) end p.1.1 in
                (p.1.0 ∙ ap (test first) (sym (tests_of-list_of p.0)) ∙ ap tests_of (sym same.0), same.1),
          )

      -- what the tests after the first one come to
      pub tests_after : (one : List Test) (to : List Lexeme) (r : Result (Vec Test Global) ParseError) → map test_view one ≡ first ∷ []
          → ParsesMore (λ all. map test_view all.items) (TakesMoreTests granted fewer nots) (map test_view one) next to r → Parses (λ v. tests_view v.items) (TakesTests granted lists nots) from to r
      tests_after one to (Ok all) is more =
          tests_found (map test_view all.items) to (more.0.0, (more.0.1.0 ∙ ap (λ xs. xs ++ more.0.0) is, more.0.1.1)) (λ trees end chain. let same = more.1 trees end chain in (same.0 ∙ ap (λ xs. xs ++ trees) is, same.1))
      tests_after one to (Err e) is none = fault_on e _ _ tests_no_more none

module _ (granted : Capabilities) (lists nots : ℕ) (whole : List Lexeme) (so_far : List TestTree) (rest : List Lexeme) (so : IsSoFar (TakesNextTest granted lists nots) (IsMarked K.CloseParen) whole so_far rest) where
  -- neither a comma nor the close parenthesis
  pub next_stops : ((to : List Lexeme) → rest ≡ mark K.Comma ∷ to → ⊥) → ((to : List Lexeme) → rest ≡ mark K.CloseParen ∷ to → ⊥) → (more : List TestTree) (to : List Lexeme) → Chain (TakesNextTest granted lists nots) more whole (mark K.CloseParen ∷ to) → ⊥
  next_stops no_comma no_close more to chain =
      chain_fails (TakesNextTest granted lists nots) (IsMarked K.CloseParen) whole so_far rest so (λ m. no_close m.0 m.1) (λ y end at. no_comma at.0 at.1.0) more (mark K.CloseParen ∷ to) chain (to, refl)

  -- the close parenthesis
  pub next_ends : (next : List Lexeme) → rest ≡ mark K.CloseParen ∷ next → (more : List TestTree) (to : List Lexeme) → Chain (TakesNextTest granted lists nots) more whole (mark K.CloseParen ∷ to) → (more ≡ so_far) × (to ≡ next)
  next_ends next close more to chain =
      let found = chain_ends (TakesNextTest granted lists nots) (IsMarked K.CloseParen) whole so_far rest so (λ y end at. let e : mark K.CloseParen ∷ next ≡ mark K.Comma ∷ at.0 = sym close ∙ at.1.0 in cc) more (mark K.CloseParen ∷ to) chain (to, refl) in
      let same : mark K.CloseParen ∷ to ≡ mark K.CloseParen ∷ next = found.1 ∙ close in
      (found.0, cc)

  module _ (next : List Lexeme) (comma : rest ≡ mark K.Comma ∷ next) where
    after_comma : (t : TestTree) (to : List Lexeme) → TakesNextTest granted lists nots t rest to → TakesTest granted lists nots t next to
    after_comma t to at =
        let same : mark K.Comma ∷ at.0 ≡ mark K.Comma ∷ next = sym at.1.0 ∙ comma in
        let there : at.0 ≡ next = cc in
        subst (λ l. TakesTest granted lists nots t l to) there at.1.1

    -- a comma and no test
    pub next_lacks : ((t : TestTree) (to : List Lexeme) → TakesTest granted lists nots t next to → ⊥) → (more : List TestTree) (to : List Lexeme) → Chain (TakesNextTest granted lists nots) more whole (mark K.CloseParen ∷ to) → ⊥
    next_lacks none more to chain =
        chain_fails (TakesNextTest granted lists nots) (IsMarked K.CloseParen) whole so_far rest so (λ m. let e : mark K.Comma ∷ next ≡ mark K.CloseParen ∷ m.0 = sym comma ∙ m.1 in cc) (λ y end at. none y end (after_comma y end at)) more (mark K.CloseParen ∷ to) chain (to, refl)

    -- a comma and a test
    pub next_grows : (t : TestTree) (after : List Lexeme) → TakesTest granted lists nots t next after × ((other : TestTree) (to : List Lexeme) → TakesTest granted lists nots other next to → (other ≡ t) × (to ≡ after)) → IsSoFar (TakesNextTest granted lists nots) (IsMarked K.CloseParen) whole (so_far ++ t ∷ []) after
    next_grows t after found =
        chain_more (TakesNextTest granted lists nots) (IsMarked K.CloseParen) whole so_far rest t after so (next, (comma, found.0)) (λ y to at. found.1 y to (after_comma y to at)) (λ m. let e : mark K.Comma ∷ next ≡ mark K.CloseParen ∷ m.0 = sym comma ∙ m.1 in cc)

-- arguments are not negative in length
pub arguments_longer : (args : List Argument) (from to : List Lexeme) → Chain IsArgument args from to → length to ≤ length from
arguments_longer [] from to same = omega (arith, ap length same)
arguments_longer (a ∷ as') from to chain = omega (arith, argument_longer a from chain.0 chain.1.0, arguments_longer as' chain.0 to chain.1.1)

plain_longer : (t : TestTree) (name : Keyword) (after to : List Lexeme) → IsLeafTest t name after to → length to ≤ length after
plain_longer t name after to is = omega (arith, arguments_longer is.0 after to is.1.0.spelled)

mutual
  test_longer : (t : TestTree) (name : Keyword) (after to : List Lexeme) → IsTest t name after to → length to ≤ length after
  test_longer yes name after to is = plain_longer yes name after to is
  test_longer no name after to is = plain_longer no name after to is
  test_longer (looks check) name after to is = plain_longer (looks check) name after to is
  test_longer (not_of inner) name after to is = let h = is.1 in omega (arith, ap length h.1.1.0, test_longer inner h.0 h.1.0 to h.1.1.1)
  test_longer (all_of inner) name after to is = let m = is.1 in omega (arith, ap length m.1.0, tests_longer inner m.0 to m.1.1)
  test_longer (any_of inner) name after to is = let m = is.1 in omega (arith, ap length m.1.0, tests_longer inner m.0 to m.1.1)

  tests_longer : (ts : Tests) (from to : List Lexeme) → AreTests ts from to → length to ≤ length from
  tests_longer no_tests from to are = absurd are
  tests_longer (test first more) from to are = let h = are.1.0 in omega (arith, ap length h.1.1.0, test_longer first h.0 h.1.0 are.0 h.1.1.1, more_longer more are.0 to are.1.1)

  more_longer : (ts : Tests) (from to : List Lexeme) → AreMoreTests ts from to → length to ≤ length from
  more_longer no_tests from to are = omega (arith, ap length are)
  more_longer (test first more) from to are =
      let h = are.1.1.1.0 in
      omega (arith, ap length are.1.0, ap length h.1.1.0, test_longer first h.0 h.1.0 are.1.1.0 h.1.1.1, more_longer more are.1.1.0 to are.1.1.1.1)

-- a test is not empty
pub reads_test_longer : (t : TestTree) (from to : List Lexeme) → ReadsTest t from to → length to < length from
reads_test_longer t from to reads = omega (arith, ap length reads.1.1.0, test_longer t reads.0 reads.1.0 to reads.1.1.1)
