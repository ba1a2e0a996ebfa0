-- Lemmas on blocks and branches.
use Rattle.std.proofs.Common.{◌≡◌, inl, inr, ◌++◌, ℕ, ◌≤◌, ◌<◌, ◌+◌, List, [], ◌∷◌, length, refl, sym, ap, ◌∙◌, subst, arith, max, suc}
use Rattle.sieve_lex.specs.declared.token.Mark.TheVariants as K
use Rattle.sieve_syntax.specs.declared.table.keyword.Keyword.{Keyword}
use Rattle.sieve_syntax.specs.declared.table.keyword.Keyword.TheVariants as W
use Rattle.sieve_syntax.specs.Capabilities.{Capabilities}
use Rattle.sieve_syntax.specs.Lexemes.{Lexeme, keyword, tag, number, text, mark, misfit}
use Rattle.sieve_syntax.specs.Chains.{Chain}
use Rattle.sieve_syntax.specs.Tree.{TestTree, yes, CommandTree, require, choose, stop, act, Branches, no_branches, branch, Commands, no_commands, command, depth, depth_of, branches_depth}
use Rattle.sieve_syntax.specs.View.{commands_of, branches_of}
use Rattle.sieve_syntax.specs.Valid.{max_lists, max_nots, MayBeCondition, MayAllStand, MayBranch}
use Rattle.sieve_syntax.specs.Steps.{TakesTest, TakesBranch, TakesElsif, TakesElsifs, TakesElse, IsPastElsif, TakesCommand, TakesAfter, TakesBlock, TakesAll, IsStop}
use Rattle.sieve_syntax.specs.Grammar.{IsStatement, IsCommand, IsChoice, AreBranches, AreCommands, IsPastBranches, ReadsCommand}
use Rattle.sieve_syntax.proofs.Chains.{IsSoFar, chain_more, chain_ends, chain_fails}
use Rattle.sieve_syntax.proofs.TestLemmas.{arguments_longer, reads_test_longer}

-- commands as a list
abbrev pub list_of : Commands → List CommandTree
list_of no_commands = []
list_of (command first more) = first ∷ list_of more

pub commands_of-list_of : (cs : Commands) → commands_of (list_of cs) ≡ cs
commands_of-list_of no_commands = refl
commands_of-list_of (command first more) = ap (command first) (commands_of-list_of more)

module _ (granted : Capabilities) (room : ℕ) where
  -- a row of commands that may stand there, as a block
  pub chain_is : (trees : List CommandTree) (from to : List Lexeme) → Chain (TakesCommand granted room) trees from to → AreCommands (commands_of trees) from to × (MayAllStand granted (commands_of trees) × (depth (commands_of trees) ≤ room))
  chain_is [] from to same = (same, (tt, omega arith))
  chain_is (first ∷ more) from to chain =
      let rest = chain_is more chain.0 to chain.1.1 in
      let low : depth_of first ≤ room = chain.1.0.1.1 in
      let lower : depth (commands_of more) ≤ room = rest.1.1 in
      ((chain.0, (chain.1.0.0, rest.0)), ((chain.1.0.1.0, rest.1.0), omega arith))

  -- and the other way round
  pub is_chain : (cs : Commands) (from to : List Lexeme) → AreCommands cs from to → MayAllStand granted cs → depth cs ≤ room → Chain (TakesCommand granted room) (list_of cs) from to
  is_chain no_commands from to same may low = same
  is_chain (command first more) from to are may low =
      let low_first : depth_of first ≤ room = omega arith in
      let low_more : depth more ≤ room = omega arith in
      (are.0, ((are.1.0, (may.0, low_first)), is_chain more are.0 to are.1.1 may.1 low_more))

  -- no command stands where commands end
  pub stop_none : (from : List Lexeme) → IsStop from → (tree : CommandTree) (to : List Lexeme) → TakesCommand granted room tree from to → ⊥
  stop_none from stops tree to takes = subst IsStop takes.0.1.1.0 stops

statement_longer : (tree : CommandTree) (name : Keyword) (after to : List Lexeme) → IsStatement tree name after to → length to < length after
statement_longer tree name after to is = omega (arith, arguments_longer is.0 after (mark K.Semicolon ∷ to) is.1.0.spelled)

mutual
  command_longer : (tree : CommandTree) (name : Keyword) (after to : List Lexeme) → IsCommand tree name after to → length to < length after
  command_longer (require names) name after to is = statement_longer (require names) name after to is
  command_longer (choose branches) name after to is = choice_longer branches name after to is
  command_longer stop name after to is = statement_longer stop name after to is
  command_longer (act action) name after to is = statement_longer (act action) name after to is

  choice_longer : (branches : Branches) (name : Keyword) (after to : List Lexeme) → IsChoice branches name after to → length to < length after
  choice_longer no_branches name after to is = absurd is
  choice_longer (branch condition block more) name after to is =
      let next = is.1.0 in
      let tested = is.1.1.0 in
      let braced = tested.1.1 in
      omega (arith, reads_test_longer condition after tested.0 tested.1.0, ap length braced.1.0, all_longer block braced.0 (mark K.CloseBrace ∷ next) braced.1.1, branches_longer more next to is.1.1.1)

  branches_longer : (branches : Branches) (from to : List Lexeme) → AreBranches branches from to → length to ≤ length from
  branches_longer no_branches from to are = omega (arith, ap length are.0)
  branches_longer (branch condition block more) from to are =
      elim are [
        | inl one ↦
            let after = one.0 in
            let next = one.1.1.0 in
            let tested = one.1.1.1.0 in
            let braced = tested.1.1 in
            omega (arith, ap length one.1.0, reads_test_longer condition after tested.0 tested.1.0, ap length braced.1.0, all_longer block braced.0 (mark K.CloseBrace ∷ next) braced.1.1, branches_longer more next to one.1.1.1.1)
        | inr last ↦
            let braced = last.1.1.0 in
            omega (arith, ap length last.1.0, ap length braced.1.0, all_longer block braced.0 (mark K.CloseBrace ∷ to) braced.1.1)
      ]

  all_longer : (cs : Commands) (from to : List Lexeme) → AreCommands cs from to → length to ≤ length from
  all_longer no_commands from to same = omega (arith, ap length same)
  all_longer (command first more) from to are =
      let headed = are.1.0 in
      omega (arith, ap length headed.1.1.0, command_longer first headed.0 headed.1.0 are.0 headed.1.1.1, all_longer more are.0 to are.1.1)

-- a command is not empty
pub reads_longer : (tree : CommandTree) (from to : List Lexeme) → ReadsCommand tree from to → length to < length from
reads_longer tree from to reads = omega (arith, ap length reads.1.1.0, command_longer tree reads.0 reads.1.0 to reads.1.1.1)

module _ (granted : Capabilities) (room inner_room : ℕ) (more_room : room ≡ inner_room + 1) (from inside : List Lexeme) (opens : from ≡ mark K.OpenBrace ∷ inside) where
  -- a block has commands inside it
  block_chain : (block : Commands) (to : List Lexeme) → TakesBlock granted room block from to → TakesAll granted inner_room (list_of block) inside (mark K.CloseBrace ∷ to)
  block_chain block to takes =
      let same : mark K.OpenBrace ∷ takes.0.0 ≡ mark K.OpenBrace ∷ inside = sym takes.0.1.0 ∙ opens in
      let there : takes.0.0 ≡ inside = cc in
      let low : depth block ≤ inner_room = omega (arith, takes.1.1) in
      (is_chain granted inner_room block inside (mark K.CloseBrace ∷ to) (subst (λ l. AreCommands block l (mark K.CloseBrace ∷ to)) there takes.0.1.1) takes.1.0 low, tt)

  -- nothing that may stand inside
  pub block_no_inside : ((trees : List CommandTree) (to : List Lexeme) → TakesAll granted inner_room trees inside to → ⊥) → (block : Commands) (to : List Lexeme) → TakesBlock granted room block from to → ⊥
  block_no_inside none block to takes = none (list_of block) (mark K.CloseBrace ∷ to) (block_chain block to takes)

  module _ (trees : List CommandTree) (next : List Lexeme) (only : (others : List CommandTree) (to : List Lexeme) → TakesAll granted inner_room others inside to → (trees ≡ others) × (to ≡ next)) where
    -- no close
    pub block_no_close : ((to : List Lexeme) → next ≡ mark K.CloseBrace ∷ to → ⊥) → (block : Commands) (to : List Lexeme) → TakesBlock granted room block from to → ⊥
    block_no_close none block to takes = none to (sym (only (list_of block) (mark K.CloseBrace ∷ to) (block_chain block to takes)).1)

    -- the one block
    pub block_found : TakesAll granted inner_room trees inside next → (to : List Lexeme) → next ≡ mark K.CloseBrace ∷ to → TakesBlock granted room (commands_of trees) from to × ((other : Commands) (end : List Lexeme) → TakesBlock granted room other from end → (other ≡ commands_of trees) × (end ≡ to))
    block_found all to closes =
        let are = chain_is granted inner_room trees inside next all.0 in
        let low : depth (commands_of trees) ≤ inner_room = are.1.1 in (
          ((inside, (opens, subst (AreCommands (commands_of trees) inside) closes are.0)), (are.1.0, omega arith)),
          λ other end takes.
              let same = only (list_of other) (mark K.CloseBrace ∷ end) (block_chain other end takes) in
              let ends : mark K.CloseBrace ∷ end ≡ mark K.CloseBrace ∷ to = same.1 ∙ closes in
              (sym (commands_of-list_of other) ∙ ap commands_of (sym same.0), cc),
        )

-- branches as a list
abbrev pub list_of_branches : Branches → List (TestTree × Commands)
list_of_branches no_branches = []
list_of_branches (branch condition block more) = (condition, block) ∷ list_of_branches more

branches_of-list_of : (bs : Branches) → branches_of (list_of_branches bs) ≡ bs
branches_of-list_of no_branches = refl
branches_of-list_of (branch condition block more) = ap (branch condition block) (branches_of-list_of more)

-- branches after the first: each `elsif`, and an `else` or none
pub record AreParted (granted : Capabilities) (room : ℕ) (all : List (TestTree × Commands)) (from to : List Lexeme) : Type 0 where
  pub each : List (TestTree × Commands)
  pub last : List (TestTree × Commands)
  pub middle : List Lexeme
  pub parts : all ≡ each ++ last
  pub elsifs : TakesElsifs granted room each from middle
  pub ends : TakesElse granted room last middle to

past_elsif : (from : List Lexeme) → IsPastBranches from → IsPastElsif from
past_elsif [] past = tt
past_elsif (keyword W.Elsif ∷ _) past = past
past_elsif (keyword _ ∷ _) past = tt
past_elsif (tag _ ∷ _) past = tt
past_elsif (number _ ∷ _) past = tt
past_elsif (text _ ∷ _) past = tt
past_elsif (misfit ∷ _) past = tt
past_elsif (mark _ ∷ _) past = tt

module _ (granted : Capabilities) (room : ℕ) where
  pub branches_parted : (bs : Branches) (from to : List Lexeme) → AreBranches bs from to → MayBranch granted bs → branches_depth bs + 1 ≤ room → AreParted granted room (list_of_branches bs) from to
  branches_parted no_branches from to are may low =
      let past : IsPastBranches from = subst IsPastBranches (sym are.0) are.1 in
      record { each = []; last = []; middle = from; parts = refl; elsifs = (refl, past_elsif from past); ends = (are.0, past) }
  branches_parted (branch condition block more) from to are may low =
      let low_block : depth block + 1 ≤ room = omega (arith, low) in
      let low_more : branches_depth more + 1 ≤ room = omega (arith, low) in
      elim are [
        | inl one ↦
            let after = one.0 in
            let next = one.1.1.0 in
            let tested = one.1.1.1.0 in
            let rest = branches_parted more next to one.1.1.1.1 may.1.1 low_more in record {
              each = (condition, block) ∷ rest.each;
              last = rest.last;
              middle = rest.middle;
              parts = ap (λ l. (condition, block) ∷ l) rest.parts;
              elsifs = ((next, ((after, (one.1.0, (tested.0, ((tested.1.0, may.0), (tested.1.1, (may.1.0, low_block)))))), rest.elsifs.0)), rest.elsifs.1);
              ends = rest.ends;
            }
        | inr last ↦
            record {
              each = [];
              last = (condition, block) ∷ [];
              middle = from;
              parts = ap (λ bs. (condition, block) ∷ list_of_branches bs) last.1.1.1.1;
              elsifs = (refl, subst IsPastElsif (sym last.1.0) tt);
              ends = (last.0, (last.1.0, (last.1.1.1.0, (last.1.1.0, (may.1.0, low_block)))));
            }
      ]

  last_joined : (last : List (TestTree × Commands)) (from to : List Lexeme) → 1 ≤ room → TakesElse granted room last from to → AreBranches (branches_of last) from to × (MayBranch granted (branches_of last) × (branches_depth (branches_of last) + 1 ≤ room))
  last_joined [] from to some ends = ((ends.0, subst IsPastBranches ends.0 ends.1), (tt, omega (arith, some)))
  last_joined (one ∷ []) from to some ends =
      let block = ends.1.1.1 in
      let low : depth one.1 + 1 ≤ room = block.1.1 in
      (inr (ends.0, (ends.1.0, (block.0, (ends.1.1.0, refl)))), ((subst (MayBeCondition granted max_lists max_nots) (sym ends.1.1.0) (tt, (omega arith, omega arith)), (block.1.0, tt)), omega (arith, low, some)))
  last_joined (one ∷ (two ∷ more)) from to some none = absurd none

  branches_joined : (each last : List (TestTree × Commands)) (from middle to : List Lexeme) → 1 ≤ room → Chain (TakesElsif granted room) each from middle → TakesElse granted room last middle to → AreBranches (branches_of (each ++ last)) from to × (MayBranch granted (branches_of (each ++ last)) × (branches_depth (branches_of (each ++ last)) + 1 ≤ room))
  branches_joined [] last from middle to some same ends = last_joined last from to some (subst (λ l. TakesElse granted room last l to) (sym same) ends)
  branches_joined (one ∷ more) last from middle to some chain ends =
      let rest = branches_joined more last chain.0 middle to some chain.1.1 ends in
      let at = chain.1.0 in
      let block = at.1.1.1.1 in
      let low : depth one.1 + 1 ≤ room = block.1.1 in
      let lower : branches_depth (branches_of (more ++ last)) + 1 ≤ room = rest.1.1 in
      (inl (at.0, (at.1.0, (chain.0, ((at.1.1.0, (at.1.1.1.0.0, block.0)), rest.0)))), ((at.1.1.1.0.1, (block.1.0, rest.1.0)), omega (arith, low, lower)))

-- the parts of an `if`
pub record IsIf (granted : Capabilities) (room : ℕ) (tree : CommandTree) (after to : List Lexeme) : Type 0 where
  pub one : TestTree × Commands
  pub more : Branches
  pub tree_is : tree ≡ choose (branch one.0 one.1 more)
  pub next : List Lexeme
  pub first : TakesBranch granted room one after next
  pub others : AreParted granted room (list_of_branches more) next to

module _ (granted : Capabilities) (room : ℕ) (after : List Lexeme) where
  if_parts : (tree : CommandTree) (to : List Lexeme) → TakesAfter granted room W.If tree after to → IsIf granted room tree after to
  if_parts (require names) to takes = absurd takes.0.1.1
  if_parts (choose no_branches) to takes = absurd takes.0
  if_parts (choose (branch condition block more)) to takes =
      let next = takes.0.1.0 in
      let tested = takes.0.1.1.0 in
      let low : suc (max (depth block) (branches_depth more)) ≤ room = takes.1.1 in
      let low_block : depth block + 1 ≤ room = omega (arith, low) in
      let low_more : branches_depth more + 1 ≤ room = omega (arith, low) in record {
        one = (condition, block);
        more = more;
        tree_is = refl;
        next = next;
        first = (tested.0, ((tested.1.0, takes.1.0.0), (tested.1.1, (takes.1.0.1.0, low_block))));
        others = branches_parted granted room more next to takes.0.1.1.1 takes.1.0.1.1 low_more;
      }
  if_parts stop to takes = absurd takes.0.1.1
  if_parts (act action) to takes = absurd takes.0.1.1

  -- no test and block
  pub if_no_first : ((one : TestTree × Commands) (to : List Lexeme) → TakesBranch granted room one after to → ⊥) → (tree : CommandTree) (to : List Lexeme) → TakesAfter granted room W.If tree after to → ⊥
  if_no_first none tree to takes = let p = if_parts tree to takes in none p.one p.next p.first

  module _ (one : TestTree × Commands) (next : List Lexeme) (found : TakesBranch granted room one after next × ((other : TestTree × Commands) (to : List Lexeme) → TakesBranch granted room other after to → (other ≡ one) × (to ≡ next))) where
    others_at : (tree : CommandTree) (to : List Lexeme) (p : IsIf granted room tree after to) → TakesElsifs granted room p.others.each next p.others.middle
    others_at tree to p = subst (λ l. TakesElsifs granted room p.others.each l p.others.middle) (found.1 p.one p.next p.first).1 p.others.elsifs

    -- no good `elsif`
    pub if_no_elsifs : ((each : List (TestTree × Commands)) (to : List Lexeme) → TakesElsifs granted room each next to → ⊥) → (tree : CommandTree) (to : List Lexeme) → TakesAfter granted room W.If tree after to → ⊥
    if_no_elsifs none tree to takes = let p = if_parts tree to takes in none p.others.each p.others.middle (others_at tree to p)

    module _ (all : List (TestTree × Commands)) (mid : List Lexeme) (only : (each : List (TestTree × Commands)) (to : List Lexeme) → TakesElsifs granted room each next to → (all ≡ one ∷ each) × (to ≡ mid)) where
      last_at : (tree : CommandTree) (to : List Lexeme) (p : IsIf granted room tree after to) → TakesElse granted room p.others.last mid to
      last_at tree to p = subst (λ l. TakesElse granted room p.others.last l to) (only p.others.each p.others.middle (others_at tree to p)).1 p.others.ends

      -- no good `else`
      pub if_no_else : ((last : List (TestTree × Commands)) (to : List Lexeme) → TakesElse granted room last mid to → ⊥) → (tree : CommandTree) (to : List Lexeme) → TakesAfter granted room W.If tree after to → ⊥
      if_no_else none tree to takes = let p = if_parts tree to takes in none p.others.last to (last_at tree to p)

      module _ (whole : List (TestTree × Commands)) (to : List Lexeme) (alone : (last : List (TestTree × Commands)) (end : List Lexeme) → TakesElse granted room last mid end → (whole ≡ all ++ last) × (end ≡ to)) where
        -- the one `if`
        pub if_only : (tree : CommandTree) (end : List Lexeme) → TakesAfter granted room W.If tree after end → (tree ≡ choose (branches_of whole)) × (end ≡ to)
        if_only tree end takes =
            let p = if_parts tree end takes in
            let first = found.1 p.one p.next p.first in
            let each = only p.others.each p.others.middle (others_at tree end p) in
            let last = alone p.others.last end (last_at tree end p) in
            let others : list_of_branches p.more ≡ p.others.each ++ p.others.last = p.others.parts in
            let same : whole ≡ one ∷ list_of_branches p.more = last.0 ∙ ap (λ l. l ++ p.others.last) each.0 ∙ ap (λ l. one ∷ l) (sym others) in
            let again : choose (branches_of whole) ≡ choose (branch one.0 one.1 p.more) = ap (λ l. choose (branches_of l)) same ∙ ap (λ bs. choose (branch one.0 one.1 bs)) (branches_of-list_of p.more) in
            (p.tree_is ∙ ap (λ o. choose (branch o.0 o.1 p.more)) first.0 ∙ sym again, last.1)

        -- what was read is one
        pub if_takes : (each last : List (TestTree × Commands)) → all ≡ one ∷ each → TakesElsifs granted room each next mid → whole ≡ all ++ last → TakesElse granted room last mid to → TakesAfter granted room W.If (choose (branches_of whole)) after to
        if_takes each last all_is elsifs whole_is ends =
            let first = found.0 in
            let block = first.1.1 in
            let low : depth one.1 + 1 ≤ room = block.1.1 in
            let rest = branches_joined granted room each last next mid to (omega (arith, low)) elsifs.0 ends in
            let lower : branches_depth (branches_of (each ++ last)) + 1 ≤ room = rest.1.1 in
            let same : branch one.0 one.1 (branches_of (each ++ last)) ≡ branches_of whole = ap branches_of (sym (whole_is ∙ ap (λ l. l ++ last) all_is)) in
            let takes : TakesAfter granted room W.If (choose (branch one.0 one.1 (branches_of (each ++ last)))) after to = ((refl, (next, ((first.0, (first.1.0.0, block.0)), rest.0))), ((first.1.0.1, (block.1.0, rest.1.0)), omega (arith, low, lower))) in
            subst (λ bs. TakesAfter granted room W.If (choose bs) after to) same takes

module _ (granted : Capabilities) (room : ℕ) (after : List Lexeme) where
  -- no test
  pub branch_no_test : ((condition : TestTree) (to : List Lexeme) → TakesTest granted max_lists max_nots condition after to → ⊥) → (one : TestTree × Commands) (to : List Lexeme) → TakesBranch granted room one after to → ⊥
  branch_no_test none one to takes = none one.0 takes.0 takes.1.0

  module _ (condition : TestTree) (start : List Lexeme) (only : (other : TestTree) (to : List Lexeme) → TakesTest granted max_lists max_nots other after to → (other ≡ condition) × (to ≡ start)) where
    -- no block
    pub branch_no_block : ((block : Commands) (to : List Lexeme) → TakesBlock granted room block start to → ⊥) → (one : TestTree × Commands) (to : List Lexeme) → TakesBranch granted room one after to → ⊥
    branch_no_block none one to takes = none one.1 to (subst (λ l. TakesBlock granted room one.1 l to) (only one.0 takes.0 takes.1.0).1 takes.1.1)

    -- the one branch
    pub branch_found : TakesTest granted max_lists max_nots condition after start → (block : Commands) (to : List Lexeme) → TakesBlock granted room block start to × ((other : Commands) (end : List Lexeme) → TakesBlock granted room other start end → (other ≡ block) × (end ≡ to)) → TakesBranch granted room (condition, block) after to × ((other : TestTree × Commands) (end : List Lexeme) → TakesBranch granted room other after end → (other ≡ (condition, block)) × (end ≡ to))
    branch_found tested block to found = (
      (start, (tested, found.0)),
      λ other end takes.
          let one = only other.0 takes.0 takes.1.0 in
          let two = found.1 other.1 end (subst (λ l. TakesBlock granted room other.1 l end) one.1 takes.1.1) in
          (λ i. (one.0 i, two.0 i), two.1),
    )

-- an `elsif` read
module _ (granted : Capabilities) (room : ℕ) (whole : List Lexeme) (each : List (TestTree × Commands)) (rest : List Lexeme) (so : IsSoFar (TakesElsif granted room) IsPastElsif whole each rest) where
  past_no_elsif : IsPastElsif rest → (one : TestTree × Commands) (to : List Lexeme) → TakesElsif granted room one rest to → ⊥
  past_no_elsif past one to takes = subst IsPastElsif takes.1.0 past

  -- no `elsif` follows
  pub elsifs_end : IsPastElsif rest → (others : List (TestTree × Commands)) (to : List Lexeme) → TakesElsifs granted room others whole to → (others ≡ each) × (to ≡ rest)
  elsifs_end past others to takes = chain_ends (TakesElsif granted room) IsPastElsif whole each rest so (past_no_elsif past) others to takes.0 takes.1

  module _ (mid : List Lexeme) (opens : rest ≡ keyword W.Elsif ∷ mid) where
    after_elsif : (one : TestTree × Commands) (to : List Lexeme) → TakesElsif granted room one rest to → TakesBranch granted room one mid to
    after_elsif one to takes =
        let same : keyword W.Elsif ∷ takes.0 ≡ keyword W.Elsif ∷ mid = sym takes.1.0 ∙ opens in
        let there : takes.0 ≡ mid = cc in
        subst (λ l. TakesBranch granted room one l to) there takes.1.1

    -- a bad `elsif`
    pub elsifs_fail : ((one : TestTree × Commands) (to : List Lexeme) → TakesBranch granted room one mid to → ⊥) → (others : List (TestTree × Commands)) (to : List Lexeme) → TakesElsifs granted room others whole to → ⊥
    elsifs_fail none others to takes =
        chain_fails (TakesElsif granted room) IsPastElsif whole each rest so (λ past. subst IsPastElsif opens past) (λ one end at. none one end (after_elsif one end at)) others to takes.0 takes.1

    -- one `elsif` more
    pub elsifs_more : (one : TestTree × Commands) (next : List Lexeme) → TakesBranch granted room one mid next × ((other : TestTree × Commands) (to : List Lexeme) → TakesBranch granted room other mid to → (other ≡ one) × (to ≡ next)) → IsSoFar (TakesElsif granted room) IsPastElsif whole (each ++ one ∷ []) next
    elsifs_more one next found =
        chain_more (TakesElsif granted room) IsPastElsif whole each rest one next so (mid, (opens, found.0)) (λ other to at. found.1 other to (after_elsif other to at)) (λ past. subst IsPastElsif opens past)

    -- which is shorter than what was there
    pub elsif_shorter : (one : TestTree × Commands) (next : List Lexeme) → TakesBranch granted room one mid next → length next < length rest
    elsif_shorter one next takes =
        let braced = takes.1.1.0 in
        omega (arith, ap length opens, reads_test_longer one.0 mid takes.0 takes.1.0.0, ap length braced.1.0, all_longer one.1 braced.0 (mark K.CloseBrace ∷ next) braced.1.1)

-- an `else` read
module _ (granted : Capabilities) (room : ℕ) (from mid : List Lexeme) (opens : from ≡ keyword W.Else ∷ mid) where
  -- a bad block
  pub else_fails : ((block : Commands) (to : List Lexeme) → TakesBlock granted room block mid to → ⊥) → (last : List (TestTree × Commands)) (to : List Lexeme) → TakesElse granted room last from to → ⊥
  else_fails none [] to takes = subst IsPastBranches opens takes.1
  else_fails none (one ∷ []) to takes =
      let same : keyword W.Else ∷ takes.0 ≡ keyword W.Else ∷ mid = sym takes.1.0 ∙ opens in
      let there : takes.0 ≡ mid = cc in
      none one.1 to (subst (λ l. TakesBlock granted room one.1 l to) there takes.1.1.1)
  else_fails none (one ∷ (two ∷ more)) to takes = takes

  -- the one `else`
  pub else_only : (block : Commands) (to : List Lexeme) → ((other : Commands) (end : List Lexeme) → TakesBlock granted room other mid end → (other ≡ block) × (end ≡ to)) → (last : List (TestTree × Commands)) (end : List Lexeme) → TakesElse granted room last from end → (last ≡ (yes, block) ∷ []) × (end ≡ to)
  else_only block to only [] end takes = absurd (subst IsPastBranches opens takes.1)
  else_only block to only (one ∷ []) end takes =
      let same : keyword W.Else ∷ takes.0 ≡ keyword W.Else ∷ mid = sym takes.1.0 ∙ opens in
      let there : takes.0 ≡ mid = cc in
      let found = only one.1 end (subst (λ l. TakesBlock granted room one.1 l end) there takes.1.1.1) in
      let pair : one ≡ (yes, block) = λ i. (takes.1.1.0 i, found.0 i) in
      (ap (λ o. o ∷ []) pair, found.1)
  else_only block to only (one ∷ (two ∷ more)) end takes = absurd takes

-- no `else` read
pub else_none : (granted : Capabilities) (room : ℕ) (from : List Lexeme) → IsPastBranches from → (last : List (TestTree × Commands)) (to : List Lexeme) → TakesElse granted room last from to → (last ≡ []) × (to ≡ from)
else_none granted room from past [] to takes = (refl, sym takes.0)
else_none granted room from past (one ∷ []) to takes = absurd (subst IsPastBranches takes.1.0 past)
else_none granted room from past (one ∷ (two ∷ more)) to takes = absurd takes

module _ (granted : Capabilities) (room : ℕ) (whole : List Lexeme) (so_far : List CommandTree) (rest : List Lexeme) (so : IsSoFar (TakesCommand granted room) IsStop whole so_far rest) where
  -- neither a command nor the end of commands
  pub commands_stop : (IsStop rest → ⊥) → ((tree : CommandTree) (to : List Lexeme) → TakesCommand granted room tree rest to → ⊥) → (trees : List CommandTree) (to : List Lexeme) → TakesAll granted room trees whole to → ⊥
  commands_stop goes_on none trees to all = chain_fails (TakesCommand granted room) IsStop whole so_far rest so goes_on none trees to all.0 all.1

  -- the end of commands
  pub commands_end : IsStop rest → (trees : List CommandTree) (to : List Lexeme) → TakesAll granted room trees whole to → (trees ≡ so_far) × (to ≡ rest)
  commands_end stops trees to all = chain_ends (TakesCommand granted room) IsStop whole so_far rest so (stop_none granted room rest stops) trees to all.0 all.1
