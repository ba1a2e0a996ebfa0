-- Lemmas on the requires at the front, and on whole scripts.
use Rattle.std.proofs.Common.{◌≡◌, ℕ, ◌≤◌, ◌<◌, ◌+◌, List, [], ◌∷◌, ◌++◌, append_assoc, length, map, refl, sym, ap, ◌∙◌, subst, arith}
use Rattle.std.specs.List.{list_any, All}
use Rattle.std.proofs.Common.{length-append}
use Rattle.std.proofs.Math.ListN.{get_or-append}
use Rattle.std.proofs.lemmas.List.{append-nil, get_or-append-add}
use Rattle.std.proofs.lemmas.List.Folds.{list_any-append}
use Rattle.std.proofs.lemmas.List.Elements.{All-append}
use Rattle.sieve_syntax.proofs.Chains.{IsSoFar, chain_more, chain_ends, chain_fails}
use Rattle.sieve_syntax.proofs.BlockLemmas.{list_of, commands_of-list_of, chain_is, is_chain, reads_longer}
use Rattle.sieve_lex.specs.declared.token.Mark.TheVariants as K
use Rattle.sieve_syntax.specs.declared.table.keyword.Keyword.{Keyword}
use Rattle.sieve_syntax.specs.declared.table.keyword.Keyword.TheVariants as W
use Rattle.sieve_syntax.specs.declared.parser.argument.Argument.{Argument}
use Rattle.sieve_syntax.specs.declared.capability.Capability.{Capability}
use Rattle.sieve_syntax.specs.Capabilities.{Capabilities, all_capabilities, KnowsName, is_name_of, granted_by, granted_too}
use Rattle.sieve_syntax.specs.Lexemes.{Lexeme, keyword, mark}
use Rattle.sieve_syntax.specs.Arguments.{AreArguments}
use Rattle.sieve_syntax.specs.Chains.{Chain}
use Rattle.sieve_syntax.specs.Rows.{IsList}
use Rattle.sieve_syntax.specs.Table.{IsPlainCommand}
use Rattle.sieve_syntax.specs.Tree.{CommandTree, require, choose, stop, act, no_branches, branch, Commands, no_commands, command, depth}
use Rattle.sieve_syntax.specs.View.{commands_of}
use Rattle.sieve_syntax.specs.Valid.{max_blocks, MayStand, MayAllStand, required, after_requires, IsValid}
use Rattle.sieve_syntax.specs.Grammar.{IsStatement, IsCommand, AreCommands, ReadsCommand, ReadsScript}
use Rattle.sieve_syntax.specs.Steps.{TakesAll, TakesRequire, TakesRequires, IsPastRequires, all_names}

-- the arguments of a `require`
module _ (after : List Lexeme) (args : List Argument) (next : List Lexeme) (only : (other : List Argument) (to : List Lexeme) → AreArguments other after to → (other ≡ args) × (to ≡ next)) where
  -- no names
  pub names_none : ((names : List (List ℕ)) → IsList args names → ⊥) → (names : List (List ℕ)) (to : List Lexeme) → IsStatement (require names) W.Require after to → ⊥
  names_none none names to is = let same = only is.0 (mark K.Semicolon ∷ to) is.1.0 in none is.1.1.value (subst (λ a. IsList a is.1.1.value) same.0 is.1.1.is)

  -- the one list of names
  pub names_found : AreArguments args after next → (names : List (List ℕ)) → IsList args names → ((other : List (List ℕ)) → IsList args other → other ≡ names) → (to : List Lexeme) → next ≡ mark K.Semicolon ∷ to → IsStatement (require names) W.Require after to × ((other : List (List ℕ)) (end : List Lexeme) → IsStatement (require other) W.Require after end → (other ≡ names) × (end ≡ to))
  names_found are names is alone to semicolon = (
    (args, (subst (AreArguments args after) semicolon are, record { value = names; is = is; tree_is = refl })),
    λ other end statement.
        let same = only statement.0 (mark K.Semicolon ∷ end) statement.1.0 in
        let ends : mark K.Semicolon ∷ end ≡ mark K.Semicolon ∷ to = same.1 ∙ semicolon in
        let it = alone statement.1.1.value (subst (λ a. IsList a statement.1.1.value) same.0 statement.1.1.is) in
        let tree : require other ≡ require statement.1.1.value = statement.1.1.tree_is in
        let named : other ≡ statement.1.1.value = cc in
        (named ∙ it, cc),
  )

-- a `require` begins with its word
pub require_keyword : (name : Keyword) (args : List Argument) (names : List (List ℕ)) → IsPlainCommand name args (require names) → name ≡ W.Require
require_keyword W.Require args names is = refl
require_keyword W.Stop args names is = let e = is.tree_is in cc
require_keyword W.Keep args names is = let e = is.tree_is in cc
require_keyword W.Discard args names is = let e = is.tree_is in cc
require_keyword W.FileInto args names is = let e = is.tree_is in cc
require_keyword W.Redirect args names is = let e = is.tree_is in cc
require_keyword W.Vacation args names is = let e = is.tree_is in cc
require_keyword W.SetFlag args names is = let e = is.tree_is in cc
require_keyword W.AddFlag args names is = let e = is.tree_is in cc
require_keyword W.RemoveFlag args names is = let e = is.tree_is in cc
require_keyword _ args names is = absurd is

-- any other word is past the requires
past_keyword : (name : Keyword) (after : List Lexeme) → (name ≡ W.Require → ⊥) → IsPastRequires (keyword name ∷ after)
past_keyword W.Require after other = other refl
past_keyword _ after other = tt

-- no `require` stands past the requires
past_none : (rest : List Lexeme) → IsPastRequires rest → (names : List (List ℕ)) (to : List Lexeme) → TakesRequire names rest to → ⊥
past_none rest past names to takes =
    let reads = takes.0 in
    let is_keyword = require_keyword reads.0 reads.1.1.1.0 names reads.1.1.1.1.1 in
    subst IsPastRequires (reads.1.1.0 ∙ ap (λ w. keyword w ∷ reads.1.0) is_keyword) past

-- what stands after the word of a `require`
after_require : (rest mid : List Lexeme) → rest ≡ keyword W.Require ∷ mid → (names : List (List ℕ)) (to : List Lexeme) → ReadsCommand (require names) rest to → IsStatement (require names) W.Require mid to
after_require rest mid opens names to reads =
    let same : keyword reads.0 ∷ reads.1.0 ≡ keyword W.Require ∷ mid = sym reads.1.1.0 ∙ opens in
    let name : reads.0 ≡ W.Require = cc in
    let after : reads.1.0 ≡ mid = cc in
    subst (λ b. IsStatement (require names) W.Require b to) after (subst (λ w. IsStatement (require names) w reads.1.0 to) name reads.1.1.1)

all_names-push : (each : List (List (List ℕ))) (names : List (List ℕ)) → all_names (each ++ names ∷ []) ≡ all_names each ++ names
all_names-push [] names = append-nil names
all_names-push (first ∷ more) names = ap (λ l. first ++ l) (all_names-push more names) ∙ sym (append_assoc first (all_names more) names)

-- what one `require` more grants
pub granted_push : (old new : Capabilities) (each : List (List (List ℕ))) (names : List (List ℕ)) → old ≡ granted_by (all_names each) → new ≡ granted_too old names → new ≡ granted_by (all_names (each ++ names ∷ []))
granted_push old new each names was made =
    let also : (c : Capability) → granted_too (granted_by (all_names each)) names c ≡ granted_by (all_names (each ++ names ∷ [])) c =
    λ c. sym (list_any-append (is_name_of c) (all_names each) names) ∙ ap (list_any (is_name_of c)) (sym (all_names-push each names)) in
    made ∙ ap (λ g. granted_too g names) was ∙ (λ i c. also c i)

module _ (whole : List Lexeme) (each : List (List (List ℕ))) (rest : List Lexeme) (so : IsSoFar TakesRequire IsPastRequires whole each rest) where
  -- no `require` follows
  pub requires_end : IsPastRequires rest → (others : List (List (List ℕ))) (to : List Lexeme) → TakesRequires others whole to → (others ≡ each) × (to ≡ rest)
  requires_end past others to takes = chain_ends TakesRequire IsPastRequires whole each rest so (past_none rest past) others to takes.0 takes.1

  module _ (mid : List Lexeme) (opens : rest ≡ keyword W.Require ∷ mid) where
    goes_on : IsPastRequires rest → ⊥
    goes_on past = subst IsPastRequires opens past

    -- no names
    pub requires_no_names : ((names : List (List ℕ)) (to : List Lexeme) → IsStatement (require names) W.Require mid to → ⊥) → (others : List (List (List ℕ))) (to : List Lexeme) → TakesRequires others whole to → ⊥
    requires_no_names none others to takes =
        chain_fails TakesRequire IsPastRequires whole each rest so goes_on (λ names end at. none names end (after_require rest mid opens names end at.0)) others to takes.0 takes.1

    module _ (names : List (List ℕ)) (next : List Lexeme) (found : IsStatement (require names) W.Require mid next × ((other : List (List ℕ)) (end : List Lexeme) → IsStatement (require other) W.Require mid end → (other ≡ names) × (end ≡ next))) where
      -- names of which one is not known
      pub requires_unknown : (All (KnowsName all_capabilities) names → ⊥) → (others : List (List (List ℕ))) (to : List Lexeme) → TakesRequires others whole to → ⊥
      requires_unknown unknown others to takes =
          chain_fails TakesRequire IsPastRequires whole each rest so goes_on (λ other end at. unknown (subst (All (KnowsName all_capabilities)) (found.1 other end (after_require rest mid opens other end at.0)).0 at.1)) others to takes.0 takes.1

      -- one `require` more
      pub requires_more : All (KnowsName all_capabilities) names → IsSoFar TakesRequire IsPastRequires whole (each ++ names ∷ []) next
      requires_more known =
          chain_more TakesRequire IsPastRequires whole each rest names next so ((W.Require, (mid, (opens, found.0))), known) (λ other end at. found.1 other end (after_require rest mid opens other end at.0)) goes_on

      -- which is shorter than what was there
      pub requires_shorter : length next < length rest
      requires_shorter = reads_longer (require names) rest next (W.Require, (mid, (opens, found.0)))

-- the names of each `require` at the front
abbrev pub requires_of : Commands → List (List (List ℕ))
requires_of no_commands = []
requires_of (command (require names) more) = names ∷ requires_of more
requires_of (command (choose _) more) = []
requires_of (command stop more) = []
requires_of (command (act _) more) = []

-- requires in front of commands
abbrev with_requires : List (List (List ℕ)) → Commands → Commands
with_requires [] cs = cs
with_requires (names ∷ more) cs = command (require names) (with_requires more cs)

pub required_of : (cs : Commands) → required cs ≡ all_names (requires_of cs)
required_of no_commands = refl
required_of (command (require names) more) = ap (λ l. names ++ l) (required_of more)
required_of (command (choose _) more) = refl
required_of (command stop more) = refl
required_of (command (act _) more) = refl

with_requires_of : (cs : Commands) → with_requires (requires_of cs) (after_requires cs) ≡ cs
with_requires_of no_commands = refl
with_requires_of (command (require names) more) = ap (command (require names)) (with_requires_of more)
with_requires_of (command (choose _) more) = refl
with_requires_of (command stop more) = refl
with_requires_of (command (act _) more) = refl

after_depth : (cs : Commands) → depth (after_requires cs) ≤ depth cs
after_depth no_commands = omega arith
after_depth (command (require names) more) = omega (arith, after_depth more)
after_depth (command (choose _) more) = omega arith
after_depth (command stop more) = omega arith
after_depth (command (act _) more) = omega arith

with_depth : (each : List (List (List ℕ))) (cs : Commands) → depth (with_requires each cs) ≤ depth cs
with_depth [] cs = omega arith
with_depth (names ∷ more) cs = omega (arith, with_depth more cs)

commands_of-requires : (each : List (List (List ℕ))) (trees : List CommandTree) → commands_of (map require each ++ trees) ≡ with_requires each (commands_of trees)
commands_of-requires [] trees = refl
commands_of-requires (names ∷ more) trees = ap (command (require names)) (commands_of-requires more trees)

-- what holds of all of two lists holds of all of each
all_left : (P : List ℕ → Type 0) (xs ys : List (List ℕ)) → All P (xs ++ ys) → All P xs
all_left P xs ys all = λ k d below. subst P (get_or-append xs ys d k below) (all k d (omega (arith, below, length-append xs ys)))

all_right : (P : List ℕ → Type 0) (xs ys : List (List ℕ)) → All P (xs ++ ys) → All P ys
all_right P xs ys all = λ k d below. subst P (get_or-append-add xs ys k d) (all (length xs + k) d (omega (arith, below, length-append xs ys)))

-- where commands may stand, no `require` is first
module _ (granted : Capabilities) where
  required_with : (each : List (List (List ℕ))) (cs : Commands) → MayAllStand granted cs → required (with_requires each cs) ≡ all_names each
  required_with [] no_commands may = refl
  required_with [] (command (require names) more) may = absurd may.0
  required_with [] (command (choose _) more) may = refl
  required_with [] (command stop more) may = refl
  required_with [] (command (act _) more) may = refl
  required_with (names ∷ more) cs may = ap (λ l. names ++ l) (required_with more cs may)

  after_with : (each : List (List (List ℕ))) (cs : Commands) → MayAllStand granted cs → after_requires (with_requires each cs) ≡ cs
  after_with [] no_commands may = refl
  after_with [] (command (require names) more) may = absurd may.0
  after_with [] (command (choose _) more) may = refl
  after_with [] (command stop more) may = refl
  after_with [] (command (act _) more) may = refl
  after_with (names ∷ more) cs may = after_with more cs may

  -- what begins with another command is past the requires
  past_command : (first : CommandTree) (from to : List Lexeme) → MayStand granted first → ReadsCommand first from to → IsPastRequires from
  past_command first from to may reads = subst IsPastRequires (sym reads.1.1.0) (other first reads.0 reads.1.0 may reads.1.1.1)
    where
      other : (tree : CommandTree) (name : Keyword) (after : List Lexeme) → MayStand granted tree → IsCommand tree name after to → IsPastRequires (keyword name ∷ after)
      other (require names) name after none is = absurd none
      other (choose no_branches) name after may' is = absurd is
      other (choose (branch test block more)) name after may' is = subst (λ w. IsPastRequires (keyword w ∷ after)) (sym is.0) tt
      other stop name after may' is = past_keyword name after (λ same. let e = (subst (λ w. IsStatement stop w after to) same is).1.1.tree_is in cc)
      other (act action) name after may' is = past_keyword name after (λ same. let e = (subst (λ w. IsStatement (act action) w after to) same is).1.1.tree_is in cc)

  -- a script is requires and then commands
  pub parted : (cs : Commands) (from : List Lexeme) → ReadsScript cs from → All (KnowsName all_capabilities) (required cs) → MayAllStand granted (after_requires cs) → (mid : List Lexeme) × (TakesRequires (requires_of cs) from mid × AreCommands (after_requires cs) mid [])
  parted no_commands from same known may = ([], ((same, tt), refl))
  parted (command (require names) more) from reads known may =
      let rest = parted more reads.0 reads.1.1 (all_right (KnowsName all_capabilities) names (required more) known) may in
      (rest.0, (((reads.0, ((reads.1.0, all_left (KnowsName all_capabilities) names (required more) known), rest.1.0.0)), rest.1.0.1), rest.1.1))
  parted (command (choose branches) more) from reads known may = (from, ((refl, past_command (choose branches) from reads.0 may.0 reads.1.0), reads))
  parted (command stop more) from reads known may = (from, ((refl, past_command stop from reads.0 may.0 reads.1.0), reads))
  parted (command (act action) more) from reads known may = (from, ((refl, past_command (act action) from reads.0 may.0 reads.1.0), reads))

  -- and the other way round
  joined : (each : List (List (List ℕ))) (cs : Commands) (from mid : List Lexeme) → Chain TakesRequire each from mid → AreCommands cs mid [] → ReadsScript (with_requires each cs) from
  joined [] cs from mid same are = subst (λ l. AreCommands cs l []) (sym same) are
  joined (names ∷ more) cs from mid chain are = (chain.0, (chain.1.0.0, joined more cs chain.0 mid chain.1.1 are))

all_known : (each : List (List (List ℕ))) (from mid : List Lexeme) → Chain TakesRequire each from mid → All (KnowsName all_capabilities) (all_names each)
all_known [] from mid same = λ k d below. absurd (omega (arith, below))
all_known (names ∷ more) from mid chain = All-append (KnowsName all_capabilities) names (all_names more) chain.1.0.1 (all_known more chain.0 mid chain.1.1)

-- a script without requires that may stand is no script
pub script_no_requires : (from : List Lexeme) → ((each : List (List (List ℕ))) (to : List Lexeme) → TakesRequires each from to → ⊥) → (tree : Commands) → ReadsScript tree from → IsValid tree → ⊥
script_no_requires from none tree reads valid = let p = parted (granted_by (required tree)) tree from reads valid.known valid.stand in none (requires_of tree) p.0 p.1.0

module _ (from mid : List Lexeme) (granted : Capabilities) (start : List CommandTree) (only : (each : List (List (List ℕ))) (to : List Lexeme) → TakesRequires each from to → (start ≡ map require each) × ((granted ≡ granted_by (all_names each)) × (to ≡ mid))) where
  -- the commands after the requires of a script
  script_commands : (tree : Commands) → ReadsScript tree from → IsValid tree → (start ≡ map require (requires_of tree)) × TakesAll granted max_blocks (list_of (after_requires tree)) mid []
  script_commands tree reads valid =
      let p = parted (granted_by (required tree)) tree from reads valid.known valid.stand in
      let o = only (requires_of tree) p.0 p.1.0 in
      let same : granted_by (required tree) ≡ granted = ap granted_by (required_of tree) ∙ sym o.1.0 in
      let stand : MayAllStand granted (after_requires tree) = subst (λ g. MayAllStand g (after_requires tree)) same valid.stand in
      let low : depth (after_requires tree) ≤ max_blocks = omega (arith, valid.shallow, after_depth tree) in
      let are : AreCommands (after_requires tree) mid [] = subst (λ l. AreCommands (after_requires tree) l []) o.1.1 p.1.1 in
      (o.0, (is_chain granted max_blocks (after_requires tree) mid [] are stand low, tt))

  -- no commands that may stand
  pub script_no_commands : ((more : List CommandTree) (to : List Lexeme) → TakesAll granted max_blocks more mid to → ⊥) → (tree : Commands) → ReadsScript tree from → IsValid tree → ⊥
  script_no_commands none tree reads valid = none (list_of (after_requires tree)) [] (script_commands tree reads valid).1

  module _ (trees : List CommandTree) (end : List Lexeme) (alone : (more : List CommandTree) (to : List Lexeme) → TakesAll granted max_blocks more mid to → (trees ≡ start ++ more) × (to ≡ end)) where
    -- something stands after the commands
    pub script_no_end : (end ≡ [] → ⊥) → (tree : Commands) → ReadsScript tree from → IsValid tree → ⊥
    script_no_end none tree reads valid = none (sym (alone (list_of (after_requires tree)) [] (script_commands tree reads valid).1).1)

    -- the one script
    pub script_only : (tree : Commands) → ReadsScript tree from → IsValid tree → tree ≡ commands_of trees
    script_only tree reads valid =
        let found = script_commands tree reads valid in
        let all = alone (list_of (after_requires tree)) [] found.1 in
        let parts : trees ≡ map require (requires_of tree) ++ list_of (after_requires tree) = all.0 ∙ ap (λ s. s ++ list_of (after_requires tree)) found.0 in
        sym (with_requires_of tree) ∙ ap (with_requires (requires_of tree)) (sym (commands_of-list_of (after_requires tree)))
        ∙ sym (commands_of-requires (requires_of tree) (list_of (after_requires tree))) ∙ ap commands_of (sym parts)

-- requires and commands make a script
pub script_found : (from mid : List Lexeme) (granted : Capabilities) (each : List (List (List ℕ))) (more trees : List CommandTree) → granted ≡ granted_by (all_names each) → TakesRequires each from mid → TakesAll granted max_blocks more mid [] → trees ≡ map require each ++ more → ReadsScript (commands_of trees) from × IsValid (commands_of trees)
script_found from mid granted each more trees grants requires all parts =
    let are = chain_is granted max_blocks more mid [] all.0 in
    let whole : commands_of trees ≡ with_requires each (commands_of more) = ap commands_of parts ∙ commands_of-requires each more in
    let stand : MayAllStand granted (commands_of more) = are.1.0 in
    let low : depth (commands_of more) ≤ max_blocks = are.1.1 in
    let names : required (with_requires each (commands_of more)) ≡ all_names each = required_with granted each (commands_of more) stand in
    let same : granted ≡ granted_by (required (with_requires each (commands_of more))) = grants ∙ ap granted_by (sym names) in
    let after : commands_of more ≡ after_requires (with_requires each (commands_of more)) = sym (after_with granted each (commands_of more) stand) in
    let valid : IsValid (with_requires each (commands_of more)) = record {
      known = subst (All (KnowsName all_capabilities)) (sym names) (all_known each from mid requires.0);
      stand = subst (λ cs. MayAllStand (granted_by (required (with_requires each (commands_of more)))) cs) after (subst (λ g. MayAllStand g (commands_of more)) same stand);
      shallow = omega (arith, with_depth each (commands_of more));
    } in
    (subst (λ cs. ReadsScript cs from) (sym whole) (joined granted each (commands_of more) from mid requires.0 are.0), subst IsValid (sym whole) valid)
