-- A text that is a script where some capabilities are offered is one where more are, and says the same.
use Rattle.std.proofs.Common.{◌≡◌, ◌||◌, ℕ, suc, Bool, true, false, cond, List, [], ◌∷◌, Option, Some, None, refl, sym, ap, ◌∙◌, arith}
use Rattle.std.specs.Prelude.{All, slice_index_or, is_some}
use Rattle.std.specs.List.{list_any}
use Rattle.std.proofs.lemmas.Slice.Eq.{bytes_eq-Decides}
use Rattle.sieve_lex.specs.Contents.{contents_of}
use Rattle.sieve_lex.specs.declared.token.Content.{Content}
use Rattle.sieve_syntax.specs.declared.capability.Capability.{Capability}
use Rattle.sieve_syntax.specs.declared.capability.Capability.TheVariants as C
use Rattle.sieve_syntax.specs.declared.tree.action.Action.{Action}
use Rattle.sieve_syntax.specs.declared.tree.action.Action.TheVariants.{Keep, Discard, FileInto, Redirect, Vacation, SetFlag, AddFlag, RemoveFlag}
use Rattle.sieve_syntax.specs.declared.tree.checks.MailCheck.{MailCheck}
use Rattle.sieve_syntax.specs.declared.tree.checks.MailCheck.TheVariants.{Size, Exists, Header, Address, Extension}
use Rattle.sieve_syntax.specs.Capabilities.{Capabilities, IsWithin, KnowsName, all_capabilities, capability_name, capability_named, granted_by, is_name_of, is_in_set}
use Rattle.sieve_syntax.specs.Extension.EncodedCharacter.{as_read, is_encoded_character}
use Rattle.sieve_syntax.specs.Grammar.{ReadsScript}
use Rattle.sieve_syntax.specs.Growth.{EachAction, EachInBranches, EachIn, EachCheck, EachCheckOf, EachAsks, EachAsksInBranches, EachAsksIn, UsesOnly, StillMeans}
use Rattle.sieve_syntax.specs.Languages.{lexemes_in, read_in}
use Rattle.sieve_syntax.specs.Means.{MeansIn}
use Rattle.sieve_syntax.specs.Tree.{TestTree, yes, no, looks, not_of, all_of, any_of, Tests, no_tests, test, CommandTree, require, choose, stop, act, Branches, no_branches, branch, Commands, no_commands, command}
use Rattle.sieve_syntax.specs.Valid.{MayCheck, MayTest, MayAllTest, MayAct, MayStand, MayBranch, MayAllStand, required, after_requires, IsValid, IsValidIn}
use Rattle.sieve_syntax.proofs.DecodingLemmas.{read_as_written}
use Rattle.sieve_syntax.proofs.LanguageLemmas.{read_grows, decoded_grows}
use Rattle.sieve_syntax.proofs.MeansLaws.{means_one}
use Rattle.sieve_syntax.proofs.ExtensionLaws.{ask_grows}
use Rattle.sieve_syntax.proofs.ExtensionLaws.FileInto.{file_into_grows}
use Rattle.sieve_syntax.proofs.GrowthLemmas.{permits_grow, part_grows, match_grows}
use Rattle.sieve_syntax.proofs.VacationLemmas.{reply_grows}

-- ---- names of capabilities

name_is : (c : Capability) → capability_named (capability_name c) ≡ Some c
name_is C.FileInto = refl
name_is _ = refl

-- a name that is a capability's is that one's alone
named_is : (c : Capability) (name : List ℕ) → is_name_of c name ≡ true → capability_named name ≡ Some c
named_is c name is = ap capability_named ((bytes_eq-Decides name (capability_name c)).0 is) ∙ name_is c

-- what is known where few are offered is known where more are
known_grows : (few more : Capabilities) → IsWithin few more → (name : List ℕ) → KnowsName few name → KnowsName more name
known_grows few more within name is = step (capability_named name) is
  where
    step : (found : Option Capability) → is_in_set few found ≡ true → is_in_set more found ≡ true
    step None is = absurd (cc is)
    step (Some c) is = within c is

-- what follows of each name follows of all
of_all : (P Q : List ℕ → Type 0) → ((name : List ℕ) → P name → Q name) → (names : List (List ℕ)) → All P names → All Q names
of_all P Q each names all = λ k d within. each (slice_index_or names k d) (all k d within)

-- names that are known grant only what is offered
granted_within : (offered : Capabilities) (names : List (List ℕ)) → All (KnowsName offered) names → IsWithin (granted_by names) offered
granted_within offered [] all c is = absurd (cc is)
granted_within offered (name ∷ more) all c is =
    step (is_name_of c name) (named_is c name) (granted_within offered more (λ k other within. all (suc k) other (omega (arith, within))) c) is
  where
    known : is_in_set offered (capability_named name) ≡ true
    known = all 0 name (omega arith)

    step : (this : Bool) → (this ≡ true → capability_named name ≡ Some c) → (granted_by more c ≡ true → offered c ≡ true) → (this || granted_by more c) ≡ true → offered c ≡ true
    step true named later is = ap (is_in_set offered) (sym (named refl)) ∙ known
    step false named later is = later is

-- ---- what is permitted where few are granted is permitted where more are

module _ (few more : Capabilities) (within : IsWithin few more) where
  act_grows : (action : Action) → MayAct few action → MayAct more action
  act_grows (Keep given) may = permits_grow few more within C.Imap4flags (is_some given) may
  act_grows Discard may = tt
  act_grows (FileInto filing) may = file_into_grows few more within filing may
  act_grows (Redirect redirect) may = permits_grow few more within C.Copy redirect.copy may
  act_grows (Vacation args) may = reply_grows few more within args may
  act_grows (SetFlag texts) may = within C.Imap4flags may
  act_grows (AddFlag texts) may = within C.Imap4flags may
  act_grows (RemoveFlag texts) may = within C.Imap4flags may

  check_grows : (check : MailCheck) → MayCheck few check → MayCheck more check
  check_grows (Size size) may = tt
  check_grows (Exists fields) may = tt
  check_grows (Header header) may = match_grows few more within header.comparator header.matching may
  check_grows (Address address) may = (part_grows few more within address.part may.0, match_grows few more within address.comparator address.matching may.1)
  check_grows (Extension extended) may = ask_grows few more within extended may

-- what is so of each action that may stand is so of each in a tree that may
module _ (P : Action → Type 0) (granted : Capabilities) (each : (action : Action) → MayAct granted action → P action) where
  mutual
    act_of : (tree : CommandTree) → MayStand granted tree → EachAction P tree
    act_of (require names) may = tt
    act_of (choose branches) may = act_of_branches branches may
    act_of stop may = tt
    act_of (act action) may = each action may

    act_of_branches : (branches : Branches) → MayBranch granted branches → EachInBranches P branches
    act_of_branches no_branches may = tt
    act_of_branches (branch condition block more) may = (each_act block may.1.0, act_of_branches more may.1.1)

    each_act : (commands : Commands) → MayAllStand granted commands → EachIn P commands
    each_act no_commands may = tt
    each_act (command first more) may = (act_of first may.0, each_act more may.1)

-- each action in a tree stands after its requires
after_each : (P : Action → Type 0) (tree : Commands) → EachIn P (after_requires tree) → EachIn P tree
after_each P no_commands each = each
after_each P (command (require names) more) each = (tt, after_each P more each)
after_each P (command (choose choice) more) each = each
after_each P (command stop more) each = each
after_each P (command (act action) more) each = each

-- what is so of each test that may stand is so of each in a tree that may
module _ (P : MailCheck → Type 0) (granted : Capabilities) (each : (check : MailCheck) → MayCheck granted check → P check) where
  mutual
    asks_test : (condition : TestTree) → MayTest granted condition → EachCheck P condition
    asks_test yes may = tt
    asks_test no may = tt
    asks_test (looks check) may = each check may
    asks_test (not_of inner) may = asks_test inner may
    asks_test (all_of inner) may = asks_tests inner may
    asks_test (any_of inner) may = asks_tests inner may

    asks_tests : (tests : Tests) → MayAllTest granted tests → EachCheckOf P tests
    asks_tests no_tests may = tt
    asks_tests (test first more) may = (asks_test first may.0, asks_tests more may.1)

  mutual
    asks_of : (tree : CommandTree) → MayStand granted tree → EachAsks P tree
    asks_of (require names) may = tt
    asks_of (choose branches) may = asks_in_branches branches may
    asks_of stop may = tt
    asks_of (act action) may = tt

    asks_in_branches : (branches : Branches) → MayBranch granted branches → EachAsksInBranches P branches
    asks_in_branches no_branches may = tt
    asks_in_branches (branch condition block more) may = (asks_test condition may.0.0, (each_asks block may.1.0, asks_in_branches more may.1.1))

    each_asks : (commands : Commands) → MayAllStand granted commands → EachAsksIn P commands
    each_asks no_commands may = tt
    each_asks (command first more) may = (asks_of first may.0, each_asks more may.1)

-- each test in a tree stands after its requires
after_asks : (P : MailCheck → Type 0) (tree : Commands) → EachAsksIn P (after_requires tree) → EachAsksIn P tree
after_asks P no_commands each = each
after_asks P (command (require names) more) each = (tt, after_asks P more each)
after_asks P (command (choose choice) more) each = each
after_asks P (command stop more) each = each
after_asks P (command (act action) more) each = each

-- ---- the law

-- a valid tree uses only what is offered
uses_only : (offered : Capabilities) (tree : Commands) → IsValidIn offered tree → UsesOnly offered tree
uses_only offered tree valid =
    let granted = granted_by (required tree) in
    let within = granted_within offered (required tree) valid.known in
    record {
      actions = after_each (MayAct offered) tree (each_act (MayAct offered) granted (λ action may. act_grows granted offered within action may) (after_requires tree) valid.stand);
      tests = after_asks (MayCheck offered) tree (each_asks (MayCheck offered) granted (λ check may. check_grows granted offered within check may) (after_requires tree) valid.stand);
    }

valid_grows : (few more : Capabilities) → IsWithin few more → (tree : Commands) → IsValidIn few tree → IsValidIn more tree
valid_grows few more within tree valid = record {
  known = of_all (KnowsName few) (KnowsName more) (known_grows few more within) (required tree) valid.known;
  stand = valid.stand;
  shallow = valid.shallow;
}

not_true : (b : Bool) → (b ≡ true → ⊥) → b ≡ false
not_true true none = absurd (none refl)
not_true false none = refl

-- what is read where few are offered is read where more are: what decodes strings has to be required
module _ (few more : Capabilities) (within : IsWithin few more) (contents : List Content) (tree : Commands) (valid : IsValidIn few tree) where
  none_encoded : few C.EncodedCharacter ≡ false → list_any is_encoded_character (required tree) ≡ false
  none_encoded without =
      not_true (list_any is_encoded_character (required tree)) (λ is. let bad : false ≡ true = sym without ∙ granted_within few (required tree) valid.known C.EncodedCharacter is in cc bad)

  reads_in_more : ReadsScript tree (read_in few contents) → ReadsScript tree (read_in more contents)
  reads_in_more read = step (few C.EncodedCharacter) (more C.EncodedCharacter) refl (within C.EncodedCharacter) read
    where
      all : IsValid tree
      all = valid_grows few all_capabilities (λ c is. refl) tree valid

      step : (one other : Bool) → few C.EncodedCharacter ≡ one → (one ≡ true → other ≡ true)
          → ReadsScript tree (cond one (as_read (lexemes_in few contents)) (lexemes_in few contents)) → ReadsScript tree (cond other (as_read (lexemes_in more contents)) (lexemes_in more contents))
      step true true is now read = decoded_grows few more within contents tree read
      step true false is now read = let bad : false ≡ true = now refl in absurd (cc bad)
      step false true is now read = read_as_written tree (lexemes_in more contents) (read_grows few more within contents tree read) all (none_encoded is)
      step false false is now read = read_grows few more within contents tree read

pub still_means : (few more : Capabilities) (text : List ℕ) (tree : Commands) → IsWithin few more → MeansIn few text tree → StillMeans few more text tree
still_means few more text tree within means =
    let grown : MeansIn more text tree = record {
      tokens = means.tokens;
      spelled = means.spelled;
      read = reads_in_more few more within (contents_of means.tokens) tree means.valid means.read;
      valid = valid_grows few more within tree means.valid;
    } in
    record { means = grown; only = λ other also. means_one more text other tree also grown; uses = uses_only few tree means.valid }
