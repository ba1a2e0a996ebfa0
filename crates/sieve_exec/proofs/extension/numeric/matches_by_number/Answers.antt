use Rattle.std.proofs.Common.{◌∙◌}
use Rattle.std.proofs.lemmas.Bool.Decides.{same_from_decides}
use Rattle.sieve_syntax.specs.declared.tree.checks.Matching.TheVariants.{Is, Value, Count}
use Rattle.sieve_exec.proofs.MatchLemmas.{number_decides}
use Rattle.sieve_exec.proofs.OrderLemmas.{number_relates}
use Rattle.sieve_exec.proofs.extension.numeric.matches_by_number.Goals as goal

pub returns-in-Is : goal.returns-in-Is
returns-in-Is c = rw c.in-Is.is (same_from_decides _ _ c.are_equal_numbers.ensures (number_decides Is c.args.key.now c.args.value.now))

pub returns-in-Value : goal.returns-in-Value
returns-in-Value c =
    let relation = c.in-Value.relation in
    rw c.in-Value.is (c.relates.ensures ∙ same_from_decides _ _ (number_relates relation c.args.value.now c.args.key.now c.compare_numbers.result c.compare_numbers.ensures) (number_decides (Value relation) c.args.key.now c.args.value.now))

pub returns-in-Count : goal.returns-in-Count
returns-in-Count c =
    let relation = c.in-Count.relation in
    rw c.in-Count.is (c.relates-in-Count.ensures ∙ same_from_decides _ _ (number_relates relation c.args.value.now c.args.key.now c.compare_numbers-in-Count.result c.compare_numbers-in-Count.ensures) (number_decides (Count relation) c.args.key.now c.args.value.now))
