use Rattle.std.proofs.Common.{◌∙◌}
use Rattle.std.proofs.lemmas.Bool.Decides.{same_from_decides}
use Rattle.sieve_syntax.specs.declared.tree.checks.Matching.TheVariants.{Is, Contains, Matches, Value, Count}
use Rattle.sieve_exec.proofs.MatchLemmas.{image_decides}
use Rattle.sieve_exec.proofs.OrderLemmas.{image_relates}
use Rattle.sieve_exec.proofs.matching.matches_by_image.Goals as goal

pub returns-in-Is : goal.returns-in-Is
returns-in-Is g c = rw c.in-Is.is (same_from_decides _ _ c.is.ensures (image_decides g.C.Comparator.image_of Is c.args.key.now c.args.value.now))

pub returns-in-Contains : goal.returns-in-Contains
returns-in-Contains g c = rw c.in-Contains.is (same_from_decides _ _ c.contains.ensures (image_decides g.C.Comparator.image_of Contains c.args.key.now c.args.value.now))

pub returns-in-Matches : goal.returns-in-Matches
returns-in-Matches g c = rw c.in-Matches.is (same_from_decides _ _ c.matches.ensures (image_decides g.C.Comparator.image_of Matches c.args.key.now c.args.value.now))

pub returns-in-Value : goal.returns-in-Value
returns-in-Value g c =
    let f = g.C.Comparator.image_of in
    let relation = c.in-Value.relation in
    rw c.in-Value.is (c.relates.ensures ∙ same_from_decides _ _ (image_relates f relation c.args.value.now c.args.key.now c.compare.result c.compare.ensures) (image_decides f (Value relation) c.args.key.now c.args.value.now))

pub returns-in-Count : goal.returns-in-Count
returns-in-Count g c =
    let f = g.C.Comparator.image_of in
    let relation = c.in-Count.relation in
    rw c.in-Count.is (c.relates-in-Count.ensures ∙ same_from_decides _ _ (image_relates f relation c.args.value.now c.args.key.now c.compare-in-Count.result c.compare-in-Count.ensures) (image_decides f (Count relation) c.args.key.now c.args.value.now))
