use Rattle.std.proofs.Common.{rules, map, ◌≡◌, ◌∷◌, ap, ◌∙◌}
use Rattle.std.proofs.lemmas.Result.{err_from_is_err_and}
use Rattle.std.specs.List.{Contains}
use Rattle.sieve_syntax.specs.Tags.{group_of}
use Rattle.sieve_syntax.specs.declared.parser.argument.Argument.TheVariants as A
use Rattle.sieve_syntax.proofs.FaultLemmas.{fault_on}
use Rattle.sieve_syntax.proofs.TagLemmas.{not_allowed, not_free, not_there}
use Rattle.sieve_syntax.proofs.table.tag_group.next_tag.Goals as goal

pub returns-in_err-tag_value-clause-fault : goal.returns-in_err-tag_value-clause-fault
returns-in_err-tag_value-clause-fault c =
    let spelled : c.args.args.now ≡ A.Tag c.in-Tag.tag ∷ c.in-Some.rest.now = c.in-Some.ensures.cases.0 ∙ ap (λ f. f ∷ c.in-Some.rest.now) c.in-Tag.is in
    let p = err_from_is_err_and c.from_residual.result c.from_residual.ensures.1 in
    rw (p.1, p.2, spelled) (fault_on _ _ _ (not_there c.args.allowed.now (map group_of c.args.taken.now) _) c.in_err-tag_value.ensures.fault)

pub returns-then-not-contains-clause-fault : goal.returns-then-not-contains-clause-fault
returns-then-not-contains-clause-fault c =
    let spelled : c.args.args.now ≡ A.Tag c.in-Tag.tag ∷ c.in-Some.rest.now = c.in-Some.ensures.cases.0 ∙ ap (λ f. f ∷ c.in-Some.rest.now) c.in-Tag.is in
    let other : Contains c.args.allowed.now c.group.result → ⊥ = search rules in
    rw spelled (not_allowed c.args.allowed.now (map group_of c.args.taken.now) _ _ _ c.in_ok-tag_value.ensures.found (rw c.group.ensures at other))

pub returns-then-is_settled-clause-fault : goal.returns-then-is_settled-clause-fault
returns-then-is_settled-clause-fault c =
    let spelled : c.args.args.now ≡ A.Tag c.in-Tag.tag ∷ c.in-Some.rest.now = c.in-Some.ensures.cases.0 ∙ ap (λ f. f ∷ c.in-Some.rest.now) c.in-Tag.is in
    let among : Contains (map group_of c.args.taken.now) c.group-2.result = search rules in
    rw spelled (not_free c.args.allowed.now (map group_of c.args.taken.now) _ _ _ c.in_ok-tag_value.ensures.found (rw c.group-2.ensures at among))
