use Rattle.std.proofs.Common.{rules, map, sym, ap, ◌∙◌, [], ◌∷◌, ◌++◌}
use Rattle.std.specs.Slice.Iter as slice
use Rattle.maildir_homes.proofs.TemplateLemmas.{split_end}
use Rattle.std.proofs.lemmas.List.{map-append}
use Rattle.maildir_homes.specs.Templates as templates
use Rattle.maildir_homes.proofs.template.parts_of.Goals as goal

pub loop-name-init : goal.loop-name-init
loop-name-init c = search rules

pub loop-name-preserved : goal.loop-name-preserved
loop-name-preserved c =
    c.in_ok-push.ensures.ok ∙ ap (λ l. l ++ c.in_ok-home_part_named.field-0 ∷ []) c.loop-name.invariant ∙ ap (λ p. map templates.home_part_named (map (λ n. n.now) c.loop-name.yielded) ++ p ∷ []) c.in_ok-home_part_named.ensures
    ∙ sym (map-append templates.home_part_named (map (λ n. n.now) c.loop-name.yielded) (c.in-Some.name.now ∷ [])) ∙ ap (map templates.home_part_named) (sym (map-append (λ n. n.now) c.loop-name.yielded (c.in-Some.name ∷ [])))

pub returns : goal.returns
returns c =
    let same = c.into_iter-name-iterator.ensures.into_iter_gives in
    let all = split_end _ _ _ _ c.loop-name.yielded c.loop-name.yielded_by c.next.result c.in-None.is c.next.ensures.steps c.args.tail.now (ap slice.split_rest same ∙ c.split-name-items.ensures.rest)
    (ap slice.split_done same ∙ c.split-name-items.ensures.done) (ap slice.split_callee same ∙ c.split-name-items.ensures.closure) (λ x b q k. search rules) in
    c.loop-name.invariant ∙ ap (map templates.home_part_named) all
