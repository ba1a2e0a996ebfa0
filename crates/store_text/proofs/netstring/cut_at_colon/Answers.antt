use Rattle.std.proofs.Common.{sym, ◌∙◌, subst}
use Rattle.store_text.specs.Netstring.{CutsAtMark}
use Rattle.store_text.proofs.CutLemmas.{cut_there, none_there, no_octets}
use Rattle.store_text.proofs.netstring.cut_at_colon.Goals as goal

pub returns-in-Some-clause-found : goal.returns-in-Some-clause-found
returns-in-Some-clause-found c =
    let h = cut_there 58 c.args.text.now c.in-Some.rest.now c.in-Some.field-0-0.now c.length_before_colon-count.result c.length_before_colon-count.ensures.value (sym c.split_at.ensures.back ∙ c.in-Some.ensures.cases.0) in
    subst (λ f. CutsAtMark 58 c.args.text.now f c.in-Some.rest.now) (sym c.split_at.ensures.front) h

pub returns-in-None-clause-none : goal.returns-in-None-clause-none
returns-in-None-clause-none c = none_there 58 c.args.text.now c.length_before_colon-count.result c.length_before_colon-count.ensures.value (sym c.split_at.ensures.back ∙ no_octets c.split_at.result.1.now c.in-None.ensures.cases)
