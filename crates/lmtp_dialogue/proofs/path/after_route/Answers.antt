use Rattle.std.proofs.Common.{ap, sym, drop, ◌∙◌}
use Rattle.std.proofs.lemmas.List.{take_rest}
use Rattle.lmtp_dialogue.proofs.RouteLemmas.{no_colon, another_route, follows_hops}
use Rattle.lmtp_dialogue.proofs.path.after_route.Goals as goal

pub returns-in_default-strip-clause-none : goal.returns-in_default-strip-clause-none
returns-in_default-strip-clause-none c =
    no_colon c.args.text.now c.in-Some.hops.now c.in-Some.ensures.found
    (λ rest same. c.in_default-strip.ensures.none rest (take_rest c.in-Some.hops.now c.hop_length-count.result ∙ (ap (λ n. drop n c.in-Some.hops.now) c.hop_length-count.ensures.value ∙ same)))

pub returns-in-Some-strip-2-clause-none : goal.returns-in-Some-strip-2-clause-none
returns-in-Some-strip-2-clause-none c =
    another_route c.args.text.now c.in-Some.hops.now c.in-Some-strip.bare.now c.in-Some-strip-2.field-0.now c.in-Some.ensures.found
    (ap (λ n. drop n c.in-Some.hops.now) (sym c.hop_length-count.ensures.value) ∙ (sym (take_rest c.in-Some.hops.now c.hop_length-count.result) ∙ c.in-Some-strip.ensures.found)) c.in-Some-strip-2.ensures.found

pub returns-in-None-clause-found : goal.returns-in-None-clause-found
returns-in-None-clause-found c =
    follows_hops c.args.text.now c.in-Some.hops.now c.in-Some-strip.bare.now c.in-Some.ensures.found
    (ap (λ n. drop n c.in-Some.hops.now) (sym c.hop_length-count.ensures.value) ∙ (sym (take_rest c.in-Some.hops.now c.hop_length-count.result) ∙ c.in-Some-strip.ensures.found)) c.in-None.ensures.none
