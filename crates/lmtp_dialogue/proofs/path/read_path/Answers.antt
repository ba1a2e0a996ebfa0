use Rattle.lmtp_dialogue.proofs.RouteLemmas.{no_route, no_address}
use Rattle.lmtp_dialogue.proofs.path.read_path.Goals as goal

pub returns-in_default-after_route-clause-none : goal.returns-in_default-after_route-clause-none
returns-in_default-after_route-clause-none c = no_route c.args.text.now c.in-Some.inner.now c.in-Some.ensures.found c.in_default-after_route.ensures.none

pub returns-in_default-address_length-clause-none : goal.returns-in_default-address_length-clause-none
returns-in_default-address_length-clause-none c =
    no_address c.args.text.now c.in-Some.inner.now c.in-Some-after_route.bare.now c.in-Some.ensures.found c.in-Some-after_route.ensures.found
    c.in_default-address_length.ensures.none
