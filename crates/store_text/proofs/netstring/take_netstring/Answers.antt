-- What is cut at the first colon is the length; the text of that length is the netstring's, and no other.
use Rattle.std.proofs.Common.{None, ◌∙◌}
use Rattle.store_text.proofs.NetstringLemmas.{netstring_then, length_found, taken_made, taken_none, taken_small}
use Rattle.store_text.proofs.netstring.take_netstring.Goals as goal

pub returns-in_default-clause-none : goal.returns-in_default-clause-none
returns-in_default-clause-none c = λ text more small is. c.in_default.ensures.none _ _ (is ∙ netstring_then text more)

pub returns-in_default-number_of-clause-none : goal.returns-in_default-number_of-clause-none
returns-in_default-number_of-clause-none c = λ text more small is.
    let found = length_found c.args.octets.now c.in-Some.digits.now c.in-Some.rest.now text more None c.in-Some.ensures.found c.in_default-number_of.ensures small is in
    cc

pub returns-clause-found : goal.returns-clause-found
returns-clause-found c = taken_made c.args.octets.now c.in-Some.digits.now c.in-Some.rest.now c.in-Some-number_of.size c.in-Some.ensures.found c.in-Some-number_of.ensures c.take_text.result c.take_text.ensures.found

pub returns-clause-field : goal.returns-clause-field
returns-clause-field c = taken_small c.args.octets.now c.in-Some.digits.now c.in-Some.rest.now c.in-Some-number_of.size c.in-Some.ensures.found c.in-Some-number_of.ensures c.take_text.result c.take_text.ensures.found

pub returns-clause-none : goal.returns-clause-none
returns-clause-none c = taken_none c.args.octets.now c.in-Some.digits.now c.in-Some.rest.now c.in-Some-number_of.size c.in-Some.ensures.found c.in-Some-number_of.ensures c.take_text.result c.take_text.ensures.none
