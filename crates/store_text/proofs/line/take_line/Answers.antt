-- A field more was taken, or the line's end; where neither stands there, no line does.
use Rattle.std.proofs.Common.{sym, subst}
use Rattle.store_text.proofs.NetstringLemmas.{IsTaking, taking_on, line_taken, line_lost, netstring_shrinks}
use Rattle.store_text.proofs.line.take_line.Goals as goal

pub fields-preserved : goal.fields-preserved
fields-preserved c =
    subst (λ fs. IsTaking c.args.octets.now fs c.in-Some-take_netstring.more.now) (sym c.in_ok-push.ensures.items)
    (taking_on c.args.octets.now c.fields.fields.items c.fields.rest.now c.fields.invariant c.in-Some-take_netstring.field c.in-Some-take_netstring.more.now c.in-Some-take_netstring.ensures.found c.in-Some-take_netstring.ensures.field)

pub fields-smaller : goal.fields-smaller
fields-smaller c = netstring_shrinks c.fields.rest.now c.in-Some-take_netstring.field.now c.in-Some-take_netstring.more.now c.in-Some-take_netstring.ensures.found

pub returns-in-Some-clause-found : goal.returns-in-Some-clause-found
returns-in-Some-clause-found c = line_taken c.args.octets.now c.fields.fields.items c.fields.rest.now c.fields.invariant c.in-Some.behind.now c.in-Some.ensures.found

pub returns-in_default-take_netstring-clause-none : goal.returns-in_default-take_netstring-clause-none
returns-in_default-take_netstring-clause-none c =
    line_lost c.args.octets.now c.fields.fields.items c.fields.rest.now c.fields.invariant c.in_default-take_netstring.ensures.none c.in_default.ensures.none
