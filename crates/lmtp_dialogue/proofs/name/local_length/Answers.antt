use Rattle.std.proofs.Common.{arith}
use Rattle.lmtp_dialogue.proofs.NameLemmas.{local_begin, local_step, found_within, parts_at_end, parts_from}
use Rattle.lmtp_dialogue.proofs.name.local_length.Goals as goal

pub loop-at-init : goal.loop-at-init
loop-at-init c = local_begin c.args.address.now

pub loop-at-preserved : goal.loop-at-preserved
loop-at-preserved c =
    local_step c.args.address.now c.loop-at.at c.loop-at.count c.local_end-count.result c.loop-at.quoting c.in-Some.next c.loop-at.invariant
    (omega (arith, c.loop-at-test.true)) c.local_end-count.ensures c.in-Some.ensures

pub returns-in_default-clause-parts : goal.returns-in_default-clause-parts
returns-in_default-clause-parts c =
    parts_from c.args.address.now c.loop-at.at c.loop-at.count c.local_end-count.result c.loop-at.quoting c.loop-at.invariant
    (omega (arith, c.loop-at-test.true)) c.local_end-count.ensures c.in_default.ensures

pub returns-in_default-clause-within : goal.returns-in_default-clause-within
returns-in_default-clause-within c =
    found_within c.args.address.now c.loop-at.at c.loop-at.count c.local_end-count.result c.loop-at.quoting c.loop-at.invariant.within
    (omega (arith, c.loop-at-test.true)) c.local_end-count.ensures

pub returns-clause-parts : goal.returns-clause-parts
returns-clause-parts c =
    parts_at_end c.args.address.now c.loop-at.at c.loop-at.count c.loop-at.quoting c.loop-at.invariant (omega (arith, c.loop-at-test.false))
