use Rattle.std.proofs.Common.{refl, arith}
use Rattle.mail_head.proofs.SizeLemmas.{block_step, left_small}
use Rattle.mail_head.proofs.size.bare_feeds.Goals as goal

pub overflow_add-bare : goal.overflow_add-bare
overflow_add-bare c =
    let all = left_small c.args.message.now c.loop-rest.bare _ c.loop-rest.invariant in
    let step = block_step 240 c.bare_in_block.result c.loop-rest.rest.now _ _ c.loop-rest-test.true c.split_at.ensures.front refl c.bare_in_block.ensures in
    omega (arith, all, step, c.from-bare-in-loop-rest.ensures)

pub loop-rest-preserved : goal.loop-rest-preserved
loop-rest-preserved c =
    let step = block_step 240 c.bare_in_block.result c.loop-rest.rest.now _ _ c.loop-rest-test.true c.split_at.ensures.front c.split_at-in-loop-rest.ensures.back c.bare_in_block.ensures in
    omega (arith, step, c.loop-rest.invariant, c.from-bare-in-loop-rest.ensures)

pub overflow_add-result : goal.overflow_add-result
overflow_add-result c =
    let all = left_small c.args.message.now c.loop-rest.bare _ c.loop-rest.invariant in
    omega (arith, all, c.from.ensures, c.bare_in_block-2.ensures)

pub returns-clause-within : goal.returns-clause-within
returns-clause-within c =
    let all = left_small c.args.message.now c.loop-rest.bare _ c.loop-rest.invariant in
    omega (arith, all, c.from.ensures, c.bare_in_block-2.ensures)
