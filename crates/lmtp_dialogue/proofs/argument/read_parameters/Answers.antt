use Rattle.std.proofs.Common.{refl}
use Rattle.lmtp_dialogue.proofs.ParameterLemmas.{step_at, at_end, no_space, no_parameter_at, empty_by, some_by}
use Rattle.lmtp_dialogue.proofs.argument.read_parameters.Goals as goal

pub returns-in_default : goal.returns-in_default
returns-in_default c = (refl, no_space c.args.rest.now c.loop-left.left.now c.loop-left.size c.loop-left.invariant (some_by c.loop-left.left.now c.loop-left-test.ensures) c.in_default.ensures.none)

pub returns-in_default-read_parameter : goal.returns-in_default-read_parameter
returns-in_default-read_parameter c = (
  refl,
  no_parameter_at c.args.rest.now c.loop-left.left.now c.in-Some.more.now c.word_length-count.result c.loop-left.size c.loop-left.invariant
      c.in-Some.ensures.found c.word_length-count.ensures.value c.in_default-read_parameter.ensures.none,
)

pub loop-left-preserved : goal.loop-left-preserved
loop-left-preserved c =
    step_at c.args.rest.now c.loop-left.left.now c.in-Some.more.now c.word_length-count.result c.loop-left.size c.in-Ok.here c.later-size.result c.loop-left.invariant
    c.in-Some.ensures.found c.word_length-count.ensures.value c.in-Ok.ensures.found c.later-size.ensures

pub returns : goal.returns
returns c = at_end c.args.rest.now c.loop-left.left.now c.loop-left.size c.loop-left.invariant (empty_by c.loop-left.left.now c.loop-left-test.ensures)
