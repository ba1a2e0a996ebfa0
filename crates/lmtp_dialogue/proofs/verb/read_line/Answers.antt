use Rattle.lmtp_dialogue.proofs.CommandLemmas.{command_at, no_command_at}
use Rattle.lmtp_dialogue.proofs.verb.read_line.Goals as goal

pub returns-in-Some-clause-found : goal.returns-in-Some-clause-found
returns-in-Some-clause-found c =
    command_at c.args.line.now c.word_length-count.result c.in-Some.verb c.argument_of.result.now c.word_length-count.ensures.value c.in-Some.ensures.found c.argument_of.ensures

pub returns-in-None-clause-none : goal.returns-in-None-clause-none
returns-in-None-clause-none c = no_command_at c.args.line.now c.word_length-count.result c.word_length-count.ensures.value c.in-None.ensures.none
