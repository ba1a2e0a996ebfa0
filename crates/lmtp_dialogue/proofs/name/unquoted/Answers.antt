use Rattle.std.proofs.Common.{arith}
use Rattle.lmtp_dialogue.proofs.NameLemmas.{unquoted_step, unquoted_end}
use Rattle.lmtp_dialogue.proofs.name.unquoted.Goals as goal

pub loop-octet-preserved : goal.loop-octet-preserved
loop-octet-preserved c =
    unquoted_step c.loop-octet.text c.add_unquoted.new.text c.args.local.now c.loop-octet.octet-index c.loop-octet.quoting c.in_ok-quoting.quoting
    (omega (arith, c.loop-octet-test.true)) c.in_ok-quoting.ensures c.loop-octet.invariant

pub returns : goal.returns
returns c =
    unquoted_end c.loop-octet.text c.args.local.now c.loop-octet.octet-index c.loop-octet.quoting (omega (arith, c.loop-octet-test.false)) c.loop-octet.invariant
