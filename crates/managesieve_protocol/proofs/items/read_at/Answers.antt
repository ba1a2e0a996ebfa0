use Rattle.std.proofs.Common.{sym, ap, ◌∙◌}
use Rattle.managesieve_protocol.specs.Values.{item_at}
use Rattle.managesieve_protocol.proofs.Unique.{reach_is}
use Rattle.managesieve_protocol.proofs.items.read_at.Goals as goal

pub returns-in_ok-command-in-Command-clause-value : goal.returns-in_ok-command-in-Command-clause-value
returns-in_ok-command-in-Command-clause-value c =
    sym c.in_ok-command-in-Command.ensures.value ∙ ap (item_at c.args.pending c.args.buffer.now) (sym (reach_is c.args.pending c.args.reach c.args.buffer.now c.requires))
