use Rattle.managesieve_protocol.proofs.Unique.{read_item, read_lacks}
use Rattle.managesieve_protocol.proofs.items.command_at.Goals as goal

pub returns-clause-value : goal.returns-clause-value
returns-clause-value c = read_item c.args.pending c.args.buffer.now c.args.used c.command.result c.requires c.command.ensures.value

pub returns-clause-lacks : goal.returns-clause-lacks
returns-clause-lacks c = read_lacks c.args.pending c.args.buffer.now c.args.used c.command.result c.requires c.command.ensures.lacks
