use Rattle.std.proofs.Common.{◌∙◌, rules}
use Rattle.daemon_core.proofs.BoundLemmas.{all_held}
use Rattle.daemon_core.proofs.memory_room.less_held.Goals as goal

pub returns : goal.returns
returns c = (search rules) ∙ all_held c.args.most c.args.lmtp_connections.now.entries
