use Rattle.std.proofs.Common.{◌∙◌, rules}
use Rattle.daemon_core.proofs.RoomLemmas.{all_silent}
use Rattle.daemon_core.proofs.eviction.less_silent.Goals as goal

pub returns : goal.returns
returns c = (search rules) ∙ all_silent c.args.most c.args.lmtp_connections.now.entries
