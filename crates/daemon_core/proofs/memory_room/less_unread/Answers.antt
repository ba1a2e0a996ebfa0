use Rattle.std.proofs.Common.{◌∙◌, rules}
use Rattle.daemon_core.proofs.BoundLemmas.{all_unread}
use Rattle.daemon_core.proofs.memory_room.less_unread.Goals as goal

pub returns : goal.returns
returns c = (search rules) ∙ all_unread c.args.clients.now.sessions c.args.most c.args.states.now.entries
