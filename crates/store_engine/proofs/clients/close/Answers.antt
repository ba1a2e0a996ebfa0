use Rattle.std.proofs.Common.{rules}
use Rattle.store_engine.proofs.HostLemmas.{ignored_close, closed_now}
use Rattle.store_engine.proofs.clients.close.Goals as goal

pub returns-in_default : goal.returns-in_default
returns-in_default c = ignored_close c.args.sessions.now c.remove.new.self c.args.number (search rules) (search rules)

pub returns : goal.returns
returns c = closed_now c.args.sessions.now c.remove.new.self c.args.number c.in-Some.field-0 c.new.result (search rules) (search rules) (search rules)
