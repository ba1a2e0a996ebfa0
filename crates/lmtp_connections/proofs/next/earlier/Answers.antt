use Rattle.std.proofs.Common.{◌∙◌, ap}
use Rattle.lmtp_connections.specs.Connections.{became_of}
use Rattle.lmtp_connections.proofs.next.earlier.Goals as goal

pub returns-in-Some : goal.returns-in-Some
returns-in-Some c = c.as_ref.ensures.value ∙ ap became_of c.in-Some.ensures

pub returns-in-None : goal.returns-in-None
returns-in-None c = ap became_of c.in-None.ensures
