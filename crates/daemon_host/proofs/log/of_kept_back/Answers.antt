use Rattle.daemon_host.proofs.LogLemmas.{some_why}
use Rattle.daemon_host.proofs.log.of_kept_back.Goals as goal

pub returns : goal.returns
returns c = some_why c.of_stay.result c.args.stay.now c.why_of_stay-why.result.now c.why_of_stay-why.ensures c.of_stay.ensures
