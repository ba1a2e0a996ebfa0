-- What SQLite answered, as it answered it.
use Rattle.store_lock.specs.Closing.{was_answered}
use Rattle.store_lock.proofs.file.close.Goals as goal

pub returns : goal.returns
returns c = was_answered c.args.conn c.close.result
