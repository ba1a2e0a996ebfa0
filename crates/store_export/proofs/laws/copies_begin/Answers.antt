use Rattle.store_export.proofs.WholeLemmas.{copy_front}
use Rattle.store_export.proofs.laws.copies_begin.Goals as goal

pub returns : goal.returns
returns c contents parts db accounts a has = copy_front contents parts db accounts a has.shown has.there has.read
