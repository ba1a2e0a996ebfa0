use Rattle.store_export.proofs.WholeLemmas.{copy_whole}
use Rattle.store_export.proofs.laws.copies_are_whole.Goals as goal

pub returns : goal.returns
returns c contents parts db accounts a has = copy_whole contents parts db accounts a has.shown has.there has.read
