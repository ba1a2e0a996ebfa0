use Rattle.maildir_moves.proofs.WaitLemmas.{one_each}
use Rattle.maildir_moves.proofs.laws.waits_for_one_each.Goals as goal

pub returns : goal.returns
returns c = one_each
