use Rattle.std.proofs.Common.{subst}
use Rattle.sqlite.specs.Held.{state}
use Rattle.maildir_moves.specs.Steps.{WereFolderFront}
use Rattle.maildir_moves.proofs.StepLemmas.{batch_begins}
use Rattle.maildir_moves.proofs.route.read_batch.Goals as goal

pub returns-in-Ok-clause-begins : goal.returns-in-Ok-clause-begins
returns-in-Ok-clause-begins g c =
    let old = state g.S.Store c.args.store.now in
    let new = state g.S.Store c.first_mails.new.store in
    let front = subst (λ u. WereFolderFront u c.args.filed.folder c.in-Ok.mails old new) c.as_slice-user.ensures (subst (λ f. WereFolderFront c.as_slice-user.result.now f c.in-Ok.mails old new) c.as_slice-folder.ensures c.in-Ok.ensures.front) in
    batch_begins c.args.route.now.load c.begin.new.self.load old new c.args.filed.user c.args.filed.folder c.in-Ok.mails c.begin.result c.begin.ensures.begins c.begin.ensures.still c.in-Ok.ensures.few c.in-Ok.ensures.small front c.requires.apart c.requires.room
