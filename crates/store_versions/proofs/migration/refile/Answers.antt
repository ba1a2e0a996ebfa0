use Rattle.std.proofs.Common.{◌≡◌, [], Err, rules}
use Rattle.store_tables.specs.Connection.{TurnsRows}
use Rattle.store_tables.specs.Changes.{message_added, copy_added}
use Rattle.store_versions.specs.Migration.{refiled, old_copy_cells}
use Rattle.store_tables.proofs.CreateLemmas.{inside_then, inside_failed}
use Rattle.store_versions.proofs.migration.refile.Goals as goal

pub returns-in_err-add_message : goal.returns-in_err-add_message
returns-in_err-add_message g c =
    let e = c.in_err-add_message.field-0.0 in
    let is : c.from_residual.result ≡ Err e = search rules in
    inside_failed g.S.Store _ (TurnsRows (refiled (old_copy_cells c.args.copy.now))) c.args.tx.now c.add_message.new.tx c.add_message.result e c.from_residual.result is c.add_message.ensures

pub returns : goal.returns
returns g c =
    let copy = c.args.copy.now in
    inside_then g.S.Store (TurnsRows (message_added copy.owner.now copy.n copy.message.now)) (TurnsRows (copy_added copy.owner.now copy.folder.now copy.n copy.n [])) (TurnsRows (refiled (old_copy_cells copy)))
    (λ _ _ _ first second tables held. second (message_added copy.owner.now copy.n copy.message.now tables) (first tables held)) c.args.tx.now c.add_message.new.tx c.add_copy.new.tx c.add_message.result _ c.add_copy.result c.in_ok-add_message.was
    c.add_message.ensures c.add_copy.ensures
