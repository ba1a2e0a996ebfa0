use Rattle.std.proofs.Common.{◌≡◌, Err, rules}
use Rattle.store_versions.specs.OldSchema.{oldest_schema, oldest_4, oldest_5, oldest_6}
use Rattle.store_tables.proofs.CreateLemmas.{inside_then, inside_failed}
use Rattle.store_versions.proofs.moving.drop_later.Goals as goal
use Rattle.store_versions.specs.Inside.{LosesTable}

pub returns-in_err-drop_notice : goal.returns-in_err-drop_notice
returns-in_err-drop_notice g c =
    let e = c.in_err-drop_notice.field-0.0 in
    let is : c.from_residual.result ≡ Err e = search rules in
    inside_failed g.S.Store (LosesTable oldest_schema oldest_6) (LosesTable oldest_schema oldest_4) c.args.tx.now c.drop_notice.new.tx c.drop_notice.result e c.from_residual.result is c.drop_notice.ensures

pub returns-in_err-drop_reply : goal.returns-in_err-drop_reply
returns-in_err-drop_reply g c =
    let e = c.in_err-drop_reply.field-0.0 in
    let is : c.from_residual-in_err-drop_reply.result ≡ Err e = search rules in
    let both = inside_then g.S.Store (LosesTable oldest_schema oldest_6) (LosesTable oldest_6 oldest_5) (LosesTable oldest_schema oldest_5) (λ _ _ _ first second tables h. second tables (first tables h)) c.args.tx.now c.drop_notice.new.tx c.drop_reply.new.tx
    c.drop_notice.result _ c.drop_reply.result c.in_ok-drop_notice.was c.drop_notice.ensures c.drop_reply.ensures in
    inside_failed g.S.Store (LosesTable oldest_schema oldest_5) (LosesTable oldest_schema oldest_4) c.args.tx.now c.drop_reply.new.tx c.drop_reply.result e c.from_residual-in_err-drop_reply.result is both

pub returns : goal.returns
returns g c =
    let both = inside_then g.S.Store (LosesTable oldest_schema oldest_6) (LosesTable oldest_6 oldest_5) (LosesTable oldest_schema oldest_5) (λ _ _ _ first second tables h. second tables (first tables h)) c.args.tx.now c.drop_notice.new.tx c.drop_reply.new.tx
    c.drop_notice.result _ c.drop_reply.result c.in_ok-drop_notice.was c.drop_notice.ensures c.drop_reply.ensures in
    inside_then g.S.Store (LosesTable oldest_schema oldest_5) (LosesTable oldest_5 oldest_4) (LosesTable oldest_schema oldest_4) (λ _ _ _ first second tables h. second tables (first tables h)) c.args.tx.now c.drop_reply.new.tx c.drop_outgoing.new.tx
    c.drop_reply.result _ c.drop_outgoing.result c.in_ok-drop_reply.was both c.drop_outgoing.ensures
