-- What `deliver` makes of the store that is had.
use Rattle.std.proofs.Common.{Ok, Err, subst, sym}
use Rattle.sqlite.specs.Held.{state}
use Rattle.store_engine.specs.declared.answer.Answer.TheVariants.{Delivered, Refused}
use Rattle.daemon_core.specs.StoreAccess.{delivery_of}
use Rattle.daemon_host.specs.Held.{host_view, ShowsBy, LeavesBy}
use Rattle.daemon_host.proofs.HeldLemmas.{done_alone, delivered_as, delivered_crash}
use Rattle.store_engine.specs.Terms.{terms_of}
use Rattle.daemon_host.proofs.host_store.HostStoreMailStore.deliver.Goals as goal

pub returns-in-Ok-deliver : goal.returns-in-Ok-deliver
returns-in-Ok-deliver g c = λ kept clean.
    done_alone g.K.S.Store (host_view g.K.S.Store g.K.Keeper.tells g.K.Keeper.holds) c.args.self.now _ (delivery_of c.args.request.now (terms_of c.args.terms)) (Delivered c.in-Ok-deliver.report) c.in-Some.store c.deliver.new.store kept kept
    (λ accounts shown. subst (λ o. ShowsBy g.K.S.Store g.K.Keeper.tells (g.K.Keeper.holds c.args.self.now.held.keeper) o accounts) c.in-Some.is shown)
    (λ accounts shown. shown)
    (λ trees left. subst (λ o. LeavesBy g.K.S.Store o trees) (sym c.in-Some.is) left)
    (λ trees left. left)
    clean
    (c.in-Ok-deliver.ensures.acts.shut clean)
    (delivered_crash c.args.request.now (terms_of c.args.terms) c.as_slice-user.result.now c.as_slice-message.result.now c.in-Ok.envelope (state g.K.S.Store c.in-Some.store) (state g.K.S.Store c.deliver.new.store) kept (Ok c.in-Ok-deliver.report)
    c.as_slice-user.ensures c.in-Ok.ensures c.as_slice-message.ensures c.in-Ok-deliver.ensures.acts)
    (delivered_as c.args.request.now (terms_of c.args.terms) c.as_slice-user.result.now c.as_slice-message.result.now c.in-Ok.envelope (state g.K.S.Store c.in-Some.store) (state g.K.S.Store c.deliver.new.store) kept (Ok c.in-Ok-deliver.report)
    c.as_slice-user.ensures c.in-Ok.ensures c.as_slice-message.ensures c.in-Ok-deliver.ensures.acts)

pub returns-in-Err : goal.returns-in-Err
returns-in-Err g c = λ kept clean.
    done_alone g.K.S.Store (host_view g.K.S.Store g.K.Keeper.tells g.K.Keeper.holds) c.args.self.now _ (delivery_of c.args.request.now (terms_of c.args.terms)) (Refused c.in-Err.refusal) c.in-Some.store c.deliver.new.store kept kept
    (λ accounts shown. subst (λ o. ShowsBy g.K.S.Store g.K.Keeper.tells (g.K.Keeper.holds c.args.self.now.held.keeper) o accounts) c.in-Some.is shown)
    (λ accounts shown. shown)
    (λ trees left. subst (λ o. LeavesBy g.K.S.Store o trees) (sym c.in-Some.is) left)
    (λ trees left. left)
    clean
    (c.in-Err.ensures.acts.shut clean)
    (delivered_crash c.args.request.now (terms_of c.args.terms) c.as_slice-user.result.now c.as_slice-message.result.now c.in-Ok.envelope (state g.K.S.Store c.in-Some.store) (state g.K.S.Store c.deliver.new.store) kept (Err c.in-Err.refusal)
    c.as_slice-user.ensures c.in-Ok.ensures c.as_slice-message.ensures c.in-Err.ensures.acts)
    (delivered_as c.args.request.now (terms_of c.args.terms) c.as_slice-user.result.now c.as_slice-message.result.now c.in-Ok.envelope (state g.K.S.Store c.in-Some.store) (state g.K.S.Store c.deliver.new.store) kept (Err c.in-Err.refusal)
    c.as_slice-user.ensures c.in-Ok.ensures c.as_slice-message.ensures c.in-Err.ensures.acts)
