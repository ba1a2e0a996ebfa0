use Rattle.std.proofs.Common.{◌≡◌, ◌<◌, ◌+◌, [], ◌∷◌, ◌++◌, length, take, take_all, Ok, OnOk, IfErr, sym, subst, arith, rules}
use Rattle.std.proofs.lemmas.Grind.{common_steps}
use Rattle.std.specs.List.{AllZip}
use Rattle.sqlite.specs.Held.{state}
use Rattle.store_accounts.specs.Refusals.{IsTransient}
use Rattle.store_accounts.proofs.DeliveriesLemmas.{zip_length, zip_more}
use Rattle.store_engine.specs.Deliveries.{DecidesEach, IsFor, IsOpened}
use Rattle.store_engine.specs.Terms.{terms_of}
use Rattle.store_engine.proofs.DeliveriesLemmas.{each_none, each_more, each_undecided, zip_at}
use Rattle.store_engine.proofs.deliveries.decide_all.Goals as goal

pub loop-i-init : goal.loop-i-init
loop-i-init g c = record {
  decided = each_none (terms_of c.args.terms) c.args.parcels.now (state g.S.Store c.args.store.now) c.new-decisions.result c.new-decisions.ensures.items;
  whose = subst (AllZip IsFor []) (sym c.new-decisions.ensures.items) tt;
}

pub bounds-opened-i : goal.bounds-opened-i
bounds-opened-i g c = omega (arith, c.loop-i-test.true, zip_length (IsOpened c.args.terms.when) c.args.parcels.now c.args.opened.now c.requires)

pub offset_bounds-opened-i : goal.offset_bounds-opened-i
offset_bounds-opened-i g c =
    let less : c.loop-i.i < length c.args.opened.now = bounds-opened-i g c in
    first_of (search rules, grind (arith, common_steps))

pub decide-requires : goal.decide-requires
decide-requires g c =
    zip_at (IsOpened c.args.terms.when) c.args.parcels.now c.args.opened.now c.loop-i.i c.index-parcels-i.result c.index-opened-i.result c.requires c.loop-i-test.true c.index-parcels-i.is c.index-opened-i.is

pub returns-in_err-decide-clause-decides : goal.returns-in_err-decide-clause-decides
returns-in_err-decide-clause-decides g c =
    let none : OnOk c.from_residual.result ⊥ = search rules in
    let transient : IfErr c.from_residual.result IsTransient = search rules in
    each_undecided (terms_of c.args.terms) c.args.parcels.now c.loop-i.i c.index-parcels-i.result c.loop-i-test.true c.index-parcels-i.is (state g.S.Store c.args.store.now) (state g.S.Store c.loop-i.store) (state g.S.Store c.decide.new.store)
    c.loop-i.decisions c.loop-i.invariant.decided c.decide.result c.decide.ensures.decides c.from_residual.result none transient

pub returns-in_err-push-clause-decides : goal.returns-in_err-push-clause-decides
returns-in_err-push-clause-decides g c =
    let none : OnOk c.from_residual-in_err-push.result ⊥ = search rules in
    let transient : IfErr c.from_residual-in_err-push.result IsTransient = search rules in
    each_undecided (terms_of c.args.terms) c.args.parcels.now c.loop-i.i c.index-parcels-i.result c.loop-i-test.true c.index-parcels-i.is (state g.S.Store c.args.store.now) (state g.S.Store c.loop-i.store) (state g.S.Store c.decide.new.store)
    c.loop-i.decisions c.loop-i.invariant.decided c.decide.result c.decide.ensures.decides c.from_residual-in_err-push.result none transient

pub loop-i-preserved : goal.loop-i-preserved
loop-i-preserved g c =
    let i = c.loop-i.i in
    let parcels = c.args.parcels.now in
    let p = c.index-parcels-i.result in
    let d = c.in_ok-decide.field-0 in
    let joined : c.push.new.self.items ≡ c.loop-i.decisions.items ++ d ∷ [] = search rules in
    record {
      decided = each_more (terms_of c.args.terms) parcels i p c.loop-i-test.true c.index-parcels-i.is (state g.S.Store c.args.store.now) (state g.S.Store c.loop-i.store) (state g.S.Store c.decide.new.store)
          c.loop-i.decisions c.loop-i.invariant.decided c.decide.result c.decide.ensures.decides d c.in_ok-decide.was c.push.new.self joined;
      whose = subst (AllZip IsFor (take (i + 1) parcels)) (sym joined) (zip_more IsFor parcels c.loop-i.decisions.items i p d c.loop-i-test.true c.index-parcels-i.is c.loop-i.invariant.whose c.in_ok-decide.ensures.whose);
    }

pub returns-clause-decides : goal.returns-clause-decides
returns-clause-decides g c =
    subst (λ l. DecidesEach (terms_of c.args.terms) l (state g.S.Store c.args.store.now) (state g.S.Store c.loop-i.store) (Ok c.loop-i.decisions)) (take_all c.loop-i.i c.args.parcels.now c.loop-i-test.false) c.loop-i.invariant.decided

pub returns-clause-whose : goal.returns-clause-whose
returns-clause-whose g c = subst (λ l. AllZip IsFor l c.loop-i.decisions.items) (take_all c.loop-i.i c.args.parcels.now c.loop-i-test.false) c.loop-i.invariant.whose
