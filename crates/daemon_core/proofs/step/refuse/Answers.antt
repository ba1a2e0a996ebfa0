use Rattle.std.proofs.Common.{◌≡◌, ◌∙◌, ◌++◌, Some, refl, sym, ap, subst}
use Rattle.std.specs.Ordering.{nat_cmp}
use Rattle.std.specs.BTreeMap as tree
use Rattle.daemon_core.specs.ClientStates.{state_told}
use Rattle.daemon_core.specs.Waiting.{too_much}
use Rattle.daemon_core.proofs.EventLemmas.{went_well}
use Rattle.daemon_core.proofs.StepLemmas.{refused}
use Rattle.daemon_core.proofs.step.refuse.Goals as goal

pub returns-clause-ok : goal.returns-clause-ok
returns-clause-ok g c =
    let d = c.args.daemon.now in
    let said : c.extend_from_slice.new.self ≡ too_much =
    went_well c.extend_from_slice.result (sym c.is_err.ensures.value ∙ c.if-is_err.false) c.extend_from_slice.ensures.ok ∙ ap (λ x. x ++ too_much) c.requires.out in
    refused g.O.Outside.told g.O.StoreAccess.store.view c.args.outside.now c.tell_answered.new.self d (record d { states = c.note_told.new.states }) c.args.now c.args.id c.extend_from_slice.new.self
    c.requires.may c.tell_answered.ensures.told c.tell_answered.ensures.shown said
    (λ before was.
    (subst (λ b. tree.Updates nat_cmp d.states c.note_told.new.states c.args.id (Some (state_told c.args.now before b))) c.is_user-user.ensures (c.note_told.ensures before was)).0) refl refl
