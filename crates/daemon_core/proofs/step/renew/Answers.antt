use Rattle.std.proofs.Common.{Some, refl, subst}
use Rattle.std.specs.Ordering.{nat_cmp}
use Rattle.std.specs.BTreeMap as tree
use Rattle.daemon_core.specs.ClientStates.{state_renewed}
use Rattle.daemon_core.proofs.step.renew.Goals as goal

pub returns-clause-renews : goal.returns-clause-renews
returns-clause-renews c = record {
  clients = refl;
  holding = refl;
  state = λ before was.
      (subst (λ b. tree.Updates nat_cmp c.args.daemon.now.states c.replace_waits.new.states c.args.id (Some (state_renewed c.args.now before c.args.waits c.args.answered b)))
      c.is_user-user.ensures (c.replace_waits.ensures.changed before was)).0;
}
