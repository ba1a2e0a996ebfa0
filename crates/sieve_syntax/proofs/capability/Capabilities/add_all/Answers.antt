use Rattle.std.proofs.Common.{subst, ◌≡◌, take_all}
use Rattle.sieve_syntax.specs.Capabilities.{granted_by, granted_too}
use Rattle.sieve_syntax.proofs.CapabilityLemmas.{granted_more, granted_none}
use Rattle.sieve_syntax.proofs.capability.Capabilities.add_all.Goals as goal

pub loop-name-init : goal.loop-name-init
loop-name-init c = granted_none _

pub loop-name-preserved : goal.loop-name-preserved
loop-name-preserved c = granted_more _ _ _ c.args.names.now c.loop-name.name-index _ c.loop-name-test.true c.name-item.is c.loop-name.invariant c.in_ok-add.ensures

pub returns : goal.returns
returns c =
    subst (λ names. granted_by c.loop-name.self ≡ granted_too (granted_by c.args.self.now) names) (take_all c.loop-name.name-index c.args.names.now c.loop-name-test.false) c.loop-name.invariant
