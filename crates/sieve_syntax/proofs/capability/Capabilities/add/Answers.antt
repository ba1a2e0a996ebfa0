use Rattle.std.proofs.Common.{◌≡◌, true}
use Rattle.std.specs.Prelude.{nat_eq}
use Rattle.std.specs.List.{list_any}
use Rattle.std.specs.Cmp.Lexicographic.{pointwise}
use Rattle.sieve_syntax.proofs.CapabilityLemmas.{granted_again}
use Rattle.sieve_syntax.proofs.capability.Capabilities.add.Goals as goal

pub returns-else-not-is_among : goal.returns-else-not-is_among
returns-else-not-is_among c =
    let among : true ≡ list_any (pointwise nat_eq c.args.name.now) c.self.inside.names = rw c.as_slice.ensures at c.if-not-is_among.ensures in
    granted_again c.args.name.now c.args.self.now (cc)
