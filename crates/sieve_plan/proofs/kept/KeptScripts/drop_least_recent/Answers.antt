use Rattle.std.proofs.Common.{◌≡◌, ◌<◌, length, arith, ap, rules}
use Rattle.sieve_plan.specs.Kept.{symbols_in}
use Rattle.sieve_plan.proofs.KeptLemmas.{kept-without, sum-without}
use Rattle.sieve_plan.proofs.kept.KeptScripts.drop_least_recent.Goals as goal

pub overflow_sub-self : goal.overflow_sub-self
overflow_sub-self c =
    let place : c.least_recent-place.result < length c.self.inside.scripts.items = rw (← c.as_slice.ensures.value) c.least_recent-place.ensures in
    omega (arith, sum-without length c.self.inside.scripts.items c.least_recent-place.result c.remove-gone.result place c.remove-gone.ensures.value, c.self.invariant.octets_are, c.len.ensures)

pub overflow_sub-self-2 : goal.overflow_sub-self-2
overflow_sub-self-2 c =
    let place : c.least_recent-place.result < length c.self.inside.scripts.items = rw (← c.as_slice.ensures.value) c.least_recent-place.ensures in
    let symbols : c.symbols_in.result ≡ symbols_in c.remove-gone.result.text = rw (← c.as_slice-2.ensures) c.symbols_in.ensures.count in
    omega (arith, sum-without symbols_in c.self.inside.scripts.items c.least_recent-place.result c.remove-gone.result place c.remove-gone.ensures.value, c.self.invariant.symbols_are, symbols)

pub invariant_of-self : goal.invariant_of-self
invariant_of-self c =
    let place : c.least_recent-place.result < length c.self.inside.scripts.items = rw (← c.as_slice.ensures.value) c.least_recent-place.ensures in
    let symbols : c.symbols_in.result ≡ symbols_in c.remove-gone.result.text = rw (← c.as_slice-2.ensures) c.symbols_in.ensures.count in
    rw (c.remove-gone.ensures.items, c.len.ensures, symbols)
    (kept-without c.self.inside.scripts.items c.least_recent-place.result c.remove-gone.result c.self.inside.octets c.self.inside.symbols place c.remove-gone.ensures.value c.self.invariant)
