use Rattle.std.proofs.Common.{◌≡◌, subst}
use Rattle.sieve_exec.specs.Ready.{matches_of}
use Rattle.sieve_exec.proofs.KeyLemmas.{ready_contains}
use Rattle.sieve_exec.proofs.ready_key.ReadyKey.matches.Goals as goal

pub returns-in-Some : goal.returns-in-Some
returns-in-Some c =
    let inside = c.self.inside in
    subst (λ k. c.contains_places.result ≡ matches_of k c.args.value.now) c.self.view_is
    (ready_contains inside.collation inside.matching inside.key.now c.args.value.now c.in-Some.places c.contains_places.result
    (rw c.in-Some.is at c.self.invariant) c.contains_places.ensures)
