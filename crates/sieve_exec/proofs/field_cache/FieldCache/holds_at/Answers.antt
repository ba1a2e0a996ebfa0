-- What was read is kept too.
use Rattle.sieve_exec.proofs.IndexLemmas.{known_more}
use Rattle.sieve_exec.proofs.field_cache.FieldCache.holds_at.Goals as goal

pub invariant_of-self-2 : goal.invariant_of-self-2
invariant_of-self-2 g c =
    known_more (g.V.FieldValues.keyed c.self.inside.mail.now) c.self.inside.known c.insert.new.self c.in_ok-key.key c.in_ok-values.values c.self.invariant c.in_ok-values.ensures
    c.in_ok-insert.ensures.updates
