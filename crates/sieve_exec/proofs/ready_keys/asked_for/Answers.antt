use Rattle.std.proofs.Common.{sym, ◌∙◌}
use Rattle.sieve_exec.specs.Matches.{matches_key}
use Rattle.sieve_exec.proofs.AlikeLemmas.{keys_alike, looked_up}
use Rattle.sieve_exec.proofs.ready_keys.asked_for.Goals as goal

pub returns-then-is_looked_up : goal.returns-then-is_looked_up
returns-then-is_looked_up c = looked_up c.args.collation c.args.matching c.args.keys.now c.in_ok-images_of.field-0 (sym c.is_looked_up.ensures ∙ c.if-is_looked_up.true) c.in_ok-images_of.ensures

pub returns : goal.returns
returns c = λ value. c.in_ok-distinct.ensures.answer (λ key. matches_key c.args.collation c.args.matching key value) (keys_alike c.args.collation c.args.matching value)
