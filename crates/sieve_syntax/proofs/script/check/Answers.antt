use Rattle.sieve_lex.specs.Contents.{contents}
use Rattle.sieve_syntax.specs.Tree.{Commands}
use Rattle.sieve_syntax.specs.Means.{Means}
use Rattle.sieve_syntax.specs.View.{script_tree}
use Rattle.sieve_syntax.proofs.MeansLemmas.{packed_means, means_packed, fault_any}
use Rattle.sieve_syntax.proofs.script.check.Goals as goal

pub returns-in-Ok-clause-found : goal.returns-in-Ok-clause-found
returns-in-Ok-clause-found c = packed_means c.args.text.now (contents c.in_ok-tokens.tokens) (script_tree c.in-Ok.script) c.in_ok-tokens.ensures.found c.in-Ok.ensures.found

pub returns-in-Ok-clause-only : goal.returns-in-Ok-clause-only
returns-in-Ok-clause-only c = λ tree means.
    c.in-Ok.ensures.only tree (means_packed c.args.text.now (contents c.in_ok-tokens.tokens) tree c.in_ok-tokens.ensures.only means) means.valid

pub returns-clause-fault : goal.returns-clause-fault
returns-clause-fault c =
    fault_any c.fault_after.result ((tree : Commands) → Means c.args.text.now tree → ⊥)
    (λ tree means. (let refused = rw c.in-Err-Fault-default.field-0-0-is at c.in-Err-Fault-default.ensures.fault in
    refused tree (means_packed c.args.text.now (contents c.in_ok-tokens.tokens) tree c.in_ok-tokens.ensures.only means) means.valid))
