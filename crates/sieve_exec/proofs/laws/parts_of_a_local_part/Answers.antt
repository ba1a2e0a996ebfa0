use Rattle.sieve_exec.proofs.PartLemmas.{user_is, user_only, detail_is, detail_only}
use Rattle.sieve_exec.proofs.laws.parts_of_a_local_part.Goals as goal

pub returns : goal.returns
returns c = record { user = user_is; only = user_only; detail = λ local detail. (detail_only local detail, detail_is local detail) }
