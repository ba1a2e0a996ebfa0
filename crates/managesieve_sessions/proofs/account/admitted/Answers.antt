use Rattle.std.proofs.Common.{◌≡◌, ℕ, List, Option, IfOk, subst}
use Rattle.managesieve_sessions.proofs.LoginLemmas.{admitted_is}
use Rattle.managesieve_sessions.proofs.account.admitted.Goals as goal

pub returns-clause-reads : goal.returns-clause-reads
returns-clause-reads g c = record {
  found = λ clean accounts shown.
      subst (λ (whom : Option (List ℕ)). IfOk c.checked.result (λ who. whom ≡ who)) (admitted_is accounts c.args.text c.in-Some.text c.in_ok-login.field-0 _ c.in-Some.is c.in_ok-login.ensures.value c.in-Some-2.is)
      (c.checked.ensures.found clean accounts shown);
  live = c.checked.ensures.live;
  glances = c.checked.ensures.glances;
  named = c.checked.ensures.named;
}
