use Rattle.std.proofs.Common.{sym, ◌∙◌, subst, List, ℕ}
use Rattle.dovecot_userdb.specs.Escapes.{IsNoOctet}
use Rattle.dovecot_userdb.proofs.EscapeLemmas.{no_value}
use Rattle.dovecot_userdb.proofs.escape.read_escaped.Goals as goal

pub returns-in_default-read_octet : goal.returns-in_default-read_octet
returns-in_default-read_octet c =
    λ v is. no_value c.loop-first.value c.loop-first.left.now v
    (subst (λ (l : List ℕ). IsNoOctet l) (sym c.in-Some.ensures.cases.0) c.in_default-read_octet.ensures) (λ none. let never = sym c.in-Some.ensures.cases.0 ∙ none in cc) (sym c.loop-first.invariant ∙ is)
