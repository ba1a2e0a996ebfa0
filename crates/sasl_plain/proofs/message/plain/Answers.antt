use Rattle.std.proofs.Common.{◌≡◌, ℕ, List, subst}
use Rattle.std.specs.Prelude.{IfOk}
use Rattle.sasl_plain.specs.Parts.{login_in, login_shown}
use Rattle.sasl_plain.proofs.Logins.{strict, if_found}
use Rattle.sasl_plain.proofs.message.plain.Goals as goal

pub returns-in-Ok-clause-found : goal.returns-in-Ok-clause-found
returns-in-Ok-clause-found c =
    if_found c.args.text.now c.in-Ok.message.items c.read_login.result (c.in-Ok.ensures.strict strict) c.in-Ok.ensures.ok c.in-Ok.ensures.bytes
    (subst (λ (message : List ℕ). IfOk c.read_login.result (λ found. login_shown found ≡ login_in message)) c.as_slice.ensures.value c.read_login.ensures)
