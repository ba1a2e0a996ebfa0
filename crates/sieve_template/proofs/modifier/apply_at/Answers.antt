use Rattle.std.proofs.Common.{◌≡◌, ap, ◌∙◌}
use Rattle.sieve_template.specs.Modifiers.{Modifies, first_with, modified_if_any}
use Rattle.sieve_template.proofs.ModifierLemmas.{ok_then}
use Rattle.sieve_template.proofs.KeptLemmas.{modified_same}
use Rattle.sieve_template.proofs.modifier.apply_at.Goals as goal

pub returns-in-Some : goal.returns-in-Some
returns-in-Some c =
    ok_then c.apply.result (λ out. Modifies c.in-Some.modifier c.args.value out) (λ out. out ≡ modified_if_any (first_with c.args.modifiers.now c.args.precedence) c.args.value)
    (λ out made. modified_same c.in-Some.modifier c.args.value out made ∙ ap (λ o. modified_if_any o c.args.value) c.in-Some.ensures)
    c.apply.ensures
