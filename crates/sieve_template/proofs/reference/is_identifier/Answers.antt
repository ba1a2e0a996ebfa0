use Rattle.std.proofs.Common.{◌≡◌, ◌≢◌, length, true, false, sym, ◌∙◌, arith}
use Rattle.std.proofs.lemmas.Bool.{eqb-true, eqb-false}
use Rattle.sieve_template.proofs.PathLemmas.{identifier_if, identifier_parts}
use Rattle.sieve_template.proofs.reference.is_identifier.Goals as goal

pub returns-then-is_empty : goal.returns-then-is_empty
returns-then-is_empty c = (
  λ is. absurd (cc is),
  λ is. absurd (omega (arith, (identifier_parts _ is).0, eqb-true _ 0 (sym c.is_empty.ensures ∙ c.if-is_empty.true))),
)

pub returns-then-is_ascii_digit : goal.returns-then-is_ascii_digit
returns-then-is_ascii_digit c = (
  λ is. absurd (cc is),
  λ is. let bad : false ≡ true = sym (identifier_parts _ is).1.0 ∙ (sym c.is_ascii_digit.ensures.value ∙ c.if-is_ascii_digit.true) in absurd (cc bad),
)

pub returns : goal.returns
returns c =
    let some : length c.args.name.now ≢ 0 = eqb-false _ 0 (sym c.is_empty.ensures ∙ c.if-is_empty.false) in (
      λ is. identifier_if _ (omega (arith, some)) (sym c.is_ascii_digit.ensures.value ∙ c.if-is_ascii_digit.false) (sym c.are_variable_octets.ensures ∙ is),
      λ is. c.are_variable_octets.ensures ∙ (identifier_parts _ is).1.1,
    )
