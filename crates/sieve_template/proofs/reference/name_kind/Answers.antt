use Rattle.std.proofs.Common.{◌<◌, sym, ◌∙◌, arith, length}
use Rattle.std.proofs.lemmas.Bool.{eqb-true, eqb-false}
use Rattle.sieve_template.proofs.PathLemmas.{named_some, identifier_if, number_if, neither_if}
use Rattle.sieve_template.proofs.reference.name_kind.Goals as goal

pub returns-then-is_empty : goal.returns-then-is_empty
returns-then-is_empty c = λ is. omega (arith, named_some c.args.name.now is, eqb-true (length c.args.name.now) 0 (sym c.is_empty.ensures ∙ c.if-is_empty.true))

pub returns-then-not-is_ascii_digit : goal.returns-then-not-is_ascii_digit
returns-then-not-is_ascii_digit c =
    let empty = eqb-false (length c.args.name.now) 0 (sym c.is_empty.ensures ∙ c.if-is_empty.false) in
    let some : 0 < length c.args.name.now = omega (arith, empty) in
    identifier_if c.args.name.now some (sym c.is_ascii_digit.ensures.value ∙ c.if-not-is_ascii_digit.true) c.requires

pub returns-then-not-are_digits : goal.returns-then-not-are_digits
returns-then-not-are_digits c =
    neither_if c.args.name.now (sym c.is_ascii_digit.ensures.value ∙ c.if-not-is_ascii_digit.false) (sym c.are_digits.ensures ∙ c.if-not-are_digits.true)

pub returns : goal.returns
returns c =
    let empty = eqb-false (length c.args.name.now) 0 (sym c.is_empty.ensures ∙ c.if-is_empty.false) in
    let some : 0 < length c.args.name.now = omega (arith, empty) in
    number_if c.args.name.now some (sym c.are_digits.ensures ∙ c.if-not-are_digits.false)
