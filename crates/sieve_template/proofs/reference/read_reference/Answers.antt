use Rattle.std.proofs.Common.{arith}
use Rattle.sieve_template.proofs.TemplateLemmas.{none_short, none_first, none_second, braces_result}
use Rattle.sieve_template.proofs.reference.read_reference.Goals as goal

pub returns-then-text-place-lt3 : goal.returns-then-text-place-lt3
returns-then-text-place-lt3 c = none_short c.args.text.now c.args.place c.requires (omega (arith, c.if-text-place-lt3.true))

pub returns-then-text-place-ne36 : goal.returns-then-text-place-ne36
returns-then-text-place-ne36 c = none_first c.args.text.now c.args.place c.requires c.if-text-place-ne36.true

pub returns-then-text-place-ne123 : goal.returns-then-text-place-ne123
returns-then-text-place-ne123 c = none_second c.args.text.now c.args.place c.requires (omega (arith, c.if-text-place-lt3.false)) c.if-text-place-ne123.true

pub returns : goal.returns
returns c =
    braces_result c.args.text.now c.args.place c.requires (omega (arith, c.if-text-place-lt3.false)) c.if-text-place-ne36.false c.if-text-place-ne123.false
    c.read_inside.result c.read_inside.ensures
