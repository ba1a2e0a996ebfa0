use Rattle.std.proofs.Common.{Some, None, inl, inr}
use Rattle.lmtp_dialogue.proofs.ParameterLemmas.{no_size}
use Rattle.lmtp_dialogue.proofs.argument.read_parameter.Goals as goal

pub returns-in-None-clause-none : goal.returns-in-None-clause-none
returns-in-None-clause-none c = no_size c.args.text.now c.in-Some.digits.now c.in-Some.ensures.found c.in-None.ensures.none

pub returns-clause-none : goal.returns-clause-none
returns-clause-none c None = λ other. elim other [
  | inl seven ↦ absurd (cc (c.if-eq_ignore_ascii_case.ensures.test.1 seven))
  | inr (inl eight) ↦ absurd (cc (c.if-eq_ignore_ascii_case-2.ensures.test.1 eight))
  | inr (inr wide) ↦ absurd (cc (c.if-eq_ignore_ascii_case-3.ensures.test.1 wide))
]
returns-clause-none c (Some size) = λ is. c.in_default.ensures.none is.0 is.1
