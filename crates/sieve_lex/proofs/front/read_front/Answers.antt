use Rattle.std.proofs.Common.{sym, ◌∙◌, refl}
use Rattle.sieve_lex.proofs.Marks.{mark_found, other_none}
use Rattle.sieve_lex.proofs.front.read_front.Goals as goal

pub returns-in-Mark-clause-found : goal.returns-in-Mark-clause-found
returns-in-Mark-clause-found c = mark_found _ _ _ _ c.in-Some.ensures.cases.0 (sym c.class_of.ensures ∙ c.in-Mark.is)

pub returns-in_default-class_of : goal.returns-in_default-class_of
returns-in_default-class_of c = record {
  found = other_none _ _ _ c.in-Some.ensures.cases.0 (sym c.is_name_start.ensures ∙ c.if-is_name_start.false) (sym c.is_ascii_digit.ensures.value ∙ c.if-is_ascii_digit.false)
      c.if-first-eq58.false c.if-first-eq34.false (λ k e. c.in_default-class_of.not-Mark k (c.class_of.ensures ∙ e));
  lines = refl;
}
