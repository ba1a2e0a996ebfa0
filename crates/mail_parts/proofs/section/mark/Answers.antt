use Rattle.std.proofs.Common.{ap, ◌∙◌}
use Rattle.mail_parts.specs.Sections.{mark_if_behind}
use Rattle.mail_parts.proofs.SectionLemmas.{mark_outside, mark_dashed}
use Rattle.mail_parts.proofs.section.mark.Goals as goal

pub returns-in_default : goal.returns-in_default
returns-in_default c = mark_outside c.args.boundary.now c.args.line.now c.in_default.ensures

pub returns-in-Some-behind : goal.returns-in-Some-behind
returns-in-Some-behind c =
    c.mark_behind.ensures
    ∙ (ap mark_if_behind c.in-Some-behind.ensures
    ∙ mark_dashed c.args.boundary.now c.args.line.now c.in-Some.after.now c.in-Some.ensures)

pub returns-in-None : goal.returns-in-None
returns-in-None c =
    ap mark_if_behind c.in-None.ensures ∙ mark_dashed c.args.boundary.now c.args.line.now c.in-Some.after.now c.in-Some.ensures
