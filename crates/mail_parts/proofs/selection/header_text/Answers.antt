use Rattle.std.proofs.Common.{length, sym, ap, ◌∙◌, arith}
use Rattle.std.proofs.lemmas.List.{length-drop}
use Rattle.mail_head.specs.Heads.{body_start}
use Rattle.mail_head.proofs.CutLemmas.{body_placed}
use Rattle.mail_parts.proofs.selection.header_text.Goals as goal

pub overflow_sub-message : goal.overflow_sub-message
overflow_sub-message c =
    let message = c.args.message.now in
    let size = ap length (sym (body_placed message)) ∙ length-drop (body_start message) message in
    omega (arith, size, ap length c.entity_body.ensures)
