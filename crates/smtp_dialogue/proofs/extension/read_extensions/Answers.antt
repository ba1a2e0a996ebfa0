use Rattle.std.proofs.Common.{ap, ◌∙◌, drop, subst}
use Rattle.smtp_dialogue.specs.Extensions.{OffersMore}
use Rattle.smtp_dialogue.proofs.ExtensionLemmas.{offers, offers_none}
use Rattle.smtp_dialogue.proofs.extension.read_extensions.Goals as goal

pub returns-in-Line : goal.returns-in-Line
returns-in-Line c =
    offers c.args.reply.now c.behind_end.result.now c.in-Line.count c.with_lines.result c.in-Line.ensures (c.behind_end.ensures ∙ ap (drop 2) c.split_at.ensures.back)
    (subst (λ it. OffersMore c.behind_end.result.now it c.with_lines.result) c.none.ensures c.with_lines.ensures)

pub returns-in_default : goal.returns-in_default
returns-in_default c = offers_none c.args.reply.now c.none-in_default.result c.find_line.result c.find_line.ensures c.in_default.not-Line
