use Rattle.std.proofs.Common.{sym, ap, ◌∙◌, not, rules}
use Rattle.mail_head.proofs.FrontLemmas.{longer_by}
use Rattle.mail_head.proofs.prefix.is_header_longer.Goals as goal

pub returns : goal.returns
returns c = ap not c.has_empty_line.ensures ∙ longer_by c.args.most c.args.message.now c.if-message-most.false
