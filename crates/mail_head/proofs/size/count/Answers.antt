use Rattle.std.proofs.Common.{◌+◌, length, sym, ap, ◌∙◌}
use Rattle.mail_head.proofs.SizeLemmas.{size_after-is}
use Rattle.mail_head.proofs.size.count.Goals as goal

pub returns : goal.returns
returns c = ap (λ n. length c.args.message.now + n) c.bare_feeds.ensures.value ∙ sym (size_after-is 0 c.args.message.now)
