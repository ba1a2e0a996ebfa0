use Rattle.std.proofs.Common.{◌+◌, length, sym, ap, ◌∙◌}
use Rattle.mail_head.proofs.SizeLemmas.{size_after-is}
use Rattle.mail_head.proofs.size_count.size_after.Goals as goal

pub returns-clause-size : goal.returns-clause-size
returns-clause-size c = ap (λ n. length c.args.piece.now + n) c.bare_feeds.ensures.value ∙ sym (size_after-is c.args.before c.args.piece.now)
