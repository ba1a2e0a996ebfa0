use Rattle.std.proofs.Common.{◌+◌, ap}
use Rattle.mail_head.proofs.CountLemmas.{counts_more}
use Rattle.mail_head.proofs.size_count.SizeCount.with.Goals as goal

pub returns-clause-counts : goal.returns-clause-counts
returns-clause-counts c came counts =
    counts_more came c.args.piece.now c.args.self _ counts (ap (λ n. c.args.self.size + n) c.size_after.ensures.size) c.last_after.ensures
