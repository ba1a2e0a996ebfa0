use Rattle.mail_head.proofs.size_count.SizeCount.of.Goals as goal

pub returns-clause-counts : goal.returns-clause-counts
returns-clause-counts c = record { size = c.size_after.ensures.size; last = c.last_after.ensures }
