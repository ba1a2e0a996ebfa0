use Rattle.mail_head.proofs.LineLemmas.{cut_at, cut_none}
use Rattle.mail_head.proofs.line.first_line.Goals as goal

pub returns-in-Some : goal.returns-in-Some
returns-in-Some c = rw (c.split_at.ensures.front, c.split_at.ensures.back) (cut_at c.args.text.now c.in-Some.at c.in-Some.ensures)

pub returns-in-None : goal.returns-in-None
returns-in-None c = rw (c.split_at-in-None.ensures.front, c.split_at-in-None.ensures.back) (cut_none c.args.text.now c.requires c.in-None.ensures)
