use Rattle.mail_flags.proofs.FlagLemmas.{more_there, less_gone, less_others}
use Rattle.mail_flags.proofs.laws.one_more_one_less.Goals as goal

pub returns-clause-there : goal.returns-clause-there
returns-clause-there c = more_there

pub returns-clause-gone : goal.returns-clause-gone
returns-clause-gone c = less_gone

pub returns-clause-others : goal.returns-clause-others
returns-clause-others c = less_others
