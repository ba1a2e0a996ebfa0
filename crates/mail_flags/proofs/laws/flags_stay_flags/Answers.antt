use Rattle.mail_flags.proofs.FlagLemmas.{no_flags, added_flags, removed_flags}
use Rattle.mail_flags.proofs.laws.flags_stay_flags.Goals as goal

pub returns-clause-none : goal.returns-clause-none
returns-clause-none c = no_flags

pub returns-clause-added : goal.returns-clause-added
returns-clause-added c = added_flags

pub returns-clause-removed : goal.returns-clause-removed
returns-clause-removed c = removed_flags
