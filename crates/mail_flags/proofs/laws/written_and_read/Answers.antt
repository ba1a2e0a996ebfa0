use Rattle.mail_flags.proofs.FlagLemmas.{read_as_written}
use Rattle.mail_flags.proofs.laws.written_and_read.Goals as goal

pub returns : goal.returns
returns c = read_as_written
