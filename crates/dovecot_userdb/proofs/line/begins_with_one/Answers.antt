use Rattle.dovecot_userdb.proofs.AnswerLemmas.{tells_one}
use Rattle.std.specs.Option.{option_copied}
use Rattle.dovecot_userdb.proofs.line.begins_with_one.Goals as goal

pub returns-in-Some : goal.returns-in-Some
returns-in-Some c = tells_one _ c.in-Some.major (option_copied c.in-Some.field-0-1) c.in-Some.ensures
