use Rattle.std.proofs.Common.{Ok, Err, IfOk}
use Rattle.std.specs.Option.{option_copied}
use Rattle.dovecot_userdb.specs.Answers.{SaysFound, LineSays}
use Rattle.dovecot_userdb.proofs.AnswerLemmas.{says_found, says_none, says_fail}
use Rattle.dovecot_userdb.proofs.line.read_line.Goals as goal

pub returns-in-User : goal.returns-in-User
returns-in-User c =
    elim c.read_found.result as (λ r. IfOk r (λ said. SaysFound (option_copied c.cut_at.result.1) said) → IfOk r (λ said. LineSays c.args.line.now said))
    [ Ok said ↦ λ says. says_found _ _ _ said c.cut_at.ensures c.in-User.ensures says | Err e ↦ λ says. tt ] c.read_found.ensures

pub returns-in-NotFound : goal.returns-in-NotFound
returns-in-NotFound c = says_none _ _ _ c.read_plain.result c.cut_at.ensures c.in-NotFound.ensures c.read_plain.ensures

pub returns-in-Fail : goal.returns-in-Fail
returns-in-Fail c = says_fail _ _ _ c.read_plain-in-Fail.result c.cut_at.ensures c.in-Fail.ensures c.read_plain-in-Fail.ensures
