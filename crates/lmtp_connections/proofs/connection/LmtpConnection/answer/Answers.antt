use Rattle.std.proofs.Common.{refl}
use Rattle.lmtp_connections.specs.declared.connection.LmtpConnection.{LmtpConnection as Code}
use Rattle.lmtp_connections.proofs.ConnectionLemmas.{answers}
use Rattle.lmtp_connections.proofs.connection.LmtpConnection.answer.Goals as goal

pub returns-clause-does : goal.returns-clause-does
returns-clause-does c =
    let m : Code = record c.args.self.now { receiver = c.answer.new.self } in
    answers c.args.now c.args.self.now m c.go_on.new.self c.args.out.now c.answer.new.out c.requires.out c.requires.line c.in_ok-answer.ensures.line c.answer.ensures.hello refl refl refl
    c.go_on.ensures.goes
