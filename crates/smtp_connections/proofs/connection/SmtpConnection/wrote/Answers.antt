use Rattle.std.proofs.Common.{length, ap, sym, subst, arith}
use Rattle.smtp_connections.specs.Connections.{WritesSome}
use Rattle.smtp_connections.specs.declared.exchange.SmtpPhase.TheVariants.{Awaiting}
use Rattle.smtp_connections.proofs.WriteLemmas.{writes_more, writes_all}
use Rattle.smtp_connections.proofs.connection.SmtpConnection.wrote.Goals as goal

pub returns-then-count-left : goal.returns-then-count-left
returns-then-count-left c =
    let size = ap length c.line.ensures in
    writes_more c.in-Writing.exchange c.in-Writing.before c.args.count c.args.self.now c.in-Writing.is (omega (arith, size, c.saturating_sub-left.ensures))

pub returns : goal.returns
returns c =
    let size = ap length c.line.ensures in
    let it =
    writes_all c.in-Writing.exchange c.in-Writing.before c.args.count c.args.self.now c.in-Writing.is (omega (arith, size, c.saturating_sub-left.ensures)) in
    subst (λ h. WritesSome c.args.count c.args.self.now (record c.args.self.now { phase = Awaiting c.in-Writing.exchange; heard = h })) (sym c.new.ensures) it
