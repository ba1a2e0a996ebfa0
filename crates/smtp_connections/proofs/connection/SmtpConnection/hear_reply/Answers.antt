use Rattle.std.proofs.Common.{◌≡◌, ◌++◌, take, ap, ◌∙◌, subst, arith}
use Rattle.smtp_connections.specs.Connections.{Judges, has_octets}
use Rattle.smtp_connections.proofs.JudgeLemmas.{hears_kept, keeps_bound}
use Rattle.smtp_connections.proofs.connection.SmtpConnection.hear_reply.Goals as goal

pub returns-clause-hears : goal.returns-clause-hears
returns-clause-hears c =
    let s = c.args.self.now in
    let piece = c.args.piece.now in
    let room = c.saturating_sub-room.result in
    let is_over = c.has_octets-is_over.result in
    let kept : c.extend_from_slice.new.self ≡ s.heard ++ take room piece = c.in_ok-extend_from_slice.ensures.ok ∙ ap (λ t. s.heard ++ t) c.front.ensures in
    hears_kept c.args.exchange s c.judge.new.self piece room is_over c.judge.result
    (record { fits = omega (arith, c.len.ensures, c.saturating_sub-room.ensures); over = c.has_octets-is_over.ensures ∙ ap has_octets c.behind.ensures })
    (subst (λ h. Judges c.args.exchange is_over (record s { heard = h }) c.judge.result c.judge.new.self) kept c.judge.ensures)

pub returns-clause-held : goal.returns-clause-held
returns-clause-held c = λ within.
    let s = c.args.self.now in
    let piece = c.args.piece.now in
    let room = c.saturating_sub-room.result in
    let is_over = c.has_octets-is_over.result in
    let kept : c.extend_from_slice.new.self ≡ s.heard ++ take room piece = c.in_ok-extend_from_slice.ensures.ok ∙ ap (λ t. s.heard ++ t) c.front.ensures in
    keeps_bound c.args.exchange s c.judge.new.self piece room is_over c.judge.result (omega (arith, within, c.len.ensures, c.saturating_sub-room.ensures))
    (subst (λ h. Judges c.args.exchange is_over (record s { heard = h }) c.judge.result c.judge.new.self) kept c.judge.ensures)
