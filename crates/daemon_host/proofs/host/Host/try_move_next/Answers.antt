-- What became of a message of the store that was reached, behind calls that changed no account, and left the sink as it was; where that store
-- is had still.
use Rattle.std.proofs.Common.{Some, refl, subst, sym}
use Rattle.daemon_core.proofs.StillLemmas.{still_then}
use Rattle.daemon_host.specs.Held.{HostMovesNext}
use Rattle.daemon_host.proofs.HeldLemmas.{kept_behind, kept_then, moved_behind, stays_then}
use Rattle.daemon_host.proofs.host.Host.try_move_next.Goals as goal

pub returns-clause-moves : goal.returns-clause-moves
returns-clause-moves g c = λ clean.
    let view = g.H.MailStore.view in
    let kept = c.is_kept.ensures.kept clean in
    let moves : HostMovesNext view g.H.MailStore.clean (Some c.in_ok-moving.moving) c.args.self.now.held c.move_next.new.self = λ clean.
    moved_behind view c.args.self.now.held c.reach.new.self.held c.move_next.new.self c.in_ok-moving.moving
    (still_then view c.args.self.now.held c.may_move.new.self.held c.reach.new.self.held c.may_move.ensures.shown c.reach.ensures.shown) (c.in_ok-moving.ensures.moves clean) in
    subst (λ held. HostMovesNext view g.H.MailStore.clean (Some c.in_ok-moving.moving) c.args.self.now.held held) (sym kept.1) moves clean

pub returns-clause-keeps : goal.returns-clause-keeps
returns-clause-keeps g c =
    let has = g.H.MailStore.has in
    let there = g.H.MailStore.there in
    let before = c.reach.new.self.held in
    let after = c.move_next.new.self in
    let reached = stays_then has there c.args.self.now.held c.may_move.new.self.held before c.may_move.ensures.mail c.reach.ensures.mail in
    kept_then has there c.args.self.now.held after c.is_kept.new.self.held c.in_ok-moving.moving
    c.is_kept.ensures.mail.kept (c.is_kept.ensures.mail.left c.in_ok-moving.moving)
    (kept_behind has there c.args.self.now.held before after after c.in_ok-moving.moving reached.kept refl c.in_ok-moving.ensures.keeps)
