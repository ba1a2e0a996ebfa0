-- What became of messages of the store that is had.
use Rattle.std.proofs.Common.{subst, sym}
use Rattle.maildir_moves.specs.Enduring.{MayLeave, leaves_of}
use Rattle.maildir_moves.specs.Moving.{TriedMoving}
use Rattle.sqlite.specs.Held.{state}
use Rattle.daemon_host.specs.Held.{RouteRelies, ShowsBy, LeavesBy}
use Rattle.daemon_host.proofs.HeldLemmas.{has_kept}
use Rattle.daemon_host.proofs.host_store.HostStoreMailStore.move_next.Goals as goal

pub returns-clause-moves : goal.returns-clause-moves
returns-clause-moves g c = λ clean w shown.
    let it = c.move_next.ensures.moves clean w (subst (λ o. ShowsBy g.K.S.Store g.K.Keeper.tells (g.K.Keeper.holds c.args.self.now.held.keeper) o w.accounts) c.in-Some-store.is shown) in (
      it.0,
      it.1,
      it.2.shown,
      subst (λ o. MayLeave (λ trees. LeavesBy g.K.S.Store o trees) w.accounts (leaves_of (state g.K.S.Store c.move_next.new.store)) it.0 (TriedMoving c.move_next.result w)) (sym c.in-Some-store.is) it.2.left,
    )

pub returns-clause-keeps : goal.returns-clause-keeps
returns-clause-keeps g c =
    has_kept g.T.MailSink.tells g.T.MailSink.kept g.T.MailSink.is_at g.T.MailSink.has_put g.T.MailSink.keeps_at c.args.self.now _ c.move_next.result
    c.move_next.ensures.carries.grows
    (λ relies. c.move_next.ensures.carries.relies (subst (λ o. RouteRelies g.T.MailSink.is_at g.T.MailSink.has_put g.T.MailSink.keeps_at o c.args.self.now.sink) c.in-Some.is relies))
    (λ relies. c.move_next.ensures.told (subst (λ o. RouteRelies g.T.MailSink.is_at g.T.MailSink.has_put g.T.MailSink.keeps_at o c.args.self.now.sink) c.in-Some.is relies))
