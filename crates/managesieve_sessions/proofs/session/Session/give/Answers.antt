use Rattle.std.proofs.Common.{arith}
use Rattle.managesieve_sessions.proofs.ScanLemmas.{piece_scanned}
use Rattle.managesieve_sessions.proofs.session.Session.give.Goals as goal

pub invariant_of-self-2 : goal.invariant_of-self-2
invariant_of-self-2 c =
    piece_scanned c.self.inside.pending c.self.inside.scan c.feed.new.self c.self.inside.unread c.args.piece.now c.extend_from_slice.new.self c.self.inside.scanned c.self.inside.given
    c.saturating_add-self-inside.result c.feed.result c.self.invariant c.feed.ensures.until c.feed.ensures.within c.feed.ensures.taken c.feed.ensures.whole (λ some. c.feed.ensures.before 0 some)
    c.in_ok-extend_from_slice.ensures.ok (omega (arith, c.saturating_add-self-inside.ensures))
