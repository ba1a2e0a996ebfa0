use Rattle.std.proofs.Common.{ap, ◌∙◌, inl, inr, sym}
use Rattle.managesieve_sessions.specs.Clients.{reach_in}
use Rattle.managesieve_sessions.specs.Counts.{SessionView}
use Rattle.managesieve_sessions.proofs.ScanLemmas.{scan_reach}
use Rattle.managesieve_sessions.proofs.ReachLemmas.{ready_by}
use Rattle.managesieve_sessions.proofs.session.Session.ready.Goals as goal
use Rattle.managesieve_sessions.proofs.session.Session.ready.Goals.{in-Need, in_default}

pub returns-after-matches : goal.returns-after-matches
returns-after-matches c =
    let s = c.self.inside in
    ready_by c.args.self.now.client c.state.result c.match-matches.matches
    (ap (λ (v : SessionView). v.client.closed) (sym c.self.view_is) ∙ c.if-not-self.true)
    (c.state.ensures.reached ∙ scan_reach s.pending s.scan s.unread s.scanned s.given c.self.invariant ∙ ap (λ (v : SessionView). reach_in v.client) c.self.view_is)
    (elim c.match-matches.branch [ in-Need w ↦ inl (w.in-Need.is, w.matches-is) | in_default w ↦ inr (w.in_default.not-Need, w.matches-is) ])
