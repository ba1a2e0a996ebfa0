use Rattle.std.proofs.Common.{◌≡◌, false, sym, ap, ◌∙◌}
use Rattle.managesieve_sessions.specs.Clients.{reach_in}
use Rattle.managesieve_sessions.specs.Counts.{SessionView}
use Rattle.managesieve_sessions.specs.GivenUp.{text_by}
use Rattle.managesieve_sessions.proofs.ScanLemmas.{scan_reach}
use Rattle.managesieve_sessions.proofs.ReachLemmas.{given_up_text, item_text}
use Rattle.managesieve_sessions.proofs.session.Session.text_given_up.Goals as goal

pub returns-in-TooBig : goal.returns-in-TooBig
returns-in-TooBig c =
    let s = c.self.inside in
    let live : c.args.self.now.client.closed ≡ false = ap (λ (v : SessionView). v.client.closed) (sym c.self.view_is) ∙ c.if-self.false in
    let is = c.state.ensures.reached ∙ scan_reach s.pending s.scan s.unread s.scanned s.given c.self.invariant ∙ ap (λ (v : SessionView). reach_in v.client) c.self.view_is in
    ap text_by (sym c.in-TooBig.is) ∙ given_up_text c.args.self.now.client c.state.result live is

pub returns-in_default : goal.returns-in_default
returns-in_default c =
    let s = c.self.inside in
    let live : c.args.self.now.client.closed ≡ false = ap (λ (v : SessionView). v.client.closed) (sym c.self.view_is) ∙ c.if-self.false in
    let is = c.state.ensures.reached ∙ scan_reach s.pending s.scan s.unread s.scanned s.given c.self.invariant ∙ ap (λ (v : SessionView). reach_in v.client) c.self.view_is in
    item_text c.state.result c.in_default.not-Need c.in_default.not-TooBig ∙ given_up_text c.args.self.now.client c.state.result live is
