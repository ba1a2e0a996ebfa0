use Rattle.std.proofs.Common.{◌≡◌, Bool, false, cond, sym, ap, ◌∙◌}
use Rattle.managesieve_protocol.specs.declared.items.ItemExtent.{ItemExtent}
use Rattle.managesieve_sessions.specs.Clients.{reach_in, is_item, without_first, shut}
use Rattle.managesieve_sessions.specs.Counts.{SessionView, scanned_past}
use Rattle.managesieve_sessions.specs.GivenUp.{text_by, client_by}
use Rattle.managesieve_sessions.proofs.ScanLemmas.{scan_reach}
use Rattle.managesieve_sessions.proofs.ReachLemmas.{scanned_same, given_up_text, given_up_client, item_text, item_client}
use Rattle.managesieve_sessions.proofs.session.Session.give_up.Goals as goal

pub returns-in-TooBig-clause-text : goal.returns-in-TooBig-clause-text
returns-in-TooBig-clause-text c =
    let s = c.self.inside in
    let live : c.args.self.now.client.closed ≡ false = ap (λ (v : SessionView). v.client.closed) (sym c.self.view_is) ∙ c.if-self.false in
    let is = c.state.ensures.reached ∙ scan_reach s.pending s.scan s.unread s.scanned s.given c.self.invariant ∙ ap (λ (v : SessionView). reach_in v.client) c.self.view_is in
    ap text_by (sym c.in-TooBig.is) ∙ given_up_text c.args.self.now.client c.state.result live is

pub returns-in-TooBig-clause-client : goal.returns-in-TooBig-clause-client
returns-in-TooBig-clause-client c =
    let s = c.self.inside in
    let live : c.args.self.now.client.closed ≡ false = ap (λ (v : SessionView). v.client.closed) (sym c.self.view_is) ∙ c.if-self.false in
    let is = c.state.ensures.reached ∙ scan_reach s.pending s.scan s.unread s.scanned s.given c.self.invariant ∙ ap (λ (v : SessionView). reach_in v.client) c.self.view_is in
    ap (λ (v : SessionView). shut v.client) c.self.view_is
    ∙ ap (λ (r : ItemExtent). client_by r c.args.self.now.client) (sym c.in-TooBig.is)
    ∙ given_up_client c.args.self.now.client c.state.result live is

pub returns-in_default-clause-text : goal.returns-in_default-clause-text
returns-in_default-clause-text c =
    let s = c.self.inside in
    let live : c.args.self.now.client.closed ≡ false = ap (λ (v : SessionView). v.client.closed) (sym c.self.view_is) ∙ c.if-self.false in
    let is = c.state.ensures.reached ∙ scan_reach s.pending s.scan s.unread s.scanned s.given c.self.invariant ∙ ap (λ (v : SessionView). reach_in v.client) c.self.view_is in
    item_text c.state.result c.in_default.not-Need c.in_default.not-TooBig ∙ given_up_text c.args.self.now.client c.state.result live is

pub returns-in_default-clause-client : goal.returns-in_default-clause-client
returns-in_default-clause-client c =
    let s = c.self.inside in
    let live : c.args.self.now.client.closed ≡ false = ap (λ (v : SessionView). v.client.closed) (sym c.self.view_is) ∙ c.if-self.false in
    let is = c.state.ensures.reached ∙ scan_reach s.pending s.scan s.unread s.scanned s.given c.self.invariant ∙ ap (λ (v : SessionView). reach_in v.client) c.self.view_is in
    c.take_off.ensures.client
    ∙ ap (λ (r : ItemExtent). without_first false r c.args.self.now.client) (sym is)
    ∙ item_client c.state.result c.args.self.now.client c.in_default.not-Need c.in_default.not-TooBig
    ∙ given_up_client c.args.self.now.client c.state.result live is

pub returns-in-TooBig-clause-scans : goal.returns-in-TooBig-clause-scans
returns-in-TooBig-clause-scans c =
    let s = c.self.inside in
    let live : c.args.self.now.client.closed ≡ false = ap (λ (v : SessionView). v.client.closed) (sym c.self.view_is) ∙ c.if-self.false in
    let is = c.state.ensures.reached ∙ scan_reach s.pending s.scan s.unread s.scanned s.given c.self.invariant ∙ ap (λ (v : SessionView). reach_in v.client) c.self.view_is in
    ap (λ (v : SessionView). v.scanned) c.self.view_is
    ∙ scanned_same c.args.self.now c.state.result is (ap is_item c.in-TooBig.is)
    ∙ sym (ap (λ (b : Bool). cond b c.args.self.now.scanned (scanned_past c.args.self.now)) live)
