use Rattle.std.proofs.Common.{◌≡◌, Bool, false, cond, sym, ap, ◌∙◌, subst}
use Rattle.managesieve_protocol.specs.declared.items.ItemExtent.{ItemExtent}
use Rattle.managesieve_protocol.specs.Items.{IsFirstExtent}
use Rattle.managesieve_sessions.specs.Clients.{reach_in, is_item, shut}
use Rattle.managesieve_sessions.specs.Counts.{SessionView, scanned_past}
use Rattle.managesieve_sessions.proofs.ScanLemmas.{scan_reach, unread_reaches}
use Rattle.managesieve_sessions.proofs.ReachLemmas.{scanned_same}
use Rattle.managesieve_sessions.proofs.AskedLemmas.{command_lacks}
use Rattle.managesieve_sessions.proofs.FreeLemmas.{command_first}
use Rattle.managesieve_sessions.proofs.StepLemmas.{on_err, need_over, bad_over, big_over, has_by, lacks_by}
use Rattle.managesieve_sessions.proofs.session.Session.step_over.Goals as goal

pub returns-in-Need-clause-step : goal.returns-in-Need-clause-step
returns-in-Need-clause-step c =
    let s = c.self.inside in
    let live : c.args.self.now.client.closed ≡ false = ap (λ (v : SessionView). v.client.closed) (sym c.self.view_is) ∙ c.if-self.false in
    let is = c.state.ensures.reached ∙ scan_reach s.pending s.scan s.unread s.scanned s.given c.self.invariant ∙ ap (λ (v : SessionView). reach_in v.client) c.self.view_is in
    need_over c.args.self.now.client c.state.result c.args.out.now live is c.in-Need.is

pub returns-in_ok-command-in-Command-clause-command : goal.returns-in_ok-command-in-Command-clause-command
returns-in_ok-command-in-Command-clause-command c =
    let s = c.self.inside in
    let live : c.args.self.now.client.closed ≡ false = ap (λ (v : SessionView). v.client.closed) (sym c.self.view_is) ∙ c.if-self.false in
    let is = c.state.ensures.reached ∙ scan_reach s.pending s.scan s.unread s.scanned s.given c.self.invariant ∙ ap (λ (v : SessionView). reach_in v.client) c.self.view_is in
    has_by c.args.self.now.client c.state.result _ live is c.in-Command.is

pub returns-in_ok-extend_from_slice-in-Bad-clause-step : goal.returns-in_ok-extend_from_slice-in-Bad-clause-step
returns-in_ok-extend_from_slice-in-Bad-clause-step c =
    let s = c.self.inside in
    let live : c.args.self.now.client.closed ≡ false = ap (λ (v : SessionView). v.client.closed) (sym c.self.view_is) ∙ c.if-self.false in
    let is = c.state.ensures.reached ∙ scan_reach s.pending s.scan s.unread s.scanned s.given c.self.invariant ∙ ap (λ (v : SessionView). reach_in v.client) c.self.view_is in
    bad_over c.args.self.now.client c.take_off.new.self.client c.state.result c.in-Bad.field-0 c.args.out.now c.extend_from_slice.new.self live is c.in-Bad.is c.take_off.ensures.client c.in_ok-extend_from_slice-in-Bad.ensures.ok

pub returns-in_ok-extend_from_slice-in-Bad-clause-command : goal.returns-in_ok-extend_from_slice-in-Bad-clause-command
returns-in_ok-extend_from_slice-in-Bad-clause-command c =
    let s = c.self.inside in
    let live : c.args.self.now.client.closed ≡ false = ap (λ (v : SessionView). v.client.closed) (sym c.self.view_is) ∙ c.if-self.false in
    let is = c.state.ensures.reached ∙ scan_reach s.pending s.scan s.unread s.scanned s.given c.self.invariant ∙ ap (λ (v : SessionView). reach_in v.client) c.self.view_is in
    has_by c.args.self.now.client c.state.result _ live is c.in-Bad.is

pub returns-in_ok-extend_from_slice-in-TooBig-clause-step : goal.returns-in_ok-extend_from_slice-in-TooBig-clause-step
returns-in_ok-extend_from_slice-in-TooBig-clause-step c =
    let s = c.self.inside in
    let live : c.args.self.now.client.closed ≡ false = ap (λ (v : SessionView). v.client.closed) (sym c.self.view_is) ∙ c.if-self.false in
    let is = c.state.ensures.reached ∙ scan_reach s.pending s.scan s.unread s.scanned s.given c.self.invariant ∙ ap (λ (v : SessionView). reach_in v.client) c.self.view_is in
    big_over c.args.self.now.client _ c.state.result c.args.out.now c.extend_from_slice-in-TooBig.new.self live is c.in-TooBig.is (ap (λ (v : SessionView). shut v.client) c.self.view_is) c.in_ok-extend_from_slice-in-TooBig.ensures.ok

pub returns-in_ok-extend_from_slice-in-TooBig-clause-command : goal.returns-in_ok-extend_from_slice-in-TooBig-clause-command
returns-in_ok-extend_from_slice-in-TooBig-clause-command c =
    let s = c.self.inside in
    let live : c.args.self.now.client.closed ≡ false = ap (λ (v : SessionView). v.client.closed) (sym c.self.view_is) ∙ c.if-self.false in
    let is = c.state.ensures.reached ∙ scan_reach s.pending s.scan s.unread s.scanned s.given c.self.invariant ∙ ap (λ (v : SessionView). reach_in v.client) c.self.view_is in
    has_by c.args.self.now.client c.state.result _ live is c.in-TooBig.is

pub returns-in_err-extend_from_slice-in-Bad-clause-lacks : goal.returns-in_err-extend_from_slice-in-Bad-clause-lacks
returns-in_err-extend_from_slice-in-Bad-clause-lacks c =
    let s = c.self.inside in
    let live : c.args.self.now.client.closed ≡ false = ap (λ (v : SessionView). v.client.closed) (sym c.self.view_is) ∙ c.if-self.false in
    let is = c.state.ensures.reached ∙ scan_reach s.pending s.scan s.unread s.scanned s.given c.self.invariant ∙ ap (λ (v : SessionView). reach_in v.client) c.self.view_is in
    on_err c.from_residual-in_err-extend_from_slice-in-Bad.result (sym (lacks_by c.args.self.now.client c.state.result _ live is c.in-Bad.is))

pub returns-in_err-extend_from_slice-in-TooBig-clause-lacks : goal.returns-in_err-extend_from_slice-in-TooBig-clause-lacks
returns-in_err-extend_from_slice-in-TooBig-clause-lacks c =
    let s = c.self.inside in
    let live : c.args.self.now.client.closed ≡ false = ap (λ (v : SessionView). v.client.closed) (sym c.self.view_is) ∙ c.if-self.false in
    let is = c.state.ensures.reached ∙ scan_reach s.pending s.scan s.unread s.scanned s.given c.self.invariant ∙ ap (λ (v : SessionView). reach_in v.client) c.self.view_is in
    on_err c.from_residual-in_err-extend_from_slice-in-TooBig.result (sym (lacks_by c.args.self.now.client c.state.result _ live is c.in-TooBig.is))

pub returns-in_ok-extend_from_slice-in-TooBig-clause-scans : goal.returns-in_ok-extend_from_slice-in-TooBig-clause-scans
returns-in_ok-extend_from_slice-in-TooBig-clause-scans c =
    let s = c.self.inside in
    let live : c.args.self.now.client.closed ≡ false = ap (λ (v : SessionView). v.client.closed) (sym c.self.view_is) ∙ c.if-self.false in
    let is = c.state.ensures.reached ∙ scan_reach s.pending s.scan s.unread s.scanned s.given c.self.invariant ∙ ap (λ (v : SessionView). reach_in v.client) c.self.view_is in
    ap (λ (v : SessionView). v.scanned) c.self.view_is
    ∙ scanned_same c.args.self.now c.state.result is (ap is_item c.in-TooBig.is)
    ∙ sym (ap (λ (b : Bool). cond b c.args.self.now.scanned (scanned_past c.args.self.now)) live)

pub command_at-requires : goal.command_at-requires
command_at-requires c =
    let s = c.self.inside in
    subst (λ (r : ItemExtent). IsFirstExtent s.pending r c.as_slice.result.now) c.in-Command.is
    (unread_reaches s.pending c.state.result s.unread c.as_slice.result.now
    (c.state.ensures.reached ∙ scan_reach s.pending s.scan s.unread s.scanned s.given c.self.invariant) c.as_slice.ensures)

pub returns-in_err-command-in-Command-clause-lacks : goal.returns-in_err-command-in-Command-clause-lacks
returns-in_err-command-in-Command-clause-lacks c =
    let s = c.self.inside in
    let live : c.args.self.now.client.closed ≡ false = ap (λ (v : SessionView). v.client.closed) (sym c.self.view_is) ∙ c.if-self.false in
    let is = c.state.ensures.reached ∙ scan_reach s.pending s.scan s.unread s.scanned s.given c.self.invariant ∙ ap (λ (v : SessionView). reach_in v.client) c.self.view_is in
    let first = command_first c.args.self.now.client (sym (has_by c.args.self.now.client c.state.result _ live is c.in-Command.is)) in
    on_err c.from_residual.result (command_lacks c.args.self.now.client first.0 first.1)
